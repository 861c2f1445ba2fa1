-- The index of rows by key: what it finds, and what it is where a row changes or comes.
use Rattle.std.proofs.Common.{◌≡◌, ◌∙◌, ℕ, zero, suc, ◌+◌, ◌<◌, ◌≤◌, Bool, true, false, List, [], ◌∷◌, ◌++◌, bytes_eq, cond, length, drop, get_or, set, Option, Some, None, option_map, slice_get, slice_set, slice_index_or, take, refl, sym, ap, subst, arith, if◌then◌else◌}
use Rattle.std.specs.Cmp.Lexicographic.{bytes_decides}
use Rattle.std.specs.List.{position_from}
use Rattle.std.specs.Option.{IfSome, option_and_then, option_flatten, option_map_or, option_or}
use Rattle.std.proofs.Math.Seq.{take-append_seam}
use Rattle.std.proofs.lemmas.Cmp.{nat_list_eq_equiv}
use Rattle.std.proofs.lemmas.Iterator.Adapters.{position_from-zero}
use Rattle.std.proofs.lemmas.List.{map-append}
use Rattle.sw_data.specs.declared.rows.RegistrationRow.{RegistrationRow}
use Rattle.sw_data.specs.declared.workers.Slot.TheVariants as place
use Rattle.sw_reg.specs.declared.by_key.ByKey.{ByKey}
use Rattle.sw_reg.specs.declared.by_key.Ends.{Ends}
use Rattle.sw_reg.specs.declared.edit.Edit.{Edit}
use Rattle.sw_reg.specs.declared.edit.Edit.TheVariants as edit_of
use Rattle.sw_reg.specs.ByKey.{IsIndex, ends_of, is_key, keys_of, last_from, links_from, with_link}
use Rattle.sw_reg.specs.Edits.{edited}
use Rattle.sw_reg.specs.Table.{first_of, is_of, next_of}

-- ---- the first and the last place that passes

abbrev at_if : Bool → ℕ → Option ℕ
at_if passes n = if passes then Some n else None

or_none : (o : Option ℕ) → option_or o None ≡ o
or_none None = refl
or_none (Some n) = refl

module _ {X : Type 0} (p : X → Bool) where
  first_more : (from n : ℕ) (xs : List X) (y : X) → n ≡ from + length xs → position_from p from (xs ++ y ∷ []) ≡ option_or (position_from p from xs) (at_if (p y) n)
  first_more from n [] y is = let same : n ≡ from = omega (arith, is) in ap (at_if (p y)) (sym same)
  first_more from n (x ∷ xs) y is = pick (p x) (first_more (from + 1) n xs y (omega (arith, is)))
    where
      pick : (passes : Bool) → position_from p (from + 1) (xs ++ y ∷ []) ≡ option_or (position_from p (from + 1) xs) (at_if (p y) n)
          → (if passes then Some from else position_from p (from + 1) (xs ++ y ∷ []))
          ≡ option_or (if passes then Some from else position_from p (from + 1) xs) (at_if (p y) n)
      pick true rest = refl
      pick false rest = rest

  last_more : (from n : ℕ) (xs : List X) (y : X) → n ≡ from + length xs → last_from p from (xs ++ y ∷ []) ≡ (if p y then Some n else last_from p from xs)
  last_more from n [] y is = let same : n ≡ from = omega (arith, is) in ap (at_if (p y)) (sym same)
  last_more from n (x ∷ xs) y is = pick (p y) (last_more (from + 1) n xs y (omega (arith, is)))
    where
      pick : (passes : Bool) → last_from p (from + 1) (xs ++ y ∷ []) ≡ (if passes then Some n else last_from p (from + 1) xs)
          → option_or (last_from p (from + 1) (xs ++ y ∷ [])) (at_if (p x) from)
          ≡ (if passes then Some n else option_or (last_from p (from + 1) xs) (at_if (p x) from))
      pick true rest = ap (λ o. option_or o (at_if (p x) from)) rest
      pick false rest = ap (λ o. option_or o (at_if (p x) from)) rest

  -- none passes
  none_first : (from : ℕ) (xs : List X) → last_from p from xs ≡ None → position_from p from xs ≡ None
  none_first from [] none = refl
  none_first from (x ∷ xs) none = pick (p x) (last_from p (from + 1) xs) none (none_first (from + 1) xs)
    where
      pick : (passes : Bool) (last : Option ℕ) → option_or last (at_if passes from) ≡ None → (last ≡ None → position_from p (from + 1) xs ≡ None)
          → (if passes then Some from else position_from p (from + 1) xs) ≡ None
      pick true None is rest = absurd cc
      pick false None is rest = rest refl
      pick passes (Some i) is rest = absurd cc

  -- one passes, so another one at the end isn't the first
  some_first : (from : ℕ) (xs : List X) (i : ℕ) (more : Option ℕ) → last_from p from xs ≡ Some i → option_or (position_from p from xs) more ≡ position_from p from xs
  some_first from [] i more is = absurd cc
  some_first from (x ∷ xs) i more is = pick (p x) (last_from p (from + 1) xs) is (some_first (from + 1) xs i more)
    where
      pick : (passes : Bool) (last : Option ℕ) → option_or last (at_if passes from) ≡ Some i
          → (last ≡ Some i → option_or (position_from p (from + 1) xs) more ≡ position_from p (from + 1) xs)
          → option_or (if passes then Some from else position_from p (from + 1) xs) more ≡ (if passes then Some from else position_from p (from + 1) xs)
      pick true last is rest = refl
      pick false None is rest = absurd cc
      pick false (Some j) is rest = rest is

  last_within : (from : ℕ) (xs : List X) (i : ℕ) → last_from p from xs ≡ Some i → (from ≤ i) × (i < from + length xs)
  last_within from [] i is = absurd cc
  last_within from (x ∷ xs) i is = pick (p x) (last_from p (from + 1) xs) is (last_within (from + 1) xs i)
    where
      pick : (passes : Bool) (last : Option ℕ) → option_or last (at_if passes from) ≡ Some i
          → (last ≡ Some i → (from + 1 ≤ i) × (i < from + 1 + length xs)) → (from ≤ i) × (i < from + suc (length xs))
      pick true None is rest = let same : from ≡ i = cc in (omega (arith, same), omega (arith, same))
      pick false None is rest = absurd cc
      pick passes (Some j) is rest = let later = rest is in (omega (arith, later.0), omega (arith, later.1))

-- ---- the links, where a key comes

-- the first key behind a last one of this key
last_parts : (from : ℕ) (passes : Bool) (last : Option ℕ) → option_or last (at_if passes from) ≡ None → (passes ≡ false) × (last ≡ None)
last_parts from true None is = absurd cc
last_parts from false None is = (refl, refl)
last_parts from passes (Some i) is = absurd cc

-- another key at the end is not the next one
next_other : (from : ℕ) (key : List ℕ) (keys : List (List ℕ)) (new : List ℕ) → is_key new key ≡ false → position_from (is_key key) from (keys ++ new ∷ []) ≡ position_from (is_key key) from keys
next_other from key keys new other =
    first_more (is_key key) from (from + length keys) keys new refl
    ∙ ap (λ b. option_or (position_from (is_key key) from keys) (at_if b (from + length keys))) (nat_list_eq_equiv.symm new key ∙ other)
    ∙ or_none (position_from (is_key key) from keys)

links_none : (from : ℕ) (keys : List (List ℕ)) (new : List ℕ) → last_from (is_key new) from keys ≡ None → links_from from (keys ++ new ∷ []) ≡ links_from from keys ++ None ∷ []
links_none from [] new none = refl
links_none from (key ∷ keys) new none =
    let parts = last_parts from (is_key new key) (last_from (is_key new) (from + 1) keys) none in
    (λ i. next_other (from + 1) key keys new parts.0 i ∷ links_none (from + 1) keys new parts.1 i)

links_some : (from n i : ℕ) (keys : List (List ℕ)) (new : List ℕ) → n ≡ from + length keys → last_from (is_key new) from keys ≡ Some (from + i)
    → links_from from (keys ++ new ∷ []) ≡ set (links_from from keys) i (Some n) ++ None ∷ []
links_some from n i [] new many is = absurd cc
links_some from n zero (key ∷ keys) new many is = pick (is_key new key) (last_from (is_key new) (from + 1) keys) refl refl is
  where
    pick : (passes : Bool) (last : Option ℕ) → is_key new key ≡ passes → last_from (is_key new) (from + 1) keys ≡ last → option_or last (at_if passes from) ≡ Some (from + 0)
        → position_from (is_key key) (from + 1) (keys ++ new ∷ []) ∷ links_from (from + 1) (keys ++ new ∷ []) ≡ Some n ∷ (links_from (from + 1) keys ++ None ∷ [])
    pick true None test none both =
        let equal : key ≡ new = (bytes_decides key new).0 test in
        let first : position_from (is_key key) (from + 1) keys ≡ None =
        ap (λ k. position_from (is_key k) (from + 1) keys) equal ∙ none_first (is_key new) (from + 1) keys none in
        let next : position_from (is_key key) (from + 1) (keys ++ new ∷ []) ≡ Some n =
        first_more (is_key key) (from + 1) n keys new (omega (arith, many))
        ∙ ap (λ o. option_or o (at_if (is_key key new) n)) first
        ∙ ap (λ b. at_if b n) (nat_list_eq_equiv.symm new key ∙ test) in
        (λ i. next i ∷ links_none (from + 1) keys new none i)
    pick false None test none both = absurd cc
    pick passes (Some j) test last both =
        let same : j ≡ from + 0 = cc in
        let low = (last_within (is_key new) (from + 1) keys j last).0 in
        absurd (omega (arith, same, low))
links_some from n (suc i) (key ∷ keys) new many is =
    pick (is_key new key) (last_from (is_key new) (from + 1) keys) refl refl is (links_some (from + 1) n i keys new (omega (arith, many)))
  where
    -- there is a last one behind the first key
    pick : (passes : Bool) (last : Option ℕ) → is_key new key ≡ passes → last_from (is_key new) (from + 1) keys ≡ last → option_or last (at_if passes from) ≡ Some (from + suc i)
        → (last_from (is_key new) (from + 1) keys ≡ Some (from + 1 + i) → links_from (from + 1) (keys ++ new ∷ []) ≡ set (links_from (from + 1) keys) i (Some n) ++ None ∷ [])
        → position_from (is_key key) (from + 1) (keys ++ new ∷ []) ∷ links_from (from + 1) (keys ++ new ∷ [])
        ≡ position_from (is_key key) (from + 1) keys ∷ (set (links_from (from + 1) keys) i (Some n) ++ None ∷ [])
    pick true None test none both rest = absurd (let same : from ≡ from + suc i = cc in omega (arith, same))
    pick false None test none both rest = absurd cc
    pick false (Some j) test last both rest =
        let is : j ≡ from + suc i = cc in
        let later = rest (last ∙ ap Some (omega (arith, is))) in
        (λ k. next_other (from + 1) key keys new test k ∷ later k)
    pick true (Some j) test last both rest =
        let is : j ≡ from + suc i = cc in
        let later = rest (last ∙ ap Some (omega (arith, is))) in
        let equal : key ≡ new = (bytes_decides key new).0 test in
        let next : position_from (is_key key) (from + 1) (keys ++ new ∷ []) ≡ position_from (is_key key) (from + 1) keys =
        first_more (is_key key) (from + 1) n keys new (omega (arith, many))
        ∙ some_first (is_key key) (from + 1) keys j (at_if (is_key key new) n) (ap (λ k. last_from (is_key k) (from + 1) keys) equal ∙ last) in
        (λ k. next k ∷ later k)

-- ---- a row comes

-- what is written through a slice of a whole vector
pub written : {X : Type 0} (len : ℕ) (new old : List X) → len ≡ length new → take len (new ++ drop (length new) old) ≡ new
written len new old is = ap (λ n. take n (new ++ drop (length new) old)) is ∙ take-append_seam new (drop (length new) old)

length_links : (from : ℕ) (keys : List (List ℕ)) → length (links_from from keys) ≡ length keys
length_links from [] = refl
length_links from (key ∷ keys) = ap suc (length_links (from + 1) keys)

-- there are as many links as rows
many_links : (keys : List (List ℕ)) (by_key : ByKey) → IsIndex keys by_key → length by_key.links.items ≡ length keys
many_links keys by_key index = ap length index.links ∙ length_links 0 keys

-- the last one of a key has a link
pub last_linked : (keys : List (List ℕ)) (by_key : ByKey) (key : List ℕ) → IsIndex keys by_key → IfSome (ends_of key by_key) (λ ends. ends.last < length by_key.links.items)
last_linked keys by_key key index = pick (ends_of key by_key) (index.last key)
  where
    pick : (ends : Option Ends) → option_map (λ ends. ends.last) ends ≡ last_from (is_key key) 0 keys → IfSome ends (λ ends. ends.last < length by_key.links.items)
    pick None is = tt
    pick (Some ends) is = omega (arith, (last_within (is_key key) 0 keys ends.last (sym is)).1, many_links keys by_key index)

abbrev first_end : Option Ends → Option ℕ
first_end ends = option_map (λ ends. ends.first) ends

abbrev last_end : Option Ends → Option ℕ
last_end ends = option_map (λ ends. ends.last) ends

-- the ends of a key
abbrev pub between : ℕ → ℕ → Ends
between first last = record { first = first; last = last }

module _ (keys : List (List ℕ)) (new : List ℕ) (old after : ByKey) (first n : ℕ) (index : IsIndex keys old) (many : n ≡ length keys)
    (starts : first ≡ option_map_or (λ ends. ends.first) (ends_of new old) n)
    (found : (key : List ℕ) → ends_of key after ≡ cond (bytes_eq new key) (Some (between first n)) (ends_of key old))
    (linked : after.links.items ≡ with_link (ends_of new old) n old.links.items ++ None ∷ []) where
  count : n ≡ 0 + length keys
  count = omega (arith, many)

  firsts : (key : List ℕ) → first_end (ends_of key after) ≡ position_from (is_key key) 0 (keys ++ new ∷ [])
  firsts key = ap first_end (found key) ∙ pick (bytes_eq new key) refl ∙ sym (first_more (is_key key) 0 n keys new count)
    where
      here : (ends : Option Ends) → first_end ends ≡ position_from (is_key new) 0 keys → first ≡ option_map_or (λ ends. ends.first) ends n
          → Some first ≡ option_or (position_from (is_key new) 0 keys) (Some n)
      here None is begins = ap Some begins ∙ ap (λ o. option_or o (Some n)) is
      here (Some ends) is begins = ap Some begins ∙ ap (λ o. option_or o (Some n)) is

      pick : (passes : Bool) → bytes_eq new key ≡ passes
          → first_end (cond passes (Some (between first n)) (ends_of key old)) ≡ option_or (position_from (is_key key) 0 keys) (at_if (bytes_eq new key) n)
      pick true test =
          here (ends_of new old) (index.first new) starts
          ∙ ap (λ k. option_or (position_from (is_key k) 0 keys) (Some n)) ((bytes_decides new key).0 test)
          ∙ ap (λ b. option_or (position_from (is_key key) 0 keys) (at_if b n)) (sym test)
      pick false test =
          index.first key ∙ sym (or_none (position_from (is_key key) 0 keys))
          ∙ ap (λ b. option_or (position_from (is_key key) 0 keys) (at_if b n)) (sym test)

  lasts : (key : List ℕ) → last_end (ends_of key after) ≡ last_from (is_key key) 0 (keys ++ new ∷ [])
  lasts key = ap last_end (found key) ∙ pick (bytes_eq new key) ∙ sym (last_more (is_key key) 0 n keys new count)
    where
      pick : (passes : Bool) → last_end (cond passes (Some (between first n)) (ends_of key old)) ≡ (if passes then Some n else last_from (is_key key) 0 keys)
      pick true = refl
      pick false = index.last key

  links : with_link (ends_of new old) n old.links.items ++ None ∷ [] ≡ links_from 0 (keys ++ new ∷ [])
  links = pick (ends_of new old) (index.last new)
    where
      pick : (ends : Option Ends) → last_end ends ≡ last_from (is_key new) 0 keys → with_link ends n old.links.items ++ None ∷ [] ≡ links_from 0 (keys ++ new ∷ [])
      pick None is = ap (λ (links : List (Option ℕ)). links ++ None ∷ []) index.links ∙ sym (links_none 0 keys new (sym is))
      pick (Some ends) is =
          let last : last_from (is_key new) 0 keys ≡ Some (0 + ends.last) = sym is ∙ ap Some (omega arith) in
          ap (λ (links : List (Option ℕ)). slice_set links ends.last (Some n) ++ None ∷ []) index.links ∙ sym (links_some 0 n ends.last keys new count last)

  pub index_more : IsIndex (keys ++ new ∷ []) after
  index_more = record { first = firsts; last = lasts; links = linked ∙ links }

-- ---- on rows

edited_key : (edit : Edit) (row : RegistrationRow) → (edited edit row).key ≡ row.key
edited_key (edit_of.Installing worker) row = refl
edited_key (edit_of.Waiting first) row = refl
edited_key edit_of.Active row = refl
edited_key (edit_of.Leave place.Installing) row = refl
edited_key (edit_of.Leave place.Waiting) row = refl
edited_key (edit_of.Leave place.Active) row = refl
edited_key (edit_of.Mode mode) row = refl
edited_key (edit_of.Owed owed) row = refl

-- an edit leaves the keys as they are
keys_edited : (edit : Edit) (rows : List RegistrationRow) (n : ℕ) (old new : RegistrationRow) → old ≡ slice_index_or rows n old → new ≡ edited edit old
    → keys_of (slice_set rows n new) ≡ keys_of rows
keys_edited edit rows n old new is_at is = set_same rows n old new (ap (λ (row : RegistrationRow). row.key) is ∙ edited_key edit old ∙ ap (λ (row : RegistrationRow). row.key) is_at)
  where
    set_same : (rows : List RegistrationRow) (n : ℕ) (d new : RegistrationRow) → new.key ≡ (get_or rows n d).key → keys_of (set rows n new) ≡ keys_of rows
    set_same [] n d new is = refl
    set_same (row ∷ rows) zero d new is = ap (λ key. key ∷ keys_of rows) is
    set_same (row ∷ rows) (suc n) d new is = ap (λ keys. row.key ∷ keys) (set_same rows n d new is)

-- an edit leaves the index as it is
pub index_edited : (edit : Edit) (rows : List RegistrationRow) (n : ℕ) (old new : RegistrationRow) (by_key : ByKey) → IsIndex (keys_of rows) by_key → old ≡ slice_index_or rows n old → new ≡ edited edit old
    → IsIndex (keys_of (slice_set rows n new)) by_key
index_edited edit rows n old new by_key index is_at is = subst (λ keys. IsIndex keys by_key) (sym (keys_edited edit rows n old new is_at is)) index

-- the index is that of rows with one more
pub index_row : (rows : List RegistrationRow) (row : RegistrationRow) (key : List ℕ) (by_key : ByKey) → IsIndex (keys_of rows ++ key ∷ []) by_key → key ≡ row.key
    → IsIndex (keys_of (rows ++ row ∷ [])) by_key
index_row rows row key by_key index is =
    subst (λ keys. IsIndex keys by_key) (ap (λ k. keys_of rows ++ k ∷ []) is ∙ sym (map-append (λ (r : RegistrationRow). r.key) rows (row ∷ []))) index

from_keys : (key : List ℕ) (from : ℕ) (rows : List RegistrationRow) → position_from (is_key key) from (keys_of rows) ≡ position_from (is_of key) from rows
from_keys key from [] = refl
from_keys key from (row ∷ rows) = ap (λ o. if is_of key row then Some from else o) (from_keys key (from + 1) rows)

-- the first row of a key
pub first_shown : (key : List ℕ) (rows : List RegistrationRow) → position_from (is_key key) 0 (keys_of rows) ≡ first_of key rows
first_shown key rows = from_keys key 0 rows ∙ sym (position_from-zero (is_of key) rows)

linked_from : (from n next to : ℕ) (rows : List RegistrationRow) → next ≡ suc n → to ≡ from + next
    → option_flatten (slice_get (links_from from (keys_of rows)) n) ≡ option_and_then (λ row. position_from (is_of row.key) to (drop next rows)) (slice_get rows n)
linked_from from n next to [] is at = refl
linked_from from zero next to (row ∷ rows) is at =
    let same : from + 1 ≡ to = omega (arith, is, at) in
    let left : rows ≡ drop next (row ∷ rows) = sym (ap (λ n. drop n (row ∷ rows)) is) in
    from_keys row.key (from + 1) rows ∙ (λ i. position_from (is_of row.key) (same i) (left i))
linked_from from (suc n) next to (row ∷ rows) is at =
    let left : drop (suc n) rows ≡ drop next (row ∷ rows) = sym (ap (λ n. drop n (row ∷ rows)) is) in
    linked_from (from + 1) n (suc n) to rows refl (omega (arith, is, at))
    ∙ ap (λ (xs : List RegistrationRow). option_and_then (λ (r : RegistrationRow). position_from (is_of r.key) to xs) (slice_get rows n)) left

-- the next row of a key
pub next_shown : (n : ℕ) (rows : List RegistrationRow) → option_flatten (slice_get (links_from 0 (keys_of rows)) n) ≡ next_of n rows
next_shown n rows = linked_from 0 n (n + 1) (n + 1) rows (omega arith) (omega arith)
