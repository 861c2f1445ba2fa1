-- Entries by the bytes of their keys: what is looked up, and how many have a length, after one is put or removed.
use Rattle.std.proofs.Common.{◌≡◌, ◌∙◌, ◌≤◌, ◌+◌, ◌==◌, ℕ, Bool, true, false, true≢false, List, [], ◌∷◌, bytes_eq, get_or, length, position, sum_by, Option, Some, None, is_none, is_some, refl, sym, ap, subst, arith, if◌then◌else◌}
use Rattle.std.specs.Cmp.Lexicographic.{bytes_decides, nat_list_eq_equiv}
use Rattle.std.specs.Option.{IfSome}
use Rattle.std.specs.Map.{KeepsOthers, keys_of, lookup}
use Rattle.std.proofs.lemmas.List.{get_or-map}
use Rattle.std.proofs.lemmas.List.Quantifiers.{position-Some}
use Rattle.std.proofs.lemmas.List.Sums.{sum_by-cons, sum_by-swap_remove}
use Rattle.std.proofs.lemmas.Map.Entries.{place_from_lookup}
use Rattle.indexmap.specs.IndexMap.{insert_entry, swap_remove_entry}
use Rattle.indexmap.proofs.MapLemmas.{Found-position, some_index, swap_remove_entry-found}
use Rattle.sw_scope.specs.Counted.{bare, entries_of}

-- one more where a length is this one
abbrev pub one_at : ℕ → ℕ → ℕ
one_at length n = if length == n then 1 else 0

-- equality of bytes goes both ways
both_ways : (a b : List ℕ) → bytes_eq a b ≡ bytes_eq b a
both_ways a b = by (bytes_eq a b) (bytes_eq b a) refl refl
  where
    by : (p q : Bool) → bytes_eq a b ≡ p → bytes_eq b a ≡ q → bytes_eq a b ≡ bytes_eq b a
    by true true is back = is ∙ sym back
    by false false is back = is ∙ sym back
    by true false is back = subst (λ c. bytes_eq a c ≡ bytes_eq c a) ((bytes_decides a b).0 is) refl
    by false true is back = subst (λ c. bytes_eq c b ≡ bytes_eq b c) ((bytes_decides b a).0 back) refl

-- ---- keys that are read as bytes

module _ {K V : Type 0} (bytes : K → List ℕ) where
  pub lookup_bare : (test : List ℕ → Bool) (entries : List (K × V)) → lookup test (bare bytes entries) ≡ lookup (λ key. test (bytes key)) entries
  lookup_bare test [] = refl
  lookup_bare test (entry ∷ entries) = grind (arith, lookup_bare test entries)

  pub insert_bare : (eq : K → K → Bool) → ((x y : K) → eq x y ≡ bytes_eq (bytes x) (bytes y)) → (key : K) (value : V) (entries : List (K × V))
      → bare bytes (insert_entry eq entries key value) ≡ insert_entry bytes_eq (bare bytes entries) (bytes key) value
  insert_bare eq decides key value [] = refl
  insert_bare eq decides key value (entry ∷ entries) = grind (arith, decides key entry.0, insert_bare eq decides key value entries)

-- ---- keys that are bytes

module _ (scope other : List ℕ) where
  here : (key : List ℕ) → bytes_eq scope key ≡ true → bytes_eq other key ≡ bytes_eq scope other
  here key is = ap (bytes_eq other) (sym ((bytes_decides scope key).0 is)) ∙ both_ways other scope

  there : (key : List ℕ) → bytes_eq other key ≡ true → bytes_eq scope key ≡ bytes_eq scope other
  there key is = ap (bytes_eq scope) (sym ((bytes_decides other key).0 is))

module _ {V : Type 0} (scope other : List ℕ) where
  -- what a put scope and the others are found at
  pub lookup_put : (id : V) (entries : List (List ℕ × V)) → lookup (bytes_eq other) (insert_entry bytes_eq entries scope id)
      ≡ (if bytes_eq scope other then Some id else lookup (bytes_eq other) entries)
  lookup_put id [] = let turned = both_ways other scope in grind (arith, turned)
  lookup_put id (entry ∷ entries) = grind (arith, here scope other entry.0, there scope other entry.0, lookup_put id entries)

-- ---- how many have a length

same_length : (scope key : List ℕ) → bytes_eq scope key ≡ true → length key ≡ length scope
same_length scope key is = ap (λ (text : List ℕ). length text) (sym ((bytes_decides scope key).0 is))

module _ (scope : List ℕ) (n : ℕ) where
  pub entries_put : (id : ℕ) (entries : List (List ℕ × ℕ)) → lookup (bytes_eq scope) entries ≡ None
      → entries_of (insert_entry bytes_eq entries scope id) n ≡ entries_of entries n + one_at (length scope) n
  entries_put id [] absent = grind arith
  entries_put id (entry ∷ entries) absent = grind (arith, entries_put id entries)

  pub entries_kept : (id before : ℕ) (entries : List (List ℕ × ℕ)) → lookup (bytes_eq scope) entries ≡ Some before
      → entries_of (insert_entry bytes_eq entries scope id) n ≡ entries_of entries n
  entries_kept id before [] there_is = absurd cc
  entries_kept id before (entry ∷ entries) there_is = grind (arith, entries_kept id before entries)

-- ---- once a scope is removed

module _ {K V : Type 0} (bytes : K → List ℕ) (scope other : List ℕ) where
  -- what the others are found at
  pub lookup_removed : (old new : List (K × V)) → lookup (λ key. bytes_eq scope (bytes key)) new ≡ None
      → KeepsOthers (λ x y. bytes_eq (bytes x) (bytes y)) (λ key. bytes_eq scope (bytes key)) old new
      → lookup (bytes_eq other) (bare bytes new) ≡ (if bytes_eq scope other then None else lookup (bytes_eq other) (bare bytes old))
  unfolding KeepsOthers
  lookup_removed old new gone kept = by (bytes_eq scope other) refl
    where
      by : (same : Bool) → bytes_eq scope other ≡ same → lookup (bytes_eq other) (bare bytes new) ≡ (if same then None else lookup (bytes_eq other) (bare bytes old))
      by true is = subst (λ text. lookup (bytes_eq text) (bare bytes new) ≡ None) ((bytes_decides scope other).0 is)
          (lookup_bare bytes (bytes_eq scope) new ∙ gone)
      by false are = lookup_bare bytes (bytes_eq other) new
          ∙ (kept (λ key. bytes_eq other (bytes key)) (λ x y. nat_list_eq_equiv.congr other (bytes x) (bytes y)) (λ key is. here scope other (bytes key) is ∙ are)
          ∙ sym (lookup_bare bytes (bytes_eq other) old))

module _ {K : Type 0} (bytes : K → List ℕ) (n : ℕ) where
  -- one where the key of an entry has this length
  abbrev long : K × ℕ → ℕ
  long entry = one_at (length (bytes entry.0)) n

  by_sum : (entries : List (K × ℕ)) → entries_of (bare bytes entries) n ≡ sum_by long entries
  by_sum [] = refl
  by_sum (entry ∷ entries) = let here = sum_by-cons long entry entries in let rest = by_sum entries in omega (arith, here, rest)

  -- how many have a length
  entries_removed : (scope : List ℕ) (old new : List (K × ℕ)) (id : ℕ) → new ≡ swap_remove_entry (λ key. bytes_eq scope (bytes key)) old
      → lookup (λ key. bytes_eq scope (bytes key)) old ≡ Some id → entries_of (bare bytes new) n + one_at (length scope) n ≡ entries_of (bare bytes old) n
  entries_removed scope old new id is there_is = by (position test (keys_of old)) refl
    where
      test : K → Bool
      test key = bytes_eq scope (bytes key)

      entry : K × ℕ
      entry = ((place_from_lookup test old id there_is).1, id)

      by : (at : Option ℕ) → position test (keys_of old) ≡ at → entries_of (bare bytes new) n + one_at (length scope) n ≡ entries_of (bare bytes old) n
      by None at = absurd (true≢false (sym (ap is_some there_is) ∙ (sym (some_index test old) ∙ ap is_some at)))
      by (Some i) at =
          let within = (Found-position test old i at).within in
          let key = get_or-map (λ (e : K × ℕ). e.0) old i entry entry.0 within in
          let passes = subst (λ k. test k ≡ true) key (position-Some test (keys_of old) i entry.0 at).1 in
          let one = ap (λ l. one_at l n) (same_length scope (bytes (get_or old i entry).0) passes) in
          let swapped = ap (sum_by long) (is ∙ swap_remove_entry-found test old i entry at) in
          let sums = sum_by-swap_remove long old i entry within in
          let before = by_sum old in let after = by_sum new in
          omega (arith, one, swapped, sums, before, after)

-- what was found goes out of those of its length
pub fewer_removed : {K : Type 0} (bytes : K → List ℕ) (scope : List ℕ) (old new : List (K × ℕ)) (found : Option ℕ)
    → found ≡ lookup (λ key. bytes_eq scope (bytes key)) old → new ≡ swap_remove_entry (λ key. bytes_eq scope (bytes key)) old
    → IfSome found (λ id. (n : ℕ) → entries_of (bare bytes new) n + one_at (length scope) n ≡ entries_of (bare bytes old) n)
fewer_removed bytes scope old new None is left = tt
fewer_removed bytes scope old new (Some id) is left = λ n. entries_removed bytes n scope old new id left (sym is)

-- no more have a length than there are
pub entries_few : (entries : List (List ℕ × ℕ)) (n : ℕ) → entries_of entries n ≤ length entries
entries_few [] n = omega arith
entries_few (entry ∷ entries) n = grind (arith, entries_few entries n)

-- the entries' keys read as bytes are as many
pub length_bare : {K V : Type 0} (bytes : K → List ℕ) (entries : List (K × V)) → length (bare bytes entries) ≡ length entries
length_bare bytes [] = refl
length_bare bytes (entry ∷ entries) = grind (arith, length_bare bytes entries)

pub ruleset by_bytes = (lookup_bare, insert_bare, length_bare)

pub absent_of : {V : Type 0} (found : Option V) → is_none found ≡ true → found ≡ None
absent_of None is = refl
absent_of (Some value) is = absurd cc

pub there_of : {V : Type 0} (found : Option V) → is_none found ≡ false → (value : V) × (found ≡ Some value)
there_of None is = absurd cc
there_of (Some value) is = (value, refl)

pub some_of : {V : Type 0} (found : Option V) → is_some found ≡ true → (value : V) × (found ≡ Some value)
some_of None is = absurd cc
some_of (Some value) is = (value, refl)

pub none_of : {V : Type 0} (found : Option V) → is_some found ≡ false → found ≡ None
none_of None is = refl
none_of (Some value) is = absurd cc
