-- Rows, the marks of their numbers and the entries that callers see.
use Rattle.std.proofs.Common.{◌≡◌, ◌∙◌, ◌<◌, ℕ, zero, suc, Bool, true, false, nat_eq, is_some, List, [], ◌∷◌, ◌++◌, cond, ◌+◌, remove, length, get_or, slice_get, position, Option, Some, None, Result, Ok, Err, refl, sym, ap, subst, arith, true≢false}
use Rattle.std.specs.List.{AllPairs, IsDistinct, list_any}
use Rattle.std.specs.Map.{keys_of, lookup, remove_entry, set_value, values_of}
use Rattle.std.specs.Option.{option_map}
use Rattle.std.specs.Result.{IsOk, OnOk}
use Rattle.std.proofs.lemmas.List.{length-map, map-append}
use Rattle.std.proofs.lemmas.Bool.Decides.{nat_tests}
use Rattle.std.proofs.lemmas.List.Quantifiers.{position-Some}
use Rattle.std.proofs.lemmas.Map.Entries.{place_from_lookup}
use Rattle.std.proofs.lemmas.Map.Keys.{IsDistinct-from_apart}
use Rattle.std.proofs.lemmas.Map.Made.{is_some-lookup}
use Rattle.std.proofs.lemmas.Option.{same_Some, slice_get-map}
use Rattle.indexmap.proofs.MapLemmas.{Found-position, Missing-position, absent_from_lookup, index-absent}
use Rattle.sw_list.specs.Stamped.{IsStamped, entries_of, entry_of, mark_of, marks_of}
use Rattle.sw_list.specs.Numbers as list
use Rattle.sw_list.specs.Sequence.{with_value_at}
use Rattle.sw_list.specs.declared.ordered.Row.{Row}
use Rattle.sw_list.proofs.StampMarks.{kept_less, kept_more, map_remove, place_here, removed}

-- of two that are there or not alike, neither is there
none_alike : {A B : Type 0} (a : Option A) (b : Option B) → is_some a ≡ is_some b → a ≡ None → b ≡ None
none_alike a None same none = refl
none_alike a (Some y) same none = absurd (true≢false (sym same ∙ ap is_some none))

module _ {V : Type 0} where
  pub same_numbers : (rows : List (ℕ × Row V)) → keys_of (marks_of rows) ≡ keys_of (entries_of rows)
  same_numbers [] = refl
  same_numbers (row ∷ rows) = ap (λ (rest : List ℕ). row.1.number ∷ rest) (same_numbers rows)

  pub same_found : (rows : List (ℕ × Row V)) (n : ℕ) → is_some (lookup (nat_eq n) (marks_of rows)) ≡ is_some (lookup (nat_eq n) (entries_of rows))
  same_found rows n =
      is_some-lookup (nat_eq n) (marks_of rows) ∙ (ap (list_any (nat_eq n)) (same_numbers rows) ∙ sym (is_some-lookup (nat_eq n) (entries_of rows)))

  -- ---- places

  stamp_at : (rows : List (ℕ × Row V)) (i d : ℕ) → get_or (keys_of rows) i d ≡ (get_or (marks_of rows) i (0, d)).1
  stamp_at [] i d = refl
  stamp_at (row ∷ rows) zero d = refl
  stamp_at (row ∷ rows) (suc i) d = stamp_at rows i d

  apart_stamps : (rows : List (ℕ × Row V)) → AllPairs (λ left right. left.1 < right.1) (marks_of rows) → IsDistinct nat_eq (keys_of rows)
  apart_stamps rows rising = IsDistinct-from_apart nat_eq (keys_of rows) (λ i j d before within.
      let rises = rising i j (0, d) before (omega (arith, length-map rows mark_of, length-map rows (λ (row : ℕ × Row V). row.0))) in
      let first = stamp_at rows i d in
      let second = stamp_at rows j d in
      grind (arith, nat_tests))

  some_row : (o : Option (ℕ × Row V)) (n s : ℕ) → option_map mark_of o ≡ Some (n, s) → (row : Row V) × (o ≡ Some (s, row))
  some_row None n s is = absurd cc
  some_row (Some row) n s is = (row.1, (let same : mark_of row ≡ (n, s) = same_Some _ (n, s) is in ap (λ (mark : ℕ × ℕ). Some (mark.1, row.1)) same))

  pub place_found : (rows : List (ℕ × Row V)) (index : List (ℕ × ℕ)) (next n s : ℕ) → IsStamped (marks_of rows) index next → lookup (nat_eq n) index ≡ Some s
      → position (nat_eq s) (keys_of rows) ≡ position (nat_eq n) (keys_of (entries_of rows))
  place_found rows index next n s kept is =
      let place = place_from_lookup (nat_eq n) (marks_of rows) s (sym (kept.found n) ∙ is) in
      let number : n ≡ place.1 = (let same = place.3 in grind (arith, nat_tests)) in
      let at : slice_get (marks_of rows) place.0 ≡ Some (n, s) = place.2 ∙ ap (λ (k : ℕ). Some (k, s)) (sym number) in
      let row = some_row (slice_get rows place.0) n s (sym (slice_get-map mark_of rows place.0) ∙ at) in
      place_here rows place.0 s row.0 (apart_stamps rows kept.rising) row.1
      ∙ (sym (place_here (marks_of rows) place.0 n s kept.apart at) ∙ ap (position (nat_eq n)) (same_numbers rows))

  pub no_mark : (rows : List (ℕ × Row V)) (n : ℕ) → lookup (nat_eq n) (entries_of rows) ≡ None → lookup (nat_eq n) (marks_of rows) ≡ None
  no_mark rows n none = none_alike _ _ (sym (same_found rows n)) none

  no_entry : (rows : List (ℕ × Row V)) (n : ℕ) → lookup (nat_eq n) (marks_of rows) ≡ None → lookup (nat_eq n) (entries_of rows) ≡ None
  no_entry rows n none = none_alike _ _ (same_found rows n) none

  pub place_none : (rows : List (ℕ × Row V)) (index : List (ℕ × ℕ)) (next n : ℕ) → IsStamped (marks_of rows) index next → lookup (nat_eq n) index ≡ None
      → None ≡ position (nat_eq n) (keys_of (entries_of rows))
  place_none rows index next n kept is =
      sym (index-absent (nat_eq n) (entries_of rows) (absent_from_lookup (nat_eq n) (entries_of rows) (no_entry rows n (sym (kept.found n) ∙ is))))

  -- ---- values

  pub number_at : (rows : List (ℕ × Row V)) (i : ℕ) (row : Row V) → slice_get (values_of rows) i ≡ Some row → slice_get (keys_of (entries_of rows)) i ≡ Some row.number
  number_at [] i row at = absurd cc
  number_at (first ∷ rows) zero row at = ap (option_map (λ (row : Row V). row.number)) at
  number_at (first ∷ rows) (suc i) row at = number_at rows i row at

  pub value_at : (rows : List (ℕ × Row V)) (i : ℕ) (row : Row V) → slice_get (values_of rows) i ≡ Some row → slice_get (values_of (entries_of rows)) i ≡ Some row.value
  value_at [] i row at = absurd cc
  value_at (first ∷ rows) zero row at = ap (option_map (λ (row : Row V). row.value)) at
  value_at (first ∷ rows) (suc i) row at = value_at rows i row at

  -- a value that is written leaves the marks
  pub marks_written : (rows : List (ℕ × Row V)) (i : ℕ) (row : Row V) (value : V) → slice_get (values_of rows) i ≡ Some row → marks_of (list.with_value_at rows i (record row { value = value })) ≡ marks_of rows
  marks_written [] i row value at = refl
  marks_written (x ∷ xs) zero row value at = ap (λ (r : Row V). (r.number, x.0) ∷ marks_of xs) (sym (same_Some x.1 row at))
  marks_written (x ∷ xs) (suc i) row value at = ap (λ (rest : List (ℕ × ℕ)). mark_of x ∷ rest) (marks_written xs i row value at)

  pub entries_written : (rows : List (ℕ × Row V)) (i : ℕ) (row : Row V) (value : V) → slice_get (values_of rows) i ≡ Some row → entries_of (list.with_value_at rows i (record row { value = value })) ≡ with_value_at (entries_of rows) i value
  entries_written [] i row value at = refl
  entries_written (x ∷ xs) zero row value at = ap (λ (r : Row V). (r.number, value) ∷ entries_of xs) (sym (same_Some x.1 row at))
  entries_written (x ∷ xs) (suc i) row value at = ap (λ (rest : List (ℕ × V)). entry_of x ∷ rest) (entries_written xs i row value at)

  -- the value at the place of a number is the one under it
  pub value_found : (entries : List (ℕ × V)) (n i : ℕ) → Some i ≡ position (nat_eq n) (keys_of entries) → slice_get (values_of entries) i ≡ lookup (nat_eq n) entries
  value_found entries n i at = sym (Found-position (nat_eq n) entries i (sym at)).value

  pub value_none : (entries : List (ℕ × V)) (n : ℕ) → None ≡ position (nat_eq n) (keys_of entries) → lookup (nat_eq n) entries ≡ None
  value_none entries n at = (Missing-position (nat_eq n) entries (sym at)).value

  -- ---- one more and one less

  pub apart_entries : (rows : List (ℕ × Row V)) (index : List (ℕ × ℕ)) (next : ℕ) → IsStamped (marks_of rows) index next → IsDistinct nat_eq (keys_of (entries_of rows))
  apart_entries rows index next kept = subst (IsDistinct nat_eq) (same_numbers rows) kept.apart

  pub added_kept : (rows after : List (ℕ × Row V)) (old new : List (ℕ × ℕ)) (n next : ℕ) (value : V) → IsStamped (marks_of rows) old next → lookup (nat_eq n) (entries_of rows) ≡ None
      → ((q : ℕ) → lookup (nat_eq q) new ≡ cond (nat_eq n q) (Some next) (lookup (nat_eq q) old)) → after ≡ rows ++ (next, record { number = n; value = value }) ∷ []
      → IsStamped (marks_of after) new (next + 1)
  added_kept rows after old new n next value kept fresh says is =
      let row : ℕ × Row V = (next, record { number = n; value = value }) in
      subst (λ (marks : List (ℕ × ℕ)). IsStamped marks new (next + 1)) (sym (ap marks_of is ∙ map-append mark_of rows (row ∷ [])))
      (kept_more (marks_of rows) old new n next kept (no_mark rows n fresh) says)

  pub removed_kept : (rows after : List (ℕ × Row V)) (old new : List (ℕ × ℕ)) (n i next : ℕ) → IsStamped (marks_of rows) old next → Some i ≡ position (nat_eq n) (keys_of (entries_of rows))
      → ((q : ℕ) → lookup (nat_eq q) new ≡ cond (nat_eq n q) None (lookup (nat_eq q) old)) → after ≡ remove rows i → IsStamped (marks_of after) new next
  removed_kept rows after old new n i next kept at says is =
      subst (λ (marks : List (ℕ × ℕ)). IsStamped marks new next) (sym (ap marks_of is ∙ map_remove mark_of rows i))
      (kept_less (marks_of rows) old new n i next kept (ap (position (nat_eq n)) (same_numbers rows) ∙ sym at) says)

  pub removed_entries : (rows after : List (ℕ × Row V)) (n i : ℕ) → Some i ≡ position (nat_eq n) (keys_of (entries_of rows)) → after ≡ remove rows i
      → entries_of after ≡ remove_entry (nat_eq n) (entries_of rows)
  removed_entries rows after n i at is = ap entries_of is ∙ (map_remove entry_of rows i ∙ removed (entries_of rows) n i (sym at))

  pub removed_value : (rows : List (ℕ × Row V)) (n i : ℕ) (row : Row V) → Some i ≡ position (nat_eq n) (keys_of (entries_of rows)) → slice_get (values_of rows) i ≡ Some row
      → Some row.value ≡ lookup (nat_eq n) (entries_of rows)
  removed_value rows n i row at is = sym (value_at rows i row is) ∙ value_found (entries_of rows) n i at

-- where the value at the place of a number is written, it is the one under it
set_first : {X : Type 0} (test : ℕ → Bool) (entries : List (ℕ × X)) (i : ℕ) (value : X) → i < length entries → test (get_or (keys_of entries) i 0) ≡ true
    → ((k : ℕ) → k < i → test (get_or (keys_of entries) k 0) ≡ false) → with_value_at entries i value ≡ set_value test entries value
set_first test [] i value within here before = refl
set_first test (e ∷ es) zero value within here before = rw here refl
set_first test (e ∷ es) (suc i) value within here before =
    rw (before 0 (omega arith)) (ap (λ rest. e ∷ rest) (set_first test es i value (omega arith) here (λ k l. before (suc k) (omega arith))))

pub set_found : {X : Type 0} (entries : List (ℕ × X)) (n i : ℕ) (value : X) → position (nat_eq n) (keys_of entries) ≡ Some i → with_value_at entries i value ≡ set_value (nat_eq n) entries value
set_found entries n i value at =
    let place = position-Some (nat_eq n) (keys_of entries) i 0 at in
    set_first (nat_eq n) entries i value (Found-position (nat_eq n) entries i at).within place.1 place.2

-- what holds after Ok, of a call that succeeds
pub on_ok : {T E : Type 0} {P : Type 0} (r : Result T E) → OnOk r P → IsOk r → P
on_ok (Ok v) says is = says
on_ok (Err v) says is = absurd cc
