-- Rows that are asked for by key and name, each behind its number.
use Rattle.std.proofs.Common.{◌≡◌, ℕ, ◌+◌, ◌-◌, ◌<◌, ◌≤◌, Bool, true, false, nat_eq, List, [], ◌∷◌, Option, Some, inl, inr, refl, sym, ap, ◌∙◌, arith, zero, suc, length, map, drop, get_or, set, position, All}
use Rattle.std.specs.Prelude.{nat_lt, option_map, remove, slice_get}
use Rattle.std.specs.List.{AllPairs}
use Rattle.std.specs.Map.{keys_of, values_of}
use Rattle.std.specs.Option.{option_map_or}
use Rattle.std.proofs.lemmas.Bool.{and_parts, cases_order}
use Rattle.std.proofs.lemmas.Bool.Decides.{nat_tests}
use Rattle.std.proofs.lemmas.List.{get_or-map, length-map, map-set}
use Rattle.std.proofs.lemmas.List.Quantifiers.{position-Some}
use Rattle.std.proofs.lemmas.Option.{get_or_from_slice_get, same_Some, slice_get-map, slice_get_within}
use Rattle.sw_list.specs.Numbers.{with_value_at}
use Rattle.sw_list.specs.declared.row.Row.{Row}
use Rattle.sw_list.specs.Names.{Label, Mark, asks}
use Rattle.sw_list.specs.Named.{entry_row, entry_rows, is_above, is_asked, mark_of, marks_of, named_row, values, with_value}
use Rattle.sw_list.proofs.FindLemmas.{position_past, position_same}

above : (low n : ℕ) → low < n → nat_lt low n ≡ true
above low n h = grind (arith, nat_tests)

not_above : (low n : ℕ) → n ≤ low → nat_lt low n ≡ false
not_above low n h = grind (arith, nat_tests)

module _ {V : Type 0} where
  -- ---- what stands at a place

  -- a number and a row at a place are those of one entry
  pub entry_at : (entries : List (ℕ × Row V)) (n place : ℕ) (row : Row V) → slice_get (keys_of entries) place ≡ Some n → slice_get (values_of entries) place ≡ Some row → slice_get entries place ≡ Some (n, row)
  entry_at [] n place row number value = absurd cc
  entry_at (entry ∷ entries) n zero row number value = (λ i. Some (same_Some entry.0 n number i, same_Some entry.1 row value i))
  entry_at (entry ∷ entries) n (suc place) row number value = entry_at entries n place row number value

  pub number_some : (entries : List (ℕ × Row V)) (n place next : ℕ) → All (λ mark. (0 < mark.0) × (mark.0 < next)) (marks_of entries) → slice_get (keys_of entries) place ≡ Some n → 0 < n
  number_some [] n place next bounded at = absurd cc
  number_some (entry ∷ entries) n zero next bounded at = (let is = same_Some entry.0 n at in let more = (bounded 0 (mark_of entry) (omega arith)).0 in omega (arith, is, more))
  number_some (entry ∷ entries) n (suc place) next bounded at = number_some entries n place next (λ k d l. bounded (suc k) d (omega (arith, l))) at

  -- the marks have the numbers of the entries
  pub same_numbers : (entries : List (ℕ × Row V)) → keys_of entries ≡ keys_of (marks_of entries)
  same_numbers [] = refl
  same_numbers (entry ∷ entries) = ap (λ (rest : List ℕ). entry.0 ∷ rest) (same_numbers entries)

  pub marks_without : (entries : List (ℕ × Row V)) (place : ℕ) → marks_of (remove entries place) ≡ remove (marks_of entries) place
  marks_without [] zero = refl
  marks_without [] (suc place) = refl
  marks_without (entry ∷ entries) zero = refl
  marks_without (entry ∷ entries) (suc place) = ap (λ (rest : List Mark). mark_of entry ∷ rest) (marks_without entries place)

  -- ---- a value that is written

  -- an entry at a place with another row
  pub row_written : (entries : List (ℕ × Row V)) (place : ℕ) (row new : Row V) → slice_get (values_of entries) place ≡ Some row
      → (n : ℕ) × (slice_get entries place ≡ Some (n, row)) × (with_value_at entries place new ≡ set entries place (n, new))
  row_written [] place row new at = absurd cc
  row_written (entry ∷ entries) zero row new at = (entry.0, (λ i. Some (entry.0, same_Some entry.1 row at i)), refl)
  row_written (entry ∷ entries) (suc place) row new at = (let rest = row_written entries place row new at in (rest.0, rest.1, ap (λ (r : List (ℕ × Row V)). entry ∷ r) rest.2))

  pub value_set : (entries : List (ℕ × Row V)) (n place : ℕ) (row : Row V) (value : V) → slice_get entries place ≡ Some (n, row)
      → entry_rows (set entries place (n, record row { value = value })) ≡ with_value place value (entry_rows entries)
  value_set entries n place row value at =
      map-set entry_row entries place (n, record row { value = value })
      ∙ ap (λ found. option_map_or (λ item. set (entry_rows entries) place (item.0, value)) found (entry_rows entries)) (sym (slice_get-map entry_row entries place ∙ ap (option_map entry_row) at))

  -- a row with another value has the same mark
  pub marks_written : (entries : List (ℕ × Row V)) (place : ℕ) (row : Row V) (value : V) → slice_get (values_of entries) place ≡ Some row → marks_of (with_value_at entries place (record row { value = value })) ≡ marks_of entries
  marks_written [] place row value at = refl
  marks_written (entry ∷ entries) zero row value at = ap (λ (r : Row V). (entry.0, (r.key, r.name)) ∷ marks_of entries) (sym (same_Some entry.1 row at))
  marks_written (entry ∷ entries) (suc place) row value at = ap (λ (rest : List Mark). mark_of entry ∷ rest) (marks_written entries place row value at)

  pub value_at : (entries : List (ℕ × Row V)) (place : ℕ) (row : Row V) → slice_get (values_of entries) place ≡ Some row → slice_get (values (entry_rows entries)) place ≡ Some row.value
  value_at [] place row at = absurd cc
  value_at (entry ∷ entries) zero row at = ap (option_map (λ (r : Row V). r.value)) at
  value_at (entry ∷ entries) (suc place) row at = value_at entries place row at

  pub row_at : (entries : List (ℕ × Row V)) (place : ℕ) (row : Row V) → slice_get (values_of entries) place ≡ Some row → slice_get (entry_rows entries) place ≡ Some (named_row row)
  row_at [] place row at = absurd cc
  row_at (entry ∷ entries) zero row at = ap (option_map (named_row {V = V})) at
  row_at (entry ∷ entries) (suc place) row at = row_at entries place row at

  pub rows_listed : (entries : List (ℕ × Row V)) → map named_row (values_of entries) ≡ entry_rows entries
  rows_listed [] = refl
  rows_listed (entry ∷ entries) = ap (λ (rest : List (Label × V)). named_row entry.1 ∷ rest) (rows_listed entries)

-- ---- the first that is asked for

module _ {V : Type 0} (key : List ℕ) (name : Option (List ℕ)) (entries : List (ℕ × Row V)) (next : ℕ) (rising : AllPairs (λ left right. left.0 < right.0) (marks_of entries)) (bounded : All (λ mark. (0 < mark.0) × (mark.0 < next)) (marks_of entries)) where
  on_entries : (low : ℕ) → position (is_above low key name) (marks_of entries) ≡ position (λ entry. is_above low key name (mark_of entry)) entries
  on_entries low = sym (position_same mark_of (λ entry. is_above low key name (mark_of entry)) (is_above low key name) entries (λ k d l. refl))

  at : (k : ℕ) (d : ℕ × Row V) → k < length entries → get_or (marks_of entries) k (mark_of d) ≡ mark_of (get_or entries k d)
  at k d l = get_or-map mark_of entries k d (mark_of d) l

  size : length (marks_of entries) ≡ length entries
  size = length-map entries (mark_of {V = V})

  starts : (k : ℕ) (d : ℕ × Row V) → k < length entries → 0 < (get_or entries k d).0
  starts k d l = (let is = ap (λ (m : Mark). m.0) (at k d l) in let more = (bounded k (mark_of d) (omega (arith, l, size))).0 in omega (arith, is, more))

  rises : (j k : ℕ) (d : ℕ × Row V) → j < k → k < length entries → (get_or entries j d).0 < (get_or entries k d).0
  rises j k d before l =
      let first = ap (λ (m : Mark). m.0) (at j d (omega (arith, before, l))) in
      let then = ap (λ (m : Mark). m.0) (at k d l) in
      let up = rising j k (mark_of d) before (omega (arith, l, size)) in
      omega (arith, first, then, up)

  -- above 0 are all numbers
  pub asked_all : position (is_above 0 key name) (marks_of entries) ≡ position (is_asked key name) (entry_rows entries)
  asked_all =
      on_entries 0
      ∙ position_same entry_row (λ entry. is_above 0 key name (mark_of entry)) (is_asked key name) entries (λ k d l. rw (above 0 (get_or entries k d).0 (starts k d l)) refl)

  -- what is found stands in the list, and is asked for
  pub asked_low : (place : ℕ) → Some place ≡ position (is_above 0 key name) (marks_of entries) → place < length entries
  asked_low place is = (let within = (position-Some (is_above 0 key name) (marks_of entries) place (0, ([], [])) (sym is)).0 in omega (arith, within, size))

  pub asked_there : (place : ℕ) (d : ℕ × Row V) → Some place ≡ position (is_above 0 key name) (marks_of entries) → is_asked key name (entry_row (get_or entries place d)) ≡ true
  asked_there place d is =
      let there = position-Some (is_above 0 key name) (marks_of entries) place (mark_of d) (sym is) in
      ap (λ (m : Mark). asks key name m.1) (sym (at place d (asked_low place is)))
      ∙ (and_parts (nat_lt 0 (get_or (marks_of entries) place (mark_of d)).0) (asks key name (get_or (marks_of entries) place (mark_of d)).1) there.1).1

  -- above the number before that at a place are the numbers from there on
  pub asked_from : (from n : ℕ) → slice_get (keys_of entries) from ≡ Some n → 0 < n
      → position (is_above (n - 1) key name) (marks_of entries) ≡ option_map (λ place. from + place) (position (is_asked key name) (drop from (entry_rows entries)))
  asked_from from n is more =
      let low = slice_get_within (keys_of entries) from n is in
      let within : from < length entries = omega (arith, low, length-map entries (λ (entry : ℕ × Row V). entry.0)) in
      let here : (d : ℕ × Row V) → (get_or entries from d).0 ≡ n =
      (λ d. sym (get_or-map (λ (entry : ℕ × Row V). entry.0) entries from d 0 within) ∙ get_or_from_slice_get (keys_of entries) from n 0 is) in
      on_entries (n - 1)
      ∙ position_past entry_row (λ entry. is_above (n - 1) key name (mark_of entry)) (is_asked key name) from entries (omega (arith, within))
      (λ k d l. let up = rises k from d l within in let there = here d in rw (not_above (n - 1) (get_or entries k d).0 (omega (arith, up, there, more))) refl)
      (λ k d le l. let there = here d in
      let over : n ≤ (get_or entries k d).0 = elim (cases_order from k) [
        | inl e ↦ (let same : (get_or entries from d).0 ≡ (get_or entries k d).0 = ap (λ j. (get_or entries j d).0) e in omega (arith, there, same))
        | inr (inl h) ↦ (let up = rises from k d h l in omega (arith, up, there))
        | inr (inr h) ↦ absurd (omega (arith, h, le))
      ] in
      rw (above (n - 1) (get_or entries k d).0 (omega (arith, over, more))) refl)
