-- The rows of a table of registrations: how they are found, changed, added and counted.
use Rattle.std.proofs.Common.{◌≡◌, ◌∙◌, ℕ, zero, suc, ◌+◌, ◌<◌, ◌≤◌, ◌^◌, Bool, true, false, not, ◌&&◌, List, [], ◌∷◌, ◌++◌, length, get_or, set, Option, Some, None, is_some, refl, sym, ap, arith, if◌then◌else◌, slice_set, slice_index_or}
use Rattle.std.specs.Option.{option_map_or, option_or}
use Rattle.std.proofs.lemmas.List.{length-append, length-map, length-set, map-append}
use Rattle.sw_data.specs.declared.rows.RegistrationRow.{RegistrationRow}
use Rattle.sw_rules.specs.Rows.{changed}
use Rattle.sw_list.proofs.Placing.{flags_set}
use Rattle.sw_data.specs.declared.workers.Slot.TheVariants as place
use Rattle.sw_reg.specs.declared.edit.Edit.{Edit}
use Rattle.sw_reg.specs.declared.edit.Edit.TheVariants as edit_of
use Rattle.sw_reg.specs.Edits.{edited}
use Rattle.sw_reg.specs.Kept.{ArePlaced, IsListed, IsNewRow}
use Rattle.sw_reg.specs.Table.{firsts, has_first, is_registration, is_there, registration_at}
use Rattle.sw_rules.proofs.Places.{changed_here, found_here, found_none, more_at_places, place_within, set_at_places}

abbrev number : RegistrationRow → ℕ
number row = row.number

pub row_here : (rows : List RegistrationRow) (n : ℕ) (d : RegistrationRow) → ArePlaced rows → n < length rows → registration_at n rows ≡ Some (slice_index_or rows n d)
row_here rows n d placed below = found_here number rows n d placed below

pub row_gone : (rows : List RegistrationRow) (n : ℕ) → ArePlaced rows → length rows ≤ n → registration_at n rows ≡ None
row_gone rows n placed past = found_none number rows n placed past

pub within : (rows : List RegistrationRow) (n : ℕ) → ArePlaced rows → is_there n rows ≡ true → n < length rows
within rows n placed there = place_within number (λ _. true) rows n placed (by (registration_at n rows) there)
  where
    by : (row : Option RegistrationRow) → is_some row ≡ true → option_map_or (λ _. true) row false ≡ true
    by None there = there
    by (Some row) there = refl

-- ---- an edit

pub row_edited : (edit : Edit) (rows : List RegistrationRow) (n : ℕ) (d new : RegistrationRow) → ArePlaced rows → n < length rows
    → new ≡ edited edit (slice_index_or rows n d) → slice_set rows n new ≡ changed (is_registration n) (edited edit) rows
row_edited edit rows n d new placed below is = ap (slice_set rows n) is ∙ changed_here number (edited edit) rows n d placed below

edited_number : (edit : Edit) (row : RegistrationRow) → (edited edit row).number ≡ row.number
edited_number (edit_of.Installing worker) row = refl
edited_number (edit_of.Waiting first) row = refl
edited_number edit_of.Active row = refl
edited_number (edit_of.Leave place.Installing) row = refl
edited_number (edit_of.Leave place.Waiting) row = refl
edited_number (edit_of.Leave place.Active) row = refl
edited_number (edit_of.Mode mode) row = refl
edited_number (edit_of.Owed owed) row = refl

-- an edit leaves a registration that has got a waiting worker one that has
edited_first : (edit : Edit) (row : RegistrationRow) → has_first row ≡ true → has_first (edited edit row) ≡ true
edited_first (edit_of.Installing worker) row has = has
edited_first edit_of.Active row has = has
edited_first (edit_of.Leave place.Installing) row has = has
edited_first (edit_of.Leave place.Waiting) row has = has
edited_first (edit_of.Leave place.Active) row has = has
edited_first (edit_of.Mode mode) row has = has
edited_first (edit_of.Owed owed) row has = has
edited_first (edit_of.Waiting first) row has = by row.first has
  where
    by : (f : Option ℕ) → is_some f ≡ true → is_some (option_or f (Some first)) ≡ true
    by None has = absurd cc
    by (Some n) has = refl

-- there are as many flags as registrations
pub many_flags : (rows : List RegistrationRow) (count : ℕ) (flags : List Bool) → IsListed rows count flags → length flags ≡ length rows
many_flags rows count flags kept = sym (ap length kept.owed) ∙ length-map rows (λ row. row.owed)

-- ---- the count

abbrev one_if : Bool → ℕ
one_if test = if test then 1 else 0

firsts_set : (rows : List RegistrationRow) (n : ℕ) (new d : RegistrationRow) → n < length rows
    → firsts (set rows n new) + one_if (has_first (get_or rows n d)) ≡ firsts rows + one_if (has_first new)
firsts_set [] n new d below = absurd (omega (arith, below))
firsts_set (x ∷ xs) zero new d below = grind arith
firsts_set (x ∷ xs) (suc n) new d below = let rest = firsts_set xs n new d (omega (arith, below)) in grind arith

firsts_most : (rows : List RegistrationRow) → firsts rows ≤ length rows
firsts_most [] = omega arith
firsts_most (x ∷ xs) = let rest = firsts_most xs in grind arith

firsts_below : (rows : List RegistrationRow) (n : ℕ) (d : RegistrationRow) → n < length rows → has_first (get_or rows n d) ≡ false → firsts rows < length rows
firsts_below [] n d below none = absurd (omega (arith, below))
firsts_below (x ∷ xs) zero d below none = let rest = firsts_most xs in grind arith
firsts_below (x ∷ xs) (suc n) d below none = let rest = firsts_below xs n d (omega (arith, below)) none in grind arith

-- the registration has got its first waiting worker
abbrev gets_first : RegistrationRow → RegistrationRow → Bool
gets_first old new = not (has_first old) && has_first new

had_none : (old new : Bool) → (not old && new) ≡ true → (old ≡ false) × (new ≡ true)
had_none false true is = (refl, refl)
had_none false false is = absurd cc
had_none true new is = absurd cc

had_same : (old new : Bool) → (old ≡ true → new ≡ true) → (not old && new) ≡ false → new ≡ old
had_same false false keeps is = refl
had_same false true keeps is = absurd cc
had_same true new keeps is = keeps refl

-- there is room to count one more
pub countable : (rows : List RegistrationRow) (count : ℕ) (flags : List Bool) (n : ℕ) (old new : RegistrationRow) → IsListed rows count flags
    → n < length rows → old ≡ slice_index_or rows n old → gets_first old new ≡ true → count + 1 < 2 ^ 32
countable rows count flags n old new kept below is_at gets =
    let none = ap has_first (sym is_at) ∙ (had_none (has_first old) (has_first new) gets).0 in
    omega (arith, kept.many, kept.counted, firsts_below rows n old below none)

set_kept : (edit : Edit) (rows : List RegistrationRow) (count more : ℕ) (flags : List Bool) (n : ℕ) (old new : RegistrationRow)
    → IsListed rows count flags → n < length rows → old ≡ slice_index_or rows n old → new ≡ edited edit old → more ≡ firsts (slice_set rows n new)
    → IsListed (slice_set rows n new) more (slice_set flags n new.owed)
set_kept edit rows count more flags n old new kept below is_at is counted = record {
  places = set_at_places (λ place row. row.number ≡ place) rows n new kept.places below
      (ap number is ∙ edited_number edit old ∙ ap number is_at ∙ kept.places n old below);
  many = omega (arith, kept.many, length-set rows n new);
  counted = counted;
  owed = flags_set (λ row. row.owed) rows flags n new new.owed kept.owed refl;
}

-- a registration that gets its first waiting worker is counted
pub kept_first : (edit : Edit) (rows : List RegistrationRow) (count : ℕ) (flags : List Bool) (n : ℕ) (old new : RegistrationRow)
    → IsListed rows count flags → n < length rows → old ≡ slice_index_or rows n old → new ≡ edited edit old → gets_first old new ≡ true
    → IsListed (slice_set rows n new) (count + 1) (slice_set flags n new.owed)
kept_first edit rows count flags n old new kept below is_at is gets =
    let sum = firsts_set rows n new old below in
    let counted = kept.counted in
    let had = had_none (has_first old) (has_first new) gets in
    let none = ap has_first (sym is_at) ∙ had.0 in
    let some = had.1 in
    set_kept edit rows count (count + 1) flags n old new kept below is_at is (grind arith)

-- each other one is counted as before
pub kept_same : (edit : Edit) (rows : List RegistrationRow) (count : ℕ) (flags : List Bool) (n : ℕ) (old new : RegistrationRow)
    → IsListed rows count flags → n < length rows → old ≡ slice_index_or rows n old → new ≡ edited edit old → gets_first old new ≡ false
    → IsListed (slice_set rows n new) count (slice_set flags n new.owed)
kept_same edit rows count flags n old new kept below is_at is gets =
    let sum = firsts_set rows n new old below in
    let counted = kept.counted in
    let keeps : has_first old ≡ true → has_first new ≡ true = λ has. ap has_first is ∙ edited_first edit old has in
    let same = had_same (has_first old) (has_first new) keeps gets ∙ ap has_first is_at in
    set_kept edit rows count count flags n old new kept below is_at is (grind arith)

-- ---- one more registration

pub kept_more : (rows : List RegistrationRow) (count : ℕ) (flags : List Bool) (new : RegistrationRow) → IsListed rows count flags → IsNewRow new
    → new.number ≡ length rows → IsListed (rows ++ new ∷ []) count (flags ++ new.owed ∷ [])
kept_more rows count flags new kept fresh is =
    let none : has_first new ≡ false = ap is_some fresh.first in
    record {
      places = more_at_places (λ place row. row.number ≡ place) rows new kept.places is;
      many = omega (arith, is, fresh.number, length-append rows (new ∷ []));
      counted = kept.counted ∙ sym (firsts_more rows new none);
      owed = map-append (λ row. row.owed) rows (new ∷ []) ∙ ap (λ fs. fs ++ new.owed ∷ []) kept.owed;
    }
  where
    firsts_more : (rows : List RegistrationRow) (new : RegistrationRow) → has_first new ≡ false → firsts (rows ++ new ∷ []) ≡ firsts rows
    firsts_more [] new none = grind arith
    firsts_more (x ∷ xs) new none = let rest = firsts_more xs new none in grind arith
