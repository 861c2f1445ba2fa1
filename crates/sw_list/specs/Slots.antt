-- Slots, the rows that they have and the holes between (own).
use Rattle.std.specs.Prelude.{◌≡◌, ℕ, ◌+◌, List, [], ◌∷◌, Option, Some, cond, is_some, slice_get, suc, zero}
use Rattle.std.specs.List.{filter_map}
use Rattle.std.specs.Option.{option_and_then, option_map}
use Rattle.sw_list.specs.declared.holes.Hole.{Hole}
use Rattle.sw_list.specs.declared.slots.Slot.{Slot}

module _ {V : Type 0} where
  -- the value of a slot behind its number, where it has one
  abbrev pub row_of : Slot V → Option (ℕ × V)
  row_of slot = option_map (λ value. (slot.number, value)) slot.value

  -- the values of slots behind their numbers, in order
  abbrev pub rows_of : List (Slot V) → List (ℕ × V)
  rows_of slots = filter_map row_of slots

  -- the holes among slots of which the first has this place and this many values before it
  abbrev pub holes_of : ℕ → ℕ → List (Slot V) → List Hole
  holes_of place before [] = []
  holes_of place before (slot ∷ slots) = cond (is_some slot.value)
      (holes_of (place + 1) (before + 1) slots)
      (record { slot = place; before = before } ∷ holes_of (place + 1) before slots)

  -- the value of the slot at a place, behind its number
  abbrev pub row_in : ℕ → List (Slot V) → Option (ℕ × V)
  row_in place slots = option_and_then row_of (slice_get slots place)

  -- the value of the slot at a place
  abbrev pub value_in : ℕ → List (Slot V) → Option V
  value_in place slots = option_and_then (λ slot. slot.value) (slice_get slots place)

  -- the slot at a place has a value under this number
  abbrev pub HasNumber : List (Slot V) → ℕ → ℕ → Type 0
  HasNumber slots number place = (value : V) × (row_in place slots ≡ Some (number, value))

  -- the slots with this in the one at a place
  abbrev pub with_value_in : ℕ → Option V → List (Slot V) → List (Slot V)
  with_value_in place value [] = []
  with_value_in zero value (slot ∷ slots) = record slot { value = value } ∷ slots
  with_value_in (suc place) value (slot ∷ slots) = slot ∷ with_value_in place value slots
