-- What is kept where a value comes, goes or is written.
use Rattle.std.proofs.Common.{◌≡◌, ◌∙◌, ◌<◌, ◌≤◌, ◌+◌, ℕ, zero, suc, false, true, List, [], ◌∷◌, ◌++◌, get_or, length, set, nat_eq, position, Option, None, Some, All, refl, sym, ap, inl, inr, arith, ◌-◌, ◌^◌}
use Rattle.std.specs.Prelude.{min, nat_le}
use Rattle.std.specs.List.{AllPairs}
use Rattle.std.specs.Map.{keys_of}
use Rattle.std.proofs.lemmas.Bool.{cases_lt}
use Rattle.std.proofs.lemmas.Bool.Decides.{nat_tests}
use Rattle.std.proofs.lemmas.List.Elements.{All-cons, All-head, All-nil, All-push, All-tail}
use Rattle.std.proofs.lemmas.List.Quantifiers.{all_pairs_push}
use Rattle.sw_list.specs.declared.holes.Hole.{Hole}
use Rattle.sw_list.specs.declared.slots.Slot.{Slot}
use Rattle.sw_list.specs.Holes.{with_hole}
use Rattle.sw_list.specs.Kept.{IsSpaced, spare_of}
use Rattle.sw_list.specs.Slots.{HasNumber, holes_of, rows_of, with_value_in}
use Rattle.sw_list.proofs.Lists.{pairs_first, pairs_more, pairs_rest, position_found}
use Rattle.sw_list.proofs.Places.{IsAt, added_holes, cases_slot, emptied_holes, read, set_value, sum, written_holes}

abbrev Rise : {V : Type 0} → Slot V → Slot V → Type 0
Rise left right = left.number < right.number

spare_none : (capacity free next : ℕ) → capacity < 512 → spare_of capacity free next ≡ 0
spare_none capacity free next low = (let out : nat_le 512 capacity ≡ false = grind (arith, nat_tests) in rw out refl)

spare_some : (capacity free next : ℕ) → 512 ≤ capacity → spare_of capacity free next ≡ min free (2 ^ 64 - 1 - next)
spare_some capacity free next high = (let has : nat_le 512 capacity ≡ true = grind (arith, nat_tests) in rw has refl)

-- where there is room, the holes have it, a slot is free and a number too
pub spare_room : (capacity free next : ℕ) → 0 < spare_of capacity free next → (512 ≤ capacity) × (0 < free) × (next < 2 ^ 64 - 1)
spare_room capacity free next room = elim (cases_lt capacity 512) [
  | inl low ↦ absurd (
      let none : spare_of capacity free next ≡ 0 = spare_none capacity free next low in
      omega arith)
  | inr high ↦
      let some : spare_of capacity free next ≡ min free (2 ^ 64 - 1 - next) = spare_some capacity free next high in
      (high, omega arith, omega arith)
]

module _ {V : Type 0} where
  -- ---- numbers

  pub rows_all : (P : ℕ → Type 0) (slots : List (Slot V)) → All (λ slot. P slot.number) slots → All (λ row. P row.0) (rows_of slots)
  rows_all P [] all = All-nil (λ row. P row.0)
  rows_all P (slot ∷ slots) all =
      let rest = rows_all P slots (All-tail (λ slot. P slot.number) slot slots all) in
      elim (cases_slot slot) [
        | inl has ↦ rw has.1 (All-cons (λ row. P row.0) (slot.number, has.0) (rows_of slots) (All-head (λ slot. P slot.number) slot slots all) rest)
        | inr e ↦ rw e rest
      ]

  pub rows_rising : (slots : List (Slot V)) → AllPairs Rise slots → AllPairs (λ left right. left.0 < right.0) (rows_of slots)
  rows_rising [] up = λ i j d lt low. absurd (omega arith)
  rows_rising (slot ∷ slots) up =
      let rest = rows_rising slots (pairs_rest Rise slot slots up) in
      elim (cases_slot slot) [
        | inl has ↦ rw has.1 (pairs_more (λ left right. left.0 < right.0) (slot.number, has.0) (rows_of slots) (rows_all (λ n. slot.number < n) slots (pairs_first Rise slot slots up)) rest)
        | inr e ↦ rw e rest
      ]

  -- the place of a number is that of its slot less the holes before
  pub place_there : (slots : List (Slot V)) (n i k j : ℕ) → AllPairs Rise slots → HasNumber slots n j → IsAt slots i k j → Some (j - k) ≡ position (nat_eq n) (keys_of (rows_of slots))
  place_there slots n i k j up has at =
      let place : j - k ≡ i = (let all = sum at in omega arith) in
      ap Some place ∙ sym (position_found (rows_of slots) n i has.0 (rows_rising slots up) (sym (read at) ∙ has.1))

  written_all : (P : ℕ → Type 0) (i : ℕ) (value : Option V) (slots : List (Slot V)) → All (λ slot. P slot.number) slots → All (λ slot. P slot.number) (with_value_in i value slots)
  written_all P i value [] all = all
  written_all P zero value (slot ∷ slots) all =
      All-cons (λ slot. P slot.number) (record slot { value = value }) slots (All-head (λ slot. P slot.number) slot slots all) (All-tail (λ slot. P slot.number) slot slots all)
  written_all P (suc i) value (slot ∷ slots) all =
      All-cons (λ slot. P slot.number) slot (with_value_in i value slots) (All-head (λ slot. P slot.number) slot slots all) (written_all P i value slots (All-tail (λ slot. P slot.number) slot slots all))

  written_rising : (i : ℕ) (value : Option V) (slots : List (Slot V)) → AllPairs Rise slots → AllPairs Rise (with_value_in i value slots)
  written_rising i value [] up = up
  written_rising zero value (slot ∷ slots) up = pairs_more Rise (record slot { value = value }) slots (pairs_first Rise slot slots up) (pairs_rest Rise slot slots up)
  written_rising (suc i) value (slot ∷ slots) up =
      pairs_more Rise slot (with_value_in i value slots) (written_all (λ n. slot.number < n) i value slots (pairs_first Rise slot slots up)) (written_rising i value slots (pairs_rest Rise slot slots up))

  pub length_written : (i : ℕ) (value : Option V) (slots : List (Slot V)) → length (with_value_in i value slots) ≡ length slots
  length_written i value [] = refl
  length_written zero value (slot ∷ slots) = refl
  length_written (suc i) value (slot ∷ slots) = ap suc (length_written i value slots)

  -- ---- what is kept

  pub kept_added : (slots : List (Slot V)) (holes : List Hole) (capacity next : ℕ) (value : V) → 512 ≤ capacity → IsSpaced slots holes capacity next
      → IsSpaced (slots ++ record { number = next; value = Some value } ∷ []) holes capacity (next + 1)
  kept_added slots holes capacity next value room kept =
      let slot : Slot V = record { number = next; value = Some value } in
      record {
        rising = all_pairs_push Rise slots slot kept.rising kept.below;
        below = All-push (λ slot. slot.number < next + 1) slots slot (λ k d low. (let was = kept.below k d low in omega arith)) (omega arith);
        told = kept.told ∙ sym (added_holes 0 0 slots next value);
        few = kept.few;
        room = λ some. room;
      }

  pub kept_written : (slots : List (Slot V)) (holes : List Hole) (capacity next i k j : ℕ) (value : V) → IsAt slots i k j → IsSpaced slots holes capacity next
      → IsSpaced (with_value_in j (Some value) slots) holes capacity next
  kept_written slots holes capacity next i k j value at kept = record {
    rising = written_rising j (Some value) slots kept.rising;
    below = written_all (λ n. n < next) j (Some value) slots kept.below;
    told = kept.told ∙ sym (written_holes 0 0 value at);
    few = kept.few;
    room = λ some. kept.room (omega (arith, length_written j (Some value) slots));
  }

  -- the slots where a value went
  pub emptied : (slots : List (Slot V)) (j : ℕ) (slot new : Slot V) → slot ≡ get_or slots j slot → new ≡ record { number = slot.number; value = None } → set slots j new ≡ with_value_in j None slots
  emptied slots j slot new at is = ap (set slots j) is ∙ set_value slots j slot None at

  -- their holes
  pub emptied_told : (slots : List (Slot V)) (holes : List Hole) (i k j : ℕ) → IsAt slots i k j → holes ≡ holes_of 0 0 slots
      → with_hole k (record { slot = j; before = i }) holes ≡ holes_of 0 0 (with_value_in j None slots)
  emptied_told slots holes i k j at told =
      let first : j ≡ 0 + j = omega arith in
      let second : i ≡ 0 + i = omega arith in
      (λ t. with_hole k (record { slot = first t; before = second t }) (told t)) ∙ sym (emptied_holes 0 0 at)

  pub emptied_rising : (j : ℕ) (slots : List (Slot V)) → AllPairs Rise slots → AllPairs Rise (with_value_in j None slots)
  emptied_rising j slots up = written_rising j None slots up

  pub emptied_below : (j next : ℕ) (slots : List (Slot V)) → All (λ slot. slot.number < next) slots → All (λ slot. slot.number < next) (with_value_in j None slots)
  emptied_below j next slots all = written_all (λ n. n < next) j None slots all
