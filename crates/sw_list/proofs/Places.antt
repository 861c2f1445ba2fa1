-- Slots and their holes: in which slot a value stands, and what becomes of both where it goes or another comes.
use Rattle.std.proofs.Common.{◌≡◌, ◌∙◌, ◌<◌, ◌≤◌, ◌+◌, ℕ, zero, suc, true, false, nat_eq, List, [], ◌∷◌, ◌++◌, drop, map, length, filter, remove, is_some, slice_get, Option, Some, None, All, refl, sym, ap, subst, inl, inr, arith, ◌⊎◌, ◌-◌, eqb-true, ltb-true, set, true≢false, get_or, position}
use Rattle.std.specs.Prelude.{nat_le, nat_lt}
use Rattle.std.specs.List.Sorted.{IsNonDecreasingBy, IsPartitionPoint, IsPartitionedBy}
use Rattle.std.specs.List.{AllPairs, flat_map}
use Rattle.std.specs.Map.{keys_of, values_of}
use Rattle.std.specs.Option.{IsSome, option_and_then, option_map, option_to_list}
use Rattle.std.proofs.lemmas.Bool.{cases_Bool, cases_order}
use Rattle.std.proofs.lemmas.Bool.Decides.{nat_tests}
use Rattle.std.proofs.lemmas.List.Elements.{All-cons, All-nil, All-tail, All-weaker, filter_map-append}
use Rattle.std.proofs.lemmas.List.Sorted.{IsPartitionedBy-ltb}
use Rattle.std.proofs.lemmas.Option.{none-some, slice_get_read}
use Rattle.sw_list.specs.declared.holes.Hole.{Hole}
use Rattle.sw_list.specs.declared.slots.Slot.{Slot}
use Rattle.sw_list.specs.Holes.{lowered, many_before, many_to, with_hole}
use Rattle.sw_list.specs.Numbers.{with_value_at}
use Rattle.sw_list.specs.Slots.{HasNumber, holes_of, row_in, row_of, rows_of, value_in, with_value_in}
use Rattle.sw_list.proofs.Lists.{position_none, prefix_none, rising_more}

-- the value at a place has so many holes before it, and stands in this slot
pub data IsAt {V : Type 0} : List (Slot V) → ℕ → ℕ → ℕ → Type 0 where
  here : (slot : Slot V) (value : V) (slots : List (Slot V)) → slot.value ≡ Some value → IsAt (slot ∷ slots) zero zero zero
  past_value : (slot : Slot V) (value : V) (slots : List (Slot V)) (place holes at : ℕ) → slot.value ≡ Some value → IsAt slots place holes at → IsAt (slot ∷ slots) (suc place) holes (suc at)
  past_hole : (slot : Slot V) (slots : List (Slot V)) (place holes at : ℕ) → slot.value ≡ None → IsAt slots place holes at → IsAt (slot ∷ slots) place (suc holes) (suc at)

nat_le-true : (a b : ℕ) → a ≤ b → nat_le a b ≡ true
nat_le-true a b h = grind (arith, nat_tests)

nat_le-false : (a b : ℕ) → b < a → nat_le a b ≡ false
nat_le-false a b h = grind (arith, nat_tests)

nat_lt-true : (a b : ℕ) → a < b → nat_lt a b ≡ true
nat_lt-true a b h = grind (arith, nat_tests)

nat_lt-false : (a b : ℕ) → b ≤ a → nat_lt a b ≡ false
nat_lt-false a b h = grind (arith, nat_tests)

-- a hole stands from here on, behind so many values
abbrev From : ℕ → ℕ → Hole → Type 0
From place before hole = (place ≤ hole.slot) × (before ≤ hole.before)

module _ {V : Type 0} where
  -- a slot has a value or is a hole
  pub cases_slot : (slot : Slot V) → ((value : V) × (slot.value ≡ Some value)) ⊎ (slot.value ≡ None)
  cases_slot slot = by slot.value refl
    where
      by : (o : Option V) → slot.value ≡ o → ((value : V) × (slot.value ≡ Some value)) ⊎ (slot.value ≡ None)
      by None e = inr e
      by (Some value) e = inl (value, e)

  -- ---- holes

  -- holes stand from here on
  pub holes_from : (place before : ℕ) (slots : List (Slot V)) → All (From place before) (holes_of place before slots)
  holes_from place before [] = All-nil (From place before)
  holes_from place before (slot ∷ slots) = elim (cases_slot slot) [
    | inl has ↦ rw has.1 (All-weaker (From (place + 1) (before + 1)) (From place before)
        (λ hole low. ((let f = low.0 in omega arith), (let s = low.1 in omega arith))) (holes_of (place + 1) (before + 1) slots) (holes_from (place + 1) (before + 1) slots))
    | inr e ↦ rw e (All-cons (From place before) (record { slot = place; before = before }) (holes_of (place + 1) before slots) (omega arith, omega arith)
        (All-weaker (From (place + 1) before) (From place before) (λ hole low. ((let f = low.0 in omega arith), low.1)) (holes_of (place + 1) before slots) (holes_from (place + 1) before slots)))
  ]

  pub rising_befores : (place before : ℕ) (slots : List (Slot V)) → IsNonDecreasingBy (λ hole. hole.before) (holes_of place before slots)
  rising_befores place before [] = λ i j d le within. absurd (omega arith)
  rising_befores place before (slot ∷ slots) = elim (cases_slot slot) [
    | inl has ↦ rw has.1 (rising_befores (place + 1) (before + 1) slots)
    | inr e ↦ rw e (rising_more (λ (hole : Hole). hole.before) (record { slot = place; before = before }) (holes_of (place + 1) before slots)
        (All-weaker (From (place + 1) before) (λ hole. before ≤ hole.before) (λ hole low. low.1) (holes_of (place + 1) before slots) (holes_from (place + 1) before slots))
        (rising_befores (place + 1) before slots))
  ]

  pub rising_slots : (place before : ℕ) (slots : List (Slot V)) → IsNonDecreasingBy (λ hole. hole.slot) (holes_of place before slots)
  rising_slots place before [] = λ i j d le within. absurd (omega arith)
  rising_slots place before (slot ∷ slots) = elim (cases_slot slot) [
    | inl has ↦ rw has.1 (rising_slots (place + 1) (before + 1) slots)
    | inr e ↦ rw e (rising_more (λ (hole : Hole). hole.slot) (record { slot = place; before = before }) (holes_of (place + 1) before slots)
        (All-weaker (From (place + 1) before) (λ hole. place ≤ hole.slot) (λ hole low. (let f = low.0 in omega arith)) (holes_of (place + 1) before slots) (holes_from (place + 1) before slots))
        (rising_slots (place + 1) before slots))
  ]

  -- each slot is a value or a hole
  pub counted : (place before : ℕ) (slots : List (Slot V)) → length slots ≡ length (rows_of slots) + length (holes_of place before slots)
  counted place before [] = refl
  counted place before (slot ∷ slots) = elim (cases_slot slot) [
    | inl has ↦ (let rest = counted (place + 1) (before + 1) slots in rw has.1 (omega arith))
    | inr e ↦ (let rest = counted (place + 1) before slots in rw e (omega arith))
  ]

  -- no hole stands before a value that comes before them all
  none_before : (place before n : ℕ) (slots : List (Slot V)) → n < before → many_before n (holes_of place before slots) ≡ 0
  none_before place before n slots lower =
      prefix_none (λ hole. nat_le hole.before n) (holes_of place before slots) (All-weaker (From place before) (λ hole. nat_le hole.before n ≡ false) (λ hole low. nat_le-false hole.before n (let f = low.1 in omega arith)) (holes_of place before slots) (holes_from place before slots))

  none_to : (place before n : ℕ) (slots : List (Slot V)) → n ≤ place → many_to n (holes_of place before slots) ≡ 0
  none_to place before n slots lower =
      prefix_none (λ hole. nat_lt hole.slot n) (holes_of place before slots) (All-weaker (From place before) (λ hole. nat_lt hole.slot n ≡ false) (λ hole low. nat_lt-false hole.slot n (let f = low.0 in omega arith)) (holes_of place before slots) (holes_from place before slots))

  -- ---- where a value stands

  moved : {slots : List (Slot V)} {i k j : ℕ} (k' j' : ℕ) → IsAt slots i k j → k' ≡ k → j' ≡ j → IsAt slots i k' j'
  moved {slots = slots} {i = i} {k = k} k' j' at e f = subst (λ n. IsAt slots i n j') (sym e) (subst (λ n. IsAt slots i k n) (sym f) at)

  no_more : (place before : ℕ) (slot : Slot V) (value : V) (slots : List (Slot V)) → slot.value ≡ Some value → holes_of place before (slot ∷ slots) ≡ holes_of (place + 1) (before + 1) slots
  no_more place before slot value slots e = rw e refl

  one_more : (place before : ℕ) (slot : Slot V) (slots : List (Slot V)) → slot.value ≡ None → holes_of place before (slot ∷ slots) ≡ record { slot = place; before = before } ∷ holes_of (place + 1) before slots
  one_more place before slot slots e = rw e refl

  before_more : (place before i : ℕ) (slot : Slot V) (slots : List (Slot V)) → slot.value ≡ None
      → many_before (before + i) (holes_of place before (slot ∷ slots)) ≡ suc (many_before (before + i) (holes_of (place + 1) before slots))
  before_more place before i slot slots e = ap (many_before (before + i)) (one_more place before slot slots e) ∙ rw (nat_le-true before (before + i) (omega arith)) (omega arith)

  to_more : (place before j : ℕ) (slot : Slot V) (slots : List (Slot V)) → slot.value ≡ None
      → many_to (place + suc j) (holes_of place before (slot ∷ slots)) ≡ suc (many_to (place + suc j) (holes_of (place + 1) before slots))
  to_more place before j slot slots e = ap (many_to (place + suc j)) (one_more place before slot slots e) ∙ rw (nat_lt-true place (place + suc j) (omega arith)) (omega arith)

  -- a value stands past the holes before it
  pub at_place : (place before i : ℕ) (slots : List (Slot V)) → i < length (rows_of slots)
      → IsAt slots i (many_before (before + i) (holes_of place before slots)) (i + many_before (before + i) (holes_of place before slots))
  at_place place before i [] within = absurd (omega arith)
  at_place place before zero (slot ∷ slots) within = elim (cases_slot slot) [
    | inl has ↦
        let none = ap (many_before (before + 0)) (no_more place before slot has.0 slots has.1) ∙ none_before (place + 1) (before + 1) (before + 0) slots (omega arith) in
        moved _ _ (here slot has.0 slots has.1) none (omega arith)
    | inr e ↦ (let more = before_more place before 0 slot slots e in moved _ _ (past_hole slot slots _ _ _ e (at_place (place + 1) before 0 slots (rw e at within))) more (omega arith))
  ]
  at_place place before (suc i) (slot ∷ slots) within = elim (cases_slot slot) [
    | inl has ↦
        let holes = holes_of (place + 1) (before + 1) slots in
        let rest = at_place (place + 1) (before + 1) i slots (let w = rw has.1 at within in omega arith) in
        let number : before + suc i ≡ before + 1 + i = omega arith in
        let same : many_before (before + suc i) (holes_of place before (slot ∷ slots)) ≡ many_before (before + 1 + i) holes =
        ap (many_before (before + suc i)) (no_more place before slot has.0 slots has.1) ∙ ap (λ n. many_before n holes) number in
        moved _ _ (past_value slot has.0 slots _ _ _ has.1 rest) same (omega arith)
    | inr e ↦ (let more = before_more place before (suc i) slot slots e in moved _ _ (past_hole slot slots _ _ _ e (at_place (place + 1) before (suc i) slots (rw e at within))) more (omega arith))
  ]

  -- the same of holes and rows as they are seen
  pub at_holes : (slots : List (Slot V)) (holes : List Hole) (rows : List (ℕ × V)) (i k : ℕ) → rows_of slots ≡ rows → i < length rows → holes ≡ holes_of 0 0 slots → k ≡ many_before i holes → IsAt slots i k (i + k)
  at_holes slots holes rows i k seen low told is =
      let zero : i ≡ 0 + i = omega arith in
      let same : k ≡ many_before (0 + i) (holes_of 0 0 slots) = is ∙ (λ t. many_before (zero t) (told t)) in
      moved _ _ (at_place 0 0 i slots (subst (λ rows. i < length rows) (sym seen) low)) same (ap (λ n. i + n) same)

  -- and the slot of a value tells its place
  pub at_slot : (place before j : ℕ) (slots : List (Slot V)) (row : ℕ × V) → row_in j slots ≡ Some row → (i : ℕ) × IsAt slots i (many_to (place + j) (holes_of place before slots)) j
  at_slot place before j [] row is = absurd (none-some row is)
  at_slot place before zero (slot ∷ slots) row is = elim (cases_slot slot) [
    | inl has ↦
        let none = ap (many_to (place + 0)) (no_more place before slot has.0 slots has.1) ∙ none_to (place + 1) (before + 1) (place + 0) slots (omega arith) in
        (0, moved _ _ (here slot has.0 slots has.1) none refl)
    | inr e ↦ absurd (none-some row (rw e at is))
  ]
  at_slot place before (suc j) (slot ∷ slots) row is =
      let number : place + suc j ≡ place + 1 + j = omega arith in
      elim (cases_slot slot) [
        | inl has ↦
            let holes = holes_of (place + 1) (before + 1) slots in
            let rest = at_slot (place + 1) (before + 1) j slots row is in
            let same : many_to (place + suc j) (holes_of place before (slot ∷ slots)) ≡ many_to (place + 1 + j) holes =
            ap (many_to (place + suc j)) (no_more place before slot has.0 slots has.1) ∙ ap (λ n. many_to n holes) number in
            (suc rest.0, moved _ _ (past_value slot has.0 slots _ _ _ has.1 rest.1) same refl)
        | inr e ↦
            let holes = holes_of (place + 1) before slots in
            let rest = at_slot (place + 1) before j slots row is in
            let same : many_to (place + suc j) (holes_of place before (slot ∷ slots)) ≡ suc (many_to (place + 1 + j) holes) =
            to_more place before j slot slots e ∙ ap (λ n. suc (many_to n holes)) number in
            (rest.0, moved _ _ (past_hole slot slots _ _ _ e rest.1) same refl)
      ]

  -- the same of a number, and holes as they are seen
  pub at_number : (slots : List (Slot V)) (holes : List Hole) (n j k : ℕ) → HasNumber slots n j → holes ≡ holes_of 0 0 slots → k ≡ many_to j holes → (i : ℕ) × IsAt slots i k j
  at_number slots holes n j k has told is =
      let at = at_slot 0 0 j slots (n, has.0) has.1 in
      let zero : j ≡ 0 + j = omega arith in
      (at.0, moved _ _ at.1 (is ∙ (λ t. many_to (zero t) (told t))) refl)

  pub sum : {slots : List (Slot V)} {i k j : ℕ} → IsAt slots i k j → j ≡ i + k
  sum (here slot value slots e) = omega arith
  sum (past_value slot value slots place holes at e rest) = (let s = sum rest in omega arith)
  sum (past_hole slot slots place holes at e rest) = (let s = sum rest in omega arith)

  pub few_holes : {slots : List (Slot V)} {i k j : ℕ} (place before : ℕ) → IsAt slots i k j → k ≤ length (holes_of place before slots)
  few_holes p b (here slot value slots e) = omega arith
  few_holes p b (past_value slot value slots place holes at e rest) = (let low = few_holes (p + 1) (b + 1) rest in rw e (omega arith))
  few_holes p b (past_hole slot slots place holes at e rest) = (let low = few_holes (p + 1) b rest in rw e (omega arith))

  pub within : {slots : List (Slot V)} {i k j : ℕ} → IsAt slots i k j → j < length slots
  within (here slot value slots e) = omega arith
  within (past_value slot value slots place holes at e rest) = (let w = within rest in omega arith)
  within (past_hole slot slots place holes at e rest) = (let w = within rest in omega arith)

  -- the row there
  pub read : {slots : List (Slot V)} {i k j : ℕ} → IsAt slots i k j → row_in j slots ≡ slice_get (rows_of slots) i
  read (here slot value slots e) = rw e refl
  read (past_value slot value slots place holes at e rest) = rw e (read rest)
  read (past_hole slot slots place holes at e rest) = rw e (read rest)

  pub read_slot : {slots : List (Slot V)} {i k j : ℕ} → IsAt slots i k j → option_map row_of (slice_get slots j) ≡ option_map Some (slice_get (rows_of slots) i)
  read_slot (here slot value slots e) = rw e refl
  read_slot (past_value slot value slots place holes at e rest) = rw e (read_slot rest)
  read_slot (past_hole slot slots place holes at e rest) = rw e (read_slot rest)

  -- ---- a value that goes

  lowered_all : (place before : ℕ) (slots : List (Slot V)) → holes_of place before slots ≡ map lowered (holes_of place (before + 1) slots)
  lowered_all place before [] = refl
  lowered_all place before (slot ∷ slots) = elim (cases_slot slot) [
    | inl has ↦ rw has.1 (lowered_all (place + 1) (before + 1) slots)
    | inr e ↦ (let same : before ≡ before + 1 - 1 = omega arith in rw e (λ i. record { slot = place; before = same i } ∷ lowered_all (place + 1) before slots i))
  ]

  -- a value stands before each hole behind it
  pub behind : {slots : List (Slot V)} {i k j : ℕ} (place before : ℕ) → IsAt slots i k j → All (λ hole. 0 < hole.before) (drop k (holes_of place before slots))
  behind p b (here slot value slots e) = rw e (All-weaker (From (p + 1) (b + 1)) (λ hole. 0 < hole.before) (λ hole low. (let s = low.1 in omega arith)) (holes_of (p + 1) (b + 1) slots) (holes_from (p + 1) (b + 1) slots))
  behind p b (past_value slot value slots place holes at e rest) = rw e (behind (p + 1) (b + 1) rest)
  behind p b (past_hole slot slots place holes at e rest) = rw e (behind (p + 1) b rest)

  pub emptied_rows : {slots : List (Slot V)} {i k j : ℕ} → IsAt slots i k j → rows_of (with_value_in j None slots) ≡ remove (rows_of slots) i
  emptied_rows (here slot value slots e) = rw e refl
  emptied_rows (past_value slot value slots place holes at e rest) = rw e (ap (λ rows. (slot.number, value) ∷ rows) (emptied_rows rest))
  emptied_rows (past_hole slot slots place holes at e rest) = rw e (emptied_rows rest)

  pub emptied_holes : {slots : List (Slot V)} {i k j : ℕ} (place before : ℕ) → IsAt slots i k j
      → holes_of place before (with_value_in j None slots) ≡ with_hole k (record { slot = place + j; before = before + i }) (holes_of place before slots)
  emptied_holes p b (here slot value slots e) =
      let first : p ≡ p + 0 = omega arith in
      let second : b ≡ b + 0 = omega arith in
      rw e (λ t. record { slot = first t; before = second t } ∷ lowered_all (p + 1) b slots t)
  emptied_holes p b (past_value slot value slots place holes at e rest) =
      let first : p + 1 + at ≡ p + suc at = omega arith in
      let second : b + 1 + place ≡ b + suc place = omega arith in
      rw e (emptied_holes (p + 1) (b + 1) rest ∙ (λ t. with_hole holes (record { slot = first t; before = second t }) (holes_of (p + 1) (b + 1) slots)))
  emptied_holes p b (past_hole slot slots place holes at e rest) =
      let first : p + 1 + at ≡ p + suc at = omega arith in
      rw e (λ t. record { slot = p; before = b } ∷ (emptied_holes (p + 1) b rest ∙ (λ u. with_hole holes (record { slot = first u; before = b + place }) (holes_of (p + 1) b slots))) t)

  -- ---- a value that is written

  pub written_rows : {slots : List (Slot V)} {i k j : ℕ} (new : V) → IsAt slots i k j → rows_of (with_value_in j (Some new) slots) ≡ with_value_at (rows_of slots) i new
  written_rows new (here slot value slots e) = rw e refl
  written_rows new (past_value slot value slots place holes at e rest) = rw e (ap (λ rows. (slot.number, value) ∷ rows) (written_rows new rest))
  written_rows new (past_hole slot slots place holes at e rest) = rw e (written_rows new rest)

  pub written_holes : {slots : List (Slot V)} {i k j : ℕ} (place before : ℕ) (new : V) → IsAt slots i k j → holes_of place before (with_value_in j (Some new) slots) ≡ holes_of place before slots
  written_holes p b new (here slot value slots e) = rw e refl
  written_holes p b new (past_value slot value slots place holes at e rest) = rw e (written_holes (p + 1) (b + 1) new rest)
  written_holes p b new (past_hole slot slots place holes at e rest) = rw e (ap (λ holes. record { slot = p; before = b } ∷ holes) (written_holes (p + 1) b new rest))

  -- ---- one more value, and none but values

  pub added_rows : (slots : List (Slot V)) (number : ℕ) (value : V) → rows_of (slots ++ record { number = number; value = Some value } ∷ []) ≡ rows_of slots ++ (number, value) ∷ []
  added_rows slots number value = filter_map-append row_of slots (record { number = number; value = Some value } ∷ [])

  pub added_holes : (place before : ℕ) (slots : List (Slot V)) (number : ℕ) (value : V) → holes_of place before (slots ++ record { number = number; value = Some value } ∷ []) ≡ holes_of place before slots
  added_holes place before [] number value = refl
  added_holes place before (slot ∷ slots) number value = elim (cases_slot slot) [
    | inl has ↦ rw has.1 (added_holes (place + 1) (before + 1) slots number value)
    | inr e ↦ rw e (ap (λ holes. record { slot = place; before = before } ∷ holes) (added_holes (place + 1) before slots number value))
  ]

  pub squeezed_rows : (slots : List (Slot V)) → rows_of (filter (λ slot. is_some slot.value) slots) ≡ rows_of slots
  squeezed_rows [] = refl
  squeezed_rows (slot ∷ slots) = elim (cases_slot slot) [
    | inl has ↦ rw has.1 (ap (λ rows. (slot.number, has.0) ∷ rows) (squeezed_rows slots))
    | inr e ↦ rw e (squeezed_rows slots)
  ]

  pub squeezed_holes : (place before : ℕ) (slots : List (Slot V)) → holes_of place before (filter (λ slot. is_some slot.value) slots) ≡ []
  squeezed_holes place before [] = refl
  squeezed_holes place before (slot ∷ slots) = elim (cases_slot slot) [
    | inl has ↦ rw has.1 (squeezed_holes (place + 1) (before + 1) slots)
    | inr e ↦ rw e (squeezed_holes place before slots)
  ]

  -- ---- numbers

  no_key : (slots : List (Slot V)) (n : ℕ) → All (λ slot. slot.number ≡ n → slot.value ≡ None) slots → All (λ key. nat_eq n key ≡ false) (keys_of (rows_of slots))
  no_key [] n none = All-nil (λ key. nat_eq n key ≡ false)
  no_key (slot ∷ slots) n none =
      let rest = no_key slots n (All-tail (λ slot. slot.number ≡ n → slot.value ≡ None) slot slots none) in
      elim (cases_slot slot) [
        | inl has ↦
            let other : nat_eq n slot.number ≡ false = elim (cases_Bool (nat_eq n slot.number)) [
              | inl e ↦ absurd (none-some has.0 (sym (none 0 slot (omega arith) (sym (eqb-true n slot.number e))) ∙ has.1))
              | inr e ↦ e
            ] in
            rw has.1 (All-cons (λ key. nat_eq n key ≡ false) slot.number (keys_of (rows_of slots)) other rest)
        | inr e ↦ rw e rest
      ]

  pub parted : (slots : List (Slot V)) (n : ℕ) → AllPairs (λ left right. left.number < right.number) slots → IsPartitionedBy (λ slot. nat_lt slot.number n) slots
  parted slots n rising = IsPartitionedBy-ltb (λ slot. slot.number) slots n (λ i j d le low. elim (cases_order i j) [
    | inl e ↦ (let same : (get_or slots i d).number ≡ (get_or slots j d).number = ap (λ k. (get_or slots k d).number) e in omega arith)
    | inr (inl before) ↦ (let up = rising i j d before low in omega arith)
    | inr (inr past) ↦ absurd (omega arith)
  ])

  -- a slot that has a value under its number
  pub numbered : (slots : List (Slot V)) (slot : Slot V) (p n : ℕ) → p < length slots → slot ≡ get_or slots p slot → slot.number ≡ n → true ≡ is_some slot.value → HasNumber slots n p
  numbered slots slot p n low at number some = elim (cases_slot slot) [
    | inl has ↦ (has.0, ap (option_and_then row_of) (slice_get_read slots (length slots) p slot refl low at) ∙ (λ t. option_map (λ value. (number t, value)) (has.1 t)))
    | inr e ↦ absurd (true≢false (some ∙ ap is_some e))
  ]

  -- where a search ends beside a number that has no value, none has
  pub not_numbered : (slots : List (Slot V)) (n p : ℕ) → AllPairs (λ left right. left.number < right.number) slots
      → IsPartitionPoint (λ slot. nat_lt slot.number n ≡ true) (λ slot. nat_lt slot.number n ≡ false) slots p
      → ((d : Slot V) → p < length slots → (get_or slots p d).number ≡ n → (get_or slots p d).value ≡ None) → position (nat_eq n) (keys_of (rows_of slots)) ≡ None
  not_numbered slots n p rising point beside = position_none (nat_eq n) (keys_of (rows_of slots)) (no_key slots n (λ k d low is. elim (cases_order k p) [
    | inl e ↦
        let same : get_or slots k d ≡ get_or slots p d = ap (λ i. get_or slots i d) e in
        let under : p < length slots = omega (arith, e, low) in
        ap (λ (slot : Slot V). slot.value) same ∙ beside d under (ap (λ (slot : Slot V). slot.number) (sym same) ∙ is)
    | inr (inl before) ↦ absurd (let lower = ltb-true _ _ (point.0 k d (omega arith) before) in omega arith)
    | inr (inr past) ↦ absurd (
        let up = rising p k d past low in
        let over : nat_lt (get_or slots p d).number n ≡ true = nat_lt-true (get_or slots p d).number n (omega arith) in
        true≢false (sym over ∙ point.1 p d (omega arith) (omega arith)))
  ]))

  pub no_value : (slot : Slot V) → is_some slot.value ≡ false → slot.value ≡ None
  no_value slot none = elim (cases_slot slot) [
    | inl has ↦ absurd (true≢false (ap is_some (sym has.1) ∙ none))
    | inr e ↦ e
  ]

  -- ---- one slot

  pub value_read : (slots : List (Slot V)) (i : ℕ) (slot : Slot V) → i < length slots → slot ≡ get_or slots i slot → value_in i slots ≡ slot.value
  value_read slots i slot low at = ap (option_and_then (λ (slot : Slot V). slot.value)) (slice_get_read slots (length slots) i slot refl low at)

  pub set_value : (slots : List (Slot V)) (i : ℕ) (slot : Slot V) (value : Option V) → slot ≡ get_or slots i slot → set slots i (record { number = slot.number; value = value }) ≡ with_value_in i value slots
  set_value [] i slot value at = refl
  set_value (first ∷ slots) zero slot value at = ap (λ (number : ℕ). record { number = number; value = value } ∷ slots) (ap (λ (slot : Slot V). slot.number) at)
  set_value (first ∷ slots) (suc i) slot value at = ap (λ rest. first ∷ rest) (set_value slots i slot value at)

  pub some_value : {slots : List (Slot V)} {i k j : ℕ} → IsAt slots i k j → IsSome (value_in j slots)
  some_value (here slot value slots e) = rw e refl
  some_value (past_value slot value slots place holes at e rest) = some_value rest
  some_value (past_hole slot slots place holes at e rest) = some_value rest

  pub value_found : {slots : List (Slot V)} {i k j : ℕ} → IsAt slots i k j → slice_get (values_of (rows_of slots)) i ≡ value_in j slots
  value_found (here slot value slots e) = rw e refl
  value_found (past_value slot value slots place holes at e rest) = rw e (value_found rest)
  value_found (past_hole slot slots place holes at e rest) = rw e (value_found rest)

  pub values_there : (slots : List (Slot V)) → flat_map (λ slot. option_to_list slot.value) slots ≡ values_of (rows_of slots)
  values_there [] = refl
  values_there (slot ∷ slots) = elim (cases_slot slot) [
    | inl has ↦ rw has.1 (ap (λ values. has.0 ∷ values) (values_there slots))
    | inr e ↦ rw e (values_there slots)
  ]
