-- What is kept of slots and their holes (own).
use Rattle.std.specs.Prelude.{ℕ, ◌≡◌, ◌<◌, ◌≤◌, ◌-◌, ◌^◌, List, cond, length, min, nat_le}
use Rattle.std.specs.List.{All, AllPairs}
use Rattle.sw_list.specs.declared.holes.Hole.{Hole}
use Rattle.sw_list.specs.declared.slots.Slot.{Slot}
use Rattle.sw_list.specs.Slots.{holes_of}

-- for how many more values there is room, where the holes have this capacity and so many slots are free
abbrev pub spare_of : ℕ → ℕ → ℕ → ℕ
spare_of capacity free next = cond (nat_le 512 capacity) (min free (2 ^ 64 - 1 - next)) 0

-- the numbers rise and are below the next one, the holes are those of the slots, and there is room for one more
pub record IsSpaced {V : Type 0} (slots : List (Slot V)) (holes : List Hole) (capacity next : ℕ) : Type 0 where
  pub rising : AllPairs (λ left right. left.number < right.number) slots
  pub below : All (λ slot. slot.number < next) slots
  pub told : holes ≡ holes_of 0 0 slots
  pub few : length holes < 512
  pub room : 0 < length slots → 512 ≤ capacity
