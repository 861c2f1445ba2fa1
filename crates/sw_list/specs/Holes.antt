-- Holes among slots (own).
use Rattle.std.specs.Prelude.{ℕ, ◌-◌, List, ◌∷◌, ◌++◌, drop, map, nat_le, nat_lt, take}
use Rattle.std.specs.List.{prefix_len}
use Rattle.sw_list.specs.declared.holes.Hole.{Hole}

-- how many holes stand before the value at a place
abbrev pub many_before : ℕ → List Hole → ℕ
many_before place holes = prefix_len (λ hole. nat_le hole.before place) holes

-- how many holes stand before a slot
abbrev pub many_to : ℕ → List Hole → ℕ
many_to slot holes = prefix_len (λ hole. nat_lt hole.slot slot) holes

-- the hole with one value less before it
abbrev pub lowered : Hole → Hole
lowered hole = record hole { before = hole.before - 1 }

-- the holes with one more at a place, which was a value
abbrev pub with_hole : ℕ → Hole → List Hole → List Hole
with_hole place hole holes = take place holes ++ hole ∷ map lowered (drop place holes)
