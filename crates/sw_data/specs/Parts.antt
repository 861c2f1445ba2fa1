-- The parts of a text between marks, while they are read.
use Rattle.std.specs.Prelude.{ℕ, ◌==◌, List, [], Option}
use Rattle.std.specs.List.{slice_split}
use Rattle.std.specs.Option.{option_map_or}

-- the parts between marks of what is left of a text (own)
abbrev pub parts_left : ℕ → Option (List ℕ) → List (List ℕ)
parts_left mark text = option_map_or (slice_split (λ b. b == mark)) text []
