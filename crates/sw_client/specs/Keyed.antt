-- Rows that stand in a map at their numbers (own).
use Rattle.std.specs.Prelude.{ℕ, ◌≡◌, List, map, nat_eq}
use Rattle.std.specs.List.{IsDistinct}
use Rattle.std.specs.Map.{keys_of, values_of}

-- each row at its number
abbrev pub keyed : {X : Type 0} → (X → ℕ) → List X → List (ℕ × X)
keyed number rows = map (λ row. (number row, row)) rows

-- each row stands at its number, and no number twice
pub record IsKeyed {X : Type 0} (number : X → ℕ) (entries : List (ℕ × X)) : Type 0 where
  pub rows : entries ≡ keyed number (values_of entries)
  pub apart : IsDistinct nat_eq (keys_of entries)
