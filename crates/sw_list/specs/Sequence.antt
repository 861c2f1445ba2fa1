-- Values under numbers in order of adding, as contracts see them.
use Rattle.std.specs.Prelude.{ℕ, List, [], ◌∷◌, zero, suc}

-- own: the values behind their numbers, in order of adding, and for how many more there is room
pub record Sequence (V : Type 0) : Type 0 where
  pub entries : List (ℕ × V)
  pub spare : ℕ

-- own: the entries with this value at a place
abbrev pub with_value_at : {V : Type 0} → List (ℕ × V) → ℕ → V → List (ℕ × V)
with_value_at [] place value = []
with_value_at (entry ∷ entries) zero value = (entry.0, value) ∷ entries
with_value_at (entry ∷ entries) (suc place) value = entry ∷ with_value_at entries place value
