-- Values under rising numbers, as contracts see them.
use Rattle.std.specs.Prelude.{ℕ, List, [], ◌∷◌, zero, suc}

-- own: the values behind their numbers, in order of adding, the next number, and for how many more values there is room
pub record Numbers (V : Type 0) : Type 0 where
  pub rows : List (ℕ × V)
  pub next : ℕ
  pub spare : ℕ

-- own: the rows with this value at a place
abbrev pub with_value_at : {V : Type 0} → List (ℕ × V) → ℕ → V → List (ℕ × V)
with_value_at [] place value = []
with_value_at (row ∷ rows) zero value = (row.0, value) ∷ rows
with_value_at (row ∷ rows) (suc place) value = row ∷ with_value_at rows place value
