-- What is kept of rows and of the stamps of their numbers (own).
use Rattle.std.specs.Prelude.{ℕ, ◌≡◌, ◌<◌, List, map, nat_eq}
use Rattle.std.specs.List.{All, AllPairs, IsDistinct}
use Rattle.std.specs.Map.{keys_of, lookup}
use Rattle.sw_list.specs.declared.ordered.Row.{Row}

-- a value behind its number
abbrev pub entry_of : {V : Type 0} → ℕ × Row V → ℕ × V
entry_of row = (row.1.number, row.1.value)

-- a stamp behind its number
abbrev pub mark_of : {V : Type 0} → ℕ × Row V → ℕ × ℕ
mark_of row = (row.1.number, row.0)

-- the values of rows behind their stamps, in order
abbrev pub entries_of : {V : Type 0} → List (ℕ × Row V) → List (ℕ × V)
entries_of rows = map entry_of rows

-- the stamps of rows, in order
abbrev pub marks_of : {V : Type 0} → List (ℕ × Row V) → List (ℕ × ℕ)
marks_of rows = map mark_of rows

-- the stamps rise and are below the next one, no number stands twice, and the index finds the stamp of each number
pub record IsStamped (marks index : List (ℕ × ℕ)) (next : ℕ) : Type 0 where
  pub rising : AllPairs (λ left right. left.1 < right.1) marks
  pub below : All (λ mark. mark.1 < next) marks
  pub apart : IsDistinct nat_eq (keys_of marks)
  pub found : (number : ℕ) → lookup (nat_eq number) index ≡ lookup (nat_eq number) marks
