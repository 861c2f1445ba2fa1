-- Numbers that stand in line, by key and scope (own).
use Rattle.std.specs.Prelude.{ℕ, List, [], ◌∷◌, bytes_eq}
use Rattle.std.specs.Map.{lookup}
use Rattle.std.specs.Option.{unwrap_or}

-- own: numbers in order, and how many more have room
pub record InLine : Type 0 where
  pub numbers : List ℕ
  pub spare : ℕ

-- own: nothing stands in line, and nothing has room
abbrev pub no_line : InLine
no_line = record { numbers = []; spare = 0 }

-- own: entries by the bytes of their names
abbrev pub by_name : {K V : Type 0} → (K → List ℕ) → List (K × V) → List (List ℕ × V)
by_name bytes [] = []
by_name bytes (entry ∷ entries) = (bytes entry.0, entry.1) ∷ by_name bytes entries

-- own: what entries have for a name
abbrev pub named : {V : Type 0} → List (List ℕ × V) → List ℕ → V → V
named entries name absent = unwrap_or (lookup (bytes_eq name) entries) absent

abbrev pub Scoped : Type 0
Scoped = List (List ℕ × InLine)

-- own: the line of a scope
abbrev pub line_at : Scoped → List ℕ → InLine
line_at lines scope = named lines scope no_line

abbrev pub Keyed : Type 0
Keyed = List (List ℕ × Scoped)

-- own: the line of a key and a scope
abbrev pub line_in : Keyed → List ℕ → List ℕ → InLine
line_in lines key scope = line_at (named lines key []) scope

-- own: lists of numbers by place, how many more lists have room, and how many more numbers in each
pub record Lists : Type 0 where
  pub lists : List (List ℕ)
  pub spare : ℕ
  pub spares : List ℕ
