-- What is left of a combined value while it is read, and the parts of Vary.
use Rattle.std.specs.Prelude.{ℕ, Bool, ◌==◌, ◌||◌, List, ◌++◌, codes, length, flat_map, if◌then◌else◌}
use Rattle.sw_data.specs.declared.exchange.Header.{Header}
use Rattle.sw_data.specs.Headers.{same_name, trimmed, values_of}
use Rattle.sw_rules.specs.Matching.{same_values}

-- a value behind a comma and a space
abbrev pub marked : List ℕ → List ℕ
marked value = codes ", " ++ value

-- what further values of a field add to a combined value
abbrev pub further : List ℕ → List Header → List ℕ
further name headers = flat_map marked (values_of name headers)

-- a value, behind a space or not
abbrev pub spaced : Bool → List ℕ → List ℕ
spaced space value = if space then codes " " ++ value else value

-- a part of Vary names all
abbrev pub is_star : List ℕ → Bool
is_star part = same_name (codes "*") (trimmed part)

-- a part of Vary names no field, or one of which both lists have the same combined value
abbrev pub agrees : List Header → List Header → List ℕ → Bool
agrees query item part = length (trimmed part) == 0 || same_values query item (trimmed part)
