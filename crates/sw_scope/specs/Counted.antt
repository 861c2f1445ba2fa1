-- The distinct lengths of the scopes of one key, longest first, each with how many scopes have it (own).
use Rattle.std.specs.Prelude.{◌≡◌, ℕ, suc, ◌+◌, ◌-◌, ◌<◌, ◌==◌, nat_lt, Bool, false, List, [], ◌∷◌, length, map, Option, None, if◌then◌else◌}
use Rattle.std.specs.Option.{option_or}
use Rattle.sw_scope.specs.declared.lengths.Counted.{Counted}

-- entries before their keys are read as bytes
abbrev pub bare : {K V : Type 0} → (K → List ℕ) → List (K × V) → List (List ℕ × V)
bare bytes entries = map (λ entry. (bytes entry.0, entry.1)) entries

-- how many scopes have a length
abbrev pub scopes_of : List Counted → ℕ → ℕ
scopes_of [] n = 0
scopes_of (counted ∷ rest) n = if counted.length == n then counted.scopes else scopes_of rest n

-- each length is less than the bound and the one before, and some scope has it
abbrev pub IsFalling : ℕ → List Counted → Type 0
IsFalling bound [] = Unit {0}
IsFalling bound (counted ∷ rest) = (counted.length < bound) × (0 < counted.scopes) × IsFalling counted.length rest

-- how many entries have a scope of a length
abbrev pub entries_of : List (List ℕ × ℕ) → ℕ → ℕ
entries_of [] n = 0
entries_of (entry ∷ entries) n = entries_of entries n + (if length entry.0 == n then 1 else 0)

-- exactly the lengths of the scopes, falling, each with how many have it
pub record CountsLengths (counted : List Counted) (entries : List (List ℕ × ℕ)) : Type 0 where
  pub bound : ℕ
  pub falling : IsFalling bound counted
  pub exact : (n : ℕ) → scopes_of counted n ≡ entries_of entries n

-- the lengths that aren't greater than m
abbrev pub within : ℕ → List Counted → List ℕ
within m [] = []
within m (counted ∷ rest) = if nat_lt m counted.length then within m rest else counted.length ∷ within m rest

-- what the first number has for which something is found
abbrev pub first_found : (ℕ → Option ℕ) → List ℕ → Option ℕ
first_found found [] = None
first_found found (n ∷ ns) = option_or (found n) (first_found found ns)

-- where a length stands or would stand
abbrev pub place_of : List Counted → ℕ → ℕ
place_of [] n = 0
place_of (counted ∷ rest) n = if nat_lt n counted.length then suc (place_of rest n) else 0

-- a length stands at its place
abbrev pub stands : List Counted → ℕ → Bool
stands [] n = false
stands (counted ∷ rest) n = if nat_lt n counted.length then stands rest n else counted.length == n

-- with one more scope of a length
abbrev pub one_more : List Counted → ℕ → List Counted
one_more [] n = record { length = n; scopes = 1 } ∷ []
one_more (counted ∷ rest) n =
    if nat_lt n counted.length then counted ∷ one_more rest n
    else (if counted.length == n then record counted { scopes = counted.scopes + 1 } ∷ rest
    else record { length = n; scopes = 1 } ∷ counted ∷ rest)

-- with one scope of a length less
abbrev pub one_less : List Counted → ℕ → List Counted
one_less [] n = []
one_less (counted ∷ rest) n =
    if nat_lt n counted.length then counted ∷ one_less rest n
    else (if counted.length == n then (if nat_lt 1 counted.scopes then record counted { scopes = counted.scopes - 1 } ∷ rest else rest)
    else counted ∷ rest)
