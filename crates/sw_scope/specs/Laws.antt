-- Laws of the map of scopes, each proved by the public call of `sw_scope::laws` that has its name.
use Rattle.std.specs.Prelude.{◌≡◌, ◌↔◌, ◌≤◌, ℕ, true, List, length, IsSome, option_map}
use Rattle.sw_rules.specs.Matching.{Scope, longest}
use Rattle.sw_rules.specs.Rows.{mapped_registration, matched_registration_number}
use Rattle.sw_rules.specs.State.{State}
use Rattle.sw_scope.specs.Scopes.{Scopes, maps, own_scopes, has_length, lengths_to, longest_front, number_in}

-- the longest front of an address is what the standard's longest scope of a list is
abbrev pub LongestIsTheStandards : Type 0
LongestIsTheStandards =
    (scopes : List Scope) (key address : List ℕ)
    → option_map (λ scope. scope.number) (longest scopes key address) ≡ longest_front (number_in scopes key) address

-- the registration that an address matches is that of its longest front among the mapped scopes
abbrev pub MatchIsTheLongestFront : Type 0
MatchIsTheLongestFront =
    (state : State) (key address : List ℕ)
    → matched_registration_number state key address
    ≡ longest_front (λ scope. option_map (λ row. row.number) (mapped_registration state key scope)) address

-- the counted lengths are those of the scopes that map to a registration
abbrev pub LengthsAreOfScopes : Type 0
LengthsAreOfScopes =
    (scopes : Scopes) (key : List ℕ) (n : ℕ)
    → (has_length (own_scopes scopes key).entries n ≡ true)
    ↔ ((scope : List ℕ) × (length scope ≡ n) × IsSome (maps scopes key scope))

-- where all scopes of a key are as long, at most one length is counted
abbrev pub OneLengthIsOneStep : Type 0
OneLengthIsOneStep =
    (scopes : Scopes) (key : List ℕ) (n : ℕ)
    → ((scope : List ℕ) → IsSome (maps scopes key scope) → length scope ≡ n)
    → (most : ℕ) → length (lengths_to scopes key most) ≤ 1
