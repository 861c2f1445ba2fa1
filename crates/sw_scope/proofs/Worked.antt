-- Three scopes of one key: what two addresses have, and in how many steps, by the definitions.
use Rattle.std.proofs.Common.{◌≡◌, ℕ, List, [], ◌∷◌, codes, length, Some, option_map, refl}
use Rattle.sw_rules.specs.Matching.{Scope, longest}
use Rattle.sw_scope.specs.Scopes.{Scopes, lengths_to, longest_front, maps}

abbrev key : List ℕ
key = codes "https://a.test"

abbrev apple : List ℕ
apple = codes "https://a.test/apple"

abbrev ap : List ℕ
ap = codes "https://a.test/ap"

abbrev three : Scopes
three = (
  key,
  record {
    entries = (codes "https://a.test/", 0) ∷ (codes "https://a.test/app", 1) ∷ (codes "https://a.test/app/x", 2) ∷ [];
    room = 0;
  },
) ∷ []

abbrev listed : List Scope
listed =
    record { key = key; scope = codes "https://a.test/"; number = 0 }
    ∷ record { key = key; scope = codes "https://a.test/app"; number = 1 }
    ∷ record { key = key; scope = codes "https://a.test/app/x"; number = 2 } ∷ []

row_apple : longest_front (maps three key) apple ≡ Some 1
row_apple = refl

row_apple_listed : option_map (λ scope. scope.number) (longest listed key apple) ≡ Some 1
row_apple_listed = refl

row_apple_steps : length (lengths_to three key (length apple)) ≡ 3
row_apple_steps = refl

row_ap : longest_front (maps three key) ap ≡ Some 0
row_ap = refl

row_ap_listed : option_map (λ scope. scope.number) (longest listed key ap) ≡ Some 0
row_ap_listed = refl

row_ap_steps : length (lengths_to three key (length ap)) ≡ 1
row_ap_steps = refl
