-- The names of an object's members, as keys of the map and in the data.
use Rattle.std.specs.Prelude.{◌≡◌, ℕ, List, [], ◌∷◌, map, bytes_eq, false, Option, Some, None, String, string_bytes, refl}
use Rattle.std.specs.List.{list_all, list_any}
use Rattle.std.specs.Map.{keys_of}
use Rattle.std.proofs.Common.{arith, subst, Bor}
use Rattle.std.specs.declared.alloc.Global.{Global}
use Rattle.serde_json.specs.Data.{Data, Members}
use Rattle.serde_json.specs.Find.{as_object}
use Rattle.serde_json.specs.View.{members_view}
use Rattle.serde_json.specs.declared.value.Value.{Value}
use Rattle.sw_forms.specs.Members.{only, has_only}

one_of_map : (name : List ℕ) (names : List (Bor (List ℕ))) →
    list_any (λ other. bytes_eq name other.now) names ≡ list_any (bytes_eq name) (map (λ other. other.now) names)
one_of_map name [] = refl
one_of_map name (x ∷ xs) = grind (arith, one_of_map name xs)

only_as_keys : (names : List (Bor (List ℕ))) (entries : List (String Global × Value)) →
    list_all (λ key. list_any (λ other. bytes_eq (string_bytes key) other.now) names) (keys_of entries)
    ≡ only (map (λ other. other.now) names) (members_view entries)
only_as_keys names [] = refl
only_as_keys names (x ∷ xs) = rw (one_of_map (string_bytes x.0) names, only_as_keys names xs) refl

-- an object has only members of these names where each of its keys is one of them
pub has_only_as_keys : (names : List (Bor (List ℕ))) (value : Data) (entries : List (String Global × Value)) →
    Some (members_view entries) ≡ as_object value →
    list_all (λ key. list_any (λ other. bytes_eq (string_bytes key) other.now) names) (keys_of entries)
    ≡ has_only (map (λ other. other.now) names) value
has_only_as_keys names value entries is =
    subst (λ (seen : Option Members).
    list_all (λ key. list_any (λ other. bytes_eq (string_bytes key) other.now) names) (keys_of entries)
    ≡ elim seen [ Some members ↦ only (map (λ other. other.now) names) members | None ↦ false ])
    is (only_as_keys names entries)
