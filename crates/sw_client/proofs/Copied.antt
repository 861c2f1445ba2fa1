-- Rows that are copied one by one, each at its number.
use Rattle.std.proofs.Common.{◌≡◌, ◌∙◌, ◌<◌, ℕ, zero, suc, List, [], ◌∷◌, length, map, slice_get, Some, None, option_map, refl, ap, arith}
use Rattle.std.specs.Map.{keys_of, values_of}
use Rattle.std.proofs.lemmas.Option.{slice_get-map}
use Rattle.sw_client.specs.Keyed.{IsKeyed, keyed}

-- an entry stands at each place
pub there_at : {X : Type 0} (entries : List (ℕ × X)) (i : ℕ) → i < length entries → slice_get (values_of entries) i ≡ None → ⊥
there_at [] i below none = absurd (omega (arith, below))
there_at (x ∷ xs) zero below none = absurd cc
there_at (x ∷ xs) (suc i) below none = there_at xs i (omega (arith, below)) none

module _ {X : Type 0} (number : X → ℕ) where
  keys_keyed : (rows : List X) → keys_of (keyed number rows) ≡ map number rows
  keys_keyed [] = refl
  keys_keyed (x ∷ xs) = ap (λ (rest : List ℕ). number x ∷ rest) (keys_keyed xs)

  pub key_at : (entries : List (ℕ × X)) (i : ℕ) (row : X) → IsKeyed number entries → slice_get (values_of entries) i ≡ Some row → slice_get (keys_of entries) i ≡ Some (number row)
  key_at entries i row kept at =
      ap (λ (all : List (ℕ × X)). slice_get (keys_of all) i) kept.rows
      ∙ (ap (λ (keys : List ℕ). slice_get keys i) (keys_keyed (values_of entries))
      ∙ (slice_get-map number (values_of entries) i ∙ ap (option_map number) at))
