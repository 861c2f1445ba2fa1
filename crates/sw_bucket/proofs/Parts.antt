-- The parts of a key, as a split at its first `^` gives them.
use Rattle.std.proofs.Common.{◌≡◌, ◌∙◌, ◌<◌, Bool, true, false, List, [], ◌∷◌, length, take, Some, None, refl, ap, arith, if◌then◌else◌}
use Rattle.std.proofs.lemmas.List.{take_all}
use Rattle.std.specs.List.{after_first, before_first, list_any, position_or_len}

module _ {X : Type 0} (p : X → Bool) where
  -- where no element passes all stand before the first that does
  pub all_before : (xs : List X) → position_or_len p xs ≡ length xs → before_first p xs ≡ xs
  all_before xs is = ap (λ n. take n xs) is ∙ take_all (length xs) xs (omega arith)

  any_there : (xs : List X) → position_or_len p xs < length xs → list_any p xs ≡ true
  any_there [] inside = absurd (omega (arith, inside))
  any_there (x ∷ xs) inside = grind (arith, inside, any_there xs)

  any_gone : (xs : List X) → position_or_len p xs ≡ length xs → list_any p xs ≡ false
  any_gone [] is = refl
  any_gone (x ∷ xs) is = grind (arith, is, any_gone xs)

  pub rest_there : (xs rest : List X) → position_or_len p xs < length xs → rest ≡ after_first p xs → Some rest ≡ (if list_any p xs then Some (after_first p xs) else None)
  rest_there xs rest inside is = rw (any_there xs inside, is) refl

  pub rest_gone : (xs : List X) → position_or_len p xs ≡ length xs → None ≡ (if list_any p xs then Some (after_first p xs) else None)
  rest_gone xs is = rw (any_gone xs is) refl
