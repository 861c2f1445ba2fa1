-- How many items pass a test, as a tally counts them.
use Rattle.std.proofs.Common.{◌≡◌, ◌+◌, ◌<◌, ℕ, zero, suc, Bool, List, [], ◌∷◌, ◌++◌, filter, length, slice_set, slice_index_or, refl, arith, if◌then◌else◌}
use Rattle.std.specs.Prelude.{nat_lt}
use Rattle.std.specs.List.{list_any}
use Rattle.std.proofs.lemmas.Bool.Decides.{nat_tests}

module _ {X : Type 0} (test : X → Bool) where
  -- some pass where one does
  pub any_passes : (xs : List X) → nat_lt 0 (length (filter test xs)) ≡ list_any test xs
  any_passes [] = refl
  any_passes (x ∷ xs) = grind (arith, nat_tests, any_passes xs)

  pub passing_more : (xs : List X) (x : X) → length (filter test (xs ++ x ∷ [])) ≡ length (filter test xs) + (if test x then 1 else 0)
  passing_more [] x = grind arith
  passing_more (y ∷ ys) x = grind (arith, passing_more ys x)

  -- one item changes
  pub passing_set : (xs : List X) (place : ℕ) (d new : X) → place < length xs
      → length (filter test (slice_set xs place new)) + (if test (slice_index_or xs place d) then 1 else 0) ≡ length (filter test xs) + (if test new then 1 else 0)
  passing_set [] place d new below = absurd (omega (arith, below))
  passing_set (x ∷ xs) zero d new below = grind arith
  passing_set (x ∷ xs) (suc place) d new below = grind (arith, passing_set xs place d new (omega (arith, below)))
