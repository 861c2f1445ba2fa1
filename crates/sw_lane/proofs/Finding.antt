-- What is found in a list, at a place of it, and among the numbers below a length.
use Rattle.std.proofs.Common.{◌≡◌, ℕ, ◌+◌, ◌<◌, ◌≤◌, suc, zero, Bool, true, false, List, [], ◌∷◌, Option, Some, None, drop, set, slice_get, refl, sym, ap, arith}
use Rattle.std.specs.Prelude.{option_and_then}
use Rattle.std.specs.List.{find, filter_map, range_with_len}
use Rattle.std.specs.Option.{option_map_or}

-- what was found passes
pub find_passes : {X : Type 0} (test : X → Bool) (xs : List X) (x : X) → find test xs ≡ Some x → test x ≡ true
find_passes test [] x is = absurd cc
find_passes test (y ∷ ys) x is = grind (arith, find_passes test ys x)

-- where all pass, the first is found
pub find_first : {X : Type 0} (test : X → Bool) → ((x : X) → test x ≡ true) → (xs : List X) → find test xs ≡ slice_get xs 0
find_first test all [] = refl
find_first test all (x ∷ xs) = grind (arith, all x)

pub nothing_first : {X : Type 0} (xs : List X) → slice_get xs 0 ≡ None → xs ≡ []
nothing_first [] is = refl
nothing_first (x ∷ xs) is = absurd cc

given : {X Y : Type 0} (test : Y → Bool) (f g : X → Option Y) (x : X) (xs : List X) (got : Option Y) → f x ≡ got → g x ≡ got
    → find test (filter_map f xs) ≡ option_and_then g (find (λ y. option_map_or test (g y) false) xs)
    → find test (filter_map f (x ∷ xs)) ≡ option_and_then g (find (λ y. option_map_or test (g y) false) (x ∷ xs))
given test f g x xs None one other rest = grind (arith, one, other, rest)
given test f g x xs (Some y) one other rest = grind (arith, one, other, rest)

-- the first that passes among what two functions alike give
pub find_given : {X Y : Type 0} (test : Y → Bool) (f g : X → Option Y) → ((x : X) → f x ≡ g x) → (xs : List X)
    → find test (filter_map f xs) ≡ option_and_then g (find (λ x. option_map_or test (g x) false) xs)
find_given test f g same [] = refl
find_given test f g same (x ∷ xs) = given test f g x xs (g x) (same x) refl (find_given test f g same xs)

-- none passes below the number that was found
pub none_lower : (test : ℕ → Bool) (from count found : ℕ) → find test (range_with_len from count) ≡ Some found → (number : ℕ) → from ≤ number → number < found → test number ≡ false
none_lower test from zero found is number above below = absurd cc
none_lower test from (suc count) found is number above below =
    grind (arith, none_lower test (from + 1) count found)

-- none passes where nothing was found
pub none_there : (test : ℕ → Bool) (from count : ℕ) → find test (range_with_len from count) ≡ None → (number : ℕ) → from ≤ number → number < from + count → test number ≡ false
none_there test from zero is number above below = absurd (omega (arith, above, below))
none_there test from (suc count) is number above below =
    grind (arith, none_there test (from + 1) count)

-- ---- places

pub front_of : {X : Type 0} (n : ℕ) (xs : List X) → slice_get (drop n xs) 0 ≡ slice_get xs n
front_of zero xs = refl
front_of (suc n) [] = refl
front_of (suc n) (x ∷ xs) = front_of n xs

pub set_here : {X : Type 0} (xs : List X) (i : ℕ) (old new : X) → slice_get xs i ≡ Some old → slice_get (set xs i new) i ≡ Some new
set_here [] i old new is = absurd cc
set_here (x ∷ xs) zero old new is = refl
set_here (x ∷ xs) (suc i) old new is = set_here xs i old new is

pub set_there : {X : Type 0} (xs : List X) (i j : ℕ) (new : X) → (i ≡ j → ⊥) → slice_get (set xs i new) j ≡ slice_get xs j
set_there [] i j new apart = refl
set_there (x ∷ xs) zero zero new apart = absurd (apart refl)
set_there (x ∷ xs) zero (suc j) new apart = refl
set_there (x ∷ xs) (suc i) zero new apart = refl
set_there (x ∷ xs) (suc i) (suc j) new apart = set_there xs i j new (λ same. apart (ap suc same))

pub set_same : {X : Type 0} (xs : List X) (i : ℕ) (x : X) → slice_get xs i ≡ Some x → set xs i x ≡ xs
set_same [] i x is = refl
set_same (y ∷ ys) zero x is = let same : y ≡ x = cc in ap (λ (first : _). first ∷ ys) (sym same)
set_same (y ∷ ys) (suc i) x is = ap (λ (rest : List _). y ∷ rest) (set_same ys i x is)
