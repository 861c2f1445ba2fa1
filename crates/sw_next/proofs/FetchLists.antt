-- The fetches of an addAll, one place after another.
use Rattle.std.proofs.Common.{◌≡◌, ℕ, zero, suc, ◌+◌, ◌<◌, ◌≤◌, min, List, [], ◌∷◌, drop, length, get_or, refl, subst, arith}
use Rattle.std.specs.Prelude.{zip}

-- what is left from a place on: the pair that is there, and those behind it
pub zip_step : {A B : Type 0} (n : ℕ) (xs : List A) (ys : List B) (a : A) (b : B) → n < length xs → n < length ys
    → zip (drop n xs) (drop n ys) ≡ (get_or xs n a, get_or ys n b) ∷ zip (drop (n + 1) xs) (drop (n + 1) ys)
zip_step n [] ys a b left right = absurd (omega (arith, left))
zip_step n (x ∷ xs) [] a b left right = absurd (omega (arith, right))
zip_step zero (x ∷ xs) (y ∷ ys) a b left right = refl
zip_step (suc n) (x ∷ xs) (y ∷ ys) a b left right =
    subst (λ k. zip (drop n xs) (drop n ys) ≡ (get_or xs n a, get_or ys n b) ∷ zip (drop k (x ∷ xs)) (drop k (y ∷ ys))) (next n)
    (zip_step n xs ys a b (omega (arith, left)) (omega (arith, right)))
  where
    next : (n : ℕ) → suc (n + 1) ≡ suc n + 1
    next n = omega (arith)

none_right : {A B : Type 0} (xs : List A) (ys : List B) → ys ≡ [] → zip xs ys ≡ []
none_right [] ys none = refl
none_right (x ∷ xs) [] none = refl
none_right (x ∷ xs) (y ∷ ys) none = absurd cc

-- nothing is left from the end of the shorter one on
pub zip_end : {A B : Type 0} (n : ℕ) (xs : List A) (ys : List B) → min (length xs) (length ys) ≤ n → zip (drop n xs) (drop n ys) ≡ []
zip_end zero [] ys past = refl
zip_end (suc n) [] ys past = refl
zip_end zero (x ∷ xs) [] past = refl
zip_end (suc n) (x ∷ xs) [] past = none_right (drop n xs) [] refl
zip_end zero (x ∷ xs) (y ∷ ys) past = absurd (omega (arith, past))
zip_end (suc n) (x ∷ xs) (y ∷ ys) past = zip_end n xs ys (omega (arith, past))
