-- What lists by place are seen as, after one of them is written.
use Rattle.std.proofs.Common.{◌≡◌, ◌∙◌, ◌<◌, ℕ, zero, suc, List, [], ◌∷◌, ◌++◌, map, set, get_or, length, refl, ap, arith}

module _ {X Y : Type 0} (f : X → Y) where
  pub set_kept : (xs : List X) (i : ℕ) (old new : X) → old ≡ get_or xs i old → f new ≡ f old → map f (set xs i new) ≡ map f xs
  set_kept [] i old new was is = refl
  set_kept (x ∷ xs) zero old new was is = ap (λ y. y ∷ map f xs) (is ∙ ap f was)
  set_kept (x ∷ xs) (suc i) old new was is = ap (λ ys. f x ∷ ys) (set_kept xs i old new was is)

  pub seen_at : (xs : List X) (i : ℕ) (new : X) (d : Y) → i < length xs → get_or (map f (set xs i new)) i d ≡ f new
  seen_at [] i new d below = absurd (omega (arith, below))
  seen_at (x ∷ xs) zero new d below = refl
  seen_at (x ∷ xs) (suc i) new d below = seen_at xs i new d (omega (arith, below))

-- a number is added to a list
pub list_added : {X : Type 0} (f : X → List ℕ) (xs : List X) (i : ℕ) (old new : X) (number : ℕ) → old ≡ get_or xs i old
    → f new ≡ f old ++ number ∷ [] → map f (set xs i new) ≡ set (map f xs) i (get_or (map f xs) i [] ++ number ∷ [])
list_added f [] i old new number was is = refl
list_added f (x ∷ xs) zero old new number was is =
    ap (λ z. z ∷ map f xs) (is ∙ ap (λ o. f o ++ number ∷ []) was)
list_added f (x ∷ xs) (suc i) old new number was is =
    ap (λ ys. f x ∷ ys) (list_added f xs i old new number was is)
