-- Lists in which no member meets one after it, by a test of both.
use Rattle.std.proofs.Common.{◌≡◌, ◌∙◌, Bool, true, false, cond, List, [], ◌∷◌, ◌++◌, map, filter, refl, sym, ap, subst}
use Rattle.std.specs.Prelude.{◌||◌}
use Rattle.std.specs.List.{list_any, IsDistinct, AllByRecursion}
use Rattle.std.proofs.lemmas.List.{append-nil}

module _ {X : Type 0} (P : X → Type 0) where
  pub all-push : (xs : List X) (y : X) → AllByRecursion P xs → P y → AllByRecursion P (xs ++ y ∷ [])
  all-push [] y all one = (one, tt)
  all-push (x ∷ xs) y all one = (all.0, all-push xs y all.1 one)

  pub all-last : (xs : List X) (y : X) (ys : List X) → AllByRecursion P (xs ++ y ∷ ys) → P y
  all-last [] y ys all = all.0
  all-last (x ∷ xs) y ys all = all-last xs y ys all.1

  all_kept : (p : Bool) (x : X) (xs : List X) → P x → AllByRecursion P xs → AllByRecursion P (cond p (x ∷ xs) xs)
  all_kept true x xs one all = (one, all)
  all_kept false x xs one all = all

  pub all-filter : (p : X → Bool) (xs : List X) → AllByRecursion P xs → AllByRecursion P (filter p xs)
  all-filter p [] all = tt
  all-filter p (x ∷ xs) all = all_kept (p x) x (filter p xs) all.0 (all-filter p xs all.1)

  front_kept : (b : Bool) (x : X) (rest ys : List X) → P x → AllByRecursion P (rest ++ ys) → AllByRecursion P (cond b (x ∷ rest) rest ++ ys)
  front_kept true x rest ys one more = (one, more)
  front_kept false x rest ys one more = more

  -- a filter of the front alone
  pub all-filter_front : (p : X → Bool) (xs ys : List X) → AllByRecursion P (xs ++ ys) → AllByRecursion P (filter p xs ++ ys)
  all-filter_front p [] ys all = all
  all-filter_front p (x ∷ xs) ys all = front_kept (p x) x (filter p xs) ys all.0 (all-filter_front p xs ys all.1)

  pub all-front : (xs ys : List X) → AllByRecursion P (xs ++ ys) → AllByRecursion P xs
  all-front [] ys all = tt
  all-front (x ∷ xs) ys all = (all.0, all-front xs ys all.1)

  pub all-map : (f : X → X) → ((x : X) → P x → P (f x)) → (xs : List X) → AllByRecursion P xs → AllByRecursion P (map f xs)
  all-map f keeps [] all = tt
  all-map f keeps (x ∷ xs) all = (keeps x all.0, all-map f keeps xs all.1)

or_parts : (x y : Bool) → (x || y) ≡ false → (x ≡ false) × (y ≡ false)
or_parts true y e = absurd cc
or_parts false y e = (refl, e)

-- a test that no member passes
pub none-all : {X : Type 0} (test : X → Bool) (xs : List X) → list_any test xs ≡ false → AllByRecursion (λ x. test x ≡ false) xs
none-all test [] none = tt
none-all test (x ∷ xs) none =
    let parts = or_parts (test x) (list_any test xs) none in
    (parts.0, none-all test xs parts.1)

pub none-any : {X : Type 0} (test : X → Bool) (xs : List X) → AllByRecursion (λ x. test x ≡ false) xs → list_any test xs ≡ false
none-any test [] all = refl
none-any test (x ∷ xs) all = ap (λ (b : Bool). b || list_any test xs) all.0 ∙ none-any test xs all.1

module _ {X : Type 0} (meets : X → X → Bool) where
  pub apart-push : (xs : List X) (y : X) → IsDistinct meets xs → AllByRecursion (λ x. meets x y ≡ false) xs → IsDistinct meets (xs ++ y ∷ [])
  unfolding IsDistinct
  apart-push [] y apart none = (tt, tt)
  apart-push (x ∷ xs) y apart none = (all-push (λ z. meets x z ≡ false) xs y apart.0 none.0, apart-push xs y apart.1 none.1)

  -- the members before one don't meet it
  pub apart-before : (xs : List X) (y : X) (ys : List X) → IsDistinct meets (xs ++ y ∷ ys) → AllByRecursion (λ x. meets x y ≡ false) xs
  unfolding IsDistinct
  apart-before [] y ys apart = tt
  apart-before (x ∷ xs) y ys apart = (all-last (λ z. meets x z ≡ false) xs y ys apart.0, apart-before xs y ys apart.1)

  apart_kept : (b : Bool) (x : X) (xs ys : List X) → AllByRecursion (λ z. meets x z ≡ false) (xs ++ ys) → IsDistinct meets (xs ++ ys) → IsDistinct meets (cond b (x ∷ xs) xs ++ ys)
  unfolding IsDistinct
  apart_kept true x xs ys one apart = (one, apart)
  apart_kept false x xs ys one apart = apart

  pub apart-filter_front : (p : X → Bool) (xs ys : List X) → IsDistinct meets (xs ++ ys) → IsDistinct meets (filter p xs ++ ys)
  unfolding IsDistinct
  apart-filter_front p [] ys apart = apart
  apart-filter_front p (x ∷ xs) ys apart =
      apart_kept (p x) x (filter p xs) ys (all-filter_front (λ z. meets x z ≡ false) p xs ys apart.0) (apart-filter_front p xs ys apart.1)

  pub apart-filter : (p : X → Bool) (xs : List X) → IsDistinct meets xs → IsDistinct meets (filter p xs)
  apart-filter p xs apart =
      subst (IsDistinct meets) (append-nil (filter p xs)) (apart-filter_front p xs [] (subst (IsDistinct meets) (sym (append-nil xs)) apart))

  -- a change that keeps what the test sees
  module _ (f : X → X) (keeps : (x y : X) → meets (f x) (f y) ≡ meets x y) where
    apart_mapped : (x : X) (xs : List X) → AllByRecursion (λ y. meets x y ≡ false) xs → AllByRecursion (λ y. meets (f x) y ≡ false) (map f xs)
    apart_mapped x [] all = tt
    apart_mapped x (y ∷ xs) all = (keeps x y ∙ all.0, apart_mapped x xs all.1)

    pub apart-map : (xs : List X) → IsDistinct meets xs → IsDistinct meets (map f xs)
    unfolding IsDistinct
    apart-map [] apart = tt
    apart-map (x ∷ xs) apart = (apart_mapped x xs apart.0, apart-map xs apart.1)
