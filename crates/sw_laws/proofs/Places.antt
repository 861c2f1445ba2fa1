-- Rows whose numbers are their places, and rows that are apart.
use Rattle.std.proofs.Common.{◌≡◌, ℕ, zero, suc, ◌+◌, leb, Bool, true, false, not, ◌&&◌, ◌||◌, ◌==◌, List, [], ◌∷◌, ◌++◌, map, filter, Some, None, length, refl, ap, arith, subst}
use Rattle.std.specs.Prelude.{find, nat_lt}
use Rattle.std.specs.List.{list_all, list_any, range_with_len}
use Rattle.std.proofs.lemmas.Bool.{and_from, and_parts}
use Rattle.std.proofs.lemmas.Bool.Decides.{nat_tests}
use Rattle.std.proofs.lemmas.List.{length-map}
use Rattle.std.proofs.lemmas.List.Folds.{list_all-append}
use Rattle.sw_laws.specs.Coherent.{ArePlaces, apart, is_place}
use Rattle.sw_laws.proofs.Lists.{all_both, all_of_filter, all_weaker, length_pushed, map_kept}

-- ---- numbers are places

pub places_changed : {X : Type 0} (number : X → ℕ) (f : X → X) → ((x : X) → number (f x) ≡ number x) → (xs : List X) → ArePlaces number xs → ArePlaces number (map f xs)
places_changed number f kept xs are = cc (map_kept number f kept xs, length-map xs f)

pub range_pushed : (n a : ℕ) → range_with_len a (suc n) ≡ range_with_len a n ++ ((a + n) ∷ [])
range_pushed zero a = let is : a + 0 ≡ a = omega arith in rw is refl
range_pushed (suc n) a =
    let is : a + 1 + n ≡ a + suc n = omega arith in
    ap (λ (ns : List ℕ). a ∷ ns) (rw (← is) (range_pushed n (a + 1)))

map_pushed : {X : Type 0} (number : X → ℕ) (xs : List X) (x : X) → map number (xs ++ x ∷ []) ≡ map number xs ++ number x ∷ []
map_pushed number [] x = refl
map_pushed number (y ∷ ys) x = ap (λ (ns : List ℕ). number y ∷ ns) (map_pushed number ys x)

pub places_pushed : {X : Type 0} (number : X → ℕ) (xs : List X) (x : X) → number x ≡ length xs → ArePlaces number xs → ArePlaces number (xs ++ x ∷ [])
places_pushed number xs x is are =
    let one : length (xs ++ x ∷ []) ≡ suc (length xs) = omega (arith, length_pushed xs x) in
    let at : 0 + length xs ≡ number x = omega (arith, is) in
    cc (map_pushed number xs x, are, range_pushed (length xs) 0, one, at)

later_places : {X : Type 0} (number : X → ℕ) (xs : List X) (a : ℕ) → map number xs ≡ range_with_len a (length xs) → list_all (λ x. leb a (number x)) xs ≡ true
later_places number [] a is = refl
later_places number (x ∷ xs) a is =
    let here : number x ≡ a = cc in
    let rest : map number xs ≡ range_with_len (a + 1) (length xs) = cc in
    and_from _ _ (grind (arith, nat_tests, here)) (all_weaker (λ y. leb (a + 1) (number y)) _ (λ y is. grind (arith, nat_tests, is)) xs (later_places number xs (a + 1) rest))

apart_from : {X : Type 0} (number : X → ℕ) (xs : List X) (a : ℕ) → map number xs ≡ range_with_len a (length xs) → apart (λ x y. number x == number y) xs ≡ true
apart_from number [] a is = refl
apart_from number (x ∷ xs) a is =
    let here : number x ≡ a = cc in
    let rest : map number xs ≡ range_with_len (a + 1) (length xs) = cc in
    and_from _ _ (all_weaker (λ y. leb (a + 1) (number y)) _ (λ y is. grind (arith, nat_tests, is, here)) xs (later_places number xs (a + 1) rest)) (apart_from number xs (a + 1) rest)

pub places_apart : {X : Type 0} (number : X → ℕ) (xs : List X) → ArePlaces number xs → apart (λ x y. number x == number y) xs ≡ true
places_apart number xs are = apart_from number xs 0 are

below_places : {X : Type 0} (number : X → ℕ) (xs : List X) (a n : ℕ) → map number xs ≡ range_with_len a (length xs) → a + length xs ≡ n → list_all (λ x. nat_lt (number x) n) xs ≡ true
below_places number [] a n is end = refl
below_places number (x ∷ xs) a n is end =
    let here : number x ≡ a = cc in
    let rest : map number xs ≡ range_with_len (a + 1) (length xs) = cc in
    let more : a + 1 + length xs ≡ n = omega (arith, end) in
    and_from _ _ (grind (arith, nat_tests, here, end)) (below_places number xs (a + 1) n rest more)

-- each row's number is a place
pub places_below : {X : Type 0} (number : X → ℕ) (xs : List X) → ArePlaces number xs → list_all (λ x. is_place xs (number x)) xs ≡ true
places_below number xs are = below_places number xs 0 (length xs) are (omega arith)

-- ---- a place stays one

pub place_changed : {X : Type 0} (f : X → X) (xs : List X) (n : ℕ) → is_place xs n ≡ true → is_place (map f xs) n ≡ true
place_changed f xs n is = rw (length-map xs f) is

pub place_pushed : {X : Type 0} (xs : List X) (x : X) (n : ℕ) → is_place xs n ≡ true → is_place (xs ++ x ∷ []) n ≡ true
place_pushed xs x n is = grind (arith, nat_tests, length_pushed xs x, is)

pub place_new : {X : Type 0} (xs : List X) (x : X) → is_place (xs ++ x ∷ []) (length xs) ≡ true
place_new xs x = grind (arith, nat_tests, length_pushed xs x)

-- ---- one more row

pub all_pushed : {X : Type 0} (p : X → Bool) (xs : List X) (x : X) → list_all p xs ≡ true → p x ≡ true → list_all p (xs ++ x ∷ []) ≡ true
all_pushed p xs x is here = grind (arith, list_all-append p xs (x ∷ []))

pub apart_pushed : {X : Type 0} (clash : X → X → Bool) (xs : List X) (x : X) → apart clash xs ≡ true → list_all (λ y. not (clash y x)) xs ≡ true → apart clash (xs ++ x ∷ []) ≡ true
apart_pushed clash [] x is fine = refl
apart_pushed clash (y ∷ ys) x is fine =
    let parts = and_parts (list_all (λ z. not (clash y z)) ys) (apart clash ys) is in
    let clear = and_parts (not (clash y x)) (list_all (λ z. not (clash z x)) ys) fine in
    and_from _ _ (all_pushed (λ z. not (clash y z)) ys x parts.0 clear.0) (apart_pushed clash ys x parts.1 clear.1)

pub apart_filter : {X : Type 0} (clash : X → X → Bool) (p : X → Bool) (xs : List X) → apart clash xs ≡ true → apart clash (filter p xs) ≡ true
apart_filter clash p [] is = refl
apart_filter clash p (x ∷ xs) is =
    let parts = and_parts (list_all (λ z. not (clash x z)) xs) (apart clash xs) is in
    grind (arith, apart_filter clash p xs parts.1, all_of_filter (λ z. not (clash x z)) p xs parts.0)

-- a change of rows of which something is known
pub all_known : {X : Type 0} (known p q : X → Bool) (f : X → X) → ((x : X) → known x ≡ true → p x ≡ true → q (f x) ≡ true) → (xs : List X) → list_all known xs ≡ true → list_all p xs ≡ true → list_all q (map f xs) ≡ true
all_known known p q f goes [] all is = refl
all_known known p q f goes (x ∷ xs) all is = grind (arith, goes x, all_known known p q f goes xs)

pub any_known : {X : Type 0} (known p q : X → Bool) (f : X → X) → ((x : X) → known x ≡ true → p x ≡ true → q (f x) ≡ true) → (xs : List X) → list_all known xs ≡ true → list_any p xs ≡ true → list_any q (map f xs) ≡ true
any_known known p q f goes [] all is = is
any_known known p q f goes (x ∷ xs) all is = grind (arith, goes x, any_known known p q f goes xs)

pub apart_known : {X : Type 0} (known : X → Bool) (clash meets : X → X → Bool) (f : X → X) → ((x y : X) → known x ≡ true → known y ≡ true → clash x y ≡ false → meets (f x) (f y) ≡ false) → (xs : List X) → list_all known xs ≡ true → apart clash xs ≡ true → apart meets (map f xs) ≡ true
apart_known known clash meets f goes [] all is = refl
apart_known known clash meets f goes (x ∷ xs) all is =
    let knows = and_parts (known x) (list_all known xs) all in
    let parts = and_parts (list_all (λ y. not (clash x y)) xs) (apart clash xs) is in
    and_from _ _
    (all_known known (λ y. not (clash x y)) (λ y. not (meets (f x) y)) f (λ y know apart_now. grind (arith, goes x y, knows.0)) xs knows.1 parts.0)
    (apart_known known clash meets f goes xs knows.1 parts.1)

-- two ways of being apart at once
pub apart_both : {X : Type 0} (one other : X → X → Bool) (xs : List X) → apart one xs ≡ true → apart other xs ≡ true → apart (λ x y. one x y || other x y) xs ≡ true
apart_both one other [] is was = refl
apart_both one other (x ∷ xs) is was =
    let parts = and_parts (list_all (λ y. not (one x y)) xs) (apart one xs) is in
    let others = and_parts (list_all (λ y. not (other x y)) xs) (apart other xs) was in
    and_from _ _ (all_weaker (λ y. not (one x y) && not (other x y)) _ (λ y is. grind (arith, is)) xs (all_both _ _ xs parts.0 others.0))
    (apart_both one other xs parts.1 others.1)

-- all rows that pass are as the one that was found, where such rows clash
pub all_as_found : {X : Type 0} (clash : X → X → Bool) (p q : X → Bool) → ((x y : X) → p x ≡ true → p y ≡ true → clash x y ≡ true) → (xs : List X) (x : X) → apart clash xs ≡ true → find p xs ≡ Some x → q x ≡ true → list_all (λ y. not (p y) || q y) xs ≡ true
all_as_found clash p q meet [] x fine is here = refl
all_as_found clash p q meet (y ∷ ys) x fine is here =
    let parts = and_parts (list_all (λ z. not (clash y z)) ys) (apart clash ys) fine in
    elim (p y) as (λ b. p y ≡ b → (not (p y) || q y) && list_all (λ y. not (p y) || q y) ys ≡ true) [
      | true ↦ λ passes.
          let one : y ≡ x = grind (arith, is, passes) in
          and_from _ _ (grind (arith, one, here)) (all_weaker (λ z. not (clash y z)) _ (λ z clear. grind (arith, meet y z passes, clear)) ys parts.0)
      | false ↦ λ other. and_from _ _ (grind (arith, other)) (all_as_found clash p q meet ys x parts.1 (grind (arith, is, other)) here)
    ] refl

-- where none is found, none passes
pub all_not_found : {X : Type 0} (p q : X → Bool) (xs : List X) → find p xs ≡ None → list_all (λ y. not (p y) || q y) xs ≡ true
all_not_found p q [] is = refl
all_not_found p q (x ∷ xs) is = grind (arith, all_not_found p q xs)

-- a row that passes is found
pub found_any : {X : Type 0} (p : X → Bool) (xs : List X) → list_any p xs ≡ true → (x : X) × (find p xs ≡ Some x)
found_any {X = X} p [] is = absurd cc
found_any {X = X} p (x ∷ xs) is =
    elim (p x) as (λ b. p x ≡ b → (y : X) × (find p (x ∷ xs) ≡ Some y)) [
      | true ↦ λ passes. (x, grind (arith, passes))
      | false ↦ λ other. let rest = found_any p xs (grind (arith, is, other)) in (rest.0, grind (arith, other, rest.1))
    ] refl

-- what holds of all rows holds of the one that was found
pub all_at_found : {X : Type 0} (p q : X → Bool) (xs : List X) (x : X) → find p xs ≡ Some x → list_all q xs ≡ true → q x ≡ true
all_at_found p q [] x is all = absurd cc
all_at_found p q (y ∷ ys) x is all = grind (arith, all_at_found p q ys x)

-- ---- rows of a number

none_numbered : {X : Type 0} (number : X → ℕ) (p : X → Bool) (xs : List X) (n : ℕ) → list_all (λ x. not (number x == n)) xs ≡ true → list_any (λ x. number x == n && p x) xs ≡ false
none_numbered number p [] n none = refl
none_numbered number p (x ∷ xs) n none = grind (arith, none, none_numbered number p xs n)

-- the rows behind the one of a number have other numbers
others_clear : {X : Type 0} (number : X → ℕ) (x : X) (xs : List X) (n : ℕ) → (number x == n) ≡ true → list_all (λ y. not (number x == number y)) xs ≡ true → list_all (λ y. not (number y == n)) xs ≡ true
others_clear number x xs n same fine = all_weaker (λ y. not (number x == number y)) _ (λ y clear. grind (arith, nat_tests, clear, same)) xs fine

-- two tests of the row of a number
pub both_numbered : {X : Type 0} (number : X → ℕ) (p q : X → Bool) (xs : List X) (n : ℕ) → apart (λ x y. number x == number y) xs ≡ true → list_any (λ x. number x == n && p x) xs ≡ true → list_any (λ x. number x == n && q x) xs ≡ true → list_any (λ x. number x == n && (p x && q x)) xs ≡ true
both_numbered number p q [] n fine is was = is
both_numbered number p q (x ∷ xs) n fine is was =
    let parts = and_parts (list_all (λ y. not (number x == number y)) xs) (apart (λ x y. number x == number y) xs) fine in
    elim (number x == n) as (λ b. (number x == n) ≡ b → list_any (λ y. number y == n && (p y && q y)) (x ∷ xs) ≡ true) [
      | true ↦ λ same.
          let clear = others_clear number x xs n same parts.0 in
          grind (arith, same, is, was, none_numbered number p xs n clear, none_numbered number q xs n clear)
      | false ↦ λ other. grind (arith, other, is, was, both_numbered number p q xs n parts.1)
    ] refl

-- what holds of the row of a number holds of the one that was found by it
pub found_numbered : {X : Type 0} (number : X → ℕ) (p : X → Bool) (xs : List X) (n : ℕ) (row : X) → apart (λ x y. number x == number y) xs ≡ true → find (λ x. number x == n) xs ≡ Some row → list_any (λ x. number x == n && p x) xs ≡ true → p row ≡ true
found_numbered number p [] n row fine is has = absurd cc
found_numbered {X = X} number p (x ∷ xs) n row fine is has =
    let parts = and_parts (list_all (λ y. not (number x == number y)) xs) (apart (λ x y. number x == number y) xs) fine in
    elim (number x == n) as (λ b. (number x == n) ≡ b → p row ≡ true) [
      | true ↦ λ same.
          let one : x ≡ row = grind (arith, is, same) in
          subst (λ (y : X). p y ≡ true) one (grind (arith, has, same, none_numbered number p xs n (others_clear number x xs n same parts.0)))
      | false ↦ λ other. found_numbered number p xs n row parts.1 (grind (arith, is, other)) (grind (arith, has, other))
    ] refl

-- where no row of a number is found, none passes
pub not_there : {X : Type 0} (number : X → ℕ) (p : X → Bool) (xs : List X) (n : ℕ) → find (λ x. number x == n) xs ≡ None → list_any (λ x. number x == n && p x) xs ≡ true → ⊥
not_there number p [] n is has = absurd cc
not_there number p (x ∷ xs) n is has = grind (arith, is, has, not_there number p xs n)
