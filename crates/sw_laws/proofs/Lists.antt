-- Lists of rows: tests, look-ups and changes, and rows that are apart.
use Rattle.std.proofs.Common.{◌≡◌, ℕ, ◌+◌, Bool, true, false, not, ◌&&◌, ◌||◌, ◌==◌, List, [], ◌∷◌, ◌++◌, map, filter, Option, Some, None, Ok, Err, IfSome, option_map, length, length-append, refl, sym, ap, arith, if◌then◌else◌}
use Rattle.std.specs.List.{list_any, list_all, find}
use Rattle.std.specs.Option.{option_map_or}
use Rattle.std.proofs.lemmas.Bool.{and_from, and_parts}
use Rattle.std.specs.Prelude.{Result, bytes_eq, option_and_then}
use Rattle.std.proofs.lemmas.Bool.Decides.{nat_tests, same_from_decides}
use Rattle.std.proofs.lemmas.Slice.Eq.{bytes_eq-Decides}
use Rattle.sw_rules.specs.Rows.{changed}
use Rattle.sw_laws.specs.Coherent.{apart}

pub map_same : {X : Type 0} (xs : List X) → map (λ x. x) xs ≡ xs
map_same [] = refl
map_same (x ∷ xs) = ap (λ rest. x ∷ rest) (map_same xs)

-- g sees no change
pub map_kept : {X Y : Type 0} (g : X → Y) (f : X → X) → ((x : X) → g (f x) ≡ g x) → (xs : List X) → map g (map f xs) ≡ map g xs
map_kept g f same [] = refl
map_kept g f same (x ∷ xs) = cc (same x, map_kept g f same xs)

-- what passed passes after the change
pub any_changed : {X : Type 0} (p q : X → Bool) (f : X → X) → ((x : X) → p x ≡ true → q (f x) ≡ true) → (xs : List X) → list_any p xs ≡ true → list_any q (map f xs) ≡ true
any_changed p q f goes [] is = is
any_changed p q f goes (x ∷ xs) is = grind (arith, goes x, any_changed p q f goes xs)

-- one passes p, and none passes q: one passes p and not q
pub any_but : {X : Type 0} (p q : X → Bool) (xs : List X) → list_any p xs ≡ true → list_any q xs ≡ false → list_any (λ x. p x && not (q x)) xs ≡ true
any_but p q [] is none = is
any_but p q (x ∷ xs) is none = grind (arith, any_but p q xs)

pub all_changed : {X : Type 0} (p q : X → Bool) (f : X → X) → ((x : X) → p x ≡ true → q (f x) ≡ true) → (xs : List X) → list_all p xs ≡ true → list_all q (map f xs) ≡ true
all_changed p q f goes [] is = is
all_changed p q f goes (x ∷ xs) is = grind (arith, goes x, all_changed p q f goes xs)

pub all_weaker : {X : Type 0} (p q : X → Bool) → ((x : X) → p x ≡ true → q x ≡ true) → (xs : List X) → list_all p xs ≡ true → list_all q xs ≡ true
all_weaker p q goes [] is = is
all_weaker p q goes (x ∷ xs) is = grind (arith, goes x, all_weaker p q goes xs)

pub apart_changed : {X : Type 0} (clash : X → X → Bool) (f : X → X) → ((x y : X) → clash x y ≡ false → clash (f x) (f y) ≡ false) → (xs : List X) → apart clash xs ≡ true → apart clash (map f xs) ≡ true
apart_changed clash f goes [] is = is
apart_changed clash f goes (x ∷ xs) is =
    let parts = and_parts (list_all (λ y. not (clash x y)) xs) (apart clash xs) is in
    and_from _ _
    (all_changed (λ y. not (clash x y)) (λ y. not (clash (f x) y)) f (λ y apart_now. grind (arith, goes x y)) xs parts.0)
    (apart_changed clash f goes xs parts.1)

-- what was found passes
pub find_passes : {X : Type 0} (p : X → Bool) (xs : List X) (x : X) → find p xs ≡ Some x → p x ≡ true
find_passes p [] x is = absurd cc
find_passes p (y ∷ ys) x is = grind (arith, find_passes p ys x)

-- what was found is there
pub find_any : {X : Type 0} (p q : X → Bool) (xs : List X) (x : X) → find p xs ≡ Some x → q x ≡ true → list_any q xs ≡ true
find_any p q [] x is passes = absurd cc
find_any p q (y ∷ ys) x is passes = grind (arith, find_any p q ys x)

pub all_of_filter : {X : Type 0} (p q : X → Bool) (xs : List X) → list_all p xs ≡ true → list_all p (filter q xs) ≡ true
all_of_filter p q [] is = is
all_of_filter p q (x ∷ xs) is = grind (arith, all_of_filter p q xs)

-- each row passes p, and none passes q
pub all_but : {X : Type 0} (p q : X → Bool) (xs : List X) → list_all p xs ≡ true → list_any q xs ≡ false → list_all (λ x. p x && not (q x)) xs ≡ true
all_but p q [] is none = is
all_but p q (x ∷ xs) is none = grind (arith, all_but p q xs)

pub all_both : {X : Type 0} (p q : X → Bool) (xs : List X) → list_all p xs ≡ true → list_all q xs ≡ true → list_all (λ x. p x && q x) xs ≡ true
all_both p q [] one other = one
all_both p q (x ∷ xs) one other = grind (arith, all_both p q xs)

pub all_members : {X : Type 0} (same : X → X → Bool) → ((x : X) → same x x ≡ true) → (xs ys : List X) → ((x : X) → list_any (λ y. same y x) xs ≡ true → list_any (λ y. same y x) ys ≡ true) → list_all (λ x. list_any (λ y. same y x) ys) xs ≡ true
all_members same own [] ys goes = refl
all_members same own (x ∷ xs) ys goes = and_from _ _ (goes x (grind (arith, own x))) (all_members same own xs ys (λ z is. goes z (grind (arith, is))))

-- each row's number is there
pub all_there : {X : Type 0} (number : X → ℕ) (xs : List X) → list_all (λ x. list_any (λ y. number y == number x) xs) xs ≡ true
all_there number xs = all_members (λ y x. number y == number x) (λ x. grind (arith, nat_tests)) xs xs (λ x is. is)

-- ---- what holds of both branches

pub by_test : {X : Type 0} (P : X → Type 0) (b : Bool) (x y : X) → (b ≡ true → P x) → (b ≡ false → P y) → P (if b then x else y)
by_test P true x y one other = one refl
by_test P false x y one other = other refl

pub by_truth : {P : Type 0} (b : Bool) → (b ≡ true → P) → (b ≡ false → P) → P
by_truth true one other = one refl
by_truth false one other = other refl

pub by_option : {A X : Type 0} (P : X → Type 0) (o : Option A) (gone : X) (there : A → X) → (o ≡ None → P gone) → ((a : A) → o ≡ Some a → P (there a)) → P (elim o [ None ↦ gone | Some a ↦ there a ])
by_option P None gone there one other = one refl
by_option P (Some a) gone there one other = other a refl

pub by_result : {A B X : Type 0} (P : X → Type 0) (result : Result A B) (good : A → X) (bad : B → X) → ((a : A) → result ≡ Ok a → P (good a)) → ((b : B) → result ≡ Err b → P (bad b)) → P (elim result [ Ok a ↦ good a | Err b ↦ bad b ])
by_result P (Ok a) good bad one other = one a refl
by_result P (Err b) good bad one other = other b refl

-- what holds of each value that there is
pub mapped_holds : {A X : Type 0} (P : X → Type 0) (f : A → X) (o : Option A) → ((a : A) → o ≡ Some a → P (f a)) → IfSome (option_map f o) P
mapped_holds P f None each = tt
mapped_holds P f (Some a) each = each a refl

pub bound_holds : {A X : Type 0} (P : X → Type 0) (f : A → Option X) (o : Option A) → ((a : A) → o ≡ Some a → IfSome (f a) P) → IfSome (option_and_then f o) P
bound_holds P f None each = tt
bound_holds P f (Some a) each = each a refl

-- what holds where there is a value
pub where_there : {A : Type 0} (p q : A → Bool) (o : Option A) → ((a : A) → p a ≡ true → q a ≡ true) → option_map_or p o true ≡ true → option_map_or q o true ≡ true
where_there p q None goes is = refl
where_there p q (Some a) goes is = goes a is

-- ---- what is found after a change

pub find_changed : {X : Type 0} (p q : X → Bool) (f : X → X) → ((x : X) → p (f x) ≡ q x) → (xs : List X) → find p (map f xs) ≡ option_map f (find q xs)
find_changed p q f same [] = refl
find_changed p q f same (x ∷ xs) = grind (arith, same x, find_changed p q f same xs)

pub found_clear : {X : Type 0} (clash : X → X → Bool) (q : X → Bool) (x : X) (xs : List X) (y : X) → list_all (λ z. not (clash x z)) xs ≡ true → find q xs ≡ Some y → clash x y ≡ false
found_clear clash q x [] y fine is = absurd cc
found_clear clash q x (z ∷ zs) y fine is = grind (arith, found_clear clash q x zs y)

-- two rows that are found and clash are one
pub found_same : {X : Type 0} (clash : X → X → Bool) → ((x y : X) → clash x y ≡ clash y x) → (p q : X → Bool) (xs : List X) (x y : X) → apart clash xs ≡ true → find p xs ≡ Some x → find q xs ≡ Some y → clash x y ≡ true → x ≡ y
found_same clash symmetric p q [] x y fine is was meet = absurd cc
found_same clash symmetric p q (z ∷ zs) x y fine is was meet =
    grind (arith, found_same clash symmetric p q zs x y, found_clear clash q z zs y, found_clear clash p z zs x, symmetric z x)

-- ---- changes of rows

-- two tests that say the same of all rows change the same ones
pub changed_as : {X : Type 0} (known p q : X → Bool) (f : X → X) → ((x : X) → known x ≡ true → p x ≡ q x) → (xs : List X) → list_all known xs ≡ true → changed p f xs ≡ changed q f xs
changed_as known p q f same [] all = refl
changed_as known p q f same (x ∷ xs) all = grind (arith, all, same x, changed_as known p q f same xs)

-- a change of some rows, and then another one of those
pub then_changed : {X : Type 0} (p : X → Bool) (f g : X → X) → ((x : X) → p (f x) ≡ p x) → (xs : List X) → changed p g (changed p f xs) ≡ changed p (λ x. g (f x)) xs
then_changed p f g same [] = refl
then_changed p f g same (x ∷ xs) = grind (arith, same x, then_changed p f g same xs)

-- where none is found, none is changed
pub none_changed : {X : Type 0} (p : X → Bool) (f : X → X) (xs : List X) → find p xs ≡ None → changed p f xs ≡ xs
none_changed p f [] is = refl
none_changed p f (x ∷ xs) is = grind (arith, is, none_changed p f xs)

-- ---- the same answer

-- what was found by one test is found by another, where the rows that pass the other clash with it
pub found_by : {X : Type 0} (clash : X → X → Bool) (p q : X → Bool) (xs : List X) (x : X) → apart clash xs ≡ true → find p xs ≡ Some x → q x ≡ true → ((y : X) → q y ≡ true → clash y x ≡ true) → find q xs ≡ Some x
found_by clash p q [] x fine is here meet = absurd cc
found_by clash p q (y ∷ ys) x fine is here meet =
    grind (arith, here, meet y, found_by clash p q ys x, found_clear clash p y ys x)

-- ---- nothing is left

-- the first row that passes is the first that passes a stronger test
pub found_stronger : {X : Type 0} (p q : X → Bool) → ((x : X) → q x ≡ true → p x ≡ true) → (xs : List X) (x : X) → find p xs ≡ Some x → q x ≡ true → find q xs ≡ Some x
found_stronger p q goes [] x is here = absurd cc
found_stronger p q goes (y ∷ ys) x is here = grind (arith, here, goes y, found_stronger p q goes ys x)

pub any_from_find : {X : Type 0} (p : X → Bool) (xs : List X) → find p xs ≡ None → list_any p xs ≡ false
any_from_find p [] is = refl
any_from_find p (x ∷ xs) is = grind (arith, any_from_find p xs)

pub length_pushed : {X : Type 0} (rows : List X) (row : X) → length (rows ++ row ∷ []) ≡ length rows + 1
length_pushed rows row = omega (arith, length-append rows (row ∷ []))

-- ---- texts

pub bytes_eq_same : (xs : List ℕ) → bytes_eq xs xs ≡ true
bytes_eq_same xs = (bytes_eq-Decides xs xs).1 refl

pub bytes_eq_equal : (xs ys : List ℕ) → bytes_eq xs ys ≡ true → xs ≡ ys
bytes_eq_equal xs ys is = (bytes_eq-Decides xs ys).0 is

pub bytes_eq_symmetric : (xs ys : List ℕ) → bytes_eq xs ys ≡ bytes_eq ys xs
bytes_eq_symmetric xs ys = same_from_decides _ _ (bytes_eq-Decides xs ys) (λ is. sym ((bytes_eq-Decides ys xs).0 is), λ is. (bytes_eq-Decides ys xs).1 (sym is))

-- ---- small steps

pub either_way : {X : Type 0} (P : X → Type 0) (b : Bool) (x y : X) → P x → P y → P (if b then x else y)
either_way P true x y one other = one
either_way P false x y one other = other

pub not_true : {b : Bool} → (b ≡ true → ⊥) → b ≡ false
not_true {b} never = grind (arith, never)

pub or_from : (a b : Bool) → (a ≡ true → b ≡ true) → (not a || b) ≡ true
or_from a b goes = grind (arith, goes)

pub all_true : {X : Type 0} (xs : List X) → list_all (λ x. true) xs ≡ true
all_true [] = refl
all_true (x ∷ xs) = all_true xs

pub all_not : {X : Type 0} (p : X → Bool) (xs : List X) → list_any p xs ≡ false → list_all (λ x. not (p x)) xs ≡ true
all_not p [] none = refl
all_not p (x ∷ xs) none = grind (arith, none, all_not p xs)

pub any_weaker : {X : Type 0} (p q : X → Bool) → ((x : X) → p x ≡ true → q x ≡ true) → (xs : List X) → list_any p xs ≡ true → list_any q xs ≡ true
any_weaker p q goes [] is = is
any_weaker p q goes (x ∷ xs) is = grind (arith, is, goes x, any_weaker p q goes xs)

pub false_of : {b : Bool} → not b ≡ true → b ≡ false
false_of {b} is = grind (arith, is)

pub none_found : {X : Type 0} (p : X → Bool) (xs : List X) → find p xs ≡ None → list_all (λ x. not (p x)) xs ≡ true
none_found p [] is = refl
none_found p (x ∷ xs) is = grind (arith, is, none_found p xs)
