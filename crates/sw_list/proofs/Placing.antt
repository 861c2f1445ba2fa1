-- The first member that passes: where it stands, counted from a number, in two lists and in the rest of one.
use Rattle.std.proofs.Common.{◌≡◌, ◌∙◌, ℕ, zero, suc, ◌+◌, ◌<◌, inl, inr, Bool, true, false, List, [], ◌∷◌, ◌++◌, length, take, drop, set, map, Some, None, option_map, slice_get, refl, sym, ap, arith, if◌then◌else◌}
use Rattle.std.specs.Prelude.{position}
use Rattle.std.specs.List.{find, position_from}
use Rattle.std.specs.Option.{option_and_then, option_or}
use Rattle.std.proofs.lemmas.Bool.{cases_lt}
use Rattle.std.proofs.lemmas.Iterator.Adapters.{position_from-zero}
use Rattle.std.proofs.lemmas.List.{drop-drop, drop-map, drop_all, length-take, map-set, take-append-drop}

module _ {X : Type 0} (p : X → Bool) where
  -- ---- counted from another number

  shifted : (by from : ℕ) (xs : List X) → position_from p (by + from) xs ≡ option_map (λ i. by + i) (position_from p from xs)
  shifted by from [] = refl
  shifted by from (x ∷ xs) =
      pick (p x) (ap (λ n. position_from p n xs) (omega arith) ∙ shifted by (from + 1) xs)
    where
      pick : (passes : Bool) → position_from p (by + from + 1) xs ≡ option_map (λ i. by + i) (position_from p (from + 1) xs)
          → (if passes then Some (by + from) else position_from p (by + from + 1) xs)
          ≡ option_map (λ i. by + i) (if passes then Some from else position_from p (from + 1) xs)
      pick true rest = refl
      pick false rest = rest

  counted : (from : ℕ) (xs : List X) → position_from p from xs ≡ option_map (λ i. from + i) (position p xs)
  counted from xs =
      ap (λ n. position_from p n xs) (omega arith)
      ∙ shifted from 0 xs ∙ ap (option_map (λ i. from + i)) (sym (position_from-zero p xs))

  pub placed_at : (from : ℕ) (xs : List X) (i : ℕ) → position p xs ≡ Some i → position_from p from xs ≡ Some (from + i)
  placed_at from xs i is = counted from xs ∙ ap (option_map (λ i. from + i)) is

  pub placed_none : (from : ℕ) (xs : List X) → position p xs ≡ None → position_from p from xs ≡ None
  placed_none from xs is = counted from xs ∙ ap (option_map (λ i. from + i)) is

  pub placed_within : (from : ℕ) (xs : List X) (i : ℕ) → position_from p from xs ≡ Some i → i < from + length xs
  placed_within from [] i is = absurd cc
  placed_within from (x ∷ xs) i is = pick (p x) is (placed_within (from + 1) xs i)
    where
      pick : (passes : Bool) → (if passes then Some from else position_from p (from + 1) xs) ≡ Some i
          → (position_from p (from + 1) xs ≡ Some i → i < from + 1 + length xs) → i < from + suc (length xs)
      pick true here later = let same : from ≡ i = cc in omega arith
      pick false there later = omega (arith, later there)

  -- ---- in two lists, and in the rest of one

  appended : (from : ℕ) (xs ys : List X)
      → position_from p from (xs ++ ys) ≡ option_or (position_from p from xs) (position_from p (from + length xs) ys)
  appended from [] ys = ap (λ n. position_from p n ys) (omega arith)
  appended from (x ∷ xs) ys =
      pick (p x) (appended (from + 1) xs ys ∙ ap (λ n. option_or (position_from p (from + 1) xs) (position_from p n ys)) (omega arith))
    where
      pick : (passes : Bool) → position_from p (from + 1) (xs ++ ys) ≡ option_or (position_from p (from + 1) xs) (position_from p (from + suc (length xs)) ys)
          → (if passes then Some from else position_from p (from + 1) (xs ++ ys))
          ≡ option_or (if passes then Some from else position_from p (from + 1) xs) (position_from p (from + suc (length xs)) ys)
      pick true rest = refl
      pick false rest = rest

  -- the first behind a place: the first of so many members, else the first behind those
  pub split_from : (n from next : ℕ) (xs : List X) → next ≡ from + n
      → position_from p from (drop from xs) ≡ option_or (position_from p from (take n (drop from xs))) (position_from p next (drop next xs))
  split_from n from next xs is =
      ap (position_from p from) (sym (take-append-drop n (drop from xs)))
      ∙ appended from (take n (drop from xs)) (drop n (drop from xs))
      ∙ ap (option_or (position_from p from (take n (drop from xs)))) rest
    where
      same : drop n (drop from xs) ≡ drop next xs
      same = drop-drop n from xs ∙ ap (λ k. drop k xs) (sym is)

      rest : position_from p (from + length (take n (drop from xs))) (drop n (drop from xs)) ≡ position_from p next (drop next xs)
      rest = elim (cases_lt (length (drop from xs)) n) [
        | inl short ↦
            let none : drop n (drop from xs) ≡ [] = drop_all n (drop from xs) (omega arith) in
            ap (position_from p (from + length (take n (drop from xs)))) none ∙ sym (ap (position_from p next) (sym same ∙ none))
        | inr long ↦
            let whole : from + length (take n (drop from xs)) ≡ next = omega (arith, length-take n (drop from xs)) in
            ap (λ k. position_from p k (drop n (drop from xs))) whole ∙ ap (position_from p next) same
      ]

-- ---- of rows, by a flag for each

at_place : {X : Type 0} (n : ℕ) (rows : List X) (x : X) (xs : List X) → drop n rows ≡ x ∷ xs → slice_get rows n ≡ Some x
at_place zero [] x xs is = absurd cc
at_place zero (y ∷ rows) x xs is = cc
at_place (suc n) [] x xs is = absurd cc
at_place (suc n) (y ∷ rows) x xs is = at_place n rows x xs is

row_in : {X : Type 0} (test : X → Bool) (rows xs : List X) (from : ℕ) → drop from rows ≡ xs
    → option_and_then (slice_get rows) (position_from (λ flag. flag) from (map test xs)) ≡ find test xs
row_in test rows [] from is = refl
row_in test rows (x ∷ xs) from is =
    pick (test x) (at_place from rows x xs is)
    (row_in test rows xs (from + 1) (sym (drop-drop 1 from rows) ∙ ap (drop 1) is))
  where
    pick : (passes : Bool) → slice_get rows from ≡ Some x
        → option_and_then (slice_get rows) (position_from (λ flag. flag) (from + 1) (map test xs)) ≡ find test xs
        → option_and_then (slice_get rows) (if passes then Some from else position_from (λ flag. flag) (from + 1) (map test xs))
        ≡ (if passes then Some x else find test xs)
    pick true here rest = here
    pick false here rest = rest

-- the row at the first place whose flag is set is the first row that passes, where the flags tell of each row whether it passes
pub first_passing : {X : Type 0} (test : X → Bool) (rows : List X) (flags : List Bool) (from : ℕ) → map test rows ≡ flags
    → option_and_then (slice_get rows) (position_from (λ flag. flag) from (drop from flags)) ≡ find test (drop from rows)
first_passing test rows flags from are =
    ap (λ fs. option_and_then (slice_get rows) (position_from (λ flag. flag) from fs)) (ap (drop from) (sym are) ∙ drop-map test from rows)
    ∙ row_in test rows (drop from rows) from refl

-- a row is changed, and its flag with it
pub flags_set : {X : Type 0} (test : X → Bool) (rows : List X) (flags : List Bool) (place : ℕ) (row : X) (flag : Bool) → map test rows ≡ flags → flag ≡ test row
    → map test (set rows place row) ≡ set flags place flag
flags_set test rows flags place row flag are is = map-set test rows place row ∙ ap (λ fs. set fs place (test row)) are ∙ ap (set flags place) (sym is)
