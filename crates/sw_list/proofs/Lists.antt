-- Lists: how many pass from the front on, what rises, and where a key stands.
use Rattle.std.proofs.Common.{◌≡◌, ◌<◌, ◌≤◌, ℕ, zero, suc, Bool, true, false, nat_eq, List, [], ◌∷◌, length, get_or, filter, slice_get, position, Some, None, All, refl, sym, ap, inl, inr, arith, eq-eqb}
use Rattle.std.specs.Prelude.{nat_lt}
use Rattle.std.specs.List.{AllPairs, position_or_len, prefix_len}
use Rattle.std.specs.List.Sorted.{IsNonDecreasingBy, IsPartitionPoint}
use Rattle.std.specs.Map.{keys_of}
use Rattle.std.proofs.lemmas.Bool.{cases_Bool}
use Rattle.std.proofs.lemmas.Bool.Decides.{nat_tests}
use Rattle.std.proofs.lemmas.List.{length-map}
use Rattle.std.proofs.lemmas.List.Elements.{All-filter, All-tail}
use Rattle.std.proofs.lemmas.Option.{get_or_from_slice_get, same_Some, slice_get_within}

below : (a b : ℕ) → a < b → nat_lt a b ≡ true
below a b h = grind (arith, nat_tests)

not_below : (a b : ℕ) → b ≤ a → nat_lt a b ≡ false
not_below a b h = grind (arith, nat_tests)

differs : (a b : ℕ) → a < b → nat_eq b a ≡ false
differs a b h = grind (arith, nat_tests)

module _ {X : Type 0} where
  -- where a search ends, so many pass from the front on
  pub prefix_point : (test : X → Bool) (xs : List X) (i : ℕ) → i ≤ length xs → IsPartitionPoint (λ x. test x ≡ true) (λ x. test x ≡ false) xs i → i ≡ prefix_len test xs
  prefix_point test [] i within point = omega arith
  prefix_point test (x ∷ xs) zero within point = rw (point.1 0 x (omega arith) (omega arith)) refl
  prefix_point test (x ∷ xs) (suc i) within point =
      let rest = prefix_point test xs i (omega arith) ((λ k d low high. point.0 (suc k) d (omega arith) (omega arith)), (λ k d low high. point.1 (suc k) d (omega arith) (omega arith))) in
      rw (point.0 0 x (omega arith) (omega arith)) (omega arith)

  -- where none passes, none does from the front on
  pub prefix_none : (test : X → Bool) (xs : List X) → All (λ x. test x ≡ false) xs → prefix_len test xs ≡ 0
  prefix_none test [] none = refl
  prefix_none test (x ∷ xs) none = rw (none 0 x (omega arith)) refl

  -- one more in front of a list that rises
  pub rising_more : (f : X → ℕ) (x : X) (xs : List X) → All (λ y. f x ≤ f y) xs → IsNonDecreasingBy f xs → IsNonDecreasingBy f (x ∷ xs)
  rising_more f x xs low rest zero zero d le within = omega arith
  rising_more f x xs low rest zero (suc j) d le within = low j d (omega arith)
  rising_more f x xs low rest (suc i) zero d le within = absurd (omega arith)
  rising_more f x xs low rest (suc i) (suc j) d le within = rest i j d (omega arith) (omega arith)

  -- what holds of all pairs, by the first of a list and the rest
  pub pairs_more : (R : X → X → Type 0) (x : X) (xs : List X) → All (R x) xs → AllPairs R xs → AllPairs R (x ∷ xs)
  pairs_more R x xs first rest zero zero d lt within = absurd (omega arith)
  pairs_more R x xs first rest zero (suc j) d lt within = first j d (omega arith)
  pairs_more R x xs first rest (suc i) zero d lt within = absurd (omega arith)
  pairs_more R x xs first rest (suc i) (suc j) d lt within = rest i j d (omega arith) (omega arith)

  pub pairs_first : (R : X → X → Type 0) (x : X) (xs : List X) → AllPairs R (x ∷ xs) → All (R x) xs
  pairs_first R x xs all k d within = all 0 (suc k) d (omega arith) (omega arith)

  pub pairs_rest : (R : X → X → Type 0) (x : X) (xs : List X) → AllPairs R (x ∷ xs) → AllPairs R xs
  pairs_rest R x xs all i j d lt within = all (suc i) (suc j) d (omega arith) (omega arith)

  pub pairs_filtered : (R : X → X → Type 0) (test : X → Bool) (xs : List X) → AllPairs R xs → AllPairs R (filter test xs)
  pairs_filtered R test [] all = all
  pairs_filtered R test (x ∷ xs) all =
      let rest = pairs_filtered R test xs (pairs_rest R x xs all) in
      elim (cases_Bool (test x)) [
        | inl e ↦ rw e (pairs_more R x (filter test xs) (All-filter test (R x) xs (pairs_first R x xs all)) rest)
        | inr e ↦ rw e rest
      ]

  all_pass : (test : X → Bool) (xs : List X) → All (λ x. test x ≡ false) xs → position_or_len test xs ≡ length xs
  all_pass test [] none = refl
  all_pass test (x ∷ xs) none = (let rest = all_pass test xs (All-tail (λ y. test y ≡ false) x xs none) in rw (none 0 x (omega arith)) (omega arith))

  -- where no element passes, there is no first one
  pub position_none : (test : X → Bool) (xs : List X) → All (λ x. test x ≡ false) xs → position test xs ≡ None
  position_none test xs none =
      let out : nat_lt (position_or_len test xs) (length xs) ≡ false = rw (all_pass test xs none) (not_below (length xs) (length xs) (omega arith)) in
      rw out refl

module _ {V : Type 0} where
  first_at : (rows : List (ℕ × V)) (n i : ℕ) (value : V) → AllPairs (λ left right. left.0 < right.0) rows → slice_get rows i ≡ Some (n, value) → position_or_len (nat_eq n) (keys_of rows) ≡ i
  first_at [] n i value rising is = absurd cc
  first_at (row ∷ rows) n zero value rising is =
      let same : row.0 ≡ n = ap (λ (r : ℕ × V). r.0) (same_Some row (n, value) is) in
      rw (eq-eqb n row.0 (sym same)) refl
  first_at (row ∷ rows) n (suc i) value rising is =
      let low = pairs_first (λ left right. left.0 < right.0) row rows rising i row (slice_get_within rows i (n, value) is) in
      let same : (get_or rows i row).0 ≡ n = ap (λ (r : ℕ × V). r.0) (get_or_from_slice_get rows i (n, value) row is) in
      let rest = first_at rows n i value (pairs_rest (λ left right. left.0 < right.0) row rows rising) is in
      rw (differs row.0 n (omega arith)) (omega arith)

  -- where keys rise, one stands at the place where it was read
  pub position_found : (rows : List (ℕ × V)) (n i : ℕ) (value : V) → AllPairs (λ left right. left.0 < right.0) rows → slice_get rows i ≡ Some (n, value)
      → position (nat_eq n) (keys_of rows) ≡ Some i
  position_found rows n i value rising is =
      let at = first_at rows n i value rising is in
      let within : nat_lt (position_or_len (nat_eq n) (keys_of rows)) (length (keys_of rows)) ≡ true =
      rw at (below i (length (keys_of rows)) (let low = slice_get_within rows i (n, value) is in omega (arith, length-map rows (λ (row : ℕ × V). row.0)))) in
      rw within (ap Some at)
