-- Rows that are numbered by their places, found one behind another: where the row that is found fails a further test, the search goes on behind it.
use Rattle.std.proofs.Common.{◌≡◌, ◌∙◌, ℕ, zero, suc, ◌+◌, ◌-◌, ◌<◌, ◌≤◌, Bool, true, false, ◌&&◌, List, [], ◌∷◌, map, drop, length, Option, Some, None, option_map, slice_get, refl, sym, ap, subst, arith}
use Rattle.std.specs.Prelude.{find}
use Rattle.std.specs.List.{range_with_len}
use Rattle.std.proofs.lemmas.List.{drop-drop}
use Rattle.std.proofs.lemmas.Option.{slice_get_within}

-- ---- two tests

found_both : {X : Type 0} (test also : X → Bool) (xs : List X) (x : X) → find test xs ≡ Some x → also x ≡ true → find (λ row. test row && also row) xs ≡ Some x
found_both test also [] x is passes = absurd cc
found_both test also (y ∷ ys) x is passes = grind (arith, passes, found_both test also ys x)

none_both : {X : Type 0} (test also : X → Bool) (xs : List X) → find test xs ≡ None → find (λ row. test row && also row) xs ≡ None
none_both test also [] none = refl
none_both test also (x ∷ xs) none = grind (arith, none_both test also xs)

none_behind : {X : Type 0} (n : ℕ) (xs : List X) → slice_get xs n ≡ None → drop n xs ≡ []
none_behind zero [] none = refl
none_behind (suc n) [] none = refl
none_behind zero (x ∷ xs) none = absurd cc
none_behind (suc n) (x ∷ xs) none = none_behind n xs none

-- ---- numbers that are places, from a first one on

module _ {X : Type 0} (number : X → ℕ) where
  abbrev AreFrom : ℕ → List X → Type 0
  AreFrom base xs = map number xs ≡ range_with_len base (length xs)

  rest_from : (n base : ℕ) (xs : List X) → AreFrom base xs → AreFrom (base + n) (drop n xs)
  rest_from zero base xs are = subst (λ b. AreFrom b xs) (omega arith) are
  rest_from (suc n) base [] are = refl
  rest_from (suc n) base (x ∷ xs) are =
      let rest : AreFrom (base + 1) xs = cc in
      subst (λ b. AreFrom b (drop n xs)) (omega arith) (rest_from n (base + 1) xs rest)

  dropped : (n : ℕ) (xs : List X) → AreFrom 0 xs → AreFrom n (drop n xs)
  dropped n xs are = subst (λ b. AreFrom b (drop n xs)) (omega arith) (rest_from n 0 xs are)

  placed : (base n : ℕ) (xs : List X) (x : X) → AreFrom base xs → slice_get xs n ≡ Some x → number x ≡ base + n
  placed base n [] x are is = absurd cc
  placed base zero (y ∷ ys) x are is = let here : number y ≡ base = cc in let same : y ≡ x = cc in omega (arith, here, ap number same)
  placed base (suc n) (y ∷ ys) x are is =
      let rest : AreFrom (base + 1) ys = cc in
      let place = placed (base + 1) n ys x rest is in
      omega (arith, place)

  later : (test : X → Bool) (base : ℕ) (xs : List X) (y : X) → AreFrom base xs → find test xs ≡ Some y → base ≤ number y
  later test base [] y are is = absurd cc
  later test base (x ∷ xs) y are is =
      let here : number x ≡ base = cc in
      let rest : AreFrom (base + 1) xs = cc in
      grind (arith, here, later test (base + 1) xs y rest)

  skipped : (test also : X → Bool) (base k : ℕ) (xs : List X) (y : X) → AreFrom base xs → find test xs ≡ Some y → also y ≡ false → number y ≡ base + k
      → find (λ row. test row && also row) xs ≡ find (λ row. test row && also row) (drop (suc k) xs)
  skipped test also base k [] y are is fails place = absurd cc
  skipped test also base zero (x ∷ xs) y are is fails place =
      let here : number x ≡ base = cc in
      let rest : AreFrom (base + 1) xs = cc in
      grind (arith, here, later test (base + 1) xs y rest, place, fails)
  skipped test also base (suc k) (x ∷ xs) y are is fails place =
      let here : number x ≡ base = cc in
      let rest : AreFrom (base + 1) xs = cc in
      grind (arith, here, skipped test also (base + 1) k xs y rest, place, fails)

-- ---- one turn of a search for a row that passes both tests, from a place on

module _ {X : Type 0} (number : X → ℕ) (test also : X → Bool) (rows : List X) (are : AreFrom number 0 rows) (from : ℕ) where
  abbrev both : X → Bool
  both row = test row && also row

  -- no row behind the place passes the first test
  pub none_left : find test (drop from rows) ≡ None → find both (drop from rows) ≡ find both rows → None ≡ find both rows
  none_left none so_far = sym (none_both test also (drop from rows) none) ∙ so_far

  module _ (y : X) (found : find test (drop from rows) ≡ Some y) where
    -- the next row that passes the first test passes both
    pub passes_both : also y ≡ true → find both (drop from rows) ≡ find both rows → Some y ≡ find both rows
    passes_both passes so_far = sym (found_both test also (drop from rows) y found passes) ∙ so_far

    ahead : from ≤ number y
    ahead = later number test from (drop from rows) y (dropped number from rows are) found

    goes_on : also y ≡ false → find both (drop from rows) ≡ find both (drop (number y + 1) rows)
    goes_on fails =
        skipped number test also from (number y - from) (drop from rows) y (dropped number from rows are) found fails (omega (arith, ahead))
        ∙ ap (find both) (drop-drop (suc (number y - from)) from rows ∙ ap (λ n. drop n rows) (omega (arith, ahead)))

    behind : (o : Option X) (next : ℕ) → Some next ≡ option_map number o → slice_get rows (number y + 1) ≡ o
        → (next ≡ number y + 1) × (number y + 1 < length rows)
    behind None next is there = absurd cc
    behind (Some x) next is there =
        let same : next ≡ number x = cc in
        (same ∙ placed number 0 (number y + 1) rows x are there ∙ omega arith, slice_get_within rows (number y + 1) x there)

    -- it fails the second, and the search goes on with the row behind it
    pub passes_one : (next : ℕ) → also y ≡ false → Some next ≡ option_map number (slice_get rows (number y + 1))
        → find both (drop from rows) ≡ find both rows → find both (drop next rows) ≡ find both rows
    passes_one next fails is so_far =
        let place = (behind (slice_get rows (number y + 1)) next is refl).0 in
        ap (λ n. find both (drop n rows)) place ∙ (sym (goes_on fails) ∙ so_far)

    -- fewer rows are left then
    pub fewer_left : (next : ℕ) → Some next ≡ option_map number (slice_get rows (number y + 1)) → length rows - next < length rows - from
    fewer_left next is =
        let parts = behind (slice_get rows (number y + 1)) next is refl in
        omega (arith, ahead, parts.0, parts.1)

    -- or there is no row behind it
    pub is_last : also y ≡ false → None ≡ option_map number (slice_get rows (number y + 1))
        → find both (drop from rows) ≡ find both rows → None ≡ find both rows
    is_last fails none so_far =
        sym (goes_on fails ∙ ap (find both) (none_behind (number y + 1) rows (no_row (slice_get rows (number y + 1)) none))) ∙ so_far
      where
        no_row : (o : Option X) → None ≡ option_map number o → o ≡ None
        no_row None is = refl
        no_row (Some x) is = absurd cc
