-- Rows that are numbered by their places: how they are found, changed and added.
use Rattle.std.proofs.Common.{◌≡◌, ◌∙◌, ◌≢◌, ℕ, zero, suc, ◌+◌, ◌<◌, ◌≤◌, Bool, true, false, true≢false, ◌==◌, nat_lt, List, [], ◌∷◌, ◌++◌, length, set, get_or, Option, Some, None, refl, sym, ap, subst, arith, slice_get}
use Rattle.std.specs.List.{find}
use Rattle.std.specs.Option.{option_map_or}
use Rattle.std.proofs.lemmas.Bool.Decides.{nat_tests}
use Rattle.std.proofs.lemmas.List.{get_or-set_same, get_or-set_other, get_or_append_left, get_or_push, length-append, length-set}
use Rattle.std.proofs.lemmas.Option.{slice_get-get_or, slice_get_past}
use Rattle.sw_rules.specs.Rows.{changed}

-- each row has this property at its place
abbrev pub AtPlaces : {X : Type 0} → (ℕ → X → Type 0) → List X → Type 0
AtPlaces P rows = (i : ℕ) (d : _) → i < length rows → P i (get_or rows i d)

module _ {X : Type 0} (P : ℕ → X → Type 0) where
  -- a row that has the property of its place is put there
  pub set_at_places : (rows : List X) (n : ℕ) (new : X) → AtPlaces P rows → n < length rows → P n new → AtPlaces P (set rows n new)
  set_at_places rows n new each below has i d inside = by (i == n) refl
    where
      by : (b : Bool) → (i == n) ≡ b → P i (get_or (set rows n new) i d)
      by true is =
          let same : i ≡ n = grind (arith, nat_tests) in
          subst (λ k. P k (get_or (set rows n new) k d)) (sym same) (subst (P n) (sym (get_or-set_same rows n new d below)) has)
      by false is =
          let other : i ≢ n = grind (arith, nat_tests) in
          subst (P i) (sym (get_or-set_other rows n i new d other)) (each i d (omega (arith, inside, length-set rows n new)))

  -- a row that has the property of the next place is added
  pub more_at_places : (rows : List X) (new : X) → AtPlaces P rows → P (length rows) new → AtPlaces P (rows ++ new ∷ [])
  more_at_places rows new each has i d inside = by (nat_lt i (length rows)) refl
    where
      by : (b : Bool) → nat_lt i (length rows) ≡ b → P i (get_or (rows ++ new ∷ []) i d)
      by true is =
          let below : i < length rows = grind (arith, nat_tests) in
          subst (P i) (sym (get_or_append_left rows (new ∷ []) d i below)) (each i d below)
      by false is =
          let past : length rows ≤ i = grind (arith, nat_tests) in
          let last : length rows ≡ i = omega (arith, past, inside, length-append rows (new ∷ [])) in
          subst (λ k. P k (get_or (rows ++ new ∷ []) k d)) last (subst (P (length rows)) (sym (get_or_push rows new d (length rows) refl)) has)

module _ {X : Type 0} (number : X → ℕ) where
  -- the numbers are the places, from a first one on
  abbrev Placed : ℕ → List X → Type 0
  Placed base rows = AtPlaces (λ place row. number row ≡ base + place) rows

  rest_placed : (base : ℕ) (x : X) (xs : List X) → Placed base (x ∷ xs) → Placed (suc base) xs
  rest_placed base x xs placed i d below = let is = placed (suc i) d (omega (arith, below)) in omega (arith, is)

  find_placed : (base : ℕ) (rows : List X) → Placed base rows → (n t : ℕ) → t ≡ base + n → find (λ row. number row == t) rows ≡ slice_get rows n
  find_placed base [] placed n t is = refl
  find_placed base (x ∷ xs) placed zero t is = let here = placed 0 x (omega arith) in grind (arith, nat_tests)
  find_placed base (x ∷ xs) placed (suc n) t is =
      let here = placed 0 x (omega arith) in
      let rest = find_placed (suc base) xs (rest_placed base x xs placed) n t (omega (arith, is)) in
      grind (arith, nat_tests)

  before_placed : (f : X → X) (base : ℕ) (rows : List X) → Placed base rows → (t : ℕ) → t < base → changed (λ row. number row == t) f rows ≡ rows
  before_placed f base [] placed t past = refl
  before_placed f base (x ∷ xs) placed t past =
      let here = placed 0 x (omega arith) in
      let rest = before_placed f (suc base) xs (rest_placed base x xs placed) t (omega (arith, past)) in
      grind (arith, nat_tests)

  set_placed : (f : X → X) (base : ℕ) (rows : List X) → Placed base rows → (n t : ℕ) (d : X) → t ≡ base + n → n < length rows
      → set rows n (f (get_or rows n d)) ≡ changed (λ row. number row == t) f rows
  set_placed f base [] placed n t d is below = refl
  set_placed f base (x ∷ xs) placed zero t d is below =
      let here = placed 0 x (omega arith) in
      let rest = before_placed f (suc base) xs (rest_placed base x xs placed) t (omega (arith, is)) in
      grind (arith, nat_tests)
  set_placed f base (x ∷ xs) placed (suc n) t d is below =
      let here = placed 0 x (omega arith) in
      let rest = set_placed f (suc base) xs (rest_placed base x xs placed) n t d (omega (arith, is)) (omega (arith, below)) in
      grind (arith, nat_tests)

  from_zero : (rows : List X) → AtPlaces (λ place row. number row ≡ place) rows → Placed 0 rows
  from_zero rows placed i d below = let is = placed i d below in omega (arith, is)

  found : (rows : List X) (n : ℕ) → AtPlaces (λ place row. number row ≡ place) rows → find (λ row. number row == n) rows ≡ slice_get rows n
  found rows n placed = find_placed 0 rows (from_zero rows placed) n n (omega arith)

  pub found_here : (rows : List X) (n : ℕ) (d : X) → AtPlaces (λ place row. number row ≡ place) rows → n < length rows
      → find (λ row. number row == n) rows ≡ Some (get_or rows n d)
  found_here rows n d placed below = found rows n placed ∙ slice_get-get_or rows n d below

  pub found_none : (rows : List X) (n : ℕ) → AtPlaces (λ place row. number row ≡ place) rows → length rows ≤ n → find (λ row. number row == n) rows ≡ None
  found_none rows n placed past = found rows n placed ∙ slice_get_past rows n past

  pub changed_here : (f : X → X) (rows : List X) (n : ℕ) (d : X) → AtPlaces (λ place row. number row ≡ place) rows → n < length rows
      → set rows n (f (get_or rows n d)) ≡ changed (λ row. number row == n) f rows
  changed_here f rows n d placed below = set_placed f 0 rows (from_zero rows placed) n n d (omega arith) below

  -- a row that passes stands at its number
  pub place_within : (test : X → Bool) (rows : List X) (n : ℕ) → AtPlaces (λ place row. number row ≡ place) rows
      → option_map_or test (find (λ row. number row == n) rows) false ≡ true → n < length rows
  place_within test rows n placed has = by (nat_lt n (length rows)) refl
    where
      by : (b : Bool) → nat_lt n (length rows) ≡ b → n < length rows
      by true is = grind (arith, nat_tests)
      by false is =
          let past : length rows ≤ n = grind (arith, nat_tests) in
          absurd (true≢false (sym has ∙ ap (λ (o : Option X). option_map_or test o false) (found_none rows n placed past)))

  pub passes_here : (test : X → Bool) (rows : List X) (n : ℕ) (d : X) → AtPlaces (λ place row. number row ≡ place) rows
      → option_map_or test (find (λ row. number row == n) rows) false ≡ true → test (get_or rows n d) ≡ true
  passes_here test rows n d placed has =
      sym (ap (λ (o : Option X). option_map_or test o false) (found_here rows n d placed (place_within test rows n placed has))) ∙ has
