-- The first that passes, by its place, and what taking it out leaves.
use Rattle.std.proofs.Common.{◌≡◌, ℕ, ◌+◌, ◌<◌, ◌≤◌, Bool, true, false, List, [], ◌∷◌, map, length, get_or, filter, Option, Some, None, refl, inl, inr, sym, ◌∙◌, ap, subst, arith, ltb, ltb-true, lt-ltb, true≢false, All, drop, suc, zero}
use Rattle.std.specs.Prelude.{cond, find, is_some, nat_lt, not, option_map, position, remove}
use Rattle.std.specs.List.{AllPairs, enumerate_from, list_any, position_or_len}
use Rattle.std.specs.List.Sorted.{IsPartitionPoint, IsPartitionedBy}
use Rattle.std.specs.Option.{option_map_or}
use Rattle.std.proofs.lemmas.Bool.{cases_order, cases_Bool, cases_lt}
use Rattle.std.proofs.lemmas.Bool.Decides.{nat_tests}
use Rattle.std.proofs.lemmas.List.Sorted.{IsPartitionedBy-ltb}
use Rattle.std.proofs.lemmas.List.Sums.{fails_before_first, passes_at_first}
use Rattle.std.proofs.lemmas.List.Edits.{get_or-remove_below, get_or-remove_above, length-remove}
use Rattle.sw_list.specs.Numbered.{NoneOfNumber, StandsAt, first_by}

-- the first of a list that passes, behind its place
pub find_here : {X Y : Type 0} (f : X → Y) (m : Y → Bool) (xs : List X) (base place : ℕ) (d : X) → place < length xs → m (f (get_or xs place d)) ≡ true
    → ((k : ℕ) → k < place → m (f (get_or xs k d)) ≡ false) → find (λ item. m item.1) (enumerate_from base (map f xs)) ≡ Some (base + place, f (get_or xs place d))
find_here f m [] base place d lt here before = absurd (omega arith)
find_here f m (x ∷ xs) base zero d lt here before = rw here (let e : base ≡ base + 0 = omega arith in ap (λ n. Some (n, f x)) e)
find_here f m (x ∷ xs) base (suc place) d lt here before =
    rw (before 0 (omega arith)) (find_here f m xs (base + 1) place d (omega arith) here (λ k l. before (suc k) (omega arith))
    ∙ (let e : base + 1 + place ≡ base + suc place = omega arith in ap (λ n. Some (n, f (get_or xs place d))) e))

pub find_none : {X Y : Type 0} (f : X → Y) (m : Y → Bool) (xs : List X) (base : ℕ) → All (λ x. m (f x) ≡ false) xs → find (λ item. m item.1) (enumerate_from base (map f xs)) ≡ None
find_none f m [] base h = refl
find_none f m (x ∷ xs) base h = rw (h 0 x (omega arith)) (find_none f m xs (base + 1) (λ k d l. h (suc k) d (omega arith)))

some_none : {A : Type 0} (x : A) → Some x ≡ None → ⊥
some_none x e = cc

-- what a first match says
pub found_reads : {X Y : Type 0} (f : X → Y) (m : Y → Bool) (xs : List X) (base n : ℕ) (y : Y) → find (λ item. m item.1) (enumerate_from base (map f xs)) ≡ Some (n, y)
    → (place : ℕ) × (base + place ≡ n) × (place < length xs) × ((d : X) → m (f (get_or xs place d)) ≡ true)
found_reads f m [] base n y h = absurd (some_none _ (sym h))
found_reads {Y = Y} f m (x ∷ xs) base n y h = elim (cases_Bool (m (f x))) [
  | inl e ↦ (0, (let s : Some (base, f x) ≡ Some (n, y) = rw e at h in let z : base ≡ n = ap (λ (o : Option (ℕ × Y)). option_map_or (λ i. i.0) o base) s in omega arith), omega arith, λ d. e)
  | inr e ↦
      let rest = found_reads f m xs (base + 1) n y (rw e at h) in
      let is = rest.1 in let low = rest.2 in
      (suc rest.0, omega arith, omega arith, rest.3)
]

pub none_reads : {X Y : Type 0} (f : X → Y) (m : Y → Bool) (xs : List X) (base : ℕ) → find (λ item. m item.1) (enumerate_from base (map f xs)) ≡ None → map f xs ≡ filter (λ y. not (m y)) (map f xs)
none_reads f m [] base h = refl
none_reads f m (x ∷ xs) base h = elim (cases_Bool (m (f x))) [
  | inl e ↦ absurd (some_none _ (rw e at h))
  | inr e ↦ rw e (ap (λ l. f x ∷ l) (none_reads f m xs (base + 1) (rw e at h)))
]

-- a filter passes over what is taken out
pub filter_remove : {X Y : Type 0} (f : X → Y) (m : Y → Bool) (xs : List X) (place : ℕ) (d : X) → place < length xs → m (f (get_or xs place d)) ≡ true
    → filter (λ y. not (m y)) (map f (remove xs place)) ≡ filter (λ y. not (m y)) (map f xs)
filter_remove f m [] place d l h = absurd (omega arith)
filter_remove f m (x ∷ xs) zero d l h = rw h refl
filter_remove f m (x ∷ xs) (suc place) d l h = elim (cases_Bool (m (f x))) [
  | inl e ↦ rw e (filter_remove f m xs place d (omega arith) h)
  | inr e ↦ rw e (ap (λ r. f x ∷ r) (filter_remove f m xs place d (omega arith) h))
]

-- one of a list passes, and it isn't the one that is taken out
pub any_left : {X Y : Type 0} (f : X → Y) (test : Y → Bool) (xs : List X) (place : ℕ) (d : X) → place < length xs → test (f (get_or xs place d)) ≡ false
    → list_any test (map f xs) ≡ true → list_any test (map f (remove xs place)) ≡ true
any_left f test [] place d l out any = absurd (omega arith)
any_left f test (x ∷ xs) zero d l out any = rw out at any
any_left f test (x ∷ xs) (suc place) d l out any = elim (cases_Bool (test (f x))) [
  | inl e ↦ rw e refl
  | inr e ↦ rw e (any_left f test xs place d (omega arith) out (rw e at any))
]

pub found_low : {X Y : Type 0} (f : X → Y) (m : Y → Bool) (xs : List X) (n : ℕ) (y : Y) → Some (n, y) ≡ find (λ item. m item.1) (enumerate_from 0 (map f xs)) → n < length xs
found_low f m xs n y h = let reads = found_reads f m xs 0 n y (sym h) in let a = reads.1 in let b = reads.2 in omega arith

-- what holds of each element but one holds of what is left without it
pub All_kept : {X : Type 0} (P : X → Type 0) (xs : List X) (place : ℕ) → place < length xs → ((j : ℕ) (d : X) → j < length xs → (j ≡ place → ⊥) → P (get_or xs j d)) → All P (remove xs place)
All_kept P xs place l h k d lt = elim (cases_lt k place) [
  | inl low ↦ subst P (sym (get_or-remove_below xs place d k low l)) (h k d (omega arith) (λ e. omega arith))
  | inr high ↦ subst P (sym (get_or-remove_above xs place d k high l)) (h (k + 1) d (let m = length-remove xs place l in omega arith) (λ e. omega arith))
]

module _ {X Y : Type 0} (number : X → ℕ) (item : X → Y) where
  pub parted : (xs : List X) (n : ℕ) → AllPairs (λ left right. number left < number right) xs → IsPartitionedBy (λ x. ltb (number x) n) xs
  parted xs n up = IsPartitionedBy-ltb number xs n (λ i j d le l. elim (cases_order i j) [
    | inl e ↦ (let f : number (get_or xs i d) ≡ number (get_or xs j d) = ap (λ k. number (get_or xs k d)) e in omega arith)
    | inr (inl h) ↦ (let f = up i j d h l in omega arith)
    | inr (inr h) ↦ absurd (omega arith)
  ])

  -- where a search ends beside a number, no entry has it
  pub absent : (xs : List X) (n place : ℕ) → AllPairs (λ left right. number left < number right) xs
      → IsPartitionPoint (λ x. ltb (number x) n ≡ true) (λ x. ltb (number x) n ≡ false) xs place
      → ((d : X) → place < length xs → number (get_or xs place d) ≡ n → ⊥) → All (λ x. number x ≡ n → ⊥) xs
  absent xs n place up point here k d l is = elim (cases_order k place) [
    | inl e ↦ here d (subst (λ i. i < length xs) e l) (subst (λ i. number (get_or xs i d) ≡ n) e is)
    | inr (inl h) ↦ (let low = ltb-true _ _ (point.0 k d (omega arith) h) in omega arith)
    | inr (inr h) ↦ (let f = up place k d h l in elim (cases_lt (number (get_or xs place d)) n) [
      | inl low ↦ true≢false (sym (lt-ltb _ _ low) ∙ point.1 place d (omega arith) (omega arith))
      | inr high ↦ omega arith
    ])
  ]

  -- an entry of a number doesn't match, so no entry of the number does
  pub none_of : (test : Y → Bool) (xs : List X) (n place : ℕ) → AllPairs (λ left right. number left < number right) xs
      → StandsAt number xs n place → ((d : X) → test (item (get_or xs place d)) ≡ false) → NoneOfNumber number item test xs n
  none_of test xs n place up stands fails k d l is = elim (cases_order k place) [
    | inl e ↦ subst (λ i. test (item (get_or xs i d)) ≡ false) (sym e) (fails d)
    | inr (inl h) ↦ absurd (let f = up k place d h stands.0 in let g = stands.1 d in omega arith)
    | inr (inr h) ↦ absurd (let f = up place k d h l in let g = stands.1 d in omega arith)
  ]

-- there is a first that passes where one passes
pub found_any : {Y : Type 0} (test : Y → Bool) (items : List Y) → list_any test items ≡ is_some (first_by test items)
found_any {Y} test items = from 0 items
  where
    from : (base : ℕ) (rest : List Y) → list_any test rest ≡ is_some (find (λ item. test item.1) (enumerate_from base rest))
    from base [] = refl
    from base (x ∷ rest) = elim (cases_Bool (test x)) [
      | inl e ↦ rw e refl
      | inr e ↦ rw e (from (base + 1) rest)
    ]

below_true : (a b : ℕ) → a < b → nat_lt a b ≡ true
below_true a b h = grind (arith, nat_tests)

below_false : (a b : ℕ) → b ≤ a → nat_lt a b ≡ false
below_false a b h = grind (arith, nat_tests)

module _ {Y : Type 0} (test : Y → Bool) where
  shown : (items : List Y) (n : ℕ) → n < length items → position_or_len test items ≡ n → position test items ≡ Some n
  shown items n low is =
      let under : position_or_len test items < length items = omega (arith, low, is) in
      ap (λ b. cond b (Some (position_or_len test items)) None) (below_true (position_or_len test items) (length items) under) ∙ ap (λ m. Some m) is

  hidden : (items : List Y) → length items ≤ position_or_len test items → position test items ≡ None
  hidden items over = ap (λ b. cond b (Some (position_or_len test items)) None) (below_false (position_or_len test items) (length items) over)

  -- where none passes, the first that passes stands nowhere
  pub absent_place : (items : List Y) → All (λ item. test item ≡ false) items → position test items ≡ None
  absent_place [] fails = hidden [] (omega arith)
  absent_place (item ∷ items) fails = elim (cases_lt (position_or_len test (item ∷ items)) (length (item ∷ items))) [
    | inl low ↦ absurd (true≢false (sym (passes_at_first test (item ∷ items) item low) ∙ fails (position_or_len test (item ∷ items)) item low))
    | inr high ↦ hidden (item ∷ items) high
  ]

  -- where the first that passes stands
  place_from : (base : ℕ) (items : List Y) → option_map (λ n. base + n) (position test items) ≡ option_map (λ found. found.0) (find (λ item. test item.1) (enumerate_from base items))
  place_from base [] = ap (option_map (λ n. base + n)) (hidden [] (omega arith))
  place_from base (x ∷ rest) = elim (cases_Bool (test x)) [
    | inl e ↦
        let here : option_map (λ found. found.0) (find (λ item. test item.1) (enumerate_from base (x ∷ rest))) ≡ Some base = rw e refl in
        let z : base + 0 ≡ base = omega arith in
        ap (option_map (λ n. base + n)) (shown (x ∷ rest) 0 (omega arith) (rw e refl)) ∙ (ap (λ n. Some n) z ∙ sym here)
    | inr e ↦
        let there : option_map (λ found. found.0) (find (λ item. test item.1) (enumerate_from base (x ∷ rest))) ≡ option_map (λ found. found.0) (find (λ item. test item.1) (enumerate_from (base + 1) rest)) = rw e refl in
        past e ∙ (place_from (base + 1) rest ∙ sym there)
  ]
    where
      past : test x ≡ false → option_map (λ n. base + n) (position test (x ∷ rest)) ≡ option_map (λ n. base + 1 + n) (position test rest)
      past e =
          let at = position_or_len test rest in
          let is : position_or_len test (x ∷ rest) ≡ 1 + at = rw e refl in
          elim (cases_lt at (length rest)) [
            | inl low ↦
                let z : base + (1 + at) ≡ base + 1 + at = omega arith in
                ap (option_map (λ n. base + n)) (shown (x ∷ rest) (1 + at) (omega (arith, low)) is)
                ∙ (ap (λ n. Some n) z ∙ ap (option_map (λ n. base + 1 + n)) (sym (shown rest at low refl)))
            | inr high ↦
                ap (option_map (λ n. base + n)) (hidden (x ∷ rest) (omega (arith, high, is)))
                ∙ ap (option_map (λ n. base + 1 + n)) (sym (hidden rest high))
          ]

  first_place : (items : List Y) → position test items ≡ option_map (λ found. found.0) (first_by test items)
  first_place items = from_zero (position test items) ∙ place_from 0 items
    where
      from_zero : (o : Option ℕ) → o ≡ option_map (λ n. 0 + n) o
      from_zero None = refl
      from_zero (Some n) = (let z : n ≡ 0 + n = omega arith in ap (λ m. Some m) z)

  -- and the other way round
  pub found_position : (items : List Y) (place : ℕ) → Some place ≡ position test items → (y : Y) × (Some (place, y) ≡ first_by test items)
  found_position items place at = reads (first_by test items) refl (at ∙ first_place items)
    where
      reads : (found : Option (ℕ × Y)) → found ≡ first_by test items → Some place ≡ option_map (λ (f : ℕ × Y). f.0) found → (y : Y) × (Some (place, y) ≡ first_by test items)
      reads None is e = absurd (some_none _ e)
      reads (Some f) is e =
          let same : place ≡ f.0 = ap (λ (o : Option ℕ). option_map_or (λ n. n) o place) e in
          (f.1, ap (λ n. Some (n, f.1)) same ∙ is)

  pub none_position : (items : List Y) → None ≡ position test items → None ≡ first_by test items
  none_position items at = reads (first_by test items) refl (at ∙ first_place items)
    where
      reads : (found : Option (ℕ × Y)) → found ≡ first_by test items → None ≡ option_map (λ (f : ℕ × Y). f.0) found → None ≡ first_by test items
      reads None is e = is
      reads (Some f) is e = absurd (some_none _ (sym e))

module _ {X Y : Type 0} (f : X → Y) (test : X → Bool) (m : Y → Bool) where
  find_same : (base : ℕ) (xs : List X) → All (λ x. test x ≡ m (f x)) xs
      → option_map (λ found. found.0) (find (λ item. test item.1) (enumerate_from base xs)) ≡ option_map (λ found. found.0) (find (λ item. m item.1) (enumerate_from base (map f xs)))
  find_same base [] same = refl
  find_same base (x ∷ xs) same = elim (cases_Bool (test x)) [
    | inl e ↦ rw (e, sym (same 0 x (omega arith)) ∙ e) refl
    | inr e ↦ rw (e, sym (same 0 x (omega arith)) ∙ e) (find_same (base + 1) xs (λ k d l. same (suc k) d (omega arith)))
  ]

  find_past : (base from : ℕ) (xs : List X) → from ≤ length xs → ((k : ℕ) (d : X) → k < from → test (get_or xs k d) ≡ false)
      → ((k : ℕ) (d : X) → from ≤ k → k < length xs → test (get_or xs k d) ≡ m (f (get_or xs k d)))
      → option_map (λ found. found.0) (find (λ item. test item.1) (enumerate_from base xs)) ≡ option_map (λ n. base + from + n) (position m (drop from (map f xs)))
  find_past base zero xs within out same =
      let z : base ≡ base + 0 = omega arith in
      find_same base xs (λ k d l. same k d (omega arith) l) ∙ (sym (place_from m base (map f xs)) ∙ ap (λ b. option_map (λ n. b + n) (position m (map f xs))) z)
  find_past base (suc from) [] within out same = absurd (omega arith)
  find_past base (suc from) (x ∷ xs) within out same =
      let z : base + 1 + from ≡ base + suc from = omega arith in
      rw (out 0 x (omega arith)) (find_past (base + 1) from xs (omega arith) (λ k d l. out (suc k) d (omega arith)) (λ k d le l. same (suc k) d (omega arith) (omega arith))
      ∙ ap (λ b. option_map (λ n. b + n) (position m (drop from (map f xs)))) z)

  -- a test that fails before a place and then agrees with another one finds the first that this one finds from there on
  pub position_past : (from : ℕ) (xs : List X) → from ≤ length xs → ((k : ℕ) (d : X) → k < from → test (get_or xs k d) ≡ false)
      → ((k : ℕ) (d : X) → from ≤ k → k < length xs → test (get_or xs k d) ≡ m (f (get_or xs k d))) → position test xs ≡ option_map (λ n. from + n) (position m (drop from (map f xs)))
  position_past from xs within out same =
      let z : 0 + from ≡ from = omega arith in
      first_place test xs ∙ (find_past 0 from xs within out same ∙ ap (λ b. option_map (λ n. b + n) (position m (drop from (map f xs)))) z)

  -- tests that agree find the same place
  pub position_same : (xs : List X) → All (λ x. test x ≡ m (f x)) xs → position test xs ≡ position m (map f xs)
  position_same xs same = first_place test xs ∙ (find_same 0 xs same ∙ sym (first_place m (map f xs)))
