-- The places that an index finds, number by number.
use Rattle.std.proofs.Common.{◌≡◌, ℕ, ◌+◌, ◌<◌, ◌≤◌, Bool, true, false, List, [], ◌∷◌, ◌++◌, map, length, get_or, filter, refl, inl, inr, sym, ◌∙◌, ap, arith, le-leb, true≢false, ◌⊎◌, All, suc, zero}
use Rattle.std.specs.Prelude.{◌^◌}
use Rattle.std.specs.List.{AllPairs, enumerate_from}
use Rattle.std.specs.BTreeSet.{BTreeSet}
use Rattle.std.proofs.lemmas.Bool.{cases_order, cases_Bool, cases_lt, lt-leb}
use Rattle.sw_list.specs.Marks.{Slot, has, NoneBetween}
use Rattle.sw_list.specs.Numbered.{IsIndexed, NoneOfNumber, StandsAt}
use Rattle.sw_caches.specs.Places.{places_by, places_up_to}

module _ {X Y : Type 0} (number : X → ℕ) (item : X → Y) (m : Y → Bool) where
  -- above all numbers that count nothing matches
  pub places_past : (xs : List X) (top place : ℕ) → All (λ x. m (item x) ≡ true → top < number x) xs → places_up_to number item m top place xs ≡ []
  places_past [] top place h = refl
  places_past (x ∷ xs) top place h =
      let rest = places_past xs top (place + 1) (λ k d l. h (suc k) d (omega arith)) in
      elim (cases_Bool (m (item x))) [
        | inl e ↦ rw (e, lt-leb (number x) top (h 0 x (omega arith) e)) rest
        | inr e ↦ rw e rest
      ]

  -- where nothing matches between two numbers, they count alike
  pub places_skip : (xs : List X) (low top place : ℕ) → low ≤ top → All (λ x. m (item x) ≡ true → (number x ≤ low) ⊎ (top < number x)) xs
      → places_up_to number item m top place xs ≡ places_up_to number item m low place xs
  places_skip [] low top place l h = refl
  places_skip (x ∷ xs) low top place l h =
      let rest = places_skip xs low top (place + 1) l (λ k d l2. h (suc k) d (omega arith)) in
      elim (cases_Bool (m (item x))) [
        | inl e ↦ elim (h 0 x (omega arith) e) [
          | inl under ↦ rw (e, le-leb (number x) top (omega arith), le-leb (number x) low under) (ap (λ r. place ∷ r) rest)
          | inr over ↦ rw (e, lt-leb (number x) top over, lt-leb (number x) low (omega arith)) rest
        ]
        | inr e ↦ rw e rest
      ]

  -- a matching entry of the next number adds its place
  pub places_hit : (xs : List X) (low top base place : ℕ) → low < top → AllPairs (λ left right. number left < number right) xs
      → All (λ x. m (item x) ≡ true → (number x ≤ low) ⊎ (top ≤ number x)) xs → place < length xs → ((d : X) → number (get_or xs place d) ≡ top) → ((d : X) → m (item (get_or xs place d)) ≡ true)
      → places_up_to number item m top base xs ≡ places_up_to number item m low base xs ++ (base + place) ∷ []
  places_hit [] low top base place l up gap lt is hit = absurd (omega arith)
  places_hit (x ∷ xs) low top base zero l up gap lt is hit =
      let e = is x in
      let past : (n : ℕ) → n ≤ top → All (λ y. m (item y) ≡ true → n < number y) xs = λ n le k d l2 q. (let g = up 0 (suc k) d (omega arith) (omega arith) in let f = is d in omega arith) in
      rw (hit x, le-leb (number x) top (omega arith), lt-leb (number x) low (omega arith), places_past xs top (base + 1) (past top (omega arith)), places_past xs low (base + 1) (past low (omega arith)))
      (let z : base ≡ base + 0 = omega arith in ap (λ n. n ∷ []) z)
  places_hit (x ∷ xs) low top base (suc place) l up gap lt is hit =
      let rest = places_hit xs low top (base + 1) place l (λ i j d a b. up (suc i) (suc j) d (omega arith) (omega arith)) (λ k d l2. gap (suc k) d (omega arith)) (omega arith) is hit in
      let z : base + 1 + place ≡ base + suc place = omega arith in
      let under : number x < top = (let g = up 0 (suc place) x (omega arith) lt in let f = is x in omega arith) in
      let done = rest ∙ ap (λ n. places_up_to number item m low (base + 1) xs ++ n ∷ []) z in
      elim (cases_Bool (m (item x))) [
        | inl e ↦ elim (gap 0 x (omega arith) e) [
          | inl small ↦ rw (e, le-leb (number x) top (omega arith), le-leb (number x) low small) (ap (λ r. base ∷ r) done)
          | inr large ↦ absurd (omega arith)
        ]
        | inr e ↦ rw e done
      ]

  -- a number above all matching ones counts all
  pub places_all : (xs : List X) (top base : ℕ) → All (λ x. m (item x) ≡ true → number x ≤ top) xs
      → places_up_to number item m top base xs ≡ map (λ item. item.0) (filter (λ item. m item.1) (enumerate_from base (map item xs)))
  places_all [] top base h = refl
  places_all (x ∷ xs) top base h =
      let rest = places_all xs top (base + 1) (λ k d l. h (suc k) d (omega arith)) in
      elim (cases_Bool (m (item x))) [
        | inl e ↦ rw (e, le-leb (number x) top (h 0 x (omega arith) e)) (ap (λ r. base ∷ r) rest)
        | inr e ↦ rw e rest
      ]

module _ {X Y : Type 0} (number : X → ℕ) (item : X → Y) (digest_of : Bool → Y → ℕ) (test : Y → Bool) (code : ℕ) (kind : Bool) (keyed : (p : Y) → test p ≡ true → digest_of kind p ≡ code) (xs : List X) (slots : BTreeSet Slot) (of : IsIndexed number item digest_of xs slots) where
  -- no matching entry has a number between two numbers of the digest
  gap : (low high : ℕ) → NoneBetween slots code low high → All (λ x. test (item x) ≡ true → (number x ≤ low) ⊎ (high ≤ number x)) xs
  gap low high none k d l is = elim (cases_lt low (number (get_or xs k d))) [
    | inr under ↦ inl under
    | inl over ↦ elim (cases_lt (number (get_or xs k d)) high) [
      | inr past ↦ inr past
      | inl within ↦
          let m = number (get_or xs k d) in
          let f : has slots (digest_of kind (item (get_or xs k d))) m ≡ true = of.indexed kind k d l in
          let g : has slots code m ≡ false = none m over within in
          absurd (true≢false (sym f ∙ (ap (λ (key : ℕ). has slots key m) (keyed (item (get_or xs k d)) is) ∙ g)))
    ]
  ]

  pub places_start : [] ≡ places_up_to number item test 0 0 xs
  places_start = sym (places_past number item test xs 0 0 (λ k d l q. (of.bounded k d l).0))

  pub places_none : (low high : ℕ) → low < high → NoneBetween slots code low high → NoneOfNumber number item test xs high
      → places_up_to number item test low 0 xs ≡ places_up_to number item test high 0 xs
  places_none low high lt none fails = sym (places_skip number item test xs low high 0 (omega arith) (λ k d l is. elim (gap low high none k d l is) [
    | inl under ↦ inl under
    | inr past ↦ elim (cases_order high (number (get_or xs k d))) [
      | inl e ↦ absurd (true≢false (sym is ∙ fails k d l (sym e)))
      | inr (inl over) ↦ inr over
      | inr (inr low2) ↦ absurd (omega arith)
    ]
  ]))

  pub places_more : (low high place : ℕ) (p : Y) → low < high → NoneBetween slots code low high → StandsAt number xs high place
      → ((d : X) → item (get_or xs place d) ≡ p) → test p ≡ true
      → places_up_to number item test low 0 xs ++ place ∷ [] ≡ places_up_to number item test high 0 xs
  places_more low high place p lt none stands is hits =
      let z : 0 + place ≡ place = omega arith in
      sym (places_hit number item test xs low high 0 place lt of.rising (gap low high none) stands.0 stands.1 (λ d. ap test (is d) ∙ hits)
      ∙ ap (λ n. places_up_to number item test low 0 xs ++ n ∷ []) z)

  pub places_end : (low : ℕ) → NoneBetween slots code low (2 ^ 64) → places_up_to number item test low 0 xs ≡ places_by test (map item xs)
  places_end low none = places_all number item test xs low 0 (λ k d l is. elim (gap low (2 ^ 64) none k d l is) [
    | inl under ↦ under
    | inr past ↦ absurd (let h = (of.bounded k d l).1 in omega arith)
  ])
