-- Rows that are numbered by their places: what is found, and what a change makes of it.
use Rattle.std.proofs.Common.{◌≡◌, ◌∙◌, ℕ, ◌+◌, ◌<◌, leb, Bool, true, false, true≢false, ◌==◌, ◌&&◌, List, [], ◌∷◌, ◌++◌, map, Option, Some, None, option_map, length, is_some, refl, sym, ap, arith}
use Rattle.std.specs.Prelude.{find}
use Rattle.std.specs.List.{list_any, range_with_len}
use Rattle.std.specs.Option.{option_map_or}
use Rattle.std.proofs.lemmas.Bool.{and_parts}
use Rattle.std.proofs.lemmas.Bool.Decides.{nat_tests}
use Rattle.sw_rules.specs.Rows.{changed}
use Rattle.sw_tables.specs.Linked.{ArePlaces}

-- ---- what is found

pub find_passes : {X : Type 0} (test : X → Bool) (xs : List X) (x : X) → find test xs ≡ Some x → test x ≡ true
find_passes test [] x is = absurd cc
find_passes test (y ∷ ys) x is = grind (arith, find_passes test ys x)

pub find_map : {X Y : Type 0} (test : Y → Bool) (f : X → Y) (xs : List X) → find test (map f xs) ≡ option_map f (find (λ x. test (f x)) xs)
find_map test f [] = refl
find_map test f (x ∷ xs) = grind (arith, find_map test f xs)

-- rows that are changed before they are read, or after
pub map_changed : {X Y : Type 0} (read : X → Y) (test : X → Bool) (f : X → X) (after : Y → Bool) (g : Y → Y) → ((x : X) → after (read x) ≡ test x) → ((x : X) → read (f x) ≡ g (read x))
    → (xs : List X) → map read (changed test f xs) ≡ changed after g (map read xs)
map_changed read test f after g same reads [] = refl
map_changed read test f after g same reads (x ∷ xs) = grind (arith, same x, reads x, map_changed read test f after g same reads xs)

-- what is found after a change that the test doesn't see
pub find_same : {X : Type 0} (test : X → Bool) (f : X → X) → ((x : X) → test (f x) ≡ test x) → (xs : List X) → find test (map f xs) ≡ option_map f (find test xs)
find_same test f same [] = refl
find_same test f same (x ∷ xs) = grind (arith, same x, find_same test f same xs)

pub any_same : {X : Type 0} (test : X → Bool) (f : X → X) → ((x : X) → test (f x) ≡ test x) → (xs : List X) → list_any test (map f xs) ≡ list_any test xs
any_same test f same [] = refl
any_same test f same (x ∷ xs) = grind (arith, same x, any_same test f same xs)

pub any_map : {X Y : Type 0} (test : Y → Bool) (f : X → Y) (xs : List X) → list_any test (map f xs) ≡ list_any (λ x. test (f x)) xs
any_map test f [] = refl
any_map test f (x ∷ xs) = grind (arith, any_map test f xs)

any_found : {X : Type 0} (test : X → Bool) (xs : List X) → list_any test xs ≡ is_some (find test xs)
any_found test [] = refl
any_found test (x ∷ xs) = grind (arith, any_found test xs)

module _ {X : Type 0} (number : X → ℕ) where
  abbrev at : ℕ → List X → Option X
  at n rows = find (λ row. number row == n) rows

  pub found_number : (n : ℕ) (xs : List X) (x : X) → at n xs ≡ Some x → number x ≡ n
  found_number n [] x is = absurd cc
  found_number n (y ∷ ys) x is = grind (arith, nat_tests, found_number n ys x)

  pub at_changed : (f : X → X) → ((x : X) → number (f x) ≡ number x) → (n : ℕ) (xs : List X) → at n (changed (λ row. number row == n) f xs) ≡ option_map f (at n xs)
  at_changed f keeps n [] = refl
  at_changed f keeps n (x ∷ xs) = grind (arith, nat_tests, keeps x, at_changed f keeps n xs)

  pub at_others : (f : X → X) → ((x : X) → number (f x) ≡ number x) → (n m : ℕ) → (n == m) ≡ false → (xs : List X) → at n (changed (λ row. number row == m) f xs) ≡ at n xs
  at_others f keeps n m other [] = refl
  at_others f keeps n m other (x ∷ xs) = grind (arith, nat_tests, other, keeps x, at_others f keeps n m other xs)

  -- ---- rows whose numbers are places

  later : (test : X → Bool) (base : ℕ) (xs : List X) (y : X) → map number xs ≡ range_with_len base (length xs) → find test xs ≡ Some y → leb base (number y) ≡ true
  later test base [] y are is = absurd cc
  later test base (x ∷ xs) y are is =
      let here : number x ≡ base = cc in
      let rest : map number xs ≡ range_with_len (base + 1) (length xs) = cc in
      grind (arith, nat_tests, here, later test (base + 1) xs y rest)

  found_from : (test : X → Bool) (base : ℕ) (xs : List X) (y : X) → map number xs ≡ range_with_len base (length xs) → find test xs ≡ Some y → at (number y) xs ≡ Some y
  found_from test base [] y are is = absurd cc
  found_from test base (x ∷ xs) y are is =
      let here : number x ≡ base = cc in
      let rest : map number xs ≡ range_with_len (base + 1) (length xs) = cc in
      grind (arith, nat_tests, here, later test (base + 1) xs y rest, found_from test (base + 1) xs y rest)

  -- a row that is found is that of its number
  pub found_at : (test : X → Bool) (xs : List X) (y : X) → ArePlaces number xs → find test xs ≡ Some y → at (number y) xs ≡ Some y
  found_at test xs y are is = found_from test 0 xs y are is

  found_by : (test : X → Bool) (xs : List X) (n : ℕ) (x : X) → at n xs ≡ Some x → test x ≡ true → (y : X) → find test xs ≡ Some y → (number y ≡ n) → ArePlaces number xs → find test xs ≡ Some x
  found_by test xs n x is passes y found same are =
      let own = found_at test xs y are found in
      let one : at n xs ≡ Some y = cc in cc

  there : (p q : X → Bool) (xs : List X) (x : X) → find p xs ≡ Some x → q x ≡ true → find q xs ≡ None → ⊥
  there p q [] x is passes none = absurd cc
  there p q (y ∷ ys) x is passes none = grind (arith, there p q ys x)

  -- the one row that passes is found
  pub only : (test : X → Bool) (xs : List X) (n : ℕ) (x : X) → ArePlaces number xs → at n xs ≡ Some x → test x ≡ true
      → ((y : X) → at (number y) xs ≡ Some y → test y ≡ true → number y ≡ n) → find test xs ≡ Some x
  only test xs n x are is passes one = by (find test xs) refl
    where
      by : (o : Option X) → find test xs ≡ o → find test xs ≡ Some x
      by None none = absurd (there (λ row. number row == n) test xs x is passes none)
      by (Some y) found =
          found_by test xs n x is passes y found (one y (found_at test xs y are found) (find_passes test xs y found)) are

  -- none is found where no row passes
  pub no_row : (test : X → Bool) (xs : List X) → ArePlaces number xs → ((y : X) → at (number y) xs ≡ Some y → test y ≡ false) → find test xs ≡ None
  no_row test xs are none = by (find test xs) refl
    where
      by : (o : Option X) → find test xs ≡ o → find test xs ≡ None
      by None is = is
      by (Some y) found =
          absurd (true≢false (sym (find_passes test xs y found) ∙ none y (found_at test xs y are found)))

  -- two changes that agree on each row that is there
  map_from : {Y : Type 0} (f g : X → Y) (base : ℕ) (xs : List X) → map number xs ≡ range_with_len base (length xs) → ((y : X) → at (number y) xs ≡ Some y → f y ≡ g y) → map f xs ≡ map g xs
  map_from f g base [] are agree = refl
  map_from f g base (x ∷ xs) are agree =
      let here : number x ≡ base = cc in
      let rest : map number xs ≡ range_with_len (base + 1) (length xs) = cc in
      let first : f x ≡ g x = agree x (grind (arith, nat_tests)) in
      let others = map_from f g (base + 1) xs rest
      (λ y is. agree y (grind (arith, nat_tests, here, later (λ row. number row == number y) (base + 1) xs y rest is, is))) in
      cc (first, others)

  pub map_on : {Y : Type 0} (f g : X → Y) (xs : List X) → ArePlaces number xs → ((y : X) → at (number y) xs ≡ Some y → f y ≡ g y) → map f xs ≡ map g xs
  map_on f g xs are agree = map_from f g 0 xs are agree

  -- a row of a number passes where the row that is there does
  pub any_at : (test : X → Bool) (n : ℕ) (xs : List X) → ArePlaces number xs → list_any (λ row. number row == n && test row) xs ≡ option_map_or test (at n xs) false
  any_at test n xs are = any_found (λ row. number row == n && test row) xs ∙ by (at n xs) refl
    where
      both : X → Bool
      both row = number row == n && test row

      fails : (x y : X) (b : Bool) → at n xs ≡ Some x → test x ≡ false → at (number y) xs ≡ Some y → both y ≡ b → b ≡ false
      fails x y true is no_test there passes =
          let parts = and_parts (number y == n) (test y) passes in
          let own : number y ≡ n = grind (arith, nat_tests, parts.0) in
          let one : at n xs ≡ Some y = cc (own, there) in
          absurd cc
      fails x y false is no_test there passes = refl

      absent : (y : X) (b : Bool) → at n xs ≡ None → at (number y) xs ≡ Some y → both y ≡ b → b ≡ false
      absent y true is there passes =
          let parts = and_parts (number y == n) (test y) passes in
          let own : number y ≡ n = grind (arith, nat_tests, parts.0) in
          let one : at n xs ≡ Some y = cc (own, there) in
          absurd cc
      absent y false is there passes = refl

      here : (x : X) (b : Bool) → at n xs ≡ Some x → test x ≡ b → is_some (find both xs) ≡ b
      here x true is passes =
          let own = found_number n xs x is in
          let found = only both xs n x are is (grind (arith, nat_tests, own, passes))
          (λ y there both_pass. let parts = and_parts (number y == n) (test y) both_pass in grind (arith, nat_tests, parts.0)) in
          ap is_some found
      here x false is passes = ap is_some (no_row both xs are (λ y there. fails x y (both y) is passes there refl))

      by : (o : Option X) → at n xs ≡ o → is_some (find both xs) ≡ option_map_or test o false
      by None is = ap is_some (no_row both xs are (λ y there. absent y (both y) is there refl))
      by (Some x) is = here x (test x) is refl

  -- ---- one row more

  places_from : (base : ℕ) (xs : List X) (x : X) → map number xs ≡ range_with_len base (length xs) → number x ≡ base + length xs → map number (xs ++ x ∷ []) ≡ range_with_len base (length (xs ++ x ∷ []))
  places_from base [] x are place = let here : number x ≡ base = omega (arith, place) in cc
  places_from base (y ∷ ys) x are place =
      let here : number y ≡ base = cc in
      let rest : map number ys ≡ range_with_len (base + 1) (length ys) = cc in
      let later = places_from (base + 1) ys x rest (omega (arith, place)) in
      cc (here, later)

  pub places_more : (xs : List X) (x : X) → ArePlaces number xs → number x ≡ length xs → ArePlaces number (xs ++ x ∷ [])
  places_more xs x are place = places_from 0 xs x are (omega (arith, place))

  below_from : (base n : ℕ) (xs : List X) (x : X) → map number xs ≡ range_with_len base (length xs) → at n xs ≡ Some x → n < base + length xs
  below_from base n [] x are is = absurd cc
  below_from base n (y ∷ ys) x are is =
      let here : number y ≡ base = cc in
      let rest : map number ys ≡ range_with_len (base + 1) (length ys) = cc in
      grind (arith, nat_tests, here, is, below_from (base + 1) n ys x rest)

  -- a number that is found is below the length
  pub within : (n : ℕ) (xs : List X) (x : X) → ArePlaces number xs → at n xs ≡ Some x → n < length xs
  within n xs x are is = let below = below_from 0 n xs x are is in omega (arith, below)
