-- A map from each row's number to the row: what each call does to the rows.
use Rattle.std.proofs.Common.{◌≡◌, ◌≤◌, ◌+◌, ℕ, Bool, false, ◌==◌, length, if◌then◌else◌, nat_eq, List, [], ◌∷◌, ◌++◌, filter, Some, refl, ap, subst, arith}
use Rattle.std.specs.List.{find, list_any, IsDistinct, AllByRecursion}
use Rattle.std.specs.Option.{is_some}
use Rattle.std.specs.Map.{lookup, set_value, remove_entry, keys_of, values_of}
use Rattle.std.proofs.lemmas.Bool.Decides.{nat_tests}
use Rattle.sw_rules.specs.Rows.{changed, without}
use Rattle.sw_client.specs.Keyed.{keyed}

module _ {X : Type 0} (number : X → ℕ) where
  pub values_keyed : (rows : List X) → values_of (keyed number rows) ≡ rows
  values_keyed [] = refl
  values_keyed (x ∷ xs) = ap (λ (rest : List X). x ∷ rest) (values_keyed xs)

  pub lookup_keyed : (n : ℕ) (rows : List X) → lookup (nat_eq n) (keyed number rows) ≡ find (λ row. number row == n) rows
  lookup_keyed n [] = refl
  lookup_keyed n (x ∷ xs) = grind (arith, nat_tests, lookup_keyed n xs)

  pub some_keyed : (n : ℕ) (rows : List X) → is_some (lookup (nat_eq n) (keyed number rows)) ≡ list_any (λ row. number row == n) rows
  some_keyed n [] = refl
  some_keyed n (x ∷ xs) = grind (arith, nat_tests, some_keyed n xs)

  -- no row has this number
  none : (f : X → X) (n : ℕ) (rows : List X) → AllByRecursion (λ k. nat_eq n k ≡ false) (keys_of (keyed number rows)) → (changed (λ row. number row == n) f rows ≡ rows) × (without (λ row. number row == n) rows ≡ rows)
  none f n [] all = (refl, refl)
  none f n (x ∷ xs) all = let rest = none f n xs all.1 in let here = all.0 in (grind (arith, nat_tests), grind (arith, nat_tests))

  -- the rows behind a row of this number have other numbers
  others : (n : ℕ) (x : X) (xs : List X) → number x ≡ n → AllByRecursion (λ k. nat_eq (number x) k ≡ false) (keys_of (keyed number xs)) → AllByRecursion (λ k. nat_eq n k ≡ false) (keys_of (keyed number xs))
  others n x xs same apart = subst (λ k. AllByRecursion (λ z. nat_eq k z ≡ false) (keys_of (keyed number xs))) same apart

  pub set_keyed : (f : X → X) → ((x : X) → number (f x) ≡ number x) → (n : ℕ) (rows : List X) (x : X) → IsDistinct nat_eq (keys_of (keyed number rows)) → find (λ row. number row == n) rows ≡ Some x → set_value (nat_eq n) (keyed number rows) (f x) ≡ keyed number (changed (λ row. number row == n) f rows)
  unfolding IsDistinct
  set_keyed f keeps n [] x apart is = absurd cc
  set_keyed f keeps n (y ∷ ys) x apart is =
      grind (arith, nat_tests, keeps, set_keyed f keeps n ys x apart.1, λ (same : number y ≡ n). none f n ys (others n y ys same apart.0))

  pub remove_keyed : (n : ℕ) (rows : List X) → IsDistinct nat_eq (keys_of (keyed number rows)) → remove_entry (nat_eq n) (keyed number rows) ≡ keyed number (without (λ row. number row == n) rows)
  unfolding IsDistinct
  remove_keyed n [] apart = refl
  remove_keyed n (y ∷ ys) apart =
      grind (arith, nat_tests, remove_keyed n ys apart.1, λ (same : number y ≡ n). none (λ z. z) n ys (others n y ys same apart.0))

  -- ---- counts of rows that pass a test, of rows whose numbers are apart

  module _ (p : X → Bool) where
    pub count_pushed : (rows : List X) (x : X) → length (filter p (rows ++ x ∷ [])) ≡ length (filter p rows) + (if p x then 1 else 0)
    count_pushed [] x = grind arith
    count_pushed (y ∷ ys) x = grind (arith, count_pushed ys x)

    pub count_within : (rows : List X) → length (filter p rows) ≤ length rows
    count_within [] = omega arith
    count_within (x ∷ xs) = grind (arith, count_within xs)

    -- where a row was found, the others that pass are fewer than the rows
    pub count_others : (n : ℕ) (rows : List X) (x : X) → find (λ row. number row == n) rows ≡ Some x → length (filter p rows) + (if p x then 0 else 1) ≤ length rows
    count_others n [] x is = absurd cc
    count_others n (y ∷ ys) x is = grind (arith, count_within ys, count_others n ys x)

    pub count_least : (n : ℕ) (rows : List X) (x : X) → find (λ row. number row == n) rows ≡ Some x → (if p x then 1 else 0) ≤ length (filter p rows)
    count_least n [] x is = absurd cc
    count_least n (y ∷ ys) x is = grind (arith, count_least n ys x)

    pub count_removed : (n : ℕ) (rows : List X) (x : X) → IsDistinct nat_eq (keys_of (keyed number rows)) → find (λ row. number row == n) rows ≡ Some x → length (filter p (without (λ row. number row == n) rows)) + (if p x then 1 else 0) ≡ length (filter p rows)
    unfolding IsDistinct
    count_removed n [] x apart is = absurd cc
    count_removed n (y ∷ ys) x apart is =
        grind (arith, nat_tests, count_removed n ys x apart.1, λ (same : number y ≡ n). (none (λ z. z) n ys (others n y ys same apart.0)).1)

    pub count_changed : (f : X → X) (n : ℕ) (rows : List X) (x : X) → IsDistinct nat_eq (keys_of (keyed number rows)) → find (λ row. number row == n) rows ≡ Some x
        → length (filter p (changed (λ row. number row == n) f rows)) + (if p x then 1 else 0) ≡ length (filter p rows) + (if p (f x) then 1 else 0)
    unfolding IsDistinct
    count_changed f n [] x apart is = absurd cc
    count_changed f n (y ∷ ys) x apart is =
        grind (arith, nat_tests, count_changed f n ys x apart.1, λ (same : number y ≡ n). (none f n ys (others n y ys same apart.0)).0)
