-- Entries that are copied one by one, in order.
use Rattle.std.proofs.Common.{◌≡◌, ◌∙◌, ◌+◌, ℕ, zero, suc, false, nat_eq, List, [], ◌∷◌, ◌++◌, slice_get, take, Some, None, refl, sym, ap, arith}
use Rattle.std.specs.List.{AllByRecursion, IsDistinct}
use Rattle.std.specs.Map.{keys_of, lookup, values_of}
use Rattle.std.proofs.lemmas.Bool.Decides.{nat_tests}
use Rattle.std.proofs.lemmas.List.{take_more}
use Rattle.std.proofs.lemmas.Option.{get_or_from_slice_get, slice_get_within}

module _ {V : Type 0} where
  -- a number is none of those that others are not
  not_there : (n : ℕ) (entries : List (ℕ × V)) (i number : ℕ) → AllByRecursion (λ k. nat_eq n k ≡ false) (keys_of entries) → slice_get (keys_of entries) i ≡ Some number → nat_eq n number ≡ false
  not_there n [] i number all at = absurd cc
  not_there n (x ∷ xs) zero number all at = let here = all.0 in let same : x.0 ≡ number = cc at in grind (arith, here, same)
  not_there n (x ∷ xs) (suc i) number all at = not_there n xs i number all.1 at

  -- a number isn't among those before it
  pub fresh_at : (entries : List (ℕ × V)) (i number : ℕ) → IsDistinct nat_eq (keys_of entries) → slice_get (keys_of entries) i ≡ Some number → lookup (nat_eq number) (take i entries) ≡ None
  unfolding IsDistinct
  fresh_at [] i number apart at = absurd cc
  fresh_at (x ∷ xs) zero number apart at = refl
  fresh_at (x ∷ xs) (suc i) number apart at =
      let other = not_there x.0 xs i number apart.0 at in
      let later = fresh_at xs i number apart.1 at in
      grind (arith, nat_tests, other, later)

  pair_at : (entries : List (ℕ × V)) (i number : ℕ) (value : V) → slice_get (keys_of entries) i ≡ Some number → slice_get (values_of entries) i ≡ Some value → slice_get entries i ≡ Some (number, value)
  pair_at [] i number value key at = absurd cc
  pair_at (x ∷ xs) zero number value key at =
      let one : x.0 ≡ number = cc key in
      let two : x.1 ≡ value = cc at in
      λ j. Some (one j, two j)
  pair_at (x ∷ xs) (suc i) number value key at = pair_at xs i number value key at

  -- one entry more
  pub one_more : (entries : List (ℕ × V)) (i number : ℕ) (value : V) → slice_get (keys_of entries) i ≡ Some number → slice_get (values_of entries) i ≡ Some value
      → take i entries ++ (number, value) ∷ [] ≡ take (i + 1) entries
  one_more entries i number value key at =
      let pair = pair_at entries i number value key at in
      ap (λ (entry : ℕ × V). take i entries ++ entry ∷ []) (sym (get_or_from_slice_get entries i (number, value) (number, value) pair))
      ∙ sym (take_more entries i (number, value) (slice_get_within entries i (number, value) pair))
