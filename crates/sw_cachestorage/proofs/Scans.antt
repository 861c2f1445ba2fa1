-- One row after another of a list.
use Rattle.std.proofs.Common.{◌≡◌, ◌+◌, ◌<◌, ◌==◌, ℕ, zero, suc, Bool, false, List, [], ◌∷◌, map, length, Some, refl, arith}
use Rattle.std.specs.Prelude.{slice_get}
use Rattle.std.specs.List.{list_any, range_with_len}
use Rattle.std.proofs.lemmas.Bool.Decides.{nat_tests}
use Rattle.sw_rules.specs.Rows.{changed}

-- rows numbered from a later place on stay where a number changes
pub past_stay : {X : Type 0} (number : X → ℕ) (f : X → X) (n base : ℕ) → n < base → (xs : List X) → map number xs ≡ range_with_len base (length xs) → changed (λ x. number x == n) f xs ≡ xs
past_stay number f n base below [] are = refl
past_stay number f n base below (x ∷ xs) are =
    let here : number x ≡ base = cc in
    let other : (number x == n) ≡ false = grind (arith, nat_tests, here, below) in
    let rest = past_stay number f n (base + 1) (omega (arith, below)) xs cc in
    cc (other, rest)

-- where none passes, that of a place doesn't
pub none_at : {X : Type 0} (test : X → Bool) (xs : List X) → list_any test xs ≡ false → (i : ℕ) (x : X) → slice_get xs i ≡ Some x → test x ≡ false
none_at test [] none i x is = absurd cc
none_at test (y ∷ ys) none zero x is = let same : y ≡ x = cc in grind (arith, none, same)
none_at test (y ∷ ys) none (suc i) x is = none_at test ys (grind (arith, none)) i x is
