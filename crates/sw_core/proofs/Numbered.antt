-- Rows whose numbers are their places.
use Rattle.std.proofs.Common.{◌≡◌, ℕ, zero, suc, ◌+◌, ◌-◌, ◌<◌, ◌≤◌, ◌^◌, List, [], ◌∷◌, map, length, slice_get, Some, ap, arith}
use Rattle.std.specs.List.{range_with_len}

-- a row stands at its number
stands_at : {X : Type 0} (number : X → ℕ) (first : ℕ) (xs : List X) (place : ℕ) (x : X) → map number xs ≡ range_with_len first (length xs)
    → Some x ≡ slice_get xs place → number x ≡ first + place
stands_at number first [] place x are is = absurd cc
stands_at number first (one ∷ xs) zero x are is =
    let same : x ≡ one = cc in
    let here : number one ≡ first = cc in
    grind (arith, ap number same, here)
stands_at number first (one ∷ xs) (suc place) x are is =
    let rest : map number xs ≡ range_with_len (first + 1) (length xs) = cc in
    let more = stands_at number (first + 1) xs place x rest is in
    omega (arith, more)

-- rows of which the last one's number has 32 bits are few
pub few : {X : Type 0} (number : X → ℕ) (xs : List X) (last : X) → map number xs ≡ range_with_len 0 (length xs) → Some last ≡ slice_get xs (length xs - 1)
    → number last < 2 ^ 32 → length xs ≤ 2 ^ 32
few number xs last are is small = let at = stands_at number 0 xs (length xs - 1) last are is in omega (arith, at, small)
