-- The numbers of the passes, as they are made one after another.
use Rattle.std.proofs.Common.{◌≡◌, ℕ, zero, suc, ◌+◌, List, [], ◌∷◌, ◌++◌, map, length, sym, ap, ◌∙◌, arith, length-append}
use Rattle.std.specs.List.{range_with_len}
use mathlib.Core.List.{map-append}

range_more : (a n : ℕ) → range_with_len a (suc n) ≡ range_with_len a n ++ (a + n) ∷ []
range_more a zero = ap (λ (k : ℕ). k ∷ []) (omega arith)
range_more a (suc n) = ap (λ (l : List ℕ). a ∷ l) (range_more (a + 1) n ∙ ap (λ (k : ℕ). range_with_len (a + 1) n ++ k ∷ []) (omega arith))

pub numbered_next : {P : Type 0} (f : P → ℕ) (xs ys : List P) (x : P) (n : ℕ) → ys ≡ xs ++ x ∷ [] → map f xs ≡ range_with_len 1 (length xs) → f x ≡ n → length xs + 1 ≡ n
    → map f ys ≡ range_with_len 1 (length ys)
numbered_next {P} f xs ys x n e so_far here count =
    let long : length ys ≡ suc (length xs) = ap length e ∙ omega (arith, length-append xs (x ∷ [])) in
    ap (map f) e
    ∙ (map-append f xs (x ∷ [])
    ∙ (ap (λ (l : List ℕ). l ++ f x ∷ []) so_far
    ∙ (ap (λ (k : ℕ). range_with_len 1 (length xs) ++ k ∷ []) (let is : f x ≡ 1 + length xs = omega arith in is)
    ∙ (sym (range_more 1 (length xs)) ∙ ap (range_with_len 1) (sym long)))))
