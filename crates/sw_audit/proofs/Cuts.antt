-- Texts that are cut at the first byte of a kind.
use Rattle.std.specs.Fmt.{digit_glyph, digits, digits_onto}
use Rattle.std.proofs.Common.{◌≡◌, ◌∙◌, ◌⊎◌, ℕ, zero, suc, ◌/◌, ◌%◌, ◌<◌, Bool, true, false, not, ◌==◌, List, [], ◌∷◌, ◌++◌, refl, arith, decimal}
use Rattle.std.specs.List.{list_all}
use Rattle.std.proofs.lemmas.Bool.Decides.{nat_tests}
use Rattle.std.proofs.lemmas.List.Folds.{list_all-append}
use Rattle.sw_laws.proofs.Lists.{by_test}

-- no byte of the text is this one
abbrev pub free : ℕ → List ℕ → Bool
free x text = list_all (λ b. not (b == x)) text

pub free-append : (x : ℕ) (a b : List ℕ) → free x a ≡ true → free x b ≡ true → free x (a ++ b) ≡ true
free-append x a b fa fb = list_all-append (λ c. not (c == x)) a b ∙ grind arith

-- two texts that go on with this byte, behind fronts without it: the fronts are equal, and so is what follows
pub cut : (x : ℕ) (a c b d : List ℕ) → free x a ≡ true → free x c ≡ true → a ++ x ∷ b ≡ c ++ x ∷ d → (a ≡ c) × (b ≡ d)
cut x [] [] b d fa fc is = (refl, cc)
cut x [] (y ∷ c) b d fa fc is = let e : x ≡ y = cc in absurd (grind arith)
cut x (y ∷ a) [] b d fa fc is = let e : y ≡ x = cc in absurd (grind arith)
cut x (y ∷ a) (z ∷ c) b d fa fc is =
    let e : y ≡ z = cc in
    let rest : a ++ x ∷ b ≡ c ++ x ∷ d = cc in
    let ga : free x a ≡ true = grind arith in
    let gc : free x c ≡ true = grind arith in
    let both = cut x a c b d ga gc rest in
    (cc (e, both.0), both.1)

free_onto : (k x n : ℕ) (text : List ℕ) → (x < 48) ⊎ (57 < x) → free x text ≡ true → free x (digits_onto k 10 false n text) ≡ true
free_onto zero x n text out is = is
free_onto (suc k) x n text out is =
    let small : n % 10 < 10 = omega arith in
    let other : (digit_glyph false (n % 10) == x) ≡ false = grind (arith, nat_tests, small, out) in
    let more : free x (digit_glyph false (n % 10) ∷ text) ≡ true = grind (arith, other, is) in
    by_test (λ digits. free x digits ≡ true) (n / 10 == 0) _ _ (λ last. more) (λ longer. free_onto k x (n / 10) (digit_glyph false (n % 10) ∷ text) out more)

-- a number's text has no byte but digits
pub free-decimal : (x n : ℕ) → (x < 48) ⊎ (57 < x) → free x (decimal n) ≡ true
unfolding digits
free-decimal x n out = free_onto 64 x n [] out refl
