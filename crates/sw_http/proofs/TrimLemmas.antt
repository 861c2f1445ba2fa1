-- A text of UTF-8 without the spaces and tabs at both ends is one of UTF-8.
use Rattle.std.proofs.Common.{◌≡◌, ◌⊎◌, ⊎_elim, ℕ, true, List, [], ◌∷◌, ◌++◌, length, reverse, refl, sym, subst, arith}
use Rattle.std.specs.Str.{IsUtf8}
use Rattle.std.proofs.lemmas.Bool.{cond_both}
use Rattle.std.proofs.lemmas.Bool.Decides.{nat_tests}
use Rattle.std.proofs.lemmas.List.{reverse-reverse, reverse-append, take_at}
use Rattle.std.proofs.lemmas.Str.{IsCharBoundary-past_char, IsCharBoundary-at_seam, IsUtf8-drop, IsUtf8-take}
use Rattle.sw_data.specs.Headers.{is_ows, trimmed, trimmed_front}

blank_cases : (b : ℕ) → is_ows b ≡ true → (b ≡ 32) ⊎ (b ≡ 9)
blank_cases b blank = grind (arith, nat_tests)

-- what holds of a space and of a tab holds of a blank
of_blank : (P : ℕ → Type 0) (b : ℕ) → is_ows b ≡ true → P 32 → P 9 → P b
of_blank P b blank space tab = ⊎_elim (λ e. subst P (sym e) space) (λ e. subst P (sym e) tab) (blank_cases b blank)

without_first : (b : ℕ) (xs : List ℕ) → is_ows b ≡ true → IsUtf8 (b ∷ xs) → IsUtf8 xs
unfolding lib.Utf8.encode
without_first b xs blank =
    of_blank (λ c. IsUtf8 (c ∷ xs) → IsUtf8 xs) b blank
    (λ u. IsUtf8-drop (32 ∷ xs) 1 u (IsCharBoundary-past_char (32 ∷ xs) xs 0 32 (omega arith) u refl))
    (λ u. IsUtf8-drop (9 ∷ xs) 1 u (IsCharBoundary-past_char (9 ∷ xs) xs 0 9 (omega arith) u refl))

without_last : (b : ℕ) (xs : List ℕ) → is_ows b ≡ true → IsUtf8 (xs ++ b ∷ []) → IsUtf8 xs
unfolding lib.Utf8.encode
without_last b xs blank u =
    let one : IsUtf8 (b ∷ []) = of_blank (λ c. IsUtf8 (c ∷ [])) b blank (32 ∷ [], (refl, refl)) (9 ∷ [], (refl, refl)) in
    subst IsUtf8 (take_at xs (b ∷ []) (length xs) refl)
    (IsUtf8-take (xs ++ b ∷ []) (length xs) u (IsCharBoundary-at_seam (xs ++ b ∷ []) xs (b ∷ []) refl one))

front : (xs : List ℕ) → IsUtf8 xs → IsUtf8 (trimmed_front xs)
front [] u = u
front (b ∷ xs) u = cond_both (is_ows b) (trimmed_front xs) (b ∷ xs) IsUtf8 (λ blank. front xs (without_first b xs blank u)) (λ _. u)

back : (ys : List ℕ) → IsUtf8 (reverse ys) → IsUtf8 (reverse (trimmed_front ys))
back [] u = u
back (b ∷ ys) u =
    cond_both (is_ows b) (trimmed_front ys) (b ∷ ys) (λ zs. IsUtf8 (reverse zs))
    (λ blank. back ys (without_last b (reverse ys) blank (subst IsUtf8 (reverse-append (b ∷ []) ys) u))) (λ _. u)

pub trimmed_utf8 : (xs : List ℕ) → IsUtf8 xs → IsUtf8 (trimmed xs)
trimmed_utf8 xs u = back (reverse (trimmed_front xs)) (subst IsUtf8 (sym (reverse-reverse (trimmed_front xs))) (front xs u))
