-- What stands before the first element that passes a test, and what follows it, by its place.
use Rattle.std.proofs.Common.{◌≡◌, ◌∙◌, ℕ, ◌-◌, ◌≤◌, Bool, List, [], ◌∷◌, length, take, drop, Some, None, inl, inr, refl, sym, ap, arith}
use Rattle.std.specs.Prelude.{◌==◌, Option, MatchOption, position, nat_lt}
use Rattle.std.specs.List.{after_first, before_first, position_or_len, slice_split}
use Rattle.std.proofs.lemmas.Bool.{cases_lt, cond_both}
use Rattle.std.proofs.lemmas.Bool.Decides.{nat_tests}
use Rattle.std.proofs.lemmas.List.{drop-drop, length-drop, length-take, take_all, take_rest}
use Rattle.std.proofs.lemmas.List.Splits.{slice_split_first, slice_split_none}
use Rattle.std.proofs.lemmas.List.Sums.{fails_before_first}

-- the front up to a place, or the whole list
abbrev pub Cuts : {X : Type 0} → (X → Bool) → List X → Option ℕ → Type 0
Cuts p xs place = MatchOption place (before_first p xs ≡ xs) (λ at. before_first p xs ≡ take at xs)

pub cuts_position : {X : Type 0} (p : X → Bool) (xs : List X) → Cuts p xs (position p xs)
cuts_position p xs =
    cond_both (nat_lt (position_or_len p xs) (length xs)) (Some (position_or_len p xs)) None (Cuts p xs)
    (λ found. refl)
    (λ none. let past : length xs ≤ position_or_len p xs = grind (arith, nat_tests) in take_all _ xs past)

module _ (mark : ℕ) (text front back : List ℕ) (is_front : front ≡ before_first (λ b. b == mark) text) (is_back : back ≡ drop (length front) text) where
  -- a text with no mark is the one part
  pub parts_last : length back ≡ 0 → slice_split (λ b. b == mark) text ≡ front ∷ []
  parts_last none = elim (cases_lt (position_or_len (λ b. b == mark) text) (length text)) [
    | inl found ↦ absurd (omega (arith, ap length is_front, length-take (position_or_len (λ b. b == mark) text) text, ap length is_back, length-drop (length front) text))
    | inr past ↦
        slice_split_none (λ b. b == mark) text (λ k d l. fails_before_first (λ b. b == mark) text k d (omega arith))
        ∙ ap (λ part. part ∷ []) (sym (is_front ∙ take_all (position_or_len (λ b. b == mark) text) text past))
  ]

  -- the first part ends at the first mark
  pub parts_first : 1 ≤ length back → slice_split (λ b. b == mark) text ≡ front ∷ slice_split (λ b. b == mark) (take (length back - 1) (drop 1 back))
  parts_first some = elim (cases_lt (position_or_len (λ b. b == mark) text) (length text)) [
    | inl found ↦
        let size : length front ≡ position_or_len (λ b. b == mark) text = omega (arith, ap length is_front, length-take (position_or_len (λ b. b == mark) text) text) in
        let rest : take (length back - 1) (drop 1 back) ≡ after_first (λ b. b == mark) text =
        take_rest back 1 ∙ (ap (drop 1) (is_back ∙ ap (λ n. drop n text) size) ∙ drop-drop 1 (position_or_len (λ b. b == mark) text) text) in
        slice_split_first (λ b. b == mark) text 0 found ∙ (λ i. sym is_front i ∷ slice_split (λ b. b == mark) (sym rest i))
    | inr past ↦
        let all = is_front ∙ take_all (position_or_len (λ b. b == mark) text) text past in
        absurd (omega (arith, ap length all, ap length is_back, length-drop (length front) text))
  ]
