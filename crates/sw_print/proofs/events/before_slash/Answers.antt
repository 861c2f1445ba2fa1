use Rattle.std.proofs.Common.{◌≡◌, ◌∙◌, ℕ, ◌+◌, ◌-◌, ◌<◌, ◌≤◌, ◌==◌, true, not, List, [], length, get_or, take, drop, Option, Some, None, MatchOption, Bor, sym, ap, arith, eq-eqb, ne_eqb, length-drop, get_or-drop}
use Rattle.std.specs.List.{before_last, suffix_len}
use Rattle.std.specs.Option.{option_map_or}
use Rattle.std.specs.Str.Pattern.{RFindsChar}
use Rattle.std.proofs.lemmas.List.Sums.{suffix_len_is}
use Rattle.std.proofs.lemmas.Str.{len_utf8_ascii}
use Rattle.std.proofs.lemmas.Str.Pattern.{NoCharPasses-char}
use Rattle.sw_print.proofs.events.before_slash.Goals as goal

-- what `rsplit_once` has in front of an ASCII character
front_is : (c : ℕ) (text : List ℕ) (r : Option (Bor (List ℕ) × Bor (List ℕ)))
    → MatchOption r (RFindsChar c text None) (λ x. (i : ℕ) × (j : ℕ) × RFindsChar c text (Some (i, j)) × (x.0.now ≡ take i text) × (x.1.now ≡ drop j text) × (i ≤ j) × (length x.0.now ≡ i) × (length x.1.now + j ≡ length text))
    → c < 128 → option_map_or (λ x. x.0.now) r [] ≡ before_last (λ b. b == c) text
front_is c text None h low =
    let all = suffix_len_is (λ b. not (b == c)) text 0 0 (omega arith) (λ k a l. ap not (ne_eqb _ c (NoCharPasses-char c text k h low l))) (λ l. absurd (omega arith)) in
    let none : 0 ≡ length text - suffix_len (λ b. not (b == c)) text - 1 = omega (arith, all) in
    ap (λ n. take n text) none
front_is c text (Some x) h low =
    let i = h.0 in
    let j = h.1 in
    let next : j ≡ i + 1 = omega (arith, h.2.1.ends, len_utf8_ascii c low) in
    let later : (k : ℕ) → i + 1 ≤ k → k < length text → not (get_or text k 0 == c) ≡ true = λ k a l.
    let back : j + (k - j) ≡ k = omega (arith, next) in
    ap not (ne_eqb _ c (λ e.
    NoCharPasses-char c (drop j text) (k - j) h.2.0 low (omega (arith, next, length-drop j text)) (get_or-drop j text (k - j) 0 ∙ ap (λ n. get_or text n 0) back ∙ e))) in
    let here : i + 1 - 1 ≡ i = omega arith in
    let tail = suffix_len_is (λ b. not (b == c)) text (i + 1) 0 (omega (arith, next, h.7)) later
    (λ l. ap not (eq-eqb _ c (ap (λ n. get_or text n 0) here ∙ h.2.1.byte low))) in
    let cut : i ≡ length text - suffix_len (λ b. not (b == c)) text - 1 = omega (arith, tail, next, h.7) in
    h.3 ∙ ap (λ n. take n text) cut

pub returns-in-Some : goal.returns-in-Some
returns-in-Some c =
    sym (ap (λ r. option_map_or (λ x. x.0.now) r []) c.in-Some.is) ∙ front_is 47 c.args.text.now _ c.rsplit_once.ensures.cases (omega arith)

pub returns-in-None : goal.returns-in-None
returns-in-None c =
    sym (ap (λ r. option_map_or (λ x. x.0.now) r []) c.in-None.is) ∙ front_is 47 c.args.text.now _ c.rsplit_once.ensures.cases (omega arith)
