-- The lines of checks, one after another.
use Rattle.std.proofs.Common.{◌≡◌, ◌∙◌, ◌<◌, ◌+◌, ℕ, List, ◌∷◌, ◌++◌, length, drop, get_or, sym, ap, subst, append_assoc}
use Rattle.std.proofs.lemmas.List.{drop_more}
use Rattle.sw_readers.specs.declared.inputs.ImportFetch.{ImportFetch}
use Rattle.sw_import.specs.Checking.{Checks, check}
use Rattle.sw_import.specs.Lines.{check_line, checks_text}
use Rattle.sw_import.specs.declared.answers.Checked.{Checked}

-- the line of one more check
pub line_next : (lines : List ImportFetch) (checks after : Checks) (answer : Checked) (scripts : List (List ℕ)) (i : ℕ)
    (script text now line whole : List ℕ)
    → i < length scripts → script ≡ get_or scripts i script
    → text ++ checks_text lines checks (drop i scripts) ≡ whole
    → (answer, after) ≡ check lines checks script
    → line ≡ check_line script answer → now ≡ text ++ line
    → now ++ checks_text lines after (drop (i + 1) scripts) ≡ whole
unfolding checks_text
line_next lines checks after answer scripts i script text now line whole below is so_far checked printed grown =
    let rest = drop (i + 1) scripts in
    let front : drop i scripts ≡ script ∷ rest =
    drop_more scripts i script below ∙ ap (λ (own : List ℕ). own ∷ rest) (sym is) in
    let all : text ++ checks_text lines checks (script ∷ rest) ≡ whole =
    subst (λ left. text ++ checks_text lines checks left ≡ whole) front so_far in
    let one : check_line script answer ++ checks_text lines after rest ≡ checks_text lines checks (script ∷ rest) =
    ap (λ (done : Checked × Checks). check_line script done.0 ++ checks_text lines done.1 rest) checked in
    rw (grown, printed)
    (append_assoc text (check_line script answer) (checks_text lines after rest)
    ∙ (ap (λ (left : List ℕ). text ++ left) one ∙ all))
