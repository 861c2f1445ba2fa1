-- A number that was read is the word's, where so it is written.
use Rattle.std.proofs.Common.{◌∙◌, Bool, List, ℕ, Some, None, Ok, Err, bytes_eq, sym, ap}
use Rattle.std.specs.Prelude.{if◌then◌else◌}
use Rattle.sw_host.proofs.WordLemmas.{is_number}
use Rattle.sw_host.proofs.command.number_of.Goals as goal

pub returns-then-eq : goal.returns-then-eq
returns-then-eq c =
    ap (λ (same : Bool). if same then Some c.in-Ok.number else None)
    (sym c.if-eq.true ∙ c.eq.ensures ∙ ap (λ (text : List ℕ). bytes_eq text c.args.word.now) c.format.ensures.text)
    ∙ is_number {E = ℕ} c.args.word.now (Ok c.in-Ok.number) c.in-Ok.ensures.value.0

pub returns-else-eq : goal.returns-else-eq
returns-else-eq c =
    ap (λ (same : Bool). if same then Some c.in-Ok.number else None)
    (sym c.if-eq.false ∙ c.eq.ensures ∙ ap (λ (text : List ℕ). bytes_eq text c.args.word.now) c.format.ensures.text)
    ∙ is_number {E = ℕ} c.args.word.now (Ok c.in-Ok.number) c.in-Ok.ensures.value.0

pub returns-in-Err : goal.returns-in-Err
returns-in-Err c = is_number {E = ℕ} c.args.word.now (Err 0) c.in-Err.ensures.value.0
