-- A run ends with the number of its status; one that ends with the number of a spent one is spent.
use Rattle.std.proofs.Common.{◌≡◌, ◌∙◌, ⊎_elim, ap, rules}
use Rattle.std.specs.Process.{exit_status}
use Rattle.sw_host.specs.Texts.{code_of}
use Rattle.sw_main.proofs.SpentStatus.{spent_of}
use Rattle.sw_main.proofs.ended.Goals as goal

pub returns-clause-spent : goal.returns-clause-spent
returns-clause-spent g c = λ is workers wants.
    let code : code_of c.run-outcome.result.status ≡ 13 = search (c.from.ensures, c.code.ensures, is, rules) in
    let made = spent_of c.run-outcome.result.status code (λ left. ⊎_elim (λ roster. cc) (λ quota. let is = quota.1 in cc) (c.run-outcome.ensures.numbered left)) in
    let run = c.run-outcome.ensures.spent made.0 made.1 workers wants in
    (run.0, made.0, run.1, run.2)

pub returns-clause-stands : goal.returns-clause-stands
returns-clause-stands g c = λ not_1 not_5.
    let outcome = c.run-outcome.result.status in
    let code : exit_status c.from.result ≡ code_of outcome = c.from.ensures ∙ c.code.ensures in
    (outcome, code, c.run-outcome.ensures.stands (λ is. not_1 (code ∙ ap code_of is)) (λ is. not_5 (code ∙ ap code_of is)))
