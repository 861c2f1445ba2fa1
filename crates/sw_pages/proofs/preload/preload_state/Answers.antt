use Rattle.std.proofs.Common.{◌∙◌, Bool, List, ℕ, ap, sym}
use Rattle.std.proofs.lemmas.Result.{IfErr-at_err, IfOk-at_ok}
use Rattle.sw_data.specs.declared.answers.Answer.TheVariants as answer
use Rattle.sw_ledgers.specs.Preloaded.{preload_value_of}
use Rattle.sw_pages.specs.Acts.{outcome_of}
use Rattle.sw_pages.specs.Named.{NamesNone, NamesRow}
use Rattle.sw_pages.specs.declared.worked.Worked.{Worked}
use Rattle.sw_rules.specs.State.{Registration}
use Rattle.sw_rules.specs.Told.{answered}
use Rattle.sw_state.specs.Hosted.{state_of}
use Rattle.sw_pages.proofs.preload.preload_state.Goals as goal

pub returns-in-Err-clause-gives : goal.returns-in-Err-clause-gives
returns-in-Err-clause-gives c who =
    let host = c.args.host.now in
    let none = IfErr-at_err (λ reply. NamesNone c.args.of.now reply host) c.in-Err.is c.in_ok-row.ensures.none in
    none (λ (row : Registration). answered (state_of host) (answer.Preload row.preload row.preload_value))
    ∙ sym (ap (λ (worked : Worked). outcome_of who worked (state_of host)) c.answered.ensures)

pub returns-clause-gives : goal.returns-clause-gives
returns-clause-gives c who =
    let host = c.args.host.now in
    let named = IfOk-at_ok (λ row. NamesRow c.args.of.now row.now host) c.in-Ok.is c.in_ok-row.ensures.found in
    named (λ (row : Registration). answered (state_of host) (answer.Preload row.preload row.preload_value))
    ∙ ap (λ (on : Bool). answered (state_of host) (answer.Preload on (preload_value_of host.preloads.rows c.in-Ok.row.now.number))) (sym c.is_on-on.ensures)
    ∙ ap (λ (text : List ℕ). answered (state_of host) (answer.Preload c.is_on-on.result text)) (sym c.value_of.ensures ∙ sym c.in_ok-value.ensures)
    ∙ sym (ap (λ (worked : Worked). outcome_of who worked (state_of host)) c.answered-2.ensures)
