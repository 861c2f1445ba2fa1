use Rattle.std.proofs.Common.{◌∙◌, ap, sym}
use Rattle.std.proofs.lemmas.Result.{IfErr-at_err, IfOk-at_ok}
use Rattle.sw_pages.specs.Acts.{outcome_of}
use Rattle.sw_pages.specs.Named.{FindsNone, FindsRow}
use Rattle.sw_pages.specs.declared.worked.Worked.{Worked}
use Rattle.sw_rules.specs.Clients as rules
use Rattle.sw_state.specs.Hosted.{state_of}
use Rattle.sw_pages.proofs.slots.skip_waiting.Goals as goal

pub returns-in-Ok-clause-gives : goal.returns-in-Ok-clause-gives
returns-in-Ok-clause-gives c who =
    let host = c.args.host.now in
    let found = IfOk-at_ok (λ row. FindsRow c.args.of.now c.args.place row.now host) c.in-Ok.is c.in_ok-row.ensures.found in
    found (rules.skip_waiting_of (state_of host)) ∙ c.skip_waiting_of.ensures.outcome (state_of host) who

pub returns-in-Err-clause-gives : goal.returns-in-Err-clause-gives
returns-in-Err-clause-gives c who =
    let host = c.args.host.now in
    let none = IfErr-at_err (λ reply. FindsNone c.args.of.now c.args.place reply host) c.in-Err.is c.in_ok-row.ensures.none in
    none (rules.skip_waiting_of (state_of host)) ∙ sym (ap (λ (worked : Worked). outcome_of who worked (state_of host)) c.answered.ensures)
