-- An update of a worker's own registration.
use Rattle.std.proofs.Common.{◌∙◌, sym, ap}
use Rattle.std.proofs.lemmas.Result.{IfOk-weaker}
use Rattle.sw_rules.specs.Calls as calls
use Rattle.sw_rules.specs.Registering.{update_named}
use Rattle.sw_state.specs.Hosted.{state_of}
use Rattle.sw_tables.specs.Lent.{shown_worker}
use Rattle.sw_work.proofs.calls.update_own.Goals as goal

pub returns-in-Activate-clause-gives : goal.returns-in-Activate-clause-gives
returns-in-Activate-clause-gives c =
    let state = state_of c.args.host.now in
    let row = c.args.row.now in
    IfOk-weaker c.update_named.result _ _
    (λ job gives by.
    ap (λ p. calls.update_own state by (shown_worker row) p) c.in-Activate.is
    ∙ ap (λ r. update_named state by r row.script) (sym c.own_registration.ensures)
    ∙ gives by)
    c.update_named.ensures.gives
