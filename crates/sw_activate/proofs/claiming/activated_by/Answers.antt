use Rattle.std.proofs.Common.{◌≡◌, ◌∙◌, sym, ap, arith}
use Rattle.sw_data.specs.declared.answers.Notice.TheVariants as notice
use Rattle.sw_data.specs.declared.workers.WorkerState.TheVariants as worker_state
use Rattle.sw_rules.specs.State.{State}
use Rattle.sw_tables.specs.Lent.{lent}
use Rattle.sw_activate.specs.Claiming.{activated_by}
use Rattle.sw_activate.proofs.Names.{registration_shown}
use Rattle.sw_activate.proofs.claiming.activated_by.Goals as goal

pub returns-in-Worker-default-Activating : goal.returns-in-Worker-default-Activating
returns-in-Worker-default-Activating c = λ scopes of_registrations of_clients rest.
    let state : State = lent scopes c.args.workers.now of_registrations of_clients rest in
    let told = c.in-Worker-default-Activating in
    let is : c.args.notice ≡ notice.Worker told.worker worker_state.Activating = grind (arith, told.is, told.state-is, told.worker-is) in
    c.registration_of.ensures ∙ (sym (registration_shown scopes c.args.workers.now of_registrations of_clients rest told.worker) ∙ sym (ap (activated_by state) is))
