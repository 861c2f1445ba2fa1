use Rattle.std.proofs.Common.{Option, ℕ, ◌∙◌, sym, subst, ap}
use Rattle.std.specs.Prelude.{◌≡◌, IfOk}
use Rattle.sw_prepare.proofs.JobChanges.{run_told}
use Rattle.sw_prepare.proofs.TellsIt.{tells_so, told_ok}
use Rattle.sw_prepare.specs.OfJobs.{unregister_changes}
use Rattle.sw_rules.specs.Registering.{run}
use Rattle.sw_rules.specs.State.{State}
use Rattle.sw_tables.specs.Happened.{with_jobs}
use Rattle.sw_tables.specs.Lent.{lent}
use Rattle.sw_prepare.proofs.jobs.unregister_changes.Goals as goal

pub returns-in-Some : goal.returns-in-Some
returns-in-Some c = λ of_workers of_clients rest has.
    let state : State = lent c.args.map.now of_workers c.args.registrations.now of_clients (with_jobs c.args.queues.now.rows rest) in
    let told = run_told c.args.map.now of_workers c.args.registrations.now of_clients c.args.queues.now.rows rest has.registration_places c.requires.scopes c.args.job c.args.refusal c.requires.job in
    told_ok c.gone_change.result (run state c.args.job) _ told
    (subst (λ (found : Option ℕ). IfOk c.gone_change.result (λ changes. changes.items ≡ unregister_changes state found))
    (sym c.in-Some.is ∙ c.unregistered.ensures) (c.gone_change.ensures of_workers of_clients (with_jobs c.args.queues.now.rows rest) has))

pub returns-in-None : goal.returns-in-None
returns-in-None c = λ of_workers of_clients rest has.
    let state : State = lent c.args.map.now of_workers c.args.registrations.now of_clients (with_jobs c.args.queues.now.rows rest) in
    let told = run_told c.args.map.now of_workers c.args.registrations.now of_clients c.args.queues.now.rows rest has.registration_places c.requires.scopes c.args.job c.args.refusal c.requires.job in
    tells_so (run state c.args.job) _ _ (c.nothing.ensures ∙ ap (unregister_changes state) (sym c.in-None.is ∙ c.unregistered.ensures)) told
