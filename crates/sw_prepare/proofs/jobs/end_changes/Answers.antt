use Rattle.std.proofs.Common.{Bool, ◌∙◌, sym, subst, if◌then◌else◌}
use Rattle.std.specs.Prelude.{◌≡◌, IfOk}
use Rattle.sw_prepare.specs.OfJobs.{failure_changes, waiting_changes}
use Rattle.sw_tables.specs.Lent.{shown_worker}
use Rattle.sw_rules.specs.State.{State}
use Rattle.sw_tables.specs.Happened.{with_jobs}
use Rattle.sw_tables.specs.Lent.{lent}
use Rattle.sw_prepare.proofs.jobs.end_changes.Goals as goal

pub returns-then-has_failed : goal.returns-then-has_failed
returns-then-has_failed c = λ of_workers of_clients rest has.
    let state : State = lent c.args.map.now of_workers c.args.registrations.now of_clients (with_jobs c.args.queues.now.rows rest) in
    subst (λ (b : Bool). IfOk c.failure_changes.result (λ changes. changes.items ≡ (if b then failure_changes state c.args.job c.args.registration else waiting_changes state c.args.registration (shown_worker c.args.made.now))))
    (sym c.if-has_failed.true ∙ c.has_failed.ensures) (c.failure_changes.ensures of_workers of_clients rest has)

pub returns-else-has_failed : goal.returns-else-has_failed
returns-else-has_failed c = λ of_workers of_clients rest has.
    let state : State = lent c.args.map.now of_workers c.args.registrations.now of_clients (with_jobs c.args.queues.now.rows rest) in
    subst (λ (b : Bool). IfOk c.waiting_changes.result (λ changes. changes.items ≡ (if b then failure_changes state c.args.job c.args.registration else waiting_changes state c.args.registration (shown_worker c.args.made.now))))
    (sym c.if-has_failed.false ∙ c.has_failed.ensures) (c.waiting_changes.ensures c.args.map.now of_workers of_clients (with_jobs c.args.queues.now.rows rest))
