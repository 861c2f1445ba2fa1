use Rattle.std.proofs.Common.{Bool, [], ◌∙◌, sym, subst, ap, if◌then◌else◌}
use Rattle.std.specs.Prelude.{◌≡◌, IfOk}
use Rattle.sw_prepare.proofs.JobChanges.{evaluation_told}
use Rattle.sw_prepare.proofs.TellsIt.{tells_so, told_ok}
use Rattle.sw_prepare.specs.OfJobs.{mode_changes, new_mode}
use Rattle.sw_rules.specs.Installing.{evaluated}
use Rattle.sw_rules.specs.State.{State}
use Rattle.sw_tables.specs.Happened.{with_jobs}
use Rattle.sw_tables.specs.Lent.{lent}
use Rattle.sw_prepare.proofs.jobs.evaluated_changes.Goals as goal

pub returns-else-throws : goal.returns-else-throws
returns-else-throws c = λ of_clients rest.
    let state : State = lent c.args.map.now c.args.workers.now c.args.registrations.now of_clients (with_jobs c.args.queues.now.rows rest) in
    told_ok c.mode_changes.result (evaluated state c.args.job) _ (evaluation_told state c.args.job)
    (subst (λ (b : Bool). IfOk c.mode_changes.result (λ changes. changes.items ≡ (if b then [] else mode_changes state (new_mode c.args.job c.args.queues.now.rows))))
    (sym c.if-throws.false ∙ c.throws.ensures c.args.map.now c.args.registrations.now of_clients rest) (c.mode_changes.ensures c.args.workers.now of_clients (with_jobs c.args.queues.now.rows rest) c.requires))

pub returns-then-throws : goal.returns-then-throws
returns-then-throws c = λ of_clients rest.
    let state : State = lent c.args.map.now c.args.workers.now c.args.registrations.now of_clients (with_jobs c.args.queues.now.rows rest) in
    tells_so (evaluated state c.args.job) _ _
    (c.nothing.ensures ∙ ap (λ (b : Bool). if b then [] else mode_changes state (new_mode c.args.job c.args.queues.now.rows)) (sym c.if-throws.true ∙ c.throws.ensures c.args.map.now c.args.registrations.now of_clients rest))
    (evaluation_told state c.args.job)
