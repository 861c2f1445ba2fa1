use Rattle.std.proofs.Common.{Bool, [], ◌∙◌, sym, subst, ap, if◌then◌else◌}
use Rattle.std.specs.Prelude.{◌≡◌, IfOk}
use Rattle.sw_prepare.proofs.JobChanges.{fetch_told}
use Rattle.sw_prepare.proofs.TellsIt.{tells_so, told_ok}
use Rattle.sw_prepare.specs.OfJobs.{mode_changes, new_mode}
use Rattle.sw_rules.specs.Installing.{fetched}
use Rattle.sw_rules.specs.State.{State}
use Rattle.sw_tables.specs.Happened.{with_jobs}
use Rattle.sw_tables.specs.Lent.{lent}
use Rattle.sw_prepare.proofs.jobs.fetched_changes.Goals as goal

pub returns-then-is_unchanged : goal.returns-then-is_unchanged
returns-then-is_unchanged c = λ of_workers of_clients rest line made has comes.
    let state : State = lent c.args.map.now of_workers c.args.registrations.now of_clients (with_jobs c.args.queues.now.rows rest) in
    told_ok c.mode_changes.result (fetched state c.args.job line) _ (fetch_told state c.args.job line c.args.outcome.now made comes)
    (subst (λ (b : Bool). IfOk c.mode_changes.result (λ changes. changes.items ≡ (if b then mode_changes state (new_mode c.args.job c.args.queues.now.rows) else [])))
    (sym c.if-is_unchanged.true ∙ c.is_unchanged.ensures) (c.mode_changes.ensures of_workers of_clients (with_jobs c.args.queues.now.rows rest) has))

pub returns-else-is_unchanged : goal.returns-else-is_unchanged
returns-else-is_unchanged c = λ of_workers of_clients rest line made has comes.
    let state : State = lent c.args.map.now of_workers c.args.registrations.now of_clients (with_jobs c.args.queues.now.rows rest) in
    tells_so (fetched state c.args.job line) _ _
    (c.nothing.ensures ∙ ap (λ (b : Bool). if b then mode_changes state (new_mode c.args.job c.args.queues.now.rows) else []) (sym c.if-is_unchanged.false ∙ c.is_unchanged.ensures))
    (fetch_told state c.args.job line c.args.outcome.now made comes)
