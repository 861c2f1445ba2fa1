use Rattle.std.proofs.Common.{Bool, [], ◌∙◌, sym, subst, ap, if◌then◌else◌}
use Rattle.std.specs.Prelude.{◌≡◌, IfOk}
use Rattle.sw_prepare.specs.OfJobs.{gone_changes}
use Rattle.sw_rules.specs.State.{State}
use Rattle.sw_tables.specs.Happened.{with_jobs}
use Rattle.sw_tables.specs.Lent.{lent}
use Rattle.sw_prepare.proofs.jobs.failure_changes.Goals as goal

pub returns-then-is_first_install : goal.returns-then-is_first_install
returns-then-is_first_install c = λ of_workers of_clients rest has.
    let state : State = lent c.args.map.now of_workers c.args.registrations.now of_clients (with_jobs c.args.queues.now.rows rest) in
    subst (λ (b : Bool). IfOk c.gone_change.result (λ changes. changes.items ≡ (if b then gone_changes state c.args.registration else [])))
    (sym c.if-is_first_install.true ∙ c.is_first_install.ensures) (c.gone_change.ensures of_workers of_clients (with_jobs c.args.queues.now.rows rest) has)

pub returns-else-is_first_install : goal.returns-else-is_first_install
returns-else-is_first_install c = λ of_workers of_clients rest has.
    let state : State = lent c.args.map.now of_workers c.args.registrations.now of_clients (with_jobs c.args.queues.now.rows rest) in
    c.nothing.ensures ∙ ap (λ (b : Bool). if b then gone_changes state c.args.registration else []) (sym c.if-is_first_install.false ∙ c.is_first_install.ensures)
