-- The row is that of the worker.
use Rattle.std.proofs.Common.{IfOk, Option, ◌≡◌, ◌∙◌, ap, subst}
use Rattle.sw_audit.proofs.Found.{none_running, row_running}
use Rattle.sw_data.specs.declared.events.Event.{Event}
use Rattle.sw_worker.specs.Table.{Table, worker_at}
use Rattle.sw_audit.proofs.calls.running_event.Goals as goal

pub returns-in-Some : goal.returns-in-Some
returns-in-Some c =
    subst (λ (event : Option Event). IfOk c.row_event.result (λ found. found ≡ event))
    (row_running c.args.core.now c.args.worker c.in-Some.row.now (c.in-Some.ensures ∙ ap (λ (table : Table). worker_at c.args.worker table.rows) c.workers.ensures))
    c.row_event.ensures

pub returns-in-None : goal.returns-in-None
returns-in-None c = none_running c.args.core.now c.args.worker (c.in-None.ensures ∙ ap (λ (table : Table). worker_at c.args.worker table.rows) c.workers.ensures)
