-- The worker is there, or isn't.
use Rattle.std.proofs.Common.{◌∙◌, None, Some, ap}
use Rattle.sw_roster.proofs.Askers.{key_found}
use Rattle.sw_roster.proofs.asking.key_of_worker.Goals as goal
use Rattle.sw_worker.specs.Table.{Table, worker_at}

pub returns-in-Some : goal.returns-in-Some
returns-in-Some c =
    c.key_of.ensures
    ∙ key_found c.args.core.now c.args.worker (Some c.in-Some.row.now) (c.in-Some.ensures ∙ ap (λ (table : Table). worker_at c.args.worker table.rows) c.workers.ensures)

pub returns-in-None : goal.returns-in-None
returns-in-None c = key_found c.args.core.now c.args.worker None (c.in-None.ensures ∙ ap (λ (table : Table). worker_at c.args.worker table.rows) c.workers.ensures)
