use Rattle.std.proofs.Common.{Option, false, find, option_and_then, ◌∙◌, sym, ap}
use Rattle.std.specs.Option.{option_map_or}
use Rattle.sw_data.specs.declared.rows.JobRow.{JobRow}
use Rattle.sw_data.specs.declared.rows.WorkerRow.{WorkerRow}
use Rattle.sw_prepare.proofs.JobChanges.{made_shown, throws_shown}
use Rattle.sw_rules.specs.Rows.{is_job}
use Rattle.sw_rules.specs.State.{Worker}
use Rattle.sw_worker.specs.Table.{worker_at}
use Rattle.sw_prepare.proofs.jobs.throws.Goals as goal

pub returns : goal.returns
returns c = λ scopes of of_clients rest.
    c.has_thrown.ensures
    ∙ (ap (λ (o : Option WorkerRow). option_map_or (λ (row : WorkerRow). row.handlers.throws) o false) c.job_worker.ensures
    ∙ (throws_shown (option_and_then (λ n. worker_at n c.args.workers.now.rows) (option_and_then (λ (row : JobRow). row.worker) (find (is_job c.args.job) c.args.queues.now.rows)))
    ∙ ap (λ (o : Option Worker). option_map_or (λ (worker : Worker). worker.handlers.throws) o false)
    (sym (made_shown scopes c.args.workers.now of of_clients c.args.queues.now.rows rest c.args.job))))
