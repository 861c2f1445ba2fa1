-- A batch is what its call comes to.
use Rattle.std.proofs.Common.{◌∙◌, sym, ap, subst}
use Rattle.std.proofs.lemmas.Result.{IfOk-weaker}
use Rattle.sw_cachestorage.specs.Acts.{IsStep}
use Rattle.sw_data.specs.declared.recordings.CacheBatch.{CacheBatch}
use Rattle.sw_data.specs.declared.recordings.Call.{Call}
use Rattle.sw_data.specs.declared.recordings.Call.TheVariants as call
use Rattle.sw_rules.specs.Calls.{called}
use Rattle.sw_tables.specs.Lent.{shown_worker}
use Rattle.sw_work.proofs.calls.on_caches.Goals as goal

pub returns-in-Batch-clause-step : goal.returns-in-Batch-clause-step
returns-in-Batch-clause-step c =
    IfOk-weaker c.batch_ops.result _ _
    (λ step is by in_phase.
    subst (λ (made : Call). IsStep c.args.caches.now.rows (λ state. called state by (shown_worker c.args.row.now) in_phase c.args.of.now.key made) step)
    (ap (λ (asked : CacheBatch). call.Batch asked) c.get-in-Batch.ensures ∙ sym c.in-Batch.is) is)
    c.batch_ops.ensures.step
