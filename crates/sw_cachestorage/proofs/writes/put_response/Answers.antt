-- A put is a batch of one operation.
use Rattle.std.proofs.Common.{◌∙◌, [], ◌∷◌}
use Rattle.sw_cachestorage.proofs.WriteLemmas.{put_goes}
use Rattle.sw_data.specs.declared.exchange.Op.TheVariants as op
use Rattle.sw_cachestorage.proofs.writes.put_response.Goals as goal

pub returns-in_ok-ops-in-Ok-clause-step : goal.returns-in_ok-ops-in-Ok-clause-step
returns-in_ok-ops-in-Ok-clause-step c =
    put_goes c.args.caches.now.rows c.args.base.now c.args.key.now c.batch.result c.args.put.now c.in-Ok.url c.in_ok-ops-in-Ok.ops.items c.in-Ok.ensures.ok
    (c.in_ok-ops-in-Ok.ensures ∙ (λ i. op.Put (c.in_ok-request-in-Ok.ensures i) (c.in_ok-response-in-Ok.ensures i) ∷ []))
    c.batch.ensures.step
