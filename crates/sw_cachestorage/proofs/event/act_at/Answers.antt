-- What an action comes to is what its event comes to.
use Rattle.std.proofs.Common.{◌∙◌, sym, ap, subst}
use Rattle.std.specs.Prelude.{IfOk}
use Rattle.std.specs.Option.{IfSome}
use Rattle.sw_data.specs.declared.events.Event.TheVariants as event
use Rattle.sw_data.specs.declared.recordings.CacheBatch.{CacheBatch}
use Rattle.sw_data.specs.declared.recordings.CacheQuery.{CacheQuery}
use Rattle.sw_cachestorage.specs.Actions.{cache_action}
use Rattle.sw_cachestorage.specs.Acts.{IsStep}
use Rattle.sw_cachestorage.proofs.event.act_at.Goals as goal

pub returns-in-CacheHas-clause-step : goal.returns-in-CacheHas-clause-step
returns-in-CacheHas-clause-step c =
    subst (λ happened. IfSome (cache_action happened) (λ action. IsStep c.args.caches.now.rows (λ state. action.act state c.args.key.now) c.has_cache.result)) (sym c.in-CacheHas.is) c.has_cache.ensures.step

pub returns-in-MatchAll-clause-step : goal.returns-in-MatchAll-clause-step
returns-in-MatchAll-clause-step c =
    subst (λ happened. IfOk c.query_cache.result (λ step. IfSome (cache_action happened) (λ action. IsStep c.args.caches.now.rows (λ state. action.act state c.args.key.now) step))) (ap (λ (query : CacheQuery). event.MatchAll c.in-MatchAll.who c.in-MatchAll.place query) c.get-in-MatchAll.ensures ∙ sym c.in-MatchAll.is)
    c.query_cache.ensures.step

pub returns-in-Keys-clause-step : goal.returns-in-Keys-clause-step
returns-in-Keys-clause-step c =
    subst (λ happened. IfOk c.query_cache-in-Keys.result (λ step. IfSome (cache_action happened) (λ action. IsStep c.args.caches.now.rows (λ state. action.act state c.args.key.now) step))) (ap (λ (query : CacheQuery). event.Keys c.in-Keys.who c.in-Keys.place query) c.get-in-Keys.ensures ∙ sym c.in-Keys.is)
    c.query_cache-in-Keys.ensures.step

pub returns-in-Batch-clause-step : goal.returns-in-Batch-clause-step
returns-in-Batch-clause-step c =
    subst (λ happened. IfOk c.batch_ops.result (λ step. IfSome (cache_action happened) (λ action. IsStep c.args.caches.now.rows (λ state. action.act state c.args.key.now) step))) (ap (λ (batch : CacheBatch). event.Batch c.in-Batch.who c.in-Batch.place batch) c.get-in-Batch.ensures ∙ sym c.in-Batch.is)
    c.batch_ops.ensures.step
