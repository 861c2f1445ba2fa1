-- The cache is there: its places are those that the query finds.
use Rattle.std.proofs.Common.{subst}
use Rattle.std.specs.Prelude.{Some, IfOk}
use Rattle.sw_cachestorage.specs.Acts.{IsStep}
use Rattle.sw_cachestorage.proofs.LookupLemmas.{found_places, query_all, query_some}
use Rattle.sw_rules.specs.Caching.{with_cache_pairs}
use Rattle.sw_cachestorage.proofs.lookups.query_cache.Goals as goal

pub returns-in_default-clause-step : goal.returns-in_default-clause-step
returns-in_default-clause-step c =
    query_all c.args.caches.now.rows c.args.base.now c.args.key.now c.args.asked.now c.places.result c.in_default.is c.places.ensures.step

pub returns-in_ok-query-in-Ok-clause-step : goal.returns-in_ok-query-in-Ok-clause-step
returns-in_ok-query-in-Ok-clause-step c =
    query_some c.args.caches.now.rows c.args.base.now c.args.key.now c.args.asked.now c.places-in-Ok.result c.in-Some.request c.in-Ok.url c.in-Some.is c.in-Ok.ensures.ok
    (subst (λ query. IfOk c.places-in-Ok.result (IsStep c.args.caches.now.rows (λ state. with_cache_pairs state c.args.key.now c.args.asked.now.name (found_places c.args.asked.now (Some query) state))))
    c.in_ok-query-in-Ok.ensures c.places-in-Ok.ensures.step)
