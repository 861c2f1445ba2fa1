-- A delete is a batch of one operation, which answers whether there is a match.
use Rattle.std.proofs.Common.{◌∙◌, [], ◌∷◌, is_some}
use Rattle.std.specs.Prelude.{option_map}
use Rattle.sw_cachestorage.proofs.WriteLemmas.{delete_goes}
use Rattle.sw_data.specs.declared.exchange.Op.TheVariants as op
use Rattle.sw_rules.specs.Caching.{pairs_of}
use Rattle.sw_rules.specs.Matching.{first_match}
use Rattle.sw_cachestorage.proofs.writes.delete_request.Goals as goal

pub returns-in_ok-ops-in-Ok-clause-step : goal.returns-in_ok-ops-in-Ok-clause-step
returns-in_ok-ops-in-Ok-clause-step c =
    let asked = c.args.asked.now in
    delete_goes c.args.caches.now.rows c.args.base.now c.args.key.now c.batch.result asked c.in-Ok.url c.in_ok-ops-in-Ok.ops.items c.has_match-removed.result c.in-Ok.ensures.ok
    (c.in_ok-ops-in-Ok.ensures ∙ (λ i. op.Delete (c.in_ok-request-in-Ok.ensures i) asked.options ∷ []))
    (c.has_match-removed.ensures ∙ (λ i. option_map (λ pairs. is_some (first_match pairs (c.in_ok-request-in-Ok.ensures i) asked.options)) (pairs_of c.args.key.now asked.name c.args.caches.now.rows)))
    c.batch.ensures.step
