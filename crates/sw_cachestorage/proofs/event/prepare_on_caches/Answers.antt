-- The action happens at the key of its page.
use Rattle.std.proofs.Common.{◌∙◌, sym}
use Rattle.sw_cachestorage.specs.Actions.{cache_action}
use Rattle.sw_cachestorage.proofs.KeyedLemmas.{at_its_key}
use Rattle.sw_cachestorage.proofs.event.prepare_on_caches.Goals as goal

pub returns-in-Ok-clause-step : goal.returns-in-Ok-clause-step
returns-in-Ok-clause-step c =
    at_its_key c.args.caches.now.rows c.in-Some.place.now c.in-Ok.key (sym c.in_ok-key.ensures ∙ c.in-Ok.is) (cache_action c.args.event.now) c.act_at.result c.in-Some.ensures c.act_at.ensures.step
