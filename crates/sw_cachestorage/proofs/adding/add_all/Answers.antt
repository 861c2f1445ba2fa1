-- The cache is there and the requests are good.
use Rattle.std.proofs.Common.{◌≡◌, ◌∙◌, true, is_some, sym, ap, subst}
use Rattle.sw_cachestorage.proofs.AddingLemmas.{starts}
use Rattle.sw_rules.specs.Caching.{fetchable_all, pairs_of}
use Rattle.sw_state.specs.Hosted.{Hosted}
use Rattle.sw_cachestorage.proofs.adding.add_all.Goals as goal

pub returns-in-Ok-clause-step : goal.returns-in-Ok-clause-step
returns-in-Ok-clause-step c =
    starts c.args.who c.args.base.now c.args.key.now c.args.asked.now c.in-Ok.requests c.args.host.now c.start.result
    (subst (λ (h : Hosted). is_some (pairs_of c.args.key.now c.args.asked.now.name h.caches.rows) ≡ true) c.host.view_is (sym c.has.ensures ∙ c.if-not-has.false))
    (ap (fetchable_all c.args.base.now) (sym c.as_slice.ensures) ∙ (sym c.in_ok-requests.ensures ∙ c.in-Ok.is))
    c.start.ensures.step
