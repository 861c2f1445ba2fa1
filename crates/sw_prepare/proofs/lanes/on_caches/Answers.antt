use Rattle.std.proofs.Common.{IfSome, subst}
use Rattle.sw_cachestorage.specs.Actions.{cache_action}
use Rattle.sw_prepare.proofs.OnCaches.{agrees, asked_of}
use Rattle.sw_rules.specs.Caching.{with_key}
use Rattle.sw_state.specs.contracts.tables.HostTables.{the_view}
use Rattle.sw_state.specs.Hosted.{Hosted, state_of}
use Rattle.sw_work.specs.Plans.{IsAsked}
use Rattle.sw_prepare.proofs.lanes.on_caches.Goals as goal

pub returns-clause-agrees : goal.returns-clause-agrees
returns-clause-agrees c =
    subst (λ (h : Hosted). IfSome (cache_action c.args.event.now) (λ action. IsAsked (with_key (state_of h) action.place (action.act (state_of h))) (asked_of c.in_ok-step.step) (state_of h))) c.host.view_is
    (agrees (state_of (the_view c.host.inside)) (cache_action c.args.event.now) c.in_ok-step.step c.in_ok-step.ensures.step)
