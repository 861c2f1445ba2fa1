-- The tables of the host say it.
use Rattle.std.proofs.Common.{◌≡◌, subst}
use Rattle.sw_rules.specs.Rows.{has_pending_worker}
use Rattle.sw_state.specs.contracts.tables.HostTables.{the_view}
use Rattle.sw_state.specs.Hosted.{Hosted, rest_of, state_of}
use Rattle.sw_cachestorage.proofs.forgetting.is_pending.Goals as goal

pub returns : goal.returns
returns c =
    let host : Hosted = the_view c.host.inside in
    subst (λ (h : Hosted). c.has_pending_worker.result ≡ has_pending_worker (state_of h) c.args.number) c.host.view_is
    (c.has_pending_worker.ensures.pending host.scopes host.clients (rest_of host))
