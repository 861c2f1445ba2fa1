use Rattle.std.proofs.Common.{◌≡◌, subst}
use Rattle.std.specs.Prelude.{IfOk}
use Rattle.sw_rules.specs.Clients.{leave}
use Rattle.sw_state.specs.contracts.tables.HostTables.{the_view}
use Rattle.sw_state.specs.Hosted.{Hosted, rest_of, state_of}
use Rattle.sw_prepare.proofs.telling.close_changes.Goals as goal

pub returns : goal.returns
returns c =
    subst (λ (h : Hosted). IfOk c.close_changes.result (λ changes. changes.items ≡ (leave (state_of h) c.args.client).changes)) c.host.view_is
    (c.close_changes.ensures (rest_of (the_view c.host.inside)))
