use Rattle.std.proofs.Common.{◌≡◌, subst}
use Rattle.std.specs.Prelude.{IfOk}
use Rattle.sw_rules.specs.Clients.{skip_waiting}
use Rattle.sw_state.specs.contracts.tables.HostTables.{the_view}
use Rattle.sw_state.specs.Hosted.{Hosted, rest_of, state_of}
use Rattle.sw_prepare.proofs.telling.skip_waiting_changes.Goals as goal

pub returns : goal.returns
returns c =
    subst (λ (h : Hosted). IfOk c.skip_waiting_changes.result (λ changes. changes.items ≡ (skip_waiting (state_of h) c.args.registration c.args.worker).changes)) c.host.view_is
    (c.skip_waiting_changes.ensures (rest_of (the_view c.host.inside)))
