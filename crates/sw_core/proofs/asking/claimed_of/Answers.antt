use Rattle.std.proofs.Common.{◌≡◌, subst}
use Rattle.std.specs.Prelude.{IfOk}
use Rattle.sw_activate.specs.Claiming.{claimed}
use Rattle.sw_state.specs.contracts.tables.HostTables.{the_view}
use Rattle.sw_state.specs.Hosted.{Hosted, rest_of, state_of}
use Rattle.sw_core.proofs.asking.claimed_of.Goals as goal

pub returns : goal.returns
returns c =
    subst (λ (h : Hosted). IfOk c.claimed.result (λ numbers. numbers.items ≡ claimed (state_of h) c.args.worker)) c.host.view_is
    (c.claimed.ensures.numbers (rest_of (the_view c.host.inside)))
