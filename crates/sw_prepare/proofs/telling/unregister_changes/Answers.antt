use Rattle.std.proofs.Common.{subst}
use Rattle.std.specs.Prelude.{IfOk}
use Rattle.sw_prepare.specs.Telling.{HasChanges}
use Rattle.sw_rules.specs.Registering.{run}
use Rattle.sw_state.specs.contracts.tables.HostTables.{the_view}
use Rattle.sw_state.specs.Hosted.{Hosted, rest_of, state_of}
use Rattle.sw_prepare.proofs.telling.unregister_changes.Goals as goal

pub returns : goal.returns
returns c =
    let host = the_view c.host.inside in
    subst (λ (h : Hosted). IfOk c.unregister_changes.result (λ changes. HasChanges (run (state_of h) c.args.job) changes.items)) c.host.view_is
    (c.unregister_changes.ensures host.workers host.clients (rest_of host) c.host.invariant.linked.slots)
