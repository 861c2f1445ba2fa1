use Rattle.std.proofs.Common.{subst, sym}
use Rattle.std.specs.Prelude.{IfOk}
use Rattle.sw_prepare.specs.Telling.{HasChanges}
use Rattle.sw_install.specs.Fetches.{ComesTo}
use Rattle.sw_rules.specs.Installing.{fetched}
use Rattle.sw_state.specs.contracts.tables.HostTables.{the_view}
use Rattle.sw_state.specs.Hosted.{Hosted, rest_of, state_of}
use Rattle.sw_prepare.proofs.telling.fetched_changes.Goals as goal

pub returns : goal.returns
returns c line made comes =
    let host = the_view c.host.inside in
    subst (λ (h : Hosted). IfOk c.fetched_changes.result (λ changes. HasChanges (fetched (state_of h) c.args.job line) changes.items)) c.host.view_is
    (c.fetched_changes.ensures host.workers host.clients (rest_of host) line made c.host.invariant.linked.slots
    (subst (λ (h : Hosted). ComesTo c.args.outcome.now made (state_of h) c.args.job line) (sym c.host.view_is) comes))
