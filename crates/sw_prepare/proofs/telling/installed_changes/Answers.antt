use Rattle.std.proofs.Common.{subst, sym}
use Rattle.std.specs.Prelude.{IfOk}
use Rattle.sw_prepare.specs.Telling.{HasChanges}
use Rattle.sw_laws.specs.Coherent.{Coherent}
use Rattle.sw_rules.specs.Installing.{installed}
use Rattle.sw_work.proofs.Coherence.{under_way}
use Rattle.sw_state.specs.contracts.tables.HostTables.{the_view}
use Rattle.sw_state.specs.Hosted.{Hosted, rest_of, state_of}
use Rattle.sw_prepare.proofs.telling.installed_changes.Goals as goal

pub installed_changes-requires-clause-goes : goal.installed_changes-requires-clause-goes
installed_changes-requires-clause-goes c =
    let host = the_view c.host.inside in
    under_way host.scopes host.workers host.registrations host.clients (rest_of host) c.args.job
    (subst (λ (h : Hosted). Coherent (state_of h)) (sym c.host.view_is) c.requires) c.host.invariant.linked

pub returns : goal.returns
returns c =
    let host = the_view c.host.inside in
    subst (λ (h : Hosted). IfOk c.installed_changes.result (λ changes. HasChanges (installed (state_of h) c.args.job) changes.items)) c.host.view_is
    (c.installed_changes.ensures host.clients (rest_of host))
