use Rattle.std.proofs.Common.{subst}
use Rattle.std.specs.Prelude.{IfOk}
use Rattle.sw_prepare.specs.Telling.{HasChanges}
use Rattle.sw_rules.specs.Activating.{tryactivate}
use Rattle.sw_state.specs.contracts.tables.HostTables.{the_view}
use Rattle.sw_state.specs.Hosted.{Hosted, rest_of, state_of}
use Rattle.sw_prepare.proofs.telling.try_activate_changes.Goals as goal

pub returns : goal.returns
returns c =
    subst (λ (h : Hosted). IfOk c.try_activate_changes.result (λ changes. HasChanges (tryactivate (state_of h) c.args.registration) changes.items)) c.host.view_is
    (c.try_activate_changes.ensures (rest_of (the_view c.host.inside)))
