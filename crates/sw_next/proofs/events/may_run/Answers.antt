use Rattle.std.proofs.Common.{◌≡◌, ◌∙◌, is_some, subst}
use Rattle.sw_next.proofs.Enabling.{runs_where}
use Rattle.sw_state.specs.contracts.tables.HostTables.{the_view}
use Rattle.sw_state.specs.Hosted.{Hosted, state_of}
use Rattle.sw_rules.specs.Registering as registering
use Rattle.sw_next.proofs.events.may_run.Goals as goal

pub returns : goal.returns
returns c =
    subst (λ (h : Hosted). c.may_run.result ≡ is_some (registering.run (state_of h) c.args.job)) c.host.view_is
    (c.may_run.ensures ∙ runs_where (state_of (the_view c.host.inside)) c.args.job)
