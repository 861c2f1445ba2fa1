use Rattle.std.proofs.Common.{◌≡◌, ◌∙◌, false, Some, None, sym, ap, subst}
use Rattle.std.specs.Option.{option_copied}
use Rattle.sw_next.proofs.Enabling.{owed_shown}
use Rattle.sw_state.specs.contracts.tables.HostTables.{the_view}
use Rattle.sw_state.specs.Hosted.{Hosted, state_of}
use Rattle.sw_rules.specs.Activating as activating
use Rattle.sw_next.proofs.events.is_owed.Goals as goal

pub returns-in-Some : goal.returns-in-Some
returns-in-Some c =
    subst (λ (h : Hosted). c.in-Some.row.now.owed ≡ activating.is_owed (state_of h) c.args.registration) c.host.view_is
    (owed_shown (the_view c.host.inside) c.host.invariant.linked.slots.registration_places c.args.registration (Some c.in-Some.row.now)
    (sym (ap option_copied c.in-Some.is) ∙ c.row.ensures))

pub returns-in-None : goal.returns-in-None
returns-in-None c =
    subst (λ (h : Hosted). false ≡ activating.is_owed (state_of h) c.args.registration) c.host.view_is
    (owed_shown (the_view c.host.inside) c.host.invariant.linked.slots.registration_places c.args.registration None
    (sym (ap option_copied c.in-None.is) ∙ c.row.ensures))
