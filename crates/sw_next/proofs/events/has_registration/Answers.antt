use Rattle.std.proofs.Common.{◌≡◌, is_some, arith, subst}
use Rattle.std.specs.Option.{option_copied}
use Rattle.std.proofs.lemmas.Grind.{common_steps}
use Rattle.sw_next.proofs.Enabling.{registration_there}
use Rattle.sw_state.specs.contracts.tables.HostTables.{the_view}
use Rattle.sw_state.specs.Hosted.{Hosted, state_of}
use Rattle.sw_rules.specs.Rows.{registration_row}
use Rattle.sw_next.proofs.events.has_registration.Goals as goal

pub returns : goal.returns
returns c =
    subst (λ (h : Hosted). c.is_some.result ≡ is_some (registration_row (state_of h) c.args.registration)) c.host.view_is
    (grind (arith, common_steps, c.is_some.ensures, registration_there (the_view c.host.inside) c.args.registration (option_copied c.row.result) c.row.ensures))
