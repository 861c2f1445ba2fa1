use Rattle.std.proofs.Common.{◌∙◌, ap}
use Rattle.std.specs.Prelude.{is_some}
use Rattle.std.specs.List.{list_any}
use Rattle.sw_rules.specs.Storage.{is_registration}
use Rattle.sw_change.proofs.Entries.{there}
use Rattle.sw_change.proofs.registrations.Registrations.has.Goals as goal

pub returns : goal.returns
returns c =
    let place = c.args.place.now in
    c.is_some.ensures ∙ ap is_some c.place.ensures ∙ there place c.self.inside.rows.rows
    ∙ ap (list_any (is_registration place.0 place.1)) c.self.view_is
