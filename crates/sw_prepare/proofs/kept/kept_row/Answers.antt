use Rattle.std.proofs.Common.{◌∙◌, ap}
use Rattle.std.specs.Prelude.{option_map}
use Rattle.sw_prepare.proofs.KeptRows.{kept_shown}
use Rattle.sw_tables.specs.Lent.{shown_registration}
use Rattle.sw_prepare.proofs.kept.kept_row.Goals as goal

pub returns : goal.returns
returns c = λ of_workers of_clients rest has.
    ap (option_map (shown_registration c.args.map.now rest)) c.kept_at.ensures
    ∙ kept_shown c.args.map.now of_workers c.args.registrations.now has of_clients rest c.args.registration
