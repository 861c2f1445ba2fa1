use Rattle.std.proofs.Common.{◌∙◌, ap}
use Rattle.sw_reg.specs.Table.{Table, first_of}
use Rattle.sw_reg.proofs.Indexing.{first_shown}
use Rattle.sw_reg.proofs.registrations.Registrations.first_of.Goals as goal

pub returns : goal.returns
returns c =
    c.first_of.ensures _ c.self.invariant.1
    ∙ (first_shown c.args.key.now c.self.inside.rows.items
    ∙ ap (λ (table : Table). first_of c.args.key.now table.rows) c.self.view_is)
