use Rattle.std.proofs.Common.{◌∙◌, ap}
use Rattle.sw_reg.specs.Table.{Table, next_of}
use Rattle.sw_reg.proofs.Indexing.{next_shown}
use Rattle.sw_reg.proofs.registrations.Registrations.next_of.Goals as goal

pub returns : goal.returns
returns c =
    c.next_of.ensures _ c.self.invariant.1
    ∙ (next_shown c.args.number c.self.inside.rows.items
    ∙ ap (λ (table : Table). next_of c.args.number table.rows) c.self.view_is)
