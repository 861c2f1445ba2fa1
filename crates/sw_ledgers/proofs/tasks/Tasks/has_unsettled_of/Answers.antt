use Rattle.std.proofs.Common.{◌∙◌, ◌&&◌, ap, bytes_eq, is_none}
use Rattle.std.specs.List.{list_any}
use Rattle.sw_ledgers.specs.Tasks.{Table}
use Rattle.sw_ledgers.proofs.Tasking.{any_of}
use Rattle.sw_ledgers.proofs.tasks.Tasks.has_unsettled_of.Goals as goal

pub returns : goal.returns
returns c =
    c.has.ensures
    ∙ (any_of c.args.key.now c.self.inside.rows.items c.self.inside.keys c.self.invariant.tallied
    ∙ ap (λ (table : Table). list_any (λ row. is_none row.settled && bytes_eq row.key c.args.key.now) table.rows) c.self.view_is)
