use Rattle.std.proofs.Common.{◌∙◌, ap, length, sym}
use Rattle.sw_rules.specs.State.{AddAll}
use Rattle.sw_ledgers.specs.Tasks.{Table}
use Rattle.sw_ledgers.proofs.Tasking.{kept_more, many_rows}
use Rattle.sw_ledgers.proofs.tasks.Tasks.make_put.Goals as goal

pub invariant_of-self : goal.invariant_of-self
invariant_of-self c =
    let tasks = c.self.inside.rows.items in
    let number = ap (λ (row : AddAll). row.number) c.row.view_is
    ∙ (c.requires.number ∙ (sym (ap (λ (table : Table). length table.rows) c.self.view_is) ∙ many_rows tasks)) in
    rw (c.push_reserved.ensures.items, c.add.ensures)
    (kept_more tasks c.self.inside.unsettled.flags c.self.inside.keys c.add-2.new.self c.row.inside.row c.row.inside.key c.self.invariant c.row.invariant number c.add-2.ensures.counts)
