use Rattle.std.proofs.Common.{◌∙◌, ap, arith}
use Rattle.sw_worker.specs.Edits.{allows, edited}
use Rattle.sw_worker.specs.Table.{Table, has_worker}
use Rattle.sw_worker.proofs.Placed.{kept_edited, many_flags, within}
use Rattle.sw_worker.proofs.workers.Workers.edit.Goals as goal

pub set-requires : goal.set-requires
set-requires c =
    let has = ap (λ (table : Table). has_worker (allows c.args.edit) c.args.worker table.rows) c.self.view_is ∙ c.requires in
    let below = within (allows c.args.edit) c.self.inside.rows.items c.args.worker c.self.invariant.workers has in
    omega (arith, below, many_flags _ _ _ _ c.self.invariant)

pub invariant_of-self : goal.invariant_of-self
invariant_of-self c =
    let has = ap (λ (table : Table). has_worker (allows c.args.edit) c.args.worker table.rows) c.self.view_is ∙ c.requires in
    rw (c.set.ensures, c.runs_activate.ensures)
    (kept_edited c.args.edit _ _ _ _ c.args.worker c.index_mut-row.result.now c.carry_out.new.row c.self.invariant has
    (c.carry_out.ensures ∙ ap (edited c.args.edit) c.index_mut-row.ensures.value))
