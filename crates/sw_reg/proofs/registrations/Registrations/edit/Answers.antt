use Rattle.std.proofs.Common.{◌∙◌, ap, arith, sym}
use Rattle.sw_reg.specs.Table.{Table, is_there}
use Rattle.sw_reg.proofs.Indexing.{index_edited}
use Rattle.sw_reg.proofs.Placed.{kept_first, kept_same, many_flags, within}
use Rattle.sw_reg.proofs.registrations.Registrations.edit.Goals as goal

pub set-requires : goal.set-requires
set-requires c =
    let there = ap (λ (table : Table). is_there c.args.id table.rows) c.self.view_is ∙ c.requires in
    let kept = c.self.invariant.0 in
    let below = within _ _ kept.places there in
    omega (arith, below, many_flags _ _ _ kept)

pub invariant_of-self : goal.invariant_of-self
invariant_of-self c =
    let there = ap (λ (table : Table). is_there c.args.id table.rows) c.self.view_is ∙ c.requires in
    let kept = c.self.invariant.0 in
    let at = c.index_mut-row.ensures.value in
    let is = c.carry_out-is_counted.ensures.row in
    let room = c.self.invariant.2 in
    rw c.set.ensures (
      kept_first c.args.edit _ _ _ _ _ _ kept (within _ _ kept.places there) at is (sym c.carry_out-is_counted.ensures.first ∙ c.if-is_counted.true),
      index_edited c.args.edit _ _ _ _ _ c.self.invariant.1 at is,
      omega (arith, room),
    )

pub invariant_of-self-else-is_counted : goal.invariant_of-self-else-is_counted
invariant_of-self-else-is_counted c =
    let there = ap (λ (table : Table). is_there c.args.id table.rows) c.self.view_is ∙ c.requires in
    let kept = c.self.invariant.0 in
    let at = c.index_mut-row.ensures.value in
    let is = c.carry_out-is_counted.ensures.row in
    let room = c.self.invariant.2 in
    rw c.set.ensures (
      kept_same c.args.edit _ _ _ _ _ _ kept (within _ _ kept.places there) at is (sym c.carry_out-is_counted.ensures.first ∙ c.if-is_counted.false),
      index_edited c.args.edit _ _ _ _ _ c.self.invariant.1 at is,
      omega (arith, room),
    )
