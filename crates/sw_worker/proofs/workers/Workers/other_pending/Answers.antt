use Rattle.std.proofs.Common.{◌∙◌, ap, arith}
use Rattle.sw_worker.proofs.Events.{others_with, others_without}
use Rattle.sw_worker.specs.Table.{Table}
use Rattle.sw_worker.proofs.workers.Workers.other_pending.Goals as goal

pub overflow_sub-result : goal.overflow_sub-result
overflow_sub-result c =
    let there = others_with c.args.event c.args.worker c.self.inside.events.entries c.args.self.now.events c.copied.result c.self.invariant.apart
    (ap (λ (table : Table). table.events) c.self.view_is) (c.copied.ensures ∙ c.get.ensures) c.is_number.ensures c.if-is_number.true in
    omega (arith, there, c.pending.ensures)

pub returns-then-is_number : goal.returns-then-is_number
returns-then-is_number c =
    let there = others_with c.args.event c.args.worker c.self.inside.events.entries c.args.self.now.events c.copied.result c.self.invariant.apart
    (ap (λ (table : Table). table.events) c.self.view_is) (c.copied.ensures ∙ c.get.ensures) c.is_number.ensures c.if-is_number.true in
    omega (arith, there, c.pending.ensures)

pub returns-else-is_number : goal.returns-else-is_number
returns-else-is_number c =
    let none = others_without c.args.event c.args.worker c.self.inside.events.entries c.args.self.now.events c.copied.result c.self.invariant.apart
    (ap (λ (table : Table). table.events) c.self.view_is) (c.copied.ensures ∙ c.get.ensures) c.is_number.ensures c.if-is_number.false in
    omega (arith, none, c.pending-else-is_number.ensures)
