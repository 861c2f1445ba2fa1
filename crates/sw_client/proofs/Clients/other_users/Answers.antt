use Rattle.std.proofs.Common.{ap, arith}
use Rattle.sw_client.proofs.OfClients.{others_with, others_without}
use Rattle.sw_client.specs.Table.{Table}
use Rattle.sw_client.proofs.Clients.other_users.Goals as goal

pub overflow_sub-result : goal.overflow_sub-result
overflow_sub-result c =
    let there = others_with c.args.number c.args.registration c.self.inside.rows.entries c.args.self.now.rows _ c.self.invariant.counted.keyed
    (ap (λ (table : Table). table.rows) c.self.view_is) c.get.ensures c.is_one_user.ensures c.if-is_one_user.true in
    omega (arith, there, c.users.ensures.count)

pub returns-then-is_one_user : goal.returns-then-is_one_user
returns-then-is_one_user c =
    let there = others_with c.args.number c.args.registration c.self.inside.rows.entries c.args.self.now.rows _ c.self.invariant.counted.keyed
    (ap (λ (table : Table). table.rows) c.self.view_is) c.get.ensures c.is_one_user.ensures c.if-is_one_user.true in
    omega (arith, there, c.users.ensures.count)

pub returns-else-is_one_user : goal.returns-else-is_one_user
returns-else-is_one_user c =
    let none = others_without c.args.number c.args.registration c.self.inside.rows.entries c.args.self.now.rows _ c.self.invariant.counted.keyed
    (ap (λ (table : Table). table.rows) c.self.view_is) c.get.ensures c.is_one_user.ensures c.if-is_one_user.false in
    omega (arith, none, c.users-else-is_one_user.ensures.count)
