use Rattle.std.proofs.Common.{ap, arith, length}
use Rattle.sw_list.specs.Numbers.{Numbers}
use Rattle.sw_list.proofs.Places.{counted}
use Rattle.sw_list.proofs.numbered.Numbered.len.Goals as goal

pub overflow_sub-result : goal.overflow_sub-result
overflow_sub-result g c = omega (arith, counted 0 0 c.self.inside.slots.items, ap length c.self.invariant.told)

pub returns : goal.returns
returns g c =
    omega (arith, counted 0 0 c.self.inside.slots.items, ap length c.self.invariant.told, ap (λ (n : Numbers g.row.V.Denot). length n.rows) c.self.view_is)
