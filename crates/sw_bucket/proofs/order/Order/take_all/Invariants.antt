use Rattle.std.proofs.Common.{take}
use Rattle.sw_bucket.proofs.order.Order.take_all.Given as goal
use Rattle.sw_bucket.specs.Noted.{last_noted}
use Rattle.sw_bucket.specs.Turns.{LoseTurns}

abbrev pub invariant-loop-key : goal.invariant-loop-key
invariant-loop-key l = LoseTurns (take l.key-index l.keys) (last_noted l.uses) l.fn.self.turns l.self.turns
