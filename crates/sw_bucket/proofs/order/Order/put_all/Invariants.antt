use Rattle.std.proofs.Common.{take}
use Rattle.sw_bucket.proofs.order.Order.put_all.Given as goal
use Rattle.sw_bucket.specs.Noted.{last_noted}
use Rattle.sw_bucket.specs.Turns.{GetTurns}
use Rattle.sw_rules.specs.Durable.{durable}
use Rattle.sw_sizes.specs.Rows.{ArePartsOf}
use Rattle.sw_state.specs.Hosted.{state_of}

abbrev pub invariant-loop-key : goal.invariant-loop-key
invariant-loop-key l =
    ArePartsOf (durable (state_of l.core)) l.sizes → GetTurns (take l.key-index l.keys) (last_noted l.uses) (durable (state_of l.core)) l.fn.self.turns l.self.turns
