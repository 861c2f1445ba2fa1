use Rattle.std.proofs.Common.{◌≡◌, find}
use Rattle.sw_bucket.specs.Eviction.{may_go}
use Rattle.sw_bucket.proofs.order.Order.first.Given as goal
use Rattle.sw_state.specs.Hosted.{state_of}

abbrev pub invariant-loop-turn : goal.invariant-loop-turn
invariant-loop-turn l =
    (goal.iterator-loop-turn).can_next l.turn-iterator ×
    (goal.iterator-loop-turn).is_finite l.turn-iterator
    × (find (λ turn. may_go (state_of l.core) turn.1) l.turn-iterator ≡ find (λ turn. may_go (state_of l.core) turn.1) l.self.turns.keys)
