use Rattle.std.proofs.Common.{◌∙◌, ℕ, ◌&&◌, not, ap}
use Rattle.sw_bucket.proofs.Turned.{lose_more}
use Rattle.sw_bucket.proofs.order.Order.take_all.Goals as goal
use Rattle.sw_bucket.specs.Noted.{last_noted}
use Rattle.sw_bucket.specs.Turns.{has_turn, is_turn}

pub loop-key-preserved : goal.loop-key-preserved
loop-key-preserved c =
    let l = c.loop-key in
    lose_more (last_noted c.args.uses.now) c.args.keys.now l.key-index c.key-item.result c.loop-key-test.true c.key-item.is
    c.args.self.now.turns l.self.turns c.take.new.self.turns l.invariant
    (λ turn. c.in_ok-take.ensures turn ∙ ap (λ (last : ℕ). not (is_turn (last, c.key-item.result) turn) && has_turn l.self.turns turn) c.last.ensures)
