use Rattle.sw_bucket.proofs.Turned.{get_more}
use Rattle.sw_bucket.proofs.order.Order.put_all.Goals as goal
use Rattle.sw_bucket.specs.Noted.{last_noted}
use Rattle.sw_rules.specs.Durable.{durable}
use Rattle.sw_state.specs.Hosted.{state_of}

pub loop-key-preserved : goal.loop-key-preserved
loop-key-preserved c = λ parts.
    let l = c.loop-key in
    get_more (last_noted c.args.uses.now) c.args.keys.now l.key-index c.key-item.result c.loop-key-test.true c.key-item.is
    c.args.self.now.turns l.self.turns c.put_used.new.self.turns (durable (state_of c.args.core.now)) (l.invariant parts)
    (c.in_ok-put_used.ensures parts)
