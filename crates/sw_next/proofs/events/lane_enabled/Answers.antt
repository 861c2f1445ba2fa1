use Rattle.sw_next.proofs.Enabling.{awaited_where, begun_where}
use Rattle.sw_state.specs.Hosted.{state_of}
use Rattle.sw_next.proofs.events.lane_enabled.Goals as goal

pub returns-in-Await : goal.returns-in-Await
returns-in-Await c at made =
    awaited_where (state_of c.args.host.now) c.args.event.now c.in-Await.who c.args.lane at c.has_settled.result made c.in-Await.of c.in-Await.is (c.has_settled.ensures at)

pub returns-in-Begin : goal.returns-in-Begin
returns-in-Begin c at made =
    begun_where (state_of c.args.host.now) c.args.event.now c.in-Begin.who c.args.lane at c.may_begin.result made c.in-Begin.client c.in-Begin.event c.in-Begin.is
    (c.may_begin.ensures c.in-Begin.event)
