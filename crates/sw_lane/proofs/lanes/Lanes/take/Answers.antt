use Rattle.sw_lane.proofs.Following.{goes_on}
use Rattle.sw_lane.proofs.lanes.Lanes.take.Goals as goal

pub returns-clause-goes_on : goal.returns-clause-goes_on
returns-clause-goes_on c =
    λ recording history entry at ours is.
    goes_on recording history c.args.self.now c.args.lane c.take_next.new.self entry at c.take_next.ensures.moved ours is
