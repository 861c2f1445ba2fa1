-- The action that is put back was the next one of its lane.
use Rattle.std.proofs.Common.{◌∙◌, slice_get, refl, sym}
use Rattle.sw_lane.proofs.Following.{returned}
use Rattle.sw_lane.proofs.lanes.Lanes.put_back.Goals as goal

pub returns : goal.returns
returns c = λ before took acts.
    returned before c.self.inside.lanes.items c.args.lane c.args.action c.index_mut.result.now c.put_back.new.self (slice_get before c.args.lane) refl
    (took ∙ sym c.self.view_is) acts c.index_mut.ensures.value c.put_back.ensures
