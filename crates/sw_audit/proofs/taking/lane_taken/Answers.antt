use Rattle.sw_audit.proofs.taking.lane_taken.Goals as goal

pub returns : goal.returns
returns c = record {
  some = λ recording before ours lines. c.lane_event.ensures.some recording before ours;
  none = λ recording before ours lines. c.lane_event.ensures.none recording before ours;
  same = c.lane_event.ensures.same;
}
