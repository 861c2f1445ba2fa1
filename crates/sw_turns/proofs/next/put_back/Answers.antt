-- The event is that of the action that was taken last of its lane.
use Rattle.std.proofs.Common.{◌∙◌, sym}
use Rattle.sw_turns.proofs.ComingLemmas.{goes_back, has_action}
use Rattle.sw_turns.proofs.next.put_back.Goals as goal

pub put_back-requires : goal.put_back-requires
put_back-requires c =
    let was = c.requires in
    let back = goes_back was.0 c.args.lane c.args.event c.args.lanes.now was.1 c.in-Some.action (sym c.in-Some.is ∙ c.action_of_event.ensures) in
    (was.0, back.0, back.1)

pub unreachable-requires : goal.unreachable-requires
unreachable-requires c =
    let was = c.requires in
    has_action was.0 c.args.lane c.args.event c.args.lanes.now was.1 (sym c.in-None.is ∙ c.action_of_event.ensures)

pub returns : goal.returns
returns c = λ before takes.
    let back = goes_back before c.args.lane c.args.event c.args.lanes.now takes c.in-Some.action (sym c.in-Some.is ∙ c.action_of_event.ensures) in
    c.put_back.ensures before back.0 back.1
