use Rattle.std.proofs.Common.{◌≡◌, ◌∙◌, true, ℕ, sym, ap, subst, arith}
use Rattle.sw_data.specs.declared.events.Event.{Event}
use Rattle.sw_data.specs.declared.events.Who.TheVariants as who
use Rattle.sw_data.specs.Events.{event_of_action}
use Rattle.sw_lane.specs.Left.{at_of}
use Rattle.sw_lane.specs.Picked.{is_ready}
use Rattle.sw_audit.specs.declared.marks.Mark.TheVariants as mark
use Rattle.sw_audit.specs.Taken.{IsTaken}
use Rattle.sw_audit.proofs.LaneEvents.{is_taken}
use Rattle.sw_audit.proofs.laning.lane_event.Goals as goal

pub returns-clause-some : goal.returns-clause-some
returns-clause-some g c = λ recording before ours.
    let state = g.B.Board.state c.args.board.now in
    let ready : is_ready state c.args.lanes.now c.args.lane ≡ true = grind (arith, c.if-not-is_ready.false, c.is_ready.ensures) in
    let made = c.event_of_action.ensures ∙ ap (λ (at : ℕ). event_of_action (who.Lane c.args.lane at) c.take-action.result) c.at-at.ensures in
    subst (λ (happened : Event). IsTaken recording before state (mark.Lane c.args.lane) c.take-action.new.self happened) (sym made)
    (is_taken recording before state c.args.lanes.now c.take-action.new.self c.args.lane c.take-action.result ours ready c.take-action.ensures.action
    (λ entry maker. c.take-action.ensures.goes_on recording before entry (at_of c.args.lanes.now c.args.lane) ours maker))
