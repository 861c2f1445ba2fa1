use Rattle.std.proofs.Common.{◌≡◌, sym, subst}
use Rattle.std.specs.Prelude.{is_some}
use Rattle.sw_data.specs.declared.events.Who.TheVariants as maker
use Rattle.sw_data.specs.declared.recordings.Action.{Action}
use Rattle.sw_data.specs.Events.{event_of_action, who_of}
use Rattle.sw_rules.specs.Step.{step}
use Rattle.sw_state.specs.Hosted.{state_of}
use Rattle.sw_core.proofs.board.CoreBoardBoard.lane_ready.Goals as goal

pub returns-in-Await : goal.returns-in-Await
unfolding step event_of_action who_of
returns-in-Await c at =
    subst (λ (a : Action). c.has_settled.result ≡ is_some (step (state_of c.args.self.now.core.now) (event_of_action (maker.Lane c.args.lane at) a))) (sym c.in-Await.is)
    (c.has_settled.ensures at)

pub returns-in-Begin : goal.returns-in-Begin
unfolding step event_of_action who_of
returns-in-Begin c at =
    subst (λ (a : Action). c.may_begin.result ≡ is_some (step (state_of c.args.self.now.core.now) (event_of_action (maker.Lane c.args.lane at) a))) (sym c.in-Begin.is)
    (c.may_begin.ensures c.in-Begin.event)
