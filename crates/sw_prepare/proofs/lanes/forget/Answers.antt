use Rattle.std.proofs.Common.{◌∙◌, sym}
use Rattle.sw_prepare.proofs.Busy.{busy_agrees, quiet_agrees}
use Rattle.sw_data.specs.declared.answers.Answer.TheVariants as answer
use Rattle.sw_state.specs.Hosted.{state_of}
use Rattle.sw_work.specs.declared.plan.Act.TheVariants as act
use Rattle.sw_work.specs.declared.plan.Then.TheVariants as then
use Rattle.sw_prepare.proofs.lanes.forget.Goals as goal

pub returns-then-is_busy-clause-agrees : goal.returns-then-is_busy-clause-agrees
returns-then-is_busy-clause-agrees c =
    busy_agrees (state_of c.args.host.now) c.args.place.now c.in-Ok.key c.answered-then-is_busy.result (sym c.in_ok-key.ensures ∙ c.in-Ok.is)
    (sym c.is_busy.ensures.busy ∙ c.if-is_busy.true) c.answered-then-is_busy.ensures

pub returns-clause-agrees : goal.returns-clause-agrees
returns-clause-agrees c =
    quiet_agrees (state_of c.args.host.now) c.args.place.now c.in-Ok.key (record { answer = answer.Ok; act = act.Forget c.in-Ok.key; then = then.Nothing }) (sym c.in_ok-key.ensures ∙ c.in-Ok.is)
    (sym c.is_busy.ensures.busy ∙ c.if-is_busy.false)
