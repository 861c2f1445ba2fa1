use Rattle.std.proofs.Common.{refl}
use Rattle.sw_core.proofs.Applying.{stepped}
use Rattle.sw_rules.specs.Step.{step}
use Rattle.sw_state.specs.Hosted.{state_of}
use Rattle.sw_core.proofs.core_tables.Core.apply.Goals as goal

pub returns-clause-step : goal.returns-clause-step
returns-clause-step c =
    stepped (state_of c.args.self.now) c.args.event.now (step (state_of c.args.self.now) c.args.event.now) c.in_ok-plan.plan.work c.prepare.new.self c.finish.result.answer
    c.finish.result.notices (state_of c.finish.new.self) refl c.requires.enabled c.in_ok-plan.ensures.means c.finish.ensures.answer c.finish.ensures.notices c.finish.ensures.state
