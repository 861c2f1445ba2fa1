use Rattle.std.proofs.Common.{refl}
use Rattle.sw_core.proofs.Applying.{stepped}
use Rattle.sw_rules.specs.Step.{step}
use Rattle.sw_state.specs.Hosted.{state_of}
use Rattle.sw_store.proofs.staging.carry_out.Goals as goal

pub returns : goal.returns
returns c =
    let core = c.args.core.now in
    let done = c.finish-answer in
    record {
      pass_is = refl;
      maker = c.who.ensures;
      event = refl;
      step =
          stepped (state_of core) c.args.event (step (state_of core) c.args.event) c.args.plan.work core done.result.answer done.result.notices (state_of done.new.self) refl
          c.requires.is_enabled c.requires.means done.ensures.answer done.ensures.notices done.ensures.state;
    }
