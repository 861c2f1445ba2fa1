use Rattle.sw_prepare.proofs.Changing.{tells_none}
use Rattle.sw_rules.specs.Registering.{run}
use Rattle.sw_state.specs.Hosted.{state_of}
use Rattle.sw_prepare.proofs.telling.no_changes.Goals as goal

pub returns : goal.returns
returns c = tells_none (run (state_of c.args.host.now) c.args.job) _ c.new.ensures.items (c.register_has_no_changes.ensures (state_of c.args.host.now) c.args.job c.requires)
