use Rattle.std.proofs.Common.{[], subst, sym}
use Rattle.sw_audit.proofs.Stood.{first_stands}
use Rattle.sw_audit.proofs.hosts.Host.restart.Goals as goal
use Rattle.sw_laws.specs.Coherent.{Coherent}

pub invariant_of-result : goal.invariant_of-result
invariant_of-result c = record {
  sound = subst Coherent (sym c.in-Ok-restart.ensures.state) (c.states_are_coherent.ensures.restarts c.args.base c.requires);
  recording = c.args.recording;
  before = [];
  ours = c.in-Ok.ensures.lanes;
  lines = c.in-Ok.ensures.net;
}

pub returns-in-Ok-restart : goal.returns-in-Ok-restart
returns-in-Ok-restart c =
    first_stands c.in-Ok-restart.core c.in-Ok.lanes c.in-Ok.net c.args.base c.args.recording c.in-Ok-restart.ensures.state c.in-Ok.ensures.lanes c.in-Ok.ensures.net
