use Rattle.sw_prepare.proofs.Asking.{begun_starts}
use Rattle.sw_prepare.proofs.Begun.{starts}
use Rattle.sw_state.specs.Hosted.{state_of}
use Rattle.sw_prepare.proofs.lanes.begun.Goals as goal

pub returns-in-Some-clause-fits : goal.returns-in-Some-clause-fits
returns-in-Some-clause-fits c =
    starts c.args.lane c.args.at c.args.host.now c.then_of.new.host c.args.step.start c.in-Some.new c.in_ok-then.then c.in-Some.is
    c.requires.fits c.requires.maker c.then_of.ensures.others c.in_ok-then.ensures.caller c.in_ok-then.ensures.fits

pub returns-in-Some-clause-means : goal.returns-in-Some-clause-means
returns-in-Some-clause-means c host =
    begun_starts c.args.lane c.args.at c.args.step c.in_ok-then.then (state_of host) c.in_ok-then.ensures.told c.in-Some.new c.in-Some.is
