-- An addAll, noted.
use Rattle.sw_state.specs.Hosted.{state_of}
use Rattle.sw_work.proofs.Calling.{start_noted, unstarted_noted}
use Rattle.sw_work.proofs.calls.begun_work.Goals as goal

pub returns-in-Some-clause-means : goal.returns-in-Some-clause-means
returns-in-Some-clause-means c host by is =
    start_noted (state_of host) by c.args.step c.args.worker c.in-Some.new c.called-then.result c.in-Some.is c.called-then.ensures is

pub returns-in-None-clause-means : goal.returns-in-None-clause-means
returns-in-None-clause-means c host by is =
    unstarted_noted (state_of host) by c.args.step c.args.worker c.called-then.result c.in-None.is c.called-then.ensures is
