-- A call on caches, noted.
use Rattle.sw_state.specs.Hosted.{state_of}
use Rattle.sw_work.proofs.Calling.{cache_noted}
use Rattle.sw_work.proofs.calls.cache_work.Goals as goal

pub returns-clause-means : goal.returns-clause-means
returns-clause-means c host outcome is =
    cache_noted (state_of host) c.args.step outcome c.args.worker c.called-then.result c.called-then.ensures is
