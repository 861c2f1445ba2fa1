-- A call of a page's kind, noted.
use Rattle.sw_state.specs.Hosted.{state_of}
use Rattle.sw_work.proofs.Calling.{page_noted}
use Rattle.sw_work.proofs.calls.page_work.Goals as goal

pub returns-clause-means : goal.returns-clause-means
returns-clause-means c host by is =
    page_noted (state_of host) by c.args.worked c.args.worker c.called-then.result c.called-then.ensures is
