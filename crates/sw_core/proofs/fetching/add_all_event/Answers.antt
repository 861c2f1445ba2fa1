use Rattle.sw_core.proofs.FetchLemmas.{add_all_comes_on}
use Rattle.sw_state.specs.Hosted.{state_of}
use Rattle.sw_core.proofs.fetching.add_all_event.Goals as goal

pub returns : goal.returns
returns c = add_all_comes_on c.args.net.now (state_of c.args.core.now) c.added.result c.args.task c.requires c.added.ensures
