use Rattle.sw_core.proofs.FetchLemmas.{fetch_comes_on}
use Rattle.sw_state.specs.Hosted.{state_of}
use Rattle.sw_core.proofs.fetching.fetch_event.Goals as goal

pub returns : goal.returns
returns c = fetch_comes_on c.args.net.now (state_of c.args.core.now) c.fetched.result c.args.job c.requires c.fetched.ensures
