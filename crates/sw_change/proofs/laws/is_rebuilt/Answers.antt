use Rattle.sw_change.proofs.LawLemmas.{rebuilt}
use Rattle.sw_change.proofs.laws.is_rebuilt.Goals as goal

pub returns : goal.returns
returns c = rebuilt
