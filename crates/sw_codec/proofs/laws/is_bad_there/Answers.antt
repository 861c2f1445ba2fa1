use Rattle.sw_codec.proofs.LawLemmas.{bad_there}
use Rattle.sw_codec.proofs.laws.is_bad_there.Goals as goal

pub returns : goal.returns
returns c = bad_there
