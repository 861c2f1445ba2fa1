use Rattle.sw_codec.proofs.LawLemmas.{begins_no_other}
use Rattle.sw_codec.proofs.laws.begins_no_other.Goals as goal

pub returns : goal.returns
returns c = begins_no_other
