use Rattle.sw_codec.proofs.LawLemmas.{spelled_again}
use Rattle.sw_codec.proofs.laws.is_spelled_again.Goals as goal

pub returns : goal.returns
returns c = spelled_again
