use Rattle.sw_codec.proofs.LawLemmas.{read_again}
use Rattle.sw_codec.proofs.laws.is_read_again.Goals as goal

pub returns : goal.returns
returns c = read_again
