use Rattle.sw_scope.proofs.LawLemmas.{one_length}
use Rattle.sw_scope.proofs.laws.one_length_is_one_step.Goals as goal

pub returns : goal.returns
returns c = one_length
