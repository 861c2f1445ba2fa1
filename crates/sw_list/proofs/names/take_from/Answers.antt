use Rattle.sw_list.proofs.BareLemmas.{none_in, none_left}
use Rattle.sw_list.proofs.names.take_from.Goals as goal

pub returns-clause-none : goal.returns-clause-none
returns-clause-none c = (λ empty n. none_in _ c.remove.new.self.keys (c.is_empty.ensures.0 empty), λ out. c.is_empty.ensures.1 (none_left c.remove.new.self out))
