use Rattle.std.proofs.Common.{None, Some}
use Rattle.sw_list.proofs.BareLemmas.{none_there}
use Rattle.sw_list.proofs.names.Names.take.Goals as goal

pub returns-then-take_from-clause-left : goal.returns-then-take_from-clause-left
returns-then-take_from-clause-left c bare out =
    c.is_empty.ensures.1 (none_there c.take_number.new.names.entries (λ asked. c.take_number.ensures.bare bare asked (λ n. out (Some asked) n)))

pub returns-else-take_from-clause-left : goal.returns-else-take_from-clause-left
returns-else-take_from-clause-left c bare out = c.take_from.ensures.none.1 (λ n. out None n)
