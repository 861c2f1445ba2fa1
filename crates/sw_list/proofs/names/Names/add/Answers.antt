use Rattle.std.proofs.Common.{None, Some, ◌∙◌}
use Rattle.sw_list.specs.Names.{set_has}
use Rattle.sw_list.proofs.BareLemmas.{one_more}
use Rattle.sw_list.proofs.names.Names.add.Goals as goal

pub returns-clause-more : goal.returns-clause-more
returns-clause-more c None n there = c.in_ok-insert.ensures.updates.0 n ∙ one_more _ (set_has c.args.self.now.in_order n) there
returns-clause-more c (Some name) n there = c.add_number.ensures.more name n there
