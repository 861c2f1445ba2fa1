use Rattle.sw_ledgers.proofs.Tasking.{none_kept}
use Rattle.sw_ledgers.proofs.tasks.Tasks.new.Goals as goal

pub invariant_of-result : goal.invariant_of-result
invariant_of-result c = none_kept c.new.result.items c.new-2.result.flags c.new-3.result c.new.ensures.items c.new-2.ensures c.new-3.ensures.counts
