use Rattle.sw_queue.proofs.Tallying.{none_indexed}
use Rattle.sw_queue.proofs.queues.Queues.new.Goals as goal

pub invariant_of-result : goal.invariant_of-result
invariant_of-result c =
    none_indexed c.new.result.items c.new-2.result.lists c.new-3.result c.new-4.result c.new-5.result c.new.ensures.items c.new-2.ensures c.new-3.ensures
    c.new-4.ensures.starting c.new-4.ensures.fetching c.new-4.ensures.evaluating c.new-4.ensures.installing c.new-5.ensures.counts
