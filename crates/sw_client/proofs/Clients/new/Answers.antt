use Rattle.sw_client.proofs.Tallying.{none_kept}
use Rattle.sw_client.proofs.Clients.new.Goals as goal

pub invariant_of-result : goal.invariant_of-result
invariant_of-result c = none_kept c.new.result.entries c.new-2.result.items c.new-3.result c.new.ensures c.new-2.ensures.items c.new-3.ensures.counts
