use Rattle.std.specs.List.{IsDistinct}
use Rattle.sw_sizes.proofs.sizes.Sizes.new.Goals as goal

pub invariant_of-result : goal.invariant_of-result
unfolding IsDistinct
invariant_of-result c = rw c.new.ensures (record { total = c.new-2.ensures.total; held = c.new-2.ensures.held }, tt)
