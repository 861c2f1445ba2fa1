use Rattle.std.specs.List.{IsDistinct}
use Rattle.sw_change.proofs.registrations.Registrations.new.Goals as goal

pub invariant_of-result : goal.invariant_of-result
unfolding IsDistinct
invariant_of-result c = rw c.new.ensures tt
