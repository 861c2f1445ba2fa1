use Rattle.std.proofs.Common.{◌≡◌, ◌++◌, map}
use Rattle.std.specs.Vec.Iter.{into_iter_items}
use Rattle.sw_lane.specs.Left.{begun}
use Rattle.sw_lane.proofs.lanes.begin.Given as goal

abbrev pub invariant-loop-actions : goal.invariant-loop-actions
invariant-loop-actions l = (l.all.items ≡ map begun l.yielded) × (l.fn.lanes.items ≡ l.yielded ++ into_iter_items l.actions-iterator)
