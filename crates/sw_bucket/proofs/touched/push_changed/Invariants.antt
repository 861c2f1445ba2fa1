use Rattle.std.proofs.Common.{◌≡◌, ◌++◌, take}
use Rattle.std.specs.List.{filter_map}
use Rattle.sw_bucket.proofs.touched.push_changed.Given as goal
use Rattle.sw_bucket.specs.Touched.{change_key}

abbrev pub invariant-loop-change : goal.invariant-loop-change
invariant-loop-change l = l.keys.items ≡ l.fn.keys.items ++ filter_map change_key (take l.change-index l.changes)
