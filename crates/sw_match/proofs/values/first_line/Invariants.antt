use Rattle.std.proofs.Common.{◌≡◌, ◌≤◌, length}
use Rattle.sw_data.specs.Headers.{values_of}
use Rattle.sw_match.proofs.values.first_line.Given as goal

abbrev pub invariant-loop-left : goal.invariant-loop-left
invariant-loop-left l = (values_of l.name l.left ≡ values_of l.name l.headers) × (length l.left ≤ length l.headers)

abbrev pub decreases-loop-left : goal.decreases-loop-left
decreases-loop-left l = length l.left
