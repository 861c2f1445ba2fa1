use Rattle.std.proofs.Common.{◌≡◌, length}
use Rattle.sw_data.specs.Sameness.{same_list, same_request}
use Rattle.sw_data.proofs.sameness.same_requests.Given as goal

abbrev pub invariant-loop-left : goal.invariant-loop-left
invariant-loop-left l = same_list same_request l.left l.right ≡ same_list same_request l.initial.left l.initial.right

abbrev pub decreases-loop-left : goal.decreases-loop-left
decreases-loop-left l = length l.left
