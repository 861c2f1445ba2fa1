use Rattle.std.proofs.Common.{◌≡◌, ◌≤◌, ◌-◌, length, take}
use Rattle.sw_twin.specs.Current.{leading_ones}
use Rattle.sw_twin.proofs.ones.leading.Given as goal

abbrev pub invariant-loop-ones : goal.invariant-loop-ones
invariant-loop-ones l = record {
  within : l.ones ≤ length l.bytes;
  all : leading_ones (take l.ones l.bytes) ≡ l.ones;
}

abbrev pub decreases-loop-ones : goal.decreases-loop-ones
decreases-loop-ones l = length l.bytes - l.ones
