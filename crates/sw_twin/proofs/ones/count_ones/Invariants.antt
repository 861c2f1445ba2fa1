use Rattle.std.proofs.Common.{◌≡◌, ◌≤◌, ◌+◌, ◌-◌, ◌^◌, drop}
use Rattle.sw_disk.specs.DiskRule.{ForTold}
use Rattle.sw_journal.specs.Quiet.{LeavesAlone}
use Rattle.sw_twin.specs.Current.{leading_ones}
use Rattle.sw_twin.proofs.ones.count_ones.Given as goal

abbrev pub invariant-loop-ones : goal.invariant-loop-ones
invariant-loop-ones g l = record {
  calls : g.D.Disk.clock l.disk ≤ g.D.Disk.clock l.initial.disk + l.ones;
  quiet : LeavesAlone g.D.Disk l.initial.disk l.disk;
  counted : ForTold (g.D.Disk.seen l.initial.disk) (λ image. leading_ones image.root ≡ l.ones + leading_ones (drop l.ones image.root));
}

abbrev pub decreases-loop-ones : goal.decreases-loop-ones
decreases-loop-ones g l = 2 ^ 63 - l.ones
