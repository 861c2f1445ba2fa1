use Rattle.std.proofs.Common.{◌+◌, length, ◌-◌, ◌≡◌, ◌≤◌, take}
use Rattle.sw_disk.specs.Image.{get}
use Rattle.sw_disk.specs.DiskRule.{ForTold}
use Rattle.sw_journal.specs.Quiet.{LeavesAlone}
use Rattle.sw_journal.proofs.read.read_front.Given as goal

abbrev pub invariant-loop-at : goal.invariant-loop-at
invariant-loop-at g l = record {
  within : l.at ≤ length l.bytes;
  calls : g.D.Disk.clock l.disk ≤ g.D.Disk.clock l.initial.disk + l.at;
  quiet : LeavesAlone g.D.Disk l.initial.disk l.disk;
  front : ForTold (g.D.Disk.seen l.initial.disk) (λ image. take l.at l.bytes ≡ take l.at (get l.part image));
}

abbrev pub decreases-loop-at : goal.decreases-loop-at
decreases-loop-at g l = length l.initial.bytes - l.at
