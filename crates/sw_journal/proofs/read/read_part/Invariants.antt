use Rattle.std.proofs.Common.{length, vec_len, ◌-◌, ◌≡◌, take}
use Rattle.sw_disk.specs.Image.{get}
use Rattle.sw_disk.specs.DiskRule.{ForTold}
use Rattle.sw_journal.specs.Quiet.{LeavesAlone}
use Rattle.sw_journal.proofs.read.read_part.Given as goal

abbrev pub invariant-loop-part : goal.invariant-loop-part
invariant-loop-part g l = record {
  quiet : LeavesAlone g.D.Disk l.fn.disk l.disk;
  front : ForTold (g.D.Disk.seen l.fn.disk) (λ image. l.bytes.items ≡ take (length l.bytes.items) (get l.part image));
}

abbrev pub decreases-loop-part : goal.decreases-loop-part
decreases-loop-part g l = l.all - vec_len l.bytes
