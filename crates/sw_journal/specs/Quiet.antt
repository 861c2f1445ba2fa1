-- Calls that change nothing.
use Rattle.std.specs.Prelude.{◌≡◌, ◌≤◌}
use Rattle.sw_disk.specs.declared.disk.Disk.{Ghosts}
use Rattle.sw_disk.specs.DiskRule.{Within}
use Rattle.sw_disk.specs.Meanings.{LeavesOnly}

-- own: calls that wrote nothing and cut nothing: reads give the same, and at no moment does a crash leave what it couldn't
-- have left before them
pub record LeavesAlone {D : Type 0} (disk : Ghosts D) (old new : D) : Type 0 where
  pub same : disk.seen new ≡ disk.seen old
  pub crash : Within (disk.may_leave new) (disk.may_leave old)
  pub moments : LeavesOnly disk old new (disk.may_leave old)
  pub count : disk.faults old ≤ disk.faults new
