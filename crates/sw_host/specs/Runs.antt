-- A recording that is run: the status and the transcript of its end.
use Rattle.std.specs.Prelude.{◌≡◌, ◌≢◌, ℕ, List, map}
use Rattle.sw_data.specs.declared.histories.End.{End}
use Rattle.sw_data.specs.declared.histories.End.TheVariants as end
use Rattle.sw_data.specs.declared.histories.Entry.{Entry}
use Rattle.sw_data.specs.declared.recordings.Recording.{Recording}
use Rattle.sw_data.specs.declared.storage.Kept.{Kept}
use Rattle.sw_disk.specs.declared.disk.Disk.{Ghosts}
use Rattle.sw_host.specs.declared.statuses.Status.{Status}
use Rattle.sw_host.specs.declared.statuses.Status.TheVariants as status
use Rattle.sw_print.specs.Transcript.{transcript}
use Rattle.sw_turns.specs.Ends.{Ended}
use Rattle.sw_turns.specs.declared.ends.DriveEnd.{DriveEnd}
use Rattle.sw_turns.specs.declared.ends.DriveEnd.TheVariants as drive_end

-- the end that the transcript of a run names
abbrev pub last_of : DriveEnd → End
last_of (drive_end.Stalled lane) = end.Stalled lane
last_of (drive_end.DiskFault refused) = end.Disk (map (λ entry. entry.event) refused.items)
last_of (drive_end.Full happened from needed) = end.Full happened
last_of (drive_end.Spent spent) = end.Spent
last_of _ = end.Done

-- the status of a run
abbrev pub status_of : DriveEnd → Status
status_of drive_end.Done = status.Done
status_of (drive_end.Stalled lane) = status.Stalled
status_of (drive_end.DiskFault refused) = status.DiskFault
status_of (drive_end.Full happened from needed) = status.Full
status_of drive_end.NoMemory = status.NoMemory
status_of (drive_end.Spent spent) = status.Spent spent

-- own: a recording is run by so many workers on a disk to this status, and the text is the transcript of its history: one that is
-- legal, follows the recording, and with one worker is the one that the pick order fixes, of which a crash at any moment leaves a
-- prefix
pub record EndsAs {D : Type 0} (disk : Ghosts D) (old new : D) (workers : ℕ) (recording : Recording) (outcome : Status) (text : List ℕ) : Type 0 where
  pub base : Kept
  pub history : List Entry
  pub ended : DriveEnd
  pub run : Ended disk old new workers recording base history ended
  pub ends : outcome ≡ status_of ended
  pub some : outcome ≢ status.NoMemory
  pub printed : text ≡ transcript history (last_of ended)
