-- The value that workers take turns with, and what a step of it is.
use Rattle.std.specs.Prelude.{◌≡◌, ℕ, Bool, true, false, List, length, Option, Some, None, unwrap_or}
use Rattle.sw_data.specs.declared.histories.Entry.{Entry}
use Rattle.sw_data.specs.declared.recordings.Recording.{Recording}
use Rattle.sw_data.specs.declared.storage.Kept.{Kept}
use Rattle.sw_disk.specs.declared.disk.Disk.{Ghosts}
use Rattle.sw_lock.specs.declared.logged.Logged as logged
use Rattle.sw_lock.specs.Passes.{lock_of}
use Rattle.sw_pool.specs.declared.ends.Brief.{Brief}
use Rattle.sw_pool.specs.declared.ends.Brief.TheVariants as brief
use Rattle.sw_pool.specs.declared.ends.Nothing.{Nothing}
use Rattle.sw_pool.specs.declared.ends.Turned.{Turned}
use Rattle.sw_pool.specs.declared.ends.Turned.TheVariants as turned
use Rattle.sw_turns.specs.Ends.{Ended, IsTurnEnd}
use Rattle.sw_turns.specs.Settling.{IsOneRecord}
use Rattle.sw_turns.specs.Turns.{IsAtRest, IsGoing, IsOneGroup, IsTurn}
use Rattle.sw_turns.specs.declared.ends.DriveEnd.{DriveEnd}
use Rattle.sw_turns.specs.declared.ends.DriveEnd.TheVariants as drive_end
use Rattle.sw_turns.specs.declared.ends.Turn.{Turn}
use Rattle.sw_turns.specs.declared.ends.Turn.TheVariants as turn
use Rattle.sw_turns.specs.declared.progress.Progress.{Progress}

-- own: what a run is of: so many passes, the recording, and the content and the disk at the opening
pub record Origin (D : Type 0) : Type 0 where
  pub passes : ℕ
  pub recording : Recording
  pub base : Kept
  pub start : D

abbrev pub origin_of : {D : Type 0} → ℕ → Recording → Kept → D → Origin D
origin_of passes recording base start = record { passes = passes; recording = recording; base = base; start = start }

-- own: a run is of this recording on this disk, by so many passes, from some content
abbrev pub IsOriginOf : {D : Type 0} → ℕ → Recording → D → Origin D → Type 0
IsOriginOf passes recording start origin = (base : Kept) × (origin ≡ origin_of passes recording base start)

-- own: what a run is of, its disk, what has happened, and how that has ended, if it has
pub record YardState (D : Type 0) : Type 0 where
  pub origin : Origin D
  pub disk : D
  pub progress : Progress
  pub end : Option DriveEnd

abbrev pub yard_of : {D : Type 0} → ℕ → Recording → Kept → (start now : D) → Progress → Option DriveEnd → YardState D
yard_of passes recording base start now progress end = record {
  origin = origin_of passes recording base start;
  disk = now;
  progress = progress;
  end = end;
}

-- own: workers have made this of a recording, and it has ended so
abbrev pub HasWorked : {D : Type 0} → Ghosts D → Origin D → D → Progress → DriveEnd → Type 0
HasWorked disk origin now progress ended =
    Ended disk origin.start now origin.passes origin.recording origin.base progress.history.items ended
    × IsAtRest ended origin.base progress

-- own: how a run has ended of which no end is kept, under a lock of this number: for want of memory, or with a pass of the lock that is
-- spent
abbrev pub IsUnkept : ℕ → DriveEnd → Type 0
IsUnkept number drive_end.NoMemory = Unit {0}
IsUnkept number (drive_end.Spent spent) = lock_of spent ≡ number
IsUnkept number _ = ⊥

-- own: where a run has ended with a pass that is spent, no end is kept: the recording is under way
abbrev pub IsUnended : {D : Type 0} → Ghosts D → Origin D → D → Progress → DriveEnd → Type 0
IsUnended disk origin now progress (drive_end.Spent spent) = IsGoing disk origin.start now origin.recording origin.base progress
IsUnended disk origin now progress _ = Unit {0}

-- own: workers have made this of a recording, it has ended so, and it has ended with a pass that is spent only where no end is kept
abbrev pub IsWorked : {D : Type 0} → Ghosts D → Origin D → D → Progress → DriveEnd → Type 0
IsWorked disk origin now progress ended = HasWorked disk origin now progress ended × IsUnended disk origin now progress ended

-- own: the recording is under way, or the run has ended so
abbrev pub IsYardOf : {D : Type 0} → Ghosts D → D → Origin D → Progress → Option DriveEnd → Type 0
IsYardOf disk now origin progress None = IsGoing disk origin.start now origin.recording origin.base progress
IsYardOf disk now origin progress (Some ended) =
    HasWorked disk origin now progress ended × IsTurnEnd ended

-- own: each pass may have a fetch in flight, and what is kept of the run stands
pub record IsYard {D : Type 0} (disk : Ghosts D) (yard : YardState D) : Type 0 where
  pub passes : length yard.progress.flights.items ≡ yard.origin.passes
  pub stands : IsYardOf disk yard.disk yard.origin yard.progress yard.end

-- an end without its events
abbrev pub brief_of : DriveEnd → Brief
brief_of drive_end.Done = brief.Done
brief_of (drive_end.Stalled lane) = brief.Stalled lane
brief_of (drive_end.DiskFault refused) = brief.DiskFault
brief_of (drive_end.Full happened from needed) = brief.Full
brief_of drive_end.NoMemory = brief.NoMemory
brief_of (drive_end.Spent spent) = brief.Spent

-- what a turn comes to, as a step answers it
abbrev pub shown : Turn → Turned
shown turn.Entered = turned.Entered
shown (turn.Fetch flown fetches) = turned.Fetch flown fetches
shown turn.Idle = turned.Idle

-- own: one step of a pass, of the same run: an end that is kept stays and is the answer; else the step is a turn, or ends the run
-- and answers how; what it adds goes by the pick order, and is one record
pub record HasStepped {D : Type 0} (disk : Ghosts D) (before : YardState D) (pass : ℕ) (after : YardState D) (out : Turned) : Type 0 where
  pub stands : IsYard disk after
  pub origin : after.origin ≡ before.origin
  pub kept : (ended : DriveEnd) → after.end ≡ Some ended → IsTurnEnd ended
  pub over : (ended : DriveEnd) → before.end ≡ Some ended → (after ≡ before) × (out ≡ turned.Ended (brief_of ended))
  pub ends : (ended : DriveEnd) → before.end ≡ None → after.end ≡ Some ended → out ≡ turned.Ended (brief_of ended)
  pub turns : before.end ≡ None → after.end ≡ None
      → (made : Turn) × IsTurn pass before.progress after.progress made × (out ≡ shown made)
  pub group : before.end ≡ None → IsOneGroup pass before.progress after.progress
  pub calls : before.end ≡ None → IsOneRecord (disk.clock before.disk) (disk.clock after.disk) after.progress.store

-- own: a value of a run was stopped: an end that is kept stays, else it is that for want of memory; the answer is the end
pub record HasStopped {D : Type 0} (disk : Ghosts D) (before after : YardState D) (out : Turned) : Type 0 where
  pub stands : IsYard disk after
  pub after_is : after ≡ record before { end = Some (unwrap_or before.end drive_end.NoMemory) }
  pub answer : out ≡ turned.Ended (brief_of (unwrap_or before.end drive_end.NoMemory))

-- the state of the host is the one that the history leaves, where no end is kept, and where it is one of these
abbrev pub is_known : Option DriveEnd → Bool
is_known None = true
is_known (Some drive_end.Done) = true
is_known (Some (drive_end.Stalled lane)) = true
is_known (Some (drive_end.Full happened from needed)) = true
is_known (Some _) = false

-- own: a pass that has seen these entries was answered so by a step of a value of this base
pub record IsAnswered {T E : Type 0} (value : logged.Ghosts T E Nothing Turned) (base : value.Base) (pass : ℕ) (seen : List E) (said : Brief) : Type 0 where
  pub before : T
  pub after : T
  pub given : Nothing
  pub base_is : value.base before ≡ base
  pub step : value.steps before given pass after (turned.Ended said)
  pub seen_is : seen ≡ value.log after

-- own: a pass that has seen this history was answered the end that is kept in a value of the run, which stands
pub record IsEndSeen {D : Type 0} (disk : Ghosts D) (origin : Origin D) (history : List Entry) (said : Brief) : Type 0 where
  pub yard : YardState D
  pub stands : IsYard disk yard
  pub ended : DriveEnd
  pub origin_is : yard.origin ≡ origin
  pub kept : yard.end ≡ Some ended
  pub is : said ≡ brief_of ended
  pub history_is : yard.progress.history.items ≡ history
