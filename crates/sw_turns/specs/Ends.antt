-- How the work on a recording ends.
use Rattle.std.specs.Prelude.{◌≡◌, ◌+◌, ◌^◌, ℕ, List, [], ◌∷◌, ◌++◌}
use Rattle.sw_data.specs.declared.histories.Entry.{Entry}
use Rattle.sw_data.specs.declared.recordings.Recording.{Recording}
use Rattle.sw_data.specs.declared.storage.Kept.{Kept}
use Rattle.sw_data.specs.Faults.{Rose}
use Rattle.sw_disk.specs.declared.disk.Disk.{Ghosts}
use Rattle.sw_disk.specs.DiskRule.{ForTold}
use Rattle.sw_kept.specs.Keeping.{KeepsNow}
use Rattle.sw_kept.specs.Stored.{HasKept}
use Rattle.sw_lock.specs.Passes.{lock_of}
use Rattle.sw_lock.specs.declared.pass.Spent.{Spent}
use Rattle.sw_turns.specs.Surviving.{Survives, kept_of}
use Rattle.sw_turns.specs.Ways.{Goes, GoesInOrder, Way, recorded_way}
use Rattle.sw_turns.specs.declared.ends.DriveEnd.{DriveEnd}
use Rattle.sw_turns.specs.declared.ends.DriveEnd.TheVariants as drive_end
use Rattle.sw_rules.specs.Durable.{durable}
use Rattle.sw_rules.specs.History.{Legal, after}
use Rattle.sw_rules.specs.Picks.{Complete, Stalled}
use Rattle.sw_rules.specs.Run.{IsRun, whole_run}
use Rattle.sw_rules.specs.State.{State}
use Rattle.sw_rules.specs.Step.{changes_of}
use Rattle.sw_store.specs.Groups.{IsTooLong}
use Rattle.sw_store.specs.Opened.{CanRestart}
use Rattle.sw_twin.specs.Twin.{TwinState}

-- own: a history of so many workers goes on with these entries, in the order of its way where there is one worker
pub record GoesOn (workers : ℕ) (way : Way) (base : Kept) (history refused : List Entry) : Type 0 where
  pub legal : Legal base (history ++ refused)
  pub follows : Goes way base (history ++ refused)
  pub picked : workers ≡ 1 → GoesInOrder way base (history ++ refused)

-- own: the run of a way by so many workers, on a disk that was opened at the start: its history, how that has ended, and what a
-- crash leaves of it and of the events that were refused
pub record IsRunOn {D : Type 0} (disk : Ghosts D) (start now : D) (workers : ℕ) (way : Way) (base : Kept) (history refused : List Entry) (HasEnded : List Entry → State → Type 0) : Type 0 where
  pub run : IsRun (record (whole_run way.recording base (disk.clock start) (disk.clock now)) { Follows = Goes way; workers = workers; HasEnded = HasEnded }) history
  pub picked : workers ≡ 1 → GoesInOrder way base history
  pub opened : ForTold (disk.seen start) (CanRestart (2 ^ 32) base)
  pub survives : ForTold (disk.seen start) (λ image. Survives disk start now base history refused)

-- own: in what reads give, the next free offset of the current part and what the record of this entry's changes needs pass the
-- limit
pub record IsFull {D : Type 0} (disk : Ghosts D) (now : D) (base : Kept) (history : List Entry) (entry : Entry) (from needed : ℕ) : Type 0 where
  pub twin : TwinState
  pub keeps : KeepsNow twin (kept_of base history) disk now
  pub offset : from ≡ twin.journal.gate + 1
  pub limit : twin.journal.limit ≡ 2 ^ 32
  pub long : IsTooLong (changes_of (after base history) entry.event) [] twin needed

-- own: what a disk keeps at the end, in what reads give
abbrev pub KeepsAtEnd : {D : Type 0} → Ghosts D → D → Kept → List Entry → Type 0
KeepsAtEnd disk now base history = ForTold (disk.seen now) (HasKept (durable (after base history)))

-- own: what is spent is a pass of the lock that has the number of the run on the disk that was opened at the start: the disk's clock
-- then
abbrev pub IsSpentIn : {D : Type 0} → Ghosts D → (start : D) → Spent → Type 0
IsSpentIn disk start spent = lock_of spent ≡ disk.clock start

-- own: the run of a way has ended so
abbrev pub EndedBy : {D : Type 0} → Ghosts D → (start now : D) → ℕ → Way → Kept → List Entry → DriveEnd → Type 0
EndedBy disk start now workers way base history drive_end.Done =
    IsRunOn disk start now workers way base history [] (Complete way.recording) × KeepsAtEnd disk now base history
EndedBy disk start now workers way base history (drive_end.Stalled lane) =
    IsRunOn disk start now workers way base history [] (λ entries state. Stalled way.recording entries state lane)
    × KeepsAtEnd disk now base history
EndedBy disk start now workers way base history (drive_end.DiskFault refused) =
    IsRunOn disk start now workers way base history refused.items (λ entries state. GoesOn workers way base entries refused.items)
    × Rose (disk.faults start) (disk.faults now)
EndedBy disk start now workers way base history (drive_end.Full happened from needed) =
    (entry : Entry) × (entry.event ≡ happened)
    × IsRunOn disk start now workers way base history [] (λ entries state. GoesOn workers way base entries (entry ∷ []))
    × IsFull disk now base history entry from needed
EndedBy disk start now workers way base history drive_end.NoMemory =
    IsRunOn disk start now workers way base history [] (λ entries state. Unit {0})
EndedBy disk start now workers way base history (drive_end.Spent spent) =
    IsRunOn disk start now workers way base history [] (λ entries state. Unit {0}) × IsSpentIn disk start spent

-- own: the run of a recording has ended so
abbrev pub Ended : {D : Type 0} → Ghosts D → (start now : D) → ℕ → Recording → Kept → List Entry → DriveEnd → Type 0
Ended disk start now workers recording base history ended =
    EndedBy disk start now workers (recorded_way recording) base history ended

-- own: the disk or want of memory has ended a run
abbrev pub IsCutShort : DriveEnd → Type 0
IsCutShort (drive_end.DiskFault refused) = Unit {0}
IsCutShort drive_end.NoMemory = Unit {0}
IsCutShort _ = ⊥

-- own: an end that a turn comes to
abbrev pub IsTurnEnd : DriveEnd → Type 0
IsTurnEnd (drive_end.Spent spent) = ⊥
IsTurnEnd _ = Unit {0}
