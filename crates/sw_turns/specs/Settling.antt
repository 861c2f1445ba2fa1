-- What stands once a group is written.
use Rattle.std.specs.Prelude.{◌≡◌, ◌⊎◌, ◌≤◌, ◌+◌, ℕ, List, ◌++◌, Option, Some, Result, Ok, Err}
use Rattle.sw_data.specs.declared.histories.Entry.{Entry}
use Rattle.sw_data.specs.declared.histories.Task.{Task}
use Rattle.sw_data.specs.declared.storage.Kept.{Kept}
use Rattle.sw_disk.specs.declared.disk.Disk.{Ghosts}
use Rattle.sw_kept.specs.Keeping.{KeepsNow}
use Rattle.sw_lane.specs.Left.{Left}
use Rattle.sw_turns.specs.Ends.{EndedBy}
use Rattle.sw_turns.specs.Groups.{Stops}
use Rattle.sw_turns.specs.Surviving.{IsAtWork, kept_of}
use Rattle.sw_turns.specs.Ways.{Way}
use Rattle.sw_turns.specs.declared.ends.DriveEnd.{DriveEnd}
use Rattle.sw_turns.specs.declared.ends.Stop.{Stop}
use Rattle.sw_turns.specs.declared.ends.Stop.TheVariants as stop
use Rattle.sw_rules.specs.Durable.{durable}
use Rattle.sw_rules.specs.History.{Opens}
use Rattle.sw_store.specs.Stores.{IsWrittenAnew, StoreState, all_stamped}
use Rattle.sw_state.specs.Hosted.{state_of}

-- own: which way a run goes, what is left of its lanes and in flight, and why no further event joins a group
pub record Standing : Type 0 where
  pub workers : ℕ
  pub way : Way
  pub base : Kept
  pub lanes : List Left
  pub flights : List (Option Task)
  pub stopped : Stop

-- own: a group has stopped behind a history that has its restart, and the disk keeps what the history makes of the base
pub record HasStopped {D : Type 0} (disk : Ghosts D) (now : D) (s : Standing) (history : List Entry) (store : StoreState) : Type 0 where
  pub opens : Opens s.base history
  pub stops : Stops s.workers s.way s.base history s.lanes s.flights store s.stopped
  pub keeps : KeepsNow store.twin (kept_of s.base history) disk now

-- own: it isn't want of room on the disk that stopped a group
abbrev pub IsNotFull : Stop → Type 0
IsNotFull (stop.Full happened from needed) = ⊥
IsNotFull _ = Unit {0}

-- own: the store is at work behind the history; or the run has ended
abbrev pub HasSettled : {D T : Type 0} → Ghosts D → (start now : D) → Standing → List Entry → StoreState → Result T DriveEnd → Type 0
HasSettled disk start now s history store (Ok value) = IsAtWork disk start now s.base history store
HasSettled disk start now s history store (Err ended) =
    EndedBy disk start now s.workers s.way s.base history ended

-- own: what waited is the history's, stamped with one clock
abbrev pub IsWritten : (before after staged : List Entry) → Type 0
IsWritten before after staged = (clock : ℕ) × (after ≡ before ++ all_stamped clock staged)

-- own: the current part is nothing but what is kept, written anew; or a call of the disk met a fault at this clock
abbrev pub IsAnew : ℕ → StoreState → Type 0
IsAnew clock store = IsWrittenAnew (durable (state_of store.core)) store ⊎ (store.since ≡ Some clock)

-- own: between these clocks the disk was called as one record asks, at most four times; or at most sixteen times, where what is
-- kept was written anew besides, or a call met a fault
pub record IsOneRecord (before now : ℕ) (store : StoreState) : Type 0 where
  pub most : now ≤ before + 16
  pub few : (now ≤ before + 4) ⊎ IsAnew now store
