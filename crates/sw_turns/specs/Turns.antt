-- Turns: what stands between them, and what a turn of a pass makes of it.
use Rattle.std.specs.Prelude.{◌≡◌, ◌≢◌, ◌⊎◌, ◌↔◌, ◌≤◌, ℕ, List, [], ◌++◌, length, Some, None, Result, Ok, Err, slice_get, slice_set}
use Rattle.std.specs.declared.alloc.Global.{Global}
use Rattle.std.specs.Prelude.{Vec}
use Rattle.sw_codec.specs.Spelling.{spelled_all}
use Rattle.sw_next.specs.Fetching.{fetches_of}
use Rattle.sw_data.specs.declared.histories.Entry.{Entry}
use Rattle.sw_data.specs.declared.histories.Task.{Task}
use Rattle.sw_data.specs.declared.recordings.Recording.{Recording}
use Rattle.sw_data.specs.declared.storage.Kept.{Kept}
use Rattle.sw_disk.specs.declared.disk.Disk.{Ghosts}
use Rattle.sw_lane.specs.Left.{Left}
use Rattle.sw_lane.specs.Picked.{in_flight, picked}
use Rattle.sw_lane.specs.declared.picks.Pick.TheVariants as pick
use Rattle.sw_lane.specs.declared.picks.Work.TheVariants as work
use Rattle.sw_laws.specs.Laws.{changes_along}
use Rattle.sw_rules.specs.History.{after}
use Rattle.sw_store.specs.Stores.{WaitsForNothing, IsTended}
use Rattle.sw_turns.specs.Coming.{AreOfTurn, NextHasNoRoom}
use Rattle.sw_turns.specs.Ends.{Ended}
use Rattle.sw_turns.specs.Flights.{AreInFlight, Flies, IsDue}
use Rattle.sw_turns.specs.Groups.{IsUnderWay}
use Rattle.sw_core.specs.Machines.{IsEventOf}
use Rattle.sw_turns.specs.Settling.{Standing}
use Rattle.sw_turns.specs.Surviving.{IsAtWork, kept_of}
use Rattle.sw_turns.specs.Ways.{recorded_way}
use Rattle.sw_turns.specs.declared.ends.DriveEnd.{DriveEnd}
use Rattle.sw_turns.specs.declared.ends.DriveEnd.TheVariants as drive_end
use Rattle.sw_turns.specs.declared.ends.Stop.{Stop}
use Rattle.sw_turns.specs.declared.ends.Turn.{Turn}
use Rattle.sw_turns.specs.declared.ends.Turn.TheVariants as turn
use Rattle.sw_turns.specs.declared.progress.Progress.{Progress}
use Rattle.sw_state.specs.Hosted.{state_of}

-- own: a recording is under way: nothing waits, the disk keeps what the history makes of the base, and so it stays after a crash
pub record IsGoing {D : Type 0} (disk : Ghosts D) (start now : D) (recording : Recording) (base : Kept) (p : Progress) : Type 0 where
  pub lines : recording.fetches ≡ p.net
  pub under_way : IsUnderWay (length p.flights.items) (recorded_way recording) base p.history.items p.lanes p.store
  pub quiet : WaitsForNothing p.store
  pub at_work : IsAtWork disk start now base p.history.items p.store
  pub tended : IsTended (kept_of base p.history.items) p.store
  pub flights : AreInFlight (state_of p.store.core) p.flights.items
  pub due : IsDue (state_of p.store.core) p.lanes p.flights.items

-- own: what stands beside the store once a group has stopped
abbrev pub standing_of : Recording → Kept → Progress → Stop → Standing
standing_of recording base p stopped = record {
  workers = length p.flights.items;
  way = recorded_way recording;
  base = base;
  lanes = p.lanes;
  flights = p.flights.items;
  stopped = stopped;
}

-- own: where a run is done, has stalled, or has found no room on the disk, the state of its host is the one that its history leaves
abbrev pub IsAtRest : DriveEnd → Kept → Progress → Type 0
IsAtRest drive_end.Done base p = after base p.history.items ≡ state_of p.store.core
IsAtRest (drive_end.Stalled lane) base p = after base p.history.items ≡ state_of p.store.core
IsAtRest (drive_end.Full happened from needed) base p = after base p.history.items ≡ state_of p.store.core
IsAtRest _ base p = Unit {0}

-- own: after a turn the recording is under way, or the run has ended
abbrev pub HasTurned : {D : Type 0} → Ghosts D → (start now : D) → Recording → Kept → Progress → Result Turn DriveEnd → Type 0
HasTurned disk start now recording base p (Ok value) = IsGoing disk start now recording base p
HasTurned disk start now recording base p (Err ended) =
    Ended disk start now (length p.flights.items) recording base p.history.items ended × IsAtRest ended base p

-- own: the entry at this place is the event of a fetch that the recording gives in the state before
pub record IsLanding (before after : Progress) (flown : Task) : Type 0 where
  pub entry : Entry
  pub there : slice_get after.history.items (length before.history.items) ≡ Some entry
  pub event : IsEventOf before.net (state_of before.store.core) flown entry.event

-- own: what a turn adds: at most sixteen entries, which leave this of the lanes
pub record HasPicked (pass : ℕ) (before after : Progress) (left : List Left) : Type 0 where
  pub added : List Entry
  pub history : after.history.items ≡ before.history.items ++ added
  pub few : length added ≤ 16
  pub entries : AreOfTurn before.net (state_of before.store.core) before.flights.items before.lanes pass added left

-- own: what a turn adds is one group that goes by the pick order, whatever it leaves of the lanes
abbrev pub IsOneGroup : ℕ → (before after : Progress) → Type 0
IsOneGroup pass before after = (left : List Left) × HasPicked pass before after left

-- own: what comes next behind these entries, which were added, had no room in their record
pub record HadNoRoom (before after : Progress) (added : List Entry) : Type 0 where
  pub payload : List ℕ
  pub spelled : spelled_all (changes_along (state_of before.store.core) added) ≡ Some payload
  pub lacks : NextHasNoRoom before.net (state_of after.store.core) after.flights.items after.lanes payload before.store.twin

-- own: a turn added entries, until there were sixteen, or nothing was ready but what is in flight, or what comes next had no room
-- in their record
pub record HasAdded (pass : ℕ) (before after : Progress) : Type 0 where
  pub added : List Entry
  pub some : added ≢ []
  pub history : after.history.items ≡ before.history.items ++ added
  pub free : slice_get after.flights.items pass ≡ Some None
  pub until : (length added ≡ 16)
      ⊎ ((picked (state_of after.store.core) (in_flight after.flights.items) after.lanes ≡ pick.Idle)
      ⊎ HadNoRoom before after added)

-- own: what a turn makes: a pass that has taken up a fetch makes its event first; it adds entries, takes up a fetch, which is what
-- the pick order has next behind them, or is idle exactly where it has taken up none, another is in flight, and nothing is ready
-- but what is in flight
pub record IsTurn (pass : ℕ) (before after : Progress) (made : Turn) : Type 0 where
  pub group : HasPicked pass before after after.lanes
  pub first : (flown : Task) → Flies before.flights.items pass flown → IsLanding before after flown
  pub entered : made ≡ turn.Entered → HasAdded pass before after
  pub fetch : (flown : Task) (fetches : Vec (List ℕ × ℕ) Global) → made ≡ turn.Fetch flown fetches
      → Flies after.flights.items pass flown × (fetches.items ≡ fetches_of (state_of after.store.core) flown)
      × (picked (state_of after.store.core) (in_flight (slice_set after.flights.items pass None)) after.lanes ≡ pick.Work (work.Task flown))
  pub idle : (made ≡ turn.Idle)
      ↔ ((slice_get before.flights.items pass ≡ Some None)
      × (picked (state_of before.store.core) (in_flight before.flights.items) before.lanes ≡ pick.Idle))
  pub still : made ≡ turn.Idle → after.history.items ≡ before.history.items
  pub others : (other : ℕ) → other ≢ pass → slice_get after.flights.items other ≡ slice_get before.flights.items other
