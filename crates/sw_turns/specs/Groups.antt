-- Events that wait for their changes to be written, behind a history.
use Rattle.std.specs.Prelude.{◌≡◌, ◌≢◌, ◌⊎◌, ◌≤◌, ◌+◌, ℕ, Bool, List, [], ◌++◌, length, Option, Some, None, Result, Ok, Err, slice_get, slice_set, if◌then◌else◌}
use Rattle.sw_next.specs.Fetching.{fetches_of}
use Rattle.sw_data.specs.declared.events.Event.{Event}
use Rattle.sw_data.specs.declared.histories.Entry.{Entry}
use Rattle.sw_data.specs.declared.histories.Task.{Task}
use Rattle.sw_data.specs.declared.recordings.FetchLine.{FetchLine}
use Rattle.sw_data.specs.declared.storage.Kept.{Kept}
use Rattle.sw_lane.specs.Left.{Left}
use Rattle.sw_lane.specs.Picked.{in_flight, picked}
use Rattle.sw_lane.specs.declared.picks.Pick.TheVariants as pick
use Rattle.sw_lane.specs.declared.picks.Work.TheVariants as work
use Rattle.sw_turns.specs.Coming.{NextHasNoRoom}
use Rattle.sw_turns.specs.Flights.{Flies}
use Rattle.sw_core.specs.Machines.{IsEventOf}
use Rattle.sw_turns.specs.Playing.{ComesNext, IsSoFar}
use Rattle.sw_turns.specs.Ways.{Way}
use Rattle.sw_turns.specs.declared.ends.DriveEnd.{DriveEnd}
use Rattle.sw_turns.specs.declared.ends.DriveEnd.TheVariants as drive_end
use Rattle.sw_turns.specs.declared.ends.Turn.{Turn}
use Rattle.sw_turns.specs.declared.ends.Turn.TheVariants as turn
use Rattle.sw_turns.specs.declared.ends.Refusal.{Refusal}
use Rattle.sw_turns.specs.declared.ends.Refusal.TheVariants as refusal
use Rattle.sw_turns.specs.declared.ends.Stop.{Stop}
use Rattle.sw_turns.specs.declared.ends.Stop.TheVariants as stop
use Rattle.sw_rules.specs.History.{after}
use Rattle.sw_rules.specs.State.{State}
use Rattle.sw_rules.specs.Step.{changes_of}
use Rattle.sw_store.specs.Groups.{IsGroup, IsTooLong}
use Rattle.sw_store.specs.Stores.{StoreState, all_stamped}
use Rattle.sw_state.specs.Hosted.{state_of}

-- own: the history goes on by the entries that wait, whatever clock they will be stamped with; they are no more than sixteen,
-- and what waits to be written are their changes
pub record IsUnderWay (workers : ℕ) (way : Way) (base : Kept) (history : List Entry) (lanes : List Left) (store : StoreState) : Type 0 where
  pub so_far : (clock : ℕ) → IsSoFar workers way base (history ++ all_stamped clock store.staged) lanes (state_of store.core)
  pub group : IsGroup (after base history) store
  pub few : length store.staged ≤ 16
  pub since : store.since ≡ None

-- own: an event comes next behind a history and what waits, whatever clock that will be stamped with
abbrev pub ComesBehind : ℕ → Way → Kept → List Entry → (before lanes : List Left) → StoreState → Event → Type 0
ComesBehind workers way base history before lanes store happened =
    (clock : ℕ) → ComesNext workers way base (history ++ all_stamped clock store.staged) before lanes (state_of store.core) happened

-- own: an event comes next behind what waits
pub record IsHeld (workers : ℕ) (way : Way) (base : Kept) (history : List Entry) (lanes : List Left) (store : StoreState) (happened : Event) : Type 0 where
  pub before : List Left
  pub under_way : IsUnderWay workers way base history before store
  pub next : ComesBehind workers way base history before lanes store happened

-- own: an event comes next that has no room, though nothing waits
pub record IsRefused (workers : ℕ) (way : Way) (base : Kept) (history : List Entry) (lanes : List Left) (store : StoreState) (happened : Event) (from needed : ℕ) : Type 0 where
  pub held : IsHeld workers way base history lanes store happened
  pub none : store.staged ≡ []
  pub offset : from ≡ store.twin.journal.gate + 1
  pub long : IsTooLong (changes_of (state_of store.core) happened) [] store.twin needed

-- own: what stands where no further event joins a group, while its events wait or once they are written
abbrev pub Stops : ℕ → Way → Kept → List Entry → List Left → List (Option Task) → StoreState → Stop → Type 0
Stops workers way base history lanes flights store stop.Whole =
    IsUnderWay workers way base history lanes store
Stops workers way base history lanes flights store stop.NoRoom =
    IsUnderWay workers way base history lanes store
Stops workers way base history lanes flights store (stop.Fetch taken fetches) =
    IsUnderWay workers way base history lanes store
Stops workers way base history lanes flights store stop.Idle =
    IsUnderWay workers way base history lanes store
    × (picked (state_of store.core) (in_flight flights) lanes ≡ pick.Idle)
Stops workers way base history lanes flights store stop.Done =
    IsUnderWay workers way base history lanes store
    × (picked (state_of store.core) (in_flight flights) lanes ≡ pick.Done)
Stops workers way base history lanes flights store (stop.Stalled lane) =
    IsUnderWay workers way base history lanes store
    × (picked (state_of store.core) (in_flight flights) lanes ≡ pick.Stalled lane)
Stops workers way base history lanes flights store (stop.Full happened from needed) =
    IsRefused workers way base history lanes store happened from needed
Stops workers way base history lanes flights store stop.NoMemory =
    (before : List Left) × IsUnderWay workers way base history before store

-- own: a group that an event did not join is as it was before
abbrev pub StaysOut : ℕ → Way → Kept → List Entry → (before lanes : List Left) → StoreState → Refusal → Type 0
StaysOut workers way base history before lanes store (refusal.Full happened from needed) =
    IsRefused workers way base history lanes store happened from needed
StaysOut workers way base history before lanes store _ = IsUnderWay workers way base history before store

-- own: an event that leaves this of the lanes has joined a group, or the group is as it was before
abbrev pub HasJoined : {T : Type 0} → ℕ → Way → Kept → List Entry → (before lanes : List Left) → StoreState → Result T Refusal → Type 0
HasJoined workers way base history before lanes store (Ok value) = IsUnderWay workers way base history lanes store
HasJoined workers way base history before lanes store (Err why) =
    StaysOut workers way base history before lanes store why

-- own: why a group stops by an event that doesn't join it
abbrev pub stop_by : Refusal → Stop
stop_by (refusal.NoRoom happened) = stop.NoRoom
stop_by (refusal.Full happened from needed) = stop.Full happened from needed
stop_by refusal.NoMemory = stop.NoMemory

-- own: what was picked has joined a group, or none does any more
abbrev pub HasEntered : {T : Type 0} → ℕ → Way → Kept → List Entry → List Left → List (Option Task) → StoreState → Result T Stop → Type 0
HasEntered workers way base history lanes flights store (Ok value) = IsUnderWay workers way base history lanes store
HasEntered workers way base history lanes flights store (Err stopped) =
    Stops workers way base history lanes flights store stopped

-- own: the pass takes up the task for which a group stopped, and else nothing changes in what passes have taken up
abbrev pub IsTaken : ℕ → (old new : List (Option Task)) → Stop → Type 0
IsTaken pass old new (stop.Fetch flown fetches) = new ≡ slice_set old pass (Some flown)
IsTaken pass old new _ = new ≡ old

-- own: what a pass has taken up once a group has stopped: what it stopped for, which is what the pick order has next, with its
-- fetches; and else nothing
abbrev pub Leaves : ℕ → List (Option Task) → List Left → State → Stop → Type 0
Leaves pass flights lanes state (stop.Fetch flown fetches) =
    Flies flights pass flown × (fetches.items ≡ fetches_of state flown)
    × (picked state (in_flight (slice_set flights pass None)) lanes ≡ pick.Work (work.Task flown))
Leaves pass flights lanes state stop.NoMemory = Unit {0}
Leaves pass flights lanes state _ = slice_get flights pass ≡ Some None

-- own: where the event of a lane's action was refused for good the lane has lost it, and else it has what the entries left
abbrev pub KeepsLanes : Stop → (left now : List Left) → Type 0
KeepsLanes (stop.Full happened from needed) left now = Unit {0}
KeepsLanes stop.NoMemory left now = Unit {0}
KeepsLanes _ left now = now ≡ left

-- own: a group that has no room for an event has some, and one that is whole has sixteen
abbrev pub HasSome : Stop → List Entry → Type 0
HasSome stop.NoRoom staged = staged ≢ []
HasSome stop.Whole staged = length staged ≡ 16
HasSome _ staged = Unit {0}

-- own: with the changes of what comes next, for which a group has no room, its record would pass the limit
abbrev pub LacksRoom : Stop → List FetchLine → List Left → List (Option Task) → StoreState → Type 0
LacksRoom stop.NoRoom lines lanes flights store =
    NextHasNoRoom lines (state_of store.core) flights lanes store.payload store.twin
LacksRoom _ lines lanes flights store = Unit {0}

-- own: there was no memory for an event, or no room on the disk for its changes alone
abbrev pub IsBarren : Stop → Type 0
IsBarren stop.NoMemory = Unit {0}
IsBarren (stop.Full happened from needed) = Unit {0}
IsBarren _ = ⊥

-- own: it is what was picked that stopped a group
abbrev pub IsByPick : Stop → Type 0
IsByPick stop.NoRoom = Unit {0}
IsByPick (stop.Fetch flown fetches) = Unit {0}
IsByPick (stop.Full happened from needed) = Unit {0}
IsByPick stop.NoMemory = Unit {0}
IsByPick _ = ⊥

-- own: a group begins with the event of this fetch, unless nothing could be made of it
abbrev pub Begins : List FetchLine → State → Task → List Entry → Stop → Type 0
Begins lines state flown staged stopped =
    IsBarren stopped
    ⊎ ((entry : Entry) × (slice_get staged 0 ≡ Some entry) × IsEventOf lines state flown entry.event)

-- own: what a stopped group comes to, where it has some events or none
abbrev pub over_by : Stop → Bool → Result Turn DriveEnd
over_by stop.Whole some = Ok turn.Entered
over_by stop.NoRoom some = Ok turn.Entered
over_by (stop.Fetch flown fetches) some = Ok (turn.Fetch flown fetches)
over_by stop.Idle some = if some then Ok turn.Entered else Ok turn.Idle
over_by stop.Done some = Err drive_end.Done
over_by (stop.Stalled lane) some = Err (drive_end.Stalled lane)
over_by (stop.Full happened from needed) some = Err (drive_end.Full happened from needed)
over_by stop.NoMemory some = Err drive_end.NoMemory
