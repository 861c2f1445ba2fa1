-- A host that forgets what is due: what stands between its events, and what it adds to a history.
use Rattle.std.specs.Prelude.{◌≡◌, ◌≢◌, ◌<◌, ◌^◌, ◌++◌, true, List, length, Option, Some, None, Result, Ok, Err}
use Rattle.sw_bucket.specs.Bounded.{HasEnded}
use Rattle.sw_bucket.specs.declared.bound.Bound as bounds
use Rattle.sw_bucket.specs.declared.ends.BoundedEnd.{BoundedEnd}
use Rattle.sw_bucket.specs.declared.ends.BoundedEnd.TheVariants as end
use Rattle.sw_data.specs.declared.events.Event.{Event}
use Rattle.sw_data.specs.declared.histories.Entry.{Entry}
use Rattle.sw_data.specs.declared.storage.Kept.{Kept}
use Rattle.sw_disk.specs.declared.disk.Disk as disks
use Rattle.sw_lane.specs.Left.{Left}
use Rattle.sw_rules.specs.History.{EachFrom, after}
use Rattle.sw_rules.specs.State.{State}
use Rattle.sw_store.specs.Stores.{WaitsForNothing, StoreState}
use Rattle.sw_turns.specs.Groups.{IsUnderWay}
use Rattle.sw_turns.specs.Surviving.{IsAtWork}
use Rattle.sw_turns.specs.Ways.{Way}
use Rattle.sw_state.specs.Hosted.{state_of}

-- own: what is due to be forgotten comes next on a way
pub record Heeds (forgets : Kept → List Entry → State → Option Event) (base : Kept) (way : Way) : Type 0 where
  pub may : way.forgets ≡ true
  pub first : (history : List Entry) (state : State) (happened : Event)
      → forgets base history state ≡ Some happened → way.next history state ≡ Some happened

-- own: the disk that a run began on, the way that it goes, the content that it goes on from, and what is left of its lanes
pub record Course (D : Type 0) : Type 0 where
  pub start : D
  pub way : Way
  pub base : Kept
  pub lanes : List Left

-- own: nothing waits, the history goes a way on which what is due comes next, it was noted, and the disk keeps what it makes of the
-- base, also after a crash
pub record IsBetween {D B : Type 0} (disk : disks.Ghosts D) (bound : bounds.Ghosts B) (now : D) (of : B) (course : Course D) (history : List Entry) (store : StoreState) : Type 0 where
  pub heeds : Heeds (bound.forgets of) course.base course.way
  pub under_way : IsUnderWay 1 course.way course.base history course.lanes store
  pub quiet : WaitsForNothing store
  pub at_work : IsAtWork disk course.start now course.base history store
  pub notes : bound.notes of course.base history

-- own: behind a history stand entries that are each the forget that was due
abbrev pub AddsForgets : (Kept → List Entry → State → Option Event) → Kept → (history now : List Entry) → Type 0
AddsForgets forgets base history now =
    (added : List Entry) × (now ≡ history ++ added)
    × EachFrom (λ before state entry. forgets base before state ≡ Some entry.event) history (after base history) added

-- own: nothing is due to be forgotten, and there is a number for one more entry
abbrev pub IsClear : {B : Type 0} → bounds.Ghosts B → B → Kept → List Entry → StoreState → Type 0
IsClear bound of base history store = (bound.forgets of base history (state_of store.core) ≡ None) × (length history < 2 ^ 32)

-- own: the history of a course has ended so
abbrev pub IsCut : {D : Type 0} → disks.Ghosts D → D → Course D → List Entry → BoundedEnd → Type 0
IsCut disk now course history ended = HasEnded disk course.start now course.way course.base history ended

-- own: the history of a course has ended so; unless there was no memory, the whole of it was noted
abbrev pub IsNotedCut : {D B : Type 0} → disks.Ghosts D → bounds.Ghosts B → D → B → Course D → List Entry → BoundedEnd → Type 0
IsNotedCut disk bound now of course history ended =
    IsCut disk now course history ended × (ended ≢ end.NoMemory → bound.notes of course.base history)

-- own: nothing is due to be forgotten any more, or the run has ended
abbrev pub HasEvicted : {T D B : Type 0} → disks.Ghosts D → bounds.Ghosts B → D → B → Course D → List Entry → StoreState → Result T BoundedEnd → Type 0
HasEvicted disk bound now of course history store (Ok value) =
    IsBetween disk bound now of course history store × IsClear bound of course.base history store
HasEvicted disk bound now of course history store (Err ended) = IsNotedCut disk bound now of course history ended
