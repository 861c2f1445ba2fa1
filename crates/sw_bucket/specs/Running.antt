-- What comes of the steps of a run under a bound.
use Rattle.std.specs.Prelude.{◌≡◌, ◌≢◌, ◌⊎◌, ◌≤◌, ◌+◌, ◌++◌, ◌∷◌, ℕ, Bool, true, List, [], Option, Some, None, Result, Ok, Err}
use Rattle.sw_bucket.specs.Bounded.{bounded_way}
use Rattle.sw_bucket.specs.Evicting.{Course, IsBetween, IsClear, IsCut, IsNotedCut}
use Rattle.sw_bucket.specs.declared.bound.Bound as bounds
use Rattle.sw_bucket.specs.declared.ends.BoundedEnd.{BoundedEnd}
use Rattle.sw_bucket.specs.declared.playing.Run.{Run}
use Rattle.sw_data.specs.declared.events.Event.{Event}
use Rattle.sw_data.specs.declared.histories.Entry.{Entry}
use Rattle.sw_data.specs.declared.recordings.Recording.{Recording}
use Rattle.sw_data.specs.declared.storage.Kept.{Kept}
use Rattle.sw_disk.specs.declared.disk.Disk as disks
use Rattle.sw_lane.specs.Left.{Left}
use Rattle.sw_rules.specs.History.{after}
use Rattle.sw_rules.specs.State.{State}
use Rattle.sw_store.specs.Stores.{WaitsForNothing, StoreState}
use Rattle.sw_turns.specs.Groups.{IsUnderWay}
use Rattle.sw_turns.specs.Surviving.{IsAtWork, latest}

-- ---- events

-- own: where it was so before, or there were changes, the clock is so far behind what is allowed
abbrev pub StaysAhead : {D : Type 0} → disks.Ghosts D → (old now : D) → Kept → (history longer : List Entry) → Type 0 → Type 0
StaysAhead disk old now base history longer Changed =
    (disk.clock old + 7 ≤ latest base history) ⊎ Changed → disk.clock now + 7 ≤ latest base longer

-- own: an event was written behind a history: it is the last, nothing waits, and the disk keeps what the history makes of the base
pub record IsWrittenOn {D : Type 0} (disk : disks.Ghosts D) (old now : D) (course : Course D) (history longer : List Entry) (store : StoreState) (changes : List ℕ) : Type 0 where
  pub under_way : IsUnderWay 1 course.way course.base longer course.lanes store
  pub quiet : WaitsForNothing store
  pub at_work : IsAtWork disk course.start now course.base longer store
  pub ahead : StaysAhead disk old now course.base history longer (changes ≢ [])

-- own: an event was written, or the run has ended
abbrev pub HasWritten : {D : Type 0} → disks.Ghosts D → (old now : D) → Course D → (history longer : List Entry) → StoreState → Result (List ℕ) BoundedEnd → Type 0
HasWritten disk old now course history longer store (Ok changes) = IsWrittenOn disk old now course history longer store changes
HasWritten disk old now course history longer store (Err ended) = IsCut disk now course longer ended

-- own: this event may have been added behind a history
abbrev pub MayAdd : Event → (history now : List Entry) → Type 0
MayAdd happened history now =
    (now ≡ history) ⊎ ((entry : Entry) × (entry.event ≡ happened) × (now ≡ history ++ entry ∷ []))

-- own: the forget that was due may have been added behind a history
abbrev pub MayForget : (Kept → List Entry → State → Option Event) → Kept → (history now : List Entry) → Type 0
MayForget forgets base history now =
    (now ≡ history)
    ⊎ ((entry : Entry) × (forgets base history (after base history) ≡ Some entry.event) × (now ≡ history ++ entry ∷ []))

-- own: nothing waits all the same, or the run has ended
abbrev pub HasTended : {T D : Type 0} → disks.Ghosts D → D → Course D → List Entry → StoreState → Result T BoundedEnd → Type 0
HasTended disk now course history store (Ok value) =
    IsUnderWay 1 course.way course.base history course.lanes store × WaitsForNothing store × IsAtWork disk course.start now course.base history store
HasTended disk now course history store (Err ended) = IsCut disk now course history ended

-- own: an event has happened, with changes or without; or the run has ended
abbrev pub HasHappened : {D B : Type 0} → disks.Ghosts D → bounds.Ghosts B → (old now : D) → B → Course D → (history longer : List Entry) → StoreState → Result Bool BoundedEnd → Type 0
HasHappened disk bound old now of course history longer store (Ok some) =
    IsBetween disk bound now of course longer store × StaysAhead disk old now course.base history longer (some ≡ true)
HasHappened disk bound old now of course history longer store (Err ended) = IsNotedCut disk bound now of course longer ended

-- own: the forget that was due has happened, with changes or without, or none is due; or the run has ended
abbrev pub HasForgotten : {D B : Type 0} → disks.Ghosts D → bounds.Ghosts B → (old now : D) → B → Course D → (history longer : List Entry) → StoreState → Result (Option Bool) BoundedEnd → Type 0
HasForgotten disk bound old now of course history longer store (Ok step) =
    IsBetween disk bound now of course longer store × StaysAhead disk old now course.base history longer (step ≡ Some true)
    × (step ≡ None → IsClear bound of course.base longer store)
HasForgotten disk bound old now of course history longer store (Err ended) = IsNotedCut disk bound now of course longer ended

-- own: nothing is due to be forgotten any more, after changes or none; or the run has ended
abbrev pub HasCleared : {D B : Type 0} → disks.Ghosts D → bounds.Ghosts B → D → B → Course D → List Entry → StoreState → Result Bool BoundedEnd → Type 0
HasCleared disk bound now of course history store (Ok some) =
    IsBetween disk bound now of course history store × IsClear bound of course.base history store
    × (some ≡ true → disk.clock now + 7 ≤ latest course.base history)
HasCleared disk bound now of course history store (Err ended) = IsNotedCut disk bound now of course history ended

-- ---- a recording

-- own: the disk that a run began on, its recording, and the content that it goes on from
pub record Origin (D : Type 0) : Type 0 where
  pub start : D
  pub recording : Recording
  pub base : Kept

-- own: the course of a run under a bound
abbrev pub course_of : {D B : Type 0} → bounds.Ghosts B → B → Origin D → List Left → Course D
course_of bound of origin lanes = record {
  start = origin.start;
  way = bounded_way (bound.forgets of) origin.recording origin.base;
  base = origin.base;
  lanes = lanes;
}

-- own: a recording under a bound is between two events
pub record IsPlaying {D B : Type 0} (disk : disks.Ghosts D) (bound : bounds.Ghosts B) (now : D) (of : B) (origin : Origin D) (run : Run) (store : StoreState) : Type 0 where
  pub between : IsBetween disk bound now of (course_of bound of origin run.lanes) run.history.items store
  pub lines : origin.recording.fetches ≡ run.net

-- own: it goes on, or has ended
abbrev pub HasPlayed : {T D B : Type 0} → disks.Ghosts D → bounds.Ghosts B → D → B → Origin D → Run → StoreState → Result T BoundedEnd → Type 0
HasPlayed disk bound now of origin run store (Ok value) = IsPlaying disk bound now of origin run store
HasPlayed disk bound now of origin run store (Err ended) =
    IsNotedCut disk bound now of (course_of bound of origin run.lanes) run.history.items ended
