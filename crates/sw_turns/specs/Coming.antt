-- What comes next of a recording beside what passes have taken up, and entries that came so.
use Rattle.std.specs.Prelude.{◌≡◌, ℕ, false, List, [], ◌∷◌, ◌++◌, Option, Some, None, slice_get, slice_set}
use Rattle.sw_data.specs.declared.events.Event.{Event}
use Rattle.sw_data.specs.declared.events.Who.TheVariants as who
use Rattle.sw_data.specs.declared.histories.Entry.{Entry}
use Rattle.sw_data.specs.declared.histories.Task.{Task}
use Rattle.sw_data.specs.declared.recordings.Action.{Action}
use Rattle.sw_data.specs.declared.recordings.FetchLine.{FetchLine}
use Rattle.sw_data.specs.Events.{event_of_action}
use Rattle.sw_lane.specs.Left.{Left, action_of, taken}
use Rattle.sw_lane.specs.Picked.{event_left, in_flight, is_fetch, picked}
use Rattle.sw_lane.specs.declared.picks.Pick.TheVariants as pick
use Rattle.sw_lane.specs.declared.picks.Work.{Work}
use Rattle.sw_lane.specs.declared.picks.Work.TheVariants as work
use Rattle.sw_rules.specs.History.{after_entries, moved}
use Rattle.sw_rules.specs.State.{State}
use Rattle.sw_rules.specs.Step.{changes_of}
use Rattle.sw_store.specs.Groups.{IsTooLong}
use Rattle.sw_store.specs.Stores.{StoreState}
use Rattle.sw_turns.specs.Flights.{Flies}
use Rattle.sw_core.specs.Machines.{IsEventOf}
use Rattle.sw_twin.specs.Twin.{TwinState}
use Rattle.sw_state.specs.Hosted.{state_of}

-- own: the event of what was picked, and what it leaves of the lanes; a fetch has none, since it is taken up
abbrev pub IsMadeOf : List FetchLine → State → List Left → Work → Event → List Left → Type 0
IsMadeOf lines state lanes (work.Action lane at) happened left =
    (event_left lanes lane ≡ Some happened) × (left ≡ taken lane lanes)
IsMadeOf lines state lanes (work.Task ready) happened left =
    (is_fetch ready ≡ false) × IsEventOf lines state ready happened × (left ≡ lanes)

-- own: an event is that of what the pick order has next beside what passes have taken up
pub record IsPickedNext (lines : List FetchLine) (state : State) (flights : List (Option Task)) (lanes : List Left) (happened : Event) (left : List Left) : Type 0 where
  pub chosen : Work
  pub is_next : picked state (in_flight flights) lanes ≡ pick.Work chosen
  pub made : IsMadeOf lines state lanes chosen happened left

-- own: the event is that of the next action of a lane, which was taken
pub record IsTaking (before : List Left) (lane : ℕ) (happened : Event) (left : List Left) : Type 0 where
  pub at : ℕ
  pub taking : Action
  pub was_next : action_of before lane ≡ Some taking
  pub event : happened ≡ event_of_action (who.Lane lane at) taking
  pub is_taken : left ≡ taken lane before

-- own: these entries happened one after another, each what the pick order had next beside what passes have taken up, and leave
-- this of the lanes
abbrev pub ArePicked : List FetchLine → State → List (Option Task) → List Left → List Entry → List Left → Type 0
ArePicked lines state flights lanes [] left = left ≡ lanes
ArePicked lines state flights lanes (entry ∷ entries) left =
    (between : List Left) × IsPickedNext lines state flights lanes entry.event between
    × ArePicked lines (moved state entry) flights between entries left

-- own: the first of these entries ended the fetch that a pass had taken up, and each other one was what the pick order had next
-- beside what the others have
abbrev pub HaveLanded : List FetchLine → State → List (Option Task) → List Left → Task → List Entry → List Left → Type 0
HaveLanded lines state flights lanes flown [] left = left ≡ lanes
HaveLanded lines state flights lanes flown (first ∷ others) left =
    IsEventOf lines state flown first.event × ArePicked lines (moved state first) flights lanes others left

-- own: a pass has made these entries in a turn: where it had taken up a fetch the first is its event, and all others go by the
-- pick order
pub record AreOfTurn (lines : List FetchLine) (state : State) (flights : List (Option Task)) (lanes : List Left) (pass : ℕ) (entries : List Entry) (left : List Left) : Type 0 where
  pub free : slice_get flights pass ≡ Some None → ArePicked lines state flights lanes entries left
  pub landed : (flown : Task) → Flies flights pass flown → HaveLanded lines state (slice_set flights pass None) lanes flown entries left

-- own: what waits grew by entries that went by the pick order
pub record GrowsByPick (lines : List FetchLine) (flights : List (Option Task)) (lanes left : List Left) (old new : StoreState) : Type 0 where
  pub more : List Entry
  pub staged : new.staged ≡ old.staged ++ more
  pub entries : ArePicked lines (state_of old.core) flights lanes more left
  pub state : after_entries (state_of old.core) more ≡ state_of new.core

-- own: what the pick order has next has changes that pass the limit in a record behind this payload
pub record NextHasNoRoom (lines : List FetchLine) (state : State) (flights : List (Option Task)) (lanes : List Left) (payload : List ℕ) (twin : TwinState) : Type 0 where
  pub happened : Event
  pub left : List Left
  pub next : IsPickedNext lines state flights lanes happened left
  pub needed : ℕ
  pub long : IsTooLong (changes_of state happened) payload twin needed
