-- The lanes of a recording after a history, and what a pick says of what comes next in it.
use Rattle.std.specs.Prelude.{◌≡◌, ℕ, true, List, [], length, drop, is_some, Some, None, option_map, slice_get}
use Rattle.sw_data.specs.declared.events.Who.TheVariants as who
use Rattle.sw_data.specs.declared.histories.Entry.{Entry}
use Rattle.sw_data.specs.declared.histories.Task.{Task}
use Rattle.sw_data.specs.declared.recordings.Action.{Action}
use Rattle.sw_data.specs.declared.recordings.Recording.{Recording}
use Rattle.sw_data.specs.Events.{event_of_action}
use Rattle.sw_rules.specs.Picks.{Stalled, made_by, next, next_action}
use Rattle.sw_rules.specs.State.{State}
use Rattle.sw_rules.specs.Tasks.{event_of, ready_tasks}
use Rattle.sw_lane.specs.declared.picks.Pick.{Pick}
use Rattle.sw_lane.specs.declared.picks.Pick.TheVariants as pick
use Rattle.sw_lane.specs.declared.picks.Work.TheVariants as work
use Rattle.sw_lane.specs.Left.{Left, action_of}

-- what a history leaves of a lane: it goes on at the number of the entries that the lane has made
abbrev pub left_after : List Entry → ℕ → List Action → Left
left_after history number actions = record {
  at = made_by number history;
  actions = drop (made_by number history) actions;
}

-- the lanes are what a history leaves of those of a recording (own)
pub record AreLanesOf (recording : Recording) (history : List Entry) (lanes : List Left) : Type 0 where
  pub count : length lanes ≡ length recording.lanes
  pub each : (number : ℕ) → slice_get lanes number ≡ option_map (left_after history number) (slice_get recording.lanes number)

-- an action of a lane is picked: it is what the pick order has next
pub record IsNextAction (recording : Recording) (history : List Entry) (state : State) (lanes : List Left) (lane at : ℕ) : Type 0 where
  pub left : is_some (action_of lanes lane) ≡ true
  pub position : at ≡ made_by lane history
  pub next : (action : Action) → action_of lanes lane ≡ Some action → next recording history state ≡ Some (event_of_action (who.Lane lane at) action)

-- every lane is at its end, and no task is ready
pub record IsAtEnd (recording : Recording) (history : List Entry) (state : State) : Type 0 where
  pub lanes : (lane : ℕ) → next_action recording history lane ≡ None
  pub tasks : ready_tasks state ≡ []

-- what a pick says of what comes next after a history (own)
abbrev pub Says : Recording → List Entry → State → List Task → List Left → Pick → Type 0
Says recording history state in_flight lanes (pick.Work (work.Action lane at)) =
    IsNextAction recording history state lanes lane at
Says recording history state in_flight lanes (pick.Work (work.Task ready)) =
    in_flight ≡ [] → next recording history state ≡ event_of recording state ready
Says recording history state in_flight lanes pick.Idle = in_flight ≡ [] → ⊥
Says recording history state in_flight lanes (pick.Stalled lane) = Stalled recording history state lane
Says recording history state in_flight lanes pick.Done = IsAtEnd recording history state
