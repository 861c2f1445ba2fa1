-- The event of an action: its maker, and that it follows a recording.
use Rattle.std.proofs.Common.{◌≡◌, ℕ, false, refl}
use Rattle.sw_data.specs.declared.events.Who.{Who}
use Rattle.sw_data.specs.declared.events.Who.TheVariants as who
use Rattle.sw_data.specs.declared.recordings.Action.{Action}
use Rattle.sw_data.specs.declared.recordings.Action.TheVariants as action
use Rattle.sw_data.specs.declared.recordings.Recording.{Recording}
use Rattle.sw_data.specs.Events.{event_of_action, who_of}
use Rattle.sw_rules.specs.Picks.{HasLines, is_host_forget}
use Rattle.sw_rules.specs.State.{State}

-- the maker of an action's event
pub who_of-event_of_action : (maker : Who) (happened : Action) → who_of (event_of_action maker happened) ≡ maker
unfolding event_of_action who_of
who_of-event_of_action maker (action.Open client url partition) = refl
who_of-event_of_action maker _ = refl

-- an action's event carries no fetch lines
pub lines_of_action : (recording : Recording) (state : State) (maker : Who) (happened : Action) → HasLines recording state (event_of_action maker happened)
unfolding event_of_action
lines_of_action recording state maker (action.Open client url partition) = tt
lines_of_action recording state maker _ = tt

-- a lane's action isn't one of the host
pub unforced : (lane at : ℕ) (happened : Action) → is_host_forget (event_of_action (who.Lane lane at) happened) ≡ false
unfolding event_of_action
unforced lane at (action.Open client url partition) = refl
unforced lane at (action.Forget place) = refl
unforced lane at _ = refl
