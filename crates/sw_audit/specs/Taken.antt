-- The event that a mark names, which may happen.
use Rattle.std.specs.Prelude.{◌≡◌, true, List, [], ◌∷◌, ◌++◌, Some}
use Rattle.sw_data.specs.declared.events.Event.{Event}
use Rattle.sw_data.specs.declared.histories.Entry.{Entry}
use Rattle.sw_data.specs.declared.recordings.Recording.{Recording}
use Rattle.sw_data.specs.Events.{who_of}
use Rattle.sw_lane.specs.Left.{Left}
use Rattle.sw_lane.specs.Recorded.{AreLanesOf}
use Rattle.sw_rules.specs.Picks.{IsFollowing}
use Rattle.sw_rules.specs.State.{State}
use Rattle.sw_rules.specs.Step.{enabled}
use Rattle.sw_audit.specs.declared.marks.Mark.{Mark}
use Rattle.sw_audit.specs.Named.{named}

-- own: this is the event that a mark names, it may happen, and an entry of it follows the recording and leaves these lanes
pub record IsTaken (recording : Recording) (before : List Entry) (state : State) (marked : Mark) (left : List Left) (happened : Event) : Type 0 where
  pub named : named recording before state marked ≡ Some happened
  pub may : enabled state happened ≡ true
  pub following : (entry : Entry) → entry.event ≡ happened → entry.who ≡ who_of happened → IsFollowing recording before state entry
  pub lanes : (entry : Entry) → entry.who ≡ who_of happened → AreLanesOf recording (before ++ entry ∷ []) left
