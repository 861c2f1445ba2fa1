-- The event that a mark names, where it may happen.
use Rattle.std.specs.Prelude.{◌≡◌, List, Option, Some, None, IfSome, option_and_then, if◌then◌else◌}
use Rattle.sw_audit.specs.Continuing.{IsBarred}
use Rattle.sw_audit.specs.Taken.{IsTaken}
use Rattle.sw_audit.specs.declared.marks.Mark.{Mark}
use Rattle.sw_data.specs.declared.events.Event.{Event}
use Rattle.sw_data.specs.declared.histories.Entry.{Entry}
use Rattle.sw_data.specs.declared.recordings.FetchLine.{FetchLine}
use Rattle.sw_data.specs.declared.recordings.Recording.{Recording}
use Rattle.sw_lane.specs.Left.{Left}
use Rattle.sw_lane.specs.Recorded.{AreLanesOf}
use Rattle.sw_rules.specs.State.{State}
use Rattle.sw_rules.specs.Step.{enabled}

-- an event, where it may happen
abbrev pub allowed : State → Option Event → Option Event
allowed state found = option_and_then (λ happened. if enabled state happened then Some happened else None) found

-- own: with these lanes and lines, whatever recording is followed, this is what a mark names, where it may happen, and an entry of it
-- leaves these lanes; where it may not, nothing is found, and the lanes stay
pub record IsFound (state : State) (lanes : List Left) (net : List FetchLine) (marked : Mark) (found : Option Event) (left : List Left) : Type 0 where
  pub some : (recording : Recording) (before : List Entry) → AreLanesOf recording before lanes → recording.fetches ≡ net
      → IfSome found (IsTaken recording before state marked left)
  pub none : (recording : Recording) (before : List Entry) → AreLanesOf recording before lanes → recording.fetches ≡ net
      → found ≡ None → IsBarred recording before state marked
  pub same : found ≡ None → left ≡ lanes
