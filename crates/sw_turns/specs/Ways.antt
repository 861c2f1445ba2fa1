-- Ways that histories go.
use Rattle.std.specs.Prelude.{◌≡◌, Bool, true, false, List, Option, Some}
use Rattle.sw_data.specs.declared.events.Event.{Event}
use Rattle.sw_data.specs.declared.histories.Entry.{Entry}
use Rattle.sw_data.specs.declared.recordings.Recording.{Recording}
use Rattle.sw_data.specs.declared.storage.Kept.{Kept}
use Rattle.sw_rules.specs.History.{EachLater}
use Rattle.sw_rules.specs.Picks.{IsFollowing, IsRecorded, next}
use Rattle.sw_rules.specs.State.{State}

-- own: a way that histories go: the recording that they follow, whether the host may forget keys on it, and what comes next after
-- these entries in this state
pub record Way : Type 0 where
  pub recording : Recording
  pub forgets : Bool
  pub next : List Entry → State → Option Event

-- own: an entry follows a recording, after the entries before it; where the host may forget keys it need only be recorded
abbrev pub IsOneOf : Bool → Recording → List Entry → State → Entry → Type 0
IsOneOf true recording = IsRecorded recording
IsOneOf false recording = IsFollowing recording

-- own: an entry is one of those of a way
abbrev pub IsOne : Way → List Entry → State → Entry → Type 0
IsOne way = IsOneOf way.forgets way.recording

-- own: an entry is what comes next
abbrev pub IsNext : Way → List Entry → State → Entry → Type 0
IsNext way before state entry = way.next before state ≡ Some entry.event

-- own: a history goes a way
abbrev pub Goes : Way → Kept → List Entry → Type 0
Goes way base history = EachLater (IsOne way) base history

-- own: and each entry is what comes next
abbrev pub GoesInOrder : Way → Kept → List Entry → Type 0
GoesInOrder way base history = EachLater (IsNext way) base history

-- own: the way of a recording, on which what the pick order has next comes next
abbrev pub recorded_way : Recording → Way
recorded_way recording = record { recording = recording; forgets = false; next = next recording }

-- own: after these entries in this state a way has next what the pick order has
abbrev pub HasNextByPick : Way → List Entry → State → Type 0
HasNextByPick way history state = way.next history state ≡ next way.recording history state
