-- A host that follows a recording.
use Rattle.std.specs.Prelude.{◌≡◌, List}
use Rattle.sw_data.specs.declared.events.Event.{Event}
use Rattle.sw_data.specs.declared.histories.Entry.{Entry}
use Rattle.sw_data.specs.declared.recordings.FetchLine.{FetchLine}
use Rattle.sw_data.specs.declared.recordings.Recording.{Recording}
use Rattle.sw_lane.specs.Left.{Left}
use Rattle.sw_lane.specs.Recorded.{AreLanesOf}
use Rattle.sw_laws.specs.Coherent.{Coherent}
use Rattle.sw_rules.specs.History.{IsStep, moved}
use Rattle.sw_rules.specs.State.{State}
use Rattle.sw_state.specs.Hosted.{Hosted, state_of}

-- own: a host, what is left of the lanes of a recording, and its fetch lines
pub record Following : Type 0 where
  pub core : Hosted
  pub lanes : List Left
  pub net : List FetchLine

-- own: it follows this recording after these entries, and its host is in this state
pub record HasFollowed (host : Following) (recording : Recording) (before : List Entry) (state : State) : Type 0 where
  pub is_in : state_of host.core ≡ state
  pub ours : AreLanesOf recording before host.lanes
  pub lines : recording.fetches ≡ host.net

-- own: the rows of the host fit together, and it follows some recording after some entries
pub record IsLed (core : Hosted) (lanes : List Left) (net : List FetchLine) : Type 0 where
  pub sound : Coherent (state_of core)
  pub recording : Recording
  pub before : List Entry
  pub ours : AreLanesOf recording before lanes
  pub lines : recording.fetches ≡ net

-- own: the entry of an event that happened
pub record IsEntered (happened : Event) (old : State) (entry : Entry) (new : State) : Type 0 where
  pub event : entry.event ≡ happened
  pub step : (before : List Entry) → IsStep before old entry
  pub left : new ≡ moved old entry
