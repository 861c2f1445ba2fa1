-- What a recording says: the action at a place of a lane, and the line that a fetch gets.
use Rattle.std.specs.Prelude.{ℕ, List, Option, option_map, option_and_then, slice_get}
use Rattle.sw_data.specs.declared.events.Event.{Event}
use Rattle.sw_data.specs.declared.events.Who.TheVariants.{Lane}
use Rattle.sw_data.specs.declared.recordings.Action.{Action}
use Rattle.sw_data.specs.declared.recordings.FetchLine.{FetchLine}
use Rattle.sw_data.specs.declared.recordings.Recording.{Recording}
use Rattle.sw_data.specs.Events.{event_of_action}
use Rattle.sw_data.specs.Network.{answered_line, drawn_from}

-- the action of a lane at a position (own)
abbrev pub action_at : Recording → ℕ → ℕ → Option Action
action_at recording lane at = option_and_then (λ actions. slice_get actions at) (slice_get recording.lanes lane)

-- the event that the recording has at a position of a lane (own)
abbrev pub recorded_event : Recording → ℕ → ℕ → Option Event
recorded_event recording lane at = option_map (event_of_action (Lane lane at)) (action_at recording lane at)

-- the line that the fetch of this number of an address without its fragment gets; none for a network error (own)
abbrev pub line_of : Recording → List ℕ → ℕ → Option FetchLine
line_of recording address number =
    option_and_then answered_line (drawn_from (λ line. line.fetch) recording.fetches address number)
