-- What is left of each lane of a recording.
use Rattle.std.specs.Prelude.{ℕ, ◌+◌, List, length, drop, set, Option, option_and_then, slice_get}
use Rattle.std.specs.Option.{option_map_or}
use Rattle.std.specs.List.{range_with_len}
use Rattle.sw_data.specs.declared.recordings.Action.{Action}

-- what is left of a lane: the position of its next action, and its actions from there on (own)
pub record Left : Type 0 where
  pub at : ℕ
  pub actions : List Action

-- a lane at its beginning
abbrev pub begun : List Action → Left
begun actions = record { at = 0; actions = actions }

-- a lane whose next action was taken
abbrev pub next_taken : Left → Left
next_taken lane = record { at = lane.at + 1; actions = drop 1 lane.actions }

-- the numbers of the lanes
abbrev pub numbers : List Left → List ℕ
numbers lanes = range_with_len 0 (length lanes)

-- the position of a lane, 0 where there is no such lane
abbrev pub at_of : List Left → ℕ → ℕ
at_of lanes number = option_map_or (λ lane. lane.at) (slice_get lanes number) 0

-- the next action of a lane, none where it is at its end or there is no such lane
abbrev pub action_of : List Left → ℕ → Option Action
action_of lanes number = option_and_then (λ lane. slice_get lane.actions 0) (slice_get lanes number)

-- the lanes after the next action of one was taken
abbrev pub taken : ℕ → List Left → List Left
taken number lanes = option_map_or (λ lane. set lanes number (next_taken lane)) (slice_get lanes number) lanes
