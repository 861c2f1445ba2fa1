-- The next calls of handlers that run.
use Rattle.std.specs.Prelude.{ℕ, Option, option_map, option_and_then, slice_get}
use Rattle.sw_data.specs.declared.events.Event.{Event}
use Rattle.sw_data.specs.declared.events.Event.TheVariants as event
use Rattle.sw_data.specs.declared.events.Who.TheVariants as who
use Rattle.sw_rules.specs.Installing.{calls_of}
use Rattle.sw_rules.specs.Rows.{worker_row}
use Rattle.sw_rules.specs.State.{State, Worker}

-- own: the next call of the handler that runs on the worker of a number and a row, as an event; none where none runs, or it has
-- made all
abbrev pub event_of_row : ℕ → Worker → Option Event
event_of_row worker row =
    option_and_then (λ handler.
    option_map (event.Call (who.Handler worker handler.phase handler.made)) (slice_get (calls_of row handler.phase) handler.made))
    row.handler

-- own: the next call of the handler that runs on a worker, as an event, also while an addAll of it has not settled
abbrev pub running_event : State → ℕ → Option Event
running_event state worker = option_and_then (event_of_row worker) (worker_row state worker)
