-- The table of workers and of the fetch events that are pending on them, and what is found in it.
use Rattle.std.specs.Prelude.{ℕ, Bool, true, false, ◌==◌, ◌||◌, nat_lt, not, List, find, filter, length, Option, is_none, is_some}
use Rattle.std.specs.List.{list_any}
use Rattle.std.specs.Option.{option_map_or}
use Rattle.sw_data.specs.declared.recordings.Call.{Call}
use Rattle.sw_data.specs.declared.recordings.Handlers.{Handlers}
use Rattle.sw_data.specs.declared.rows.WorkerRow.{WorkerRow}
use Rattle.sw_data.specs.declared.workers.Phase.{Phase}
use Rattle.sw_data.specs.declared.workers.Phase.TheVariants as phase
use Rattle.sw_data.specs.declared.workers.WorkerState.{WorkerState}
use Rattle.sw_data.specs.declared.workers.WorkerState.TheVariants as worker_state
use Rattle.sw_rules.specs.Rows.{is_install}
use Rattle.sw_rules.specs.State.{FetchEvent}

-- own: the rows of the workers, the fetch events that are pending, and for how many more of each there is room
pub record Table : Type 0 where
  pub rows : List WorkerRow
  pub events : List FetchEvent
  pub spare_rows : ℕ
  pub spare_events : ℕ

-- ---- workers

abbrev pub is_worker : ℕ → WorkerRow → Bool
is_worker number row = row.number == number

-- the worker of a number
abbrev pub worker_at : ℕ → List WorkerRow → Option WorkerRow
worker_at number rows = find (is_worker number) rows

-- the worker of a number is there
abbrev pub is_there : ℕ → List WorkerRow → Bool
is_there number rows = is_some (worker_at number rows)

-- the worker of a number is there, and passes
abbrev pub has_worker : (WorkerRow → Bool) → ℕ → List WorkerRow → Bool
has_worker test number rows = option_map_or test (worker_at number rows) false

abbrev pub is_activated : WorkerRow → Bool
is_activated row = elim row.state [ worker_state.Activated ↦ true | _ ↦ false ]

-- a worker may go from one state to another: to the next one, and to redundant from each other state (Service Workers, "ServiceWorkerState")
abbrev pub may_follow : WorkerState → WorkerState → Bool
may_follow worker_state.Redundant _ = false
may_follow _ worker_state.Redundant = true
may_follow worker_state.Parsed worker_state.Installing = true
may_follow worker_state.Installing worker_state.Installed = true
may_follow worker_state.Installed worker_state.Activating = true
may_follow worker_state.Activating worker_state.Activated = true
may_follow _ _ = false

-- the worker of a number may go on to a state
abbrev pub may_advance : ℕ → WorkerState → List WorkerRow → Bool
may_advance number to rows = has_worker (λ row. may_follow row.state to) number rows

-- ---- handlers

-- no handler of the worker runs
abbrev pub is_idle : WorkerRow → Bool
is_idle row = is_none row.handler

-- a handler of the worker runs
abbrev pub is_running : WorkerRow → Bool
is_running row = is_some row.handler

-- a handler of phase activate of the worker runs
abbrev pub runs_activate : WorkerRow → Bool
runs_activate row = option_map_or (λ handler. not (is_install handler.phase)) row.handler false

-- the calls of the handler of a phase
abbrev pub calls_of : Phase → Handlers → List Call
calls_of phase.Install handlers = handlers.install
calls_of phase.Activate handlers = handlers.activate

-- the handler that runs has calls left
abbrev pub has_calls_left : WorkerRow → Bool
has_calls_left row =
    option_map_or (λ handler. nat_lt handler.made (length (calls_of handler.phase row.handlers))) row.handler false

-- an addAll of the handler that runs has not settled
abbrev pub has_unsettled : WorkerRow → Bool
has_unsettled row = option_map_or (λ handler. nat_lt 0 handler.unsettled) row.handler false

-- ---- fetch events

abbrev pub is_event : ℕ → FetchEvent → Bool
is_event number event = event.number == number

-- the pending fetch event of a number
abbrev pub event_at : ℕ → List FetchEvent → Option FetchEvent
event_at number events = find (is_event number) events

-- the fetch event of a number is pending
abbrev pub is_pending : ℕ → List FetchEvent → Bool
is_pending number events = list_any (is_event number) events

-- a fetch event is one of this worker
abbrev pub is_on : ℕ → FetchEvent → Bool
is_on worker event = event.worker == worker

-- the fetch events that are pending on a worker
abbrev pub events_on : ℕ → List FetchEvent → List FetchEvent
events_on worker events = filter (is_on worker) events

-- a handler or a fetch event of a worker is pending (Service Workers, "has no pending events", is the opposite)
abbrev pub has_pending : ℕ → Table → Bool
has_pending worker table = has_worker is_running worker table.rows || list_any (is_on worker) table.events
