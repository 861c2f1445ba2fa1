-- What an event of a worker's handler leaves of it.
use Rattle.std.specs.Prelude.{◌≡◌, ℕ, true, is_some, Option, Some, option_map}
use Rattle.sw_data.specs.declared.recordings.Handlers.{Handlers}
use Rattle.sw_rules.specs.Rows.{worker_row}
use Rattle.sw_rules.specs.State.{State, Worker, Handler}

-- the handler of a worker, if one runs, and the calls of its handlers
abbrev pub handling : Worker → Option Handler × Handlers
handling row = (row.handler, row.handlers)

-- own: the handler of a worker that runs stays as it is, and so do its calls
pub record KeepsHandler (worker : ℕ) (old new : State) : Type 0 where
  pub stays : (row : Worker) → worker_row old worker ≡ Some row → is_some row.handler ≡ true
      → option_map handling (worker_row new worker) ≡ Some (handling row)
