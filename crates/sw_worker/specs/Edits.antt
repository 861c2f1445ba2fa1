-- What becomes of the row of a worker.
use Rattle.std.specs.Prelude.{ℕ, ◌+◌, ◌-◌, Bool, true, false, ◌||◌, List, Option, Some, None, option_map, if◌then◌else◌}
use Rattle.sw_data.specs.declared.recordings.Handlers.{Handlers}
use Rattle.sw_data.specs.declared.rows.HandlerRow.{HandlerRow}
use Rattle.sw_data.specs.declared.rows.WorkerRow.{WorkerRow}
use Rattle.sw_data.specs.declared.workers.Kind.{Kind}
use Rattle.sw_data.specs.declared.workers.Phase.{Phase}
use Rattle.sw_data.specs.declared.workers.WorkerState.{WorkerState}
use Rattle.sw_data.specs.declared.workers.WorkerState.TheVariants as worker_state
use Rattle.sw_worker.specs.declared.edit.Edit.{Edit}
use Rattle.sw_worker.specs.declared.edit.Edit.TheVariants as edit
use Rattle.sw_worker.specs.Table.{has_calls_left, has_unsettled, is_idle, is_running}

-- a new worker: parsed, without a handler that runs, its skip waiting flag not set (Service Workers, Appendix A, "Update")
abbrev pub new_worker : ℕ → ℕ → List ℕ → Kind → List ℕ → Option ℕ → Handlers → WorkerRow
new_worker number registration script kind body from handlers = record {
  number = number;
  registration = registration;
  script = script;
  kind = kind;
  body = body;
  state = worker_state.Parsed;
  skip_waiting = false;
  fetch = from;
  handlers = handlers;
  handler = None;
}

-- a worker goes on to a state (Service Workers, Appendix A, "Update Worker State")
abbrev pub advanced : WorkerState → WorkerRow → WorkerRow
advanced to row = record row { state = to }

-- the skip waiting flag is set (Service Workers, "skipWaiting()")
abbrev pub skipping : WorkerRow → WorkerRow
skipping row = record row { skip_waiting = true }

-- a handler of this phase starts (Service Workers, Appendix A, "Install" and "Activate")
abbrev pub started : Phase → WorkerRow → WorkerRow
started phase row =
    record row { handler = Some (record { phase = phase; made = 0; unsettled = 0; faulted = false }) }

-- own: a handler has made one more call, which was answered by a fault or not, and made an addAll or not
abbrev pub call_counted : Bool → Bool → HandlerRow → HandlerRow
call_counted fault task handler = record handler {
  made = handler.made + 1;
  unsettled = if task then handler.unsettled + 1 else handler.unsettled;
  faulted = handler.faulted || fault;
}

-- own: an addAll of a handler has settled, with a fault or not
abbrev pub task_counted : Bool → HandlerRow → HandlerRow
task_counted fault handler = record handler {
  unsettled = handler.unsettled - 1;
  faulted = handler.faulted || fault;
}

-- own: the handler that runs goes on in this way
abbrev pub with_handler : (HandlerRow → HandlerRow) → WorkerRow → WorkerRow
with_handler on row = record row { handler = option_map on row.handler }

-- the handler that ran has ended
abbrev pub ended : WorkerRow → WorkerRow
ended row = record row { handler = None }

-- own: what an edit does to a row
abbrev pub edited : Edit → WorkerRow → WorkerRow
edited (edit.State to) row = advanced to row
edited edit.Skip row = skipping row
edited (edit.Start phase) row = started phase row
edited (edit.CallMade fault task) row = with_handler (call_counted fault task) row
edited (edit.TaskSettled fault) row = with_handler (task_counted fault) row
edited edit.End row = ended row

-- own: an edit may be carried out on a row
abbrev pub allows : Edit → WorkerRow → Bool
allows (edit.State to) row = true
allows edit.Skip row = true
allows (edit.Start phase) row = is_idle row
allows (edit.CallMade fault task) row = has_calls_left row
allows (edit.TaskSettled fault) row = has_unsettled row
allows edit.End row = is_running row
