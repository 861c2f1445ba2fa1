-- What a call of a worker's handler comes to, and what its act needs of a host.
use Rattle.std.specs.Prelude.{◌≡◌, ℕ, true, List, Some}
use Rattle.sw_data.specs.declared.events.Who.{Who}
use Rattle.sw_data.specs.declared.recordings.Call.{Call}
use Rattle.sw_data.specs.declared.rows.WorkerRow.{WorkerRow}
use Rattle.sw_data.specs.declared.workers.Phase.{Phase}
use Rattle.sw_pages.specs.Acts.{told_by}
use Rattle.sw_pages.specs.declared.worked.PageAct.{PageAct}
use Rattle.sw_rules.specs.Calls.{called, noted}
use Rattle.sw_rules.specs.State.{State}
use Rattle.sw_rules.specs.Told.{Outcome}
use Rattle.sw_tables.specs.Lent.{shown_worker}
use Rattle.sw_state.specs.Hosted.{Hosted, state_of}
use Rattle.sw_work.specs.Plans.{FitsPageAct, has_calls_left}
use Rattle.sw_worker.specs.Table.{worker_at}

-- own: what a call comes to in the name of the worker of a row, which notes it
abbrev pub noted_call : Who → Phase → WorkerRow → List ℕ → Call → State → Outcome
noted_call by in_phase row key asked state = noted (called state by (shown_worker row) in_phase key asked) row.number

-- own: a host has the row of a worker
abbrev pub HasRow : WorkerRow → Hosted → Type 0
HasRow row host = worker_at row.number host.workers.rows ≡ Some row

-- own: an act of a page may be done on a host without memory, and leaves the handler of a worker its calls
pub record FitsCall (worker : ℕ) (done : PageAct) (host : Hosted) : Type 0 where
  pub act : FitsPageAct done host
  pub calls : has_calls_left worker (told_by done (state_of host)).state ≡ true
