-- Installing: what follows the fetch of a job's script, its evaluation, and the end of its install handler.
use Rattle.std.specs.Prelude.{ℕ, Bool, true, false, not, ◌&&◌, ◌||◌, nat_le, List, [], ◌∷◌, ◌++◌, codes, filter, length, bytes_eq, is_none, is_some, Option, Some, None, option_map, option_and_then, Result, Ok, Err, if◌then◌else◌}
use Rattle.std.specs.Option.{option_map_or, option_or}
use Rattle.sw_data.specs.declared.answers.Answer.TheVariants as answer
use Rattle.sw_data.specs.declared.answers.Cause.TheVariants as cause
use Rattle.sw_data.specs.declared.answers.Fault.{Fault}
use Rattle.sw_data.specs.declared.answers.Fault.TheVariants as fault
use Rattle.sw_data.specs.declared.answers.Notice.TheVariants as notice
use Rattle.sw_data.specs.declared.answers.SecurityCause.TheVariants as security
use Rattle.sw_data.specs.declared.answers.Settlement.TheVariants as settlement
use Rattle.sw_data.specs.declared.exchange.Header.{Header}
use Rattle.sw_data.specs.declared.recordings.Call.{Call}
use Rattle.sw_data.specs.declared.recordings.Fetched.{Fetched}
use Rattle.sw_data.specs.declared.recordings.FetchLine.{FetchLine}
use Rattle.sw_data.specs.declared.rows.Job.{Job}
use Rattle.sw_data.specs.declared.rows.JobPhase.TheVariants as job_phase
use Rattle.sw_data.specs.declared.rows.JobRow.{JobRow}
use Rattle.sw_data.specs.declared.storage.Change.TheVariants as change
use Rattle.sw_data.specs.declared.storage.KeptWorker.{KeptWorker}
use Rattle.sw_data.specs.declared.workers.Phase.{Phase}
use Rattle.sw_data.specs.declared.workers.Phase.TheVariants as phase
use Rattle.sw_data.specs.declared.workers.Slot.TheVariants as slot
use Rattle.sw_data.specs.declared.workers.WorkerState.TheVariants as worker_state
use Rattle.sw_data.specs.Addresses.{is_within_bound, scope_bound}
use Rattle.sw_data.specs.Headers.{first_value}
use Rattle.sw_data.specs.Media.{is_javascript}
use Rattle.sw_rules.specs.Jobs.{finish, resolve_and_finish, same_kind, settle}
use Rattle.sw_rules.specs.Registrations.{become, drop_registration, retire, set_mode, start_handler, unmap}
use Rattle.sw_rules.specs.Rows.{changed, free_handler, is_in_phase, is_evaluating, is_fetching, is_install, is_installing, is_job, is_registration, is_worker, job_row, newest_worker, registration_row, worker_row}
use Rattle.sw_rules.specs.State.{State, Registration, Worker, Handler}
use Rattle.sw_rules.specs.Told.{Told, Outcome, followed, quiet, type_error}

-- ---- the fetch of a script (Service Workers, Appendix A, "Update", from the fetch on)

-- what was fetched; none for a network error
abbrev pub fetched_of : Option FetchLine → Option Fetched
fetched_of line = option_and_then (λ l. l.fetched) line

-- a status of success (Fetch, "ok status")
abbrev pub is_ok_status : ℕ → Bool
is_ok_status status = nat_le 200 status && nat_le status 299

-- the job's scope is within the bound that its script and a response give
abbrev pub is_scope_allowed : Job → List Header → Bool
is_scope_allowed job headers =
    option_map_or (is_within_bound job.scope)
    (scope_bound job.script (first_value (codes "service-worker-allowed") headers)) false

-- the script that a fetch gave, or its first fault (that a network error is tested first is own)
abbrev pub script_of : Job → Option Fetched → Result Fetched Fault
script_of job None = Err (type_error cause.Network)
script_of job (Some fetched) =
    if not (is_javascript fetched.response.headers) then Err (fault.SecurityError security.Mime)
    else if not (is_scope_allowed job fetched.response.headers) then Err (fault.SecurityError security.Scope)
    else if not (is_ok_status fetched.response.status) then Err (type_error cause.Status)
    else Ok fetched

-- a job's promise is rejected, its registration leaves the map where it has no worker, and the job is over
unfoldable pub reject_and_drop : State → ℕ → ℕ → Fault → Told
reject_and_drop state job registration why =
    followed (settle state job (settlement.Fault why)) (λ settled.
    followed (drop_registration settled registration) (λ dropped. finish dropped job))

-- the newest worker of a registration has this script, type and body
abbrev pub is_same_script : State → Job → ℕ → List ℕ → Bool
is_same_script state job registration body =
    option_map_or
    (λ newest. bytes_eq newest.script job.script && same_kind newest.kind job.kind && bytes_eq newest.body body)
    (newest_worker state registration) false

-- a registration whose worker is the same gets the job's mode, and the job is over
unfoldable pub keep_script : State → Job → ℕ → Told
keep_script state job registration =
    followed (set_mode state registration job.mode) (λ moded.
    resolve_and_finish moded job.number (settlement.Registration registration))

-- a worker that was made from a fetch
abbrev pub made_worker : State → JobRow → ℕ → Fetched → Worker
made_worker state row registration fetched = record {
  number = length state.workers;
  registration = registration;
  script = row.job.script;
  kind = row.job.kind;
  body = fetched.response.body;
  state = worker_state.Parsed;
  skip_waiting = false;
  fetch = row.fetch;
  handlers = fetched.handlers;
  handler = None;
}

-- a worker is made for a job, which goes on to its evaluation
unfoldable pub make_worker : State → JobRow → ℕ → Fetched → Told
make_worker state row registration fetched = record {
  state = record state {
    workers = state.workers ++ made_worker state row registration fetched ∷ [];
    jobs =
        changed (is_job row.job.number)
        (λ job. record job { phase = job_phase.Evaluating; worker = Some (length state.workers) })
        state.jobs;
  };
  notices = notice.Worker (length state.workers) worker_state.Parsed ∷ [];
  changes = [];
}

-- the fetch of a job's script has ended, and gave this
unfoldable pub fetch_ended : State → JobRow → Option Fetched → ℕ → Outcome
fetch_ended state row given registration =
    elim (script_of row.job given) [
      | Err why ↦
          record { answer = answer.Rejected; told = reject_and_drop state row.job.number registration why }
      | Ok script ↦
          if is_same_script state row.job registration script.response.body
          then record { answer = answer.Unchanged; told = keep_script state row.job registration }
          else record { answer = answer.Changed; told = make_worker state row registration script }
    ]

-- a job that joined no other, in this phase
abbrev pub job_in : (JobRow → Bool) → State → ℕ → Option JobRow
job_in test state number =
    option_and_then (λ row. if test row then Some row else None) (job_row state number)

-- the fetch of a job has ended, where one is in flight
abbrev pub fetched : State → ℕ → Option FetchLine → Option Outcome
fetched state number line =
    option_and_then (λ row. option_map (fetch_ended state row (fetched_of line)) row.registration)
    (job_in (is_in_phase is_fetching) state number)

-- ---- the evaluation of a script (Service Workers, Appendix A, "Update" and "Install")

-- a script threw (that its worker becomes redundant here is own)
unfoldable pub throw : State → ℕ → ℕ → ℕ → Told
throw state job registration worker =
    followed (become state worker worker_state.Redundant) (λ discarded.
    reject_and_drop discarded job registration (type_error cause.Threw))

-- a job goes on to its install, and remembers the newest worker before it
unfoldable pub remember : State → ℕ → ℕ → Told
remember state job registration =
    quiet (record state {
      jobs =
          changed (is_job job)
          (λ row. record row {
            phase = job_phase.Installing;
            remembered = option_map (λ newest. newest.number) (newest_worker state registration);
          })
          state.jobs;
    })

-- a job's worker begins to install
unfoldable pub begin_install : State → ℕ → ℕ → ℕ → Told
begin_install state job registration worker =
    followed (remember state job registration) (λ remembered.
    followed (become remembered worker worker_state.Installing) (λ installing.
    start_handler installing worker phase.Install))

-- what is told where an update was found
unfoldable pub tell_update : State → ℕ → Told
tell_update state registration =
    record { state = state; notices = notice.UpdateFound registration ∷ []; changes = [] }

-- a worker installs: its registration gets the job's mode, and the job's promise resolves (Service Workers, Appendix A, "Install", to the install event)
unfoldable pub install : State → Job → ℕ → ℕ → Told
install state job registration worker =
    followed (set_mode state registration job.mode) (λ moded.
    followed (begin_install moded job.number registration worker) (λ begun.
    followed (settle begun job.number (settlement.Registration registration)) (λ settled.
    tell_update settled registration)))

-- the script of a worker was evaluated for a job
abbrev pub evaluated_worker : State → Job → ℕ → Worker → Outcome
evaluated_worker state job registration worker =
    if worker.handlers.throws
    then record { answer = answer.Threw; told = throw state job.number registration worker.number }
    else record { answer = answer.Installing; told = install state job registration worker.number }

-- the worker that a job made
abbrev pub job_worker : State → JobRow → Option Worker
job_worker state row = option_and_then (worker_row state) row.worker

-- a job's script was evaluated, where it is to be
abbrev pub evaluated : State → ℕ → Option Outcome
evaluated state number =
    option_and_then (λ row.
    option_and_then (λ registration.
    option_map (evaluated_worker state row.job registration) (job_worker state row))
    row.registration)
    (job_in (is_in_phase is_evaluating) state number)

-- ---- the end of an install handler (Service Workers, Appendix A, "Install", from the install event on)

-- the calls of a worker's handler
abbrev pub calls_of : Worker → Phase → List Call
calls_of worker phase.Install = worker.handlers.install
calls_of worker phase.Activate = worker.handlers.activate

-- a handler has made all its calls
abbrev pub is_over : Worker → Handler → Bool
is_over worker row = nat_le (length (calls_of worker row.phase)) row.made

-- the handler of a worker ends
unfoldable pub end_handler : State → ℕ → Told
end_handler state worker =
    quiet (record state { workers = changed (is_worker worker) (λ row. record row { handler = None }) state.workers })

-- an install failed: the worker becomes redundant, a registration that had no worker before it leaves the map, and the job is over
unfoldable pub fail_install : State → JobRow → ℕ → ℕ → Told
fail_install state row registration worker =
    followed (end_handler state worker) (λ ended.
    followed (become ended worker worker_state.Redundant) (λ discarded.
    followed (if is_none row.remembered then unmap discarded registration else quiet discarded) (λ left.
    finish left row.job.number)))

-- how many registrations have got a waiting worker
abbrev pub first_counter : List Registration → ℕ
first_counter rows = length (filter (λ row. is_some row.first) rows)

-- a registration has a waiting worker: it gets its place among those that had one, where it has none yet, and is owed a Try Activate
abbrev pub placed : ℕ → Registration → Registration
placed place row = record row { first = option_or row.first (Some place); owed = true }

abbrev pub kept_worker : Worker → KeptWorker
kept_worker row = record { script = row.script; kind = row.kind; body = row.body }

-- a registration gets this waiting worker: that is kept, and a Try Activate is owed
unfoldable pub owe_try_activate : State → ℕ → Worker → Told
owe_try_activate state registration worker = record {
  state = record state {
    registrations =
        changed (is_registration registration) (placed (first_counter state.registrations)) state.registrations;
  };
  notices = [];
  changes =
      option_map_or (λ row. change.Waiting row.key row.scope row.mode (kept_worker worker) ∷ [])
      (registration_row state registration) [];
}

-- the installing worker becomes the waiting one in place of another (Service Workers, Appendix A, "Install")
unfoldable pub become_waiting : State → ℕ → Worker → Told
become_waiting state registration worker =
    followed (owe_try_activate state registration worker) (λ owed.
    followed (retire owed slot.Waiting registration) (λ retired.
    become retired worker.number worker_state.Installed))

-- an install succeeded
unfoldable pub finish_install : State → ℕ → ℕ → Worker → Told
finish_install state job registration worker =
    followed (end_handler state worker.number) (λ ended.
    followed (become_waiting ended registration worker) (λ waiting. finish waiting job))

-- the install handler of a job's worker has ended
abbrev pub install_ended : State → JobRow → ℕ → Worker → Handler → Outcome
install_ended state row registration worker handler =
    if worker.handlers.install_fails || handler.faulted
    then record { answer = answer.Failed; told = fail_install state row registration worker.number }
    else record { answer = answer.Ok; told = finish_install state row.job.number registration worker }

-- the handler of a worker that is at its end, in a phase
abbrev pub ended_handler : State → (Phase → Bool) → Worker → Option Handler
ended_handler state test worker =
    option_and_then (λ row. if test row.phase && is_over worker row then Some row else None)
    (free_handler state worker.number)

-- the install handler of a job's worker ends, where it has made its calls
abbrev pub installed : State → ℕ → Option Outcome
installed state number =
    option_and_then (λ row.
    option_and_then (λ registration.
    option_and_then (λ worker.
    option_map (install_ended state row registration worker) (ended_handler state is_install worker))
    (job_worker state row))
    row.registration)
    (job_in (is_in_phase is_installing) state number)
