-- The durable changes of the events of jobs, case by case.
use Rattle.std.specs.Prelude.{ℕ, Bool, true, false, ◌||◌, List, [], ◌∷◌, find, is_none, is_some, Option, None, option_map, option_and_then, if◌then◌else◌}
use Rattle.std.specs.Option.{option_map_or}
use Rattle.sw_data.specs.declared.answers.Fault.{Fault}
use Rattle.sw_data.specs.declared.rows.JobRow.{JobRow}
use Rattle.sw_data.specs.declared.storage.Change.{Change}
use Rattle.sw_data.specs.declared.storage.Change.TheVariants as change
use Rattle.sw_data.specs.declared.workers.Mode.{Mode}
use Rattle.sw_install.specs.declared.calls.FetchOutcome.{FetchOutcome}
use Rattle.sw_install.specs.declared.calls.FetchOutcome.TheVariants as outcome
use Rattle.sw_rules.specs.Installing.{job_worker, kept_worker}
use Rattle.sw_rules.specs.Registrations.{set_mode}
use Rattle.sw_rules.specs.Rows.{is_job, job_row, registration_row}
use Rattle.sw_rules.specs.State.{State, Worker}
use Rattle.sw_rules.specs.Told.{kept_change}
use Rattle.sw_scope.specs.Scopes.{Scopes, maps}

-- ---- unregistering

-- the registration that an unregister job takes out of the map; none where the job is refused (own)
abbrev pub unregistered : Option Fault → ℕ → Scopes → List JobRow → Option ℕ
unregistered refusal job scopes jobs =
    if is_some refusal then None
    else option_and_then (λ row. maps scopes row.job.key row.job.scope) (find (is_job job) jobs)

-- the change where a registration leaves the map (own)
abbrev pub gone_changes : State → ℕ → List Change
gone_changes state registration = kept_change state registration (λ row. change.Gone row.key row.scope)

-- the changes of an unregister job (own)
abbrev pub unregister_changes : State → Option ℕ → List Change
unregister_changes state found = option_map_or (gone_changes state) found []

-- ---- the mode of a job's registration

-- the registration of a job, and the mode that the job gives it (own)
abbrev pub new_mode : ℕ → List JobRow → Option (ℕ × Mode)
new_mode job jobs =
    option_and_then (λ row. option_map (λ registration. (registration, row.job.mode)) row.registration)
    (find (is_job job) jobs)

-- the changes where a registration gets a mode (own)
abbrev pub mode_changes : State → Option (ℕ × Mode) → List Change
mode_changes state found = option_map_or (λ to. (set_mode state to.0 to.1).changes) found []

-- the fetch of a job's script gave the script of the newest worker (own)
abbrev pub is_unchanged : FetchOutcome → Bool
is_unchanged outcome.Unchanged = true
is_unchanged _ = false

-- the changes of the end of a fetch: those of the mode, where the script is the same (own)
abbrev pub fetch_changes : FetchOutcome → State → ℕ → List Change
fetch_changes given state job = if is_unchanged given then mode_changes state (new_mode job state.jobs) else []

-- the worker that a job made (own)
abbrev pub worker_of_job : State → ℕ → Option Worker
worker_of_job state job = option_and_then (job_worker state) (job_row state job)

-- the script of the worker of a job throws (own)
abbrev pub throws : State → ℕ → Bool
throws state job = option_map_or (λ worker. worker.handlers.throws) (worker_of_job state job) false

-- the changes of an evaluation: those of the mode, unless the script throws (own)
abbrev pub evaluation_changes : State → ℕ → List Change
evaluation_changes state job = if throws state job then [] else mode_changes state (new_mode job state.jobs)

-- ---- the end of an install handler

-- the registration of a job (own)
abbrev pub registration_of_job : ℕ → List JobRow → Option ℕ
registration_of_job job jobs = option_and_then (λ row. row.registration) (find (is_job job) jobs)

-- no worker of its registration was there when the job's worker began to install (own)
abbrev pub is_first_install : ℕ → List JobRow → Bool
is_first_install job jobs = option_map_or (λ row. is_none row.remembered) (find (is_job job) jobs) false

-- the install of a worker fails, whose handler is at its end (own)
abbrev pub has_failed : Worker → Bool
has_failed worker = worker.handlers.install_fails || option_map_or (λ handler. handler.faulted) worker.handler false

-- the change where a registration gets this waiting worker (own)
abbrev pub waiting_changes : State → ℕ → Worker → List Change
waiting_changes state registration worker =
    option_map_or (λ row. change.Waiting row.key row.scope row.mode (kept_worker worker) ∷ [])
    (registration_row state registration) []

-- the changes of a failed install: a registration that had no worker before leaves the map (own)
abbrev pub failure_changes : State → ℕ → ℕ → List Change
failure_changes state job registration =
    if is_first_install job state.jobs then gone_changes state registration else []

-- the changes of the end of the install of this worker (own)
abbrev pub end_changes : State → ℕ → ℕ → Worker → List Change
end_changes state job registration worker =
    if has_failed worker then failure_changes state job registration else waiting_changes state registration worker

-- the same, where the job has made a worker (own)
abbrev pub worker_changes : State → ℕ → Option Worker → ℕ → List Change
worker_changes state job made registration = option_map_or (end_changes state job registration) made []

-- the changes of the end of the install of a job (own)
abbrev pub install_changes : State → ℕ → List Change
install_changes state job =
    option_map_or (worker_changes state job (worker_of_job state job)) (registration_of_job job state.jobs) []
