-- What the fetch of a job's script comes to, and the row of the worker that is made from it (own).
use Rattle.std.specs.Prelude.{◌≡◌, ℕ, true, Option, Some, None, IfSome, option_map, Ok, Err, if◌then◌else◌}
use Rattle.sw_data.specs.declared.recordings.Fetched.{Fetched}
use Rattle.sw_data.specs.declared.recordings.FetchLine.{FetchLine}
use Rattle.sw_data.specs.declared.rows.JobRow.{JobRow}
use Rattle.sw_data.specs.declared.rows.WorkerRow.{WorkerRow}
use Rattle.sw_data.specs.declared.workers.WorkerState.TheVariants as worker_state
use Rattle.sw_install.specs.declared.calls.FetchOutcome.{FetchOutcome}
use Rattle.sw_install.specs.declared.calls.FetchOutcome.TheVariants as outcome
use Rattle.sw_reg.specs.Table as registrations
use Rattle.sw_rules.specs.Installing.{fetched_of, is_same_script, job_in, made_worker, script_of}
use Rattle.sw_rules.specs.Rows.{is_in_phase, is_fetching}
use Rattle.sw_rules.specs.State.{State}
use Rattle.sw_tables.specs.Lent.{shown_worker}
use Rattle.sw_worker.specs.Fits.{FitsWorker}
use Rattle.sw_worker.specs.Table as workers

-- what a fetch comes to: the first fault of its script, or else whether the newest worker has that script
abbrev pub fetch_outcome : State → JobRow → ℕ → Option Fetched → FetchOutcome
fetch_outcome state row registration given =
    elim (script_of row.job given) [
      | Err why ↦ outcome.Rejected why
      | Ok script ↦
          if is_same_script state row.job registration script.response.body then outcome.Unchanged
          else outcome.Changed
    ]

-- own: what this fetch comes to; where it changed the script, the row is that of the worker that is made from it
pub record IsOutcome (given : FetchOutcome) (made : Option WorkerRow) (state : State) (row : JobRow) (fetched : Option Fetched) (registration : ℕ) : Type 0 where
  pub comes : given ≡ fetch_outcome state row registration fetched
  pub worker : given ≡ outcome.Changed → IfSome fetched (λ f. option_map shown_worker made ≡ Some (made_worker state row registration f))

-- own: the same, where the fetch of the job of this number is in flight
abbrev pub ComesTo : FetchOutcome → Option WorkerRow → State → ℕ → Option FetchLine → Type 0
ComesTo given made state job line =
    IfSome (job_in (is_in_phase is_fetching) state job) (λ row.
    IfSome row.registration (IsOutcome given made state row (fetched_of line)))

-- own: a finished row of a parsed worker of a registration that is there, which the table may take
pub record IsNewWorker (new : WorkerRow) (of_workers : workers.Table) (of_registrations : registrations.Table) : Type 0 where
  pub fits : FitsWorker new of_workers
  pub state : new.state ≡ worker_state.Parsed
  pub handler : new.handler ≡ None
  pub owner : registrations.is_there new.registration of_registrations.rows ≡ true

-- own: such a row is there
abbrev pub HasNewWorker : Option WorkerRow → workers.Table → registrations.Table → Type 0
HasNewWorker None of_workers of_registrations = ⊥
HasNewWorker (Some new) of_workers of_registrations = IsNewWorker new of_workers of_registrations
