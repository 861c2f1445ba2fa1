-- What an event of a job past waiting needs of the tables (own).
use Rattle.std.specs.Prelude.{◌≡◌, ℕ, Bool, true, ◌&&◌, List, find, is_none, is_some, Some, None, IfSome}
use Rattle.sw_data.specs.declared.rows.JobPhase.{JobPhase}
use Rattle.sw_data.specs.declared.rows.JobPhase.TheVariants as job_phase
use Rattle.sw_data.specs.declared.rows.JobRow.{JobRow}
use Rattle.sw_data.specs.declared.workers.Slot.TheVariants as slot
use Rattle.sw_queue.specs.Tables.{is_under_way}
use Rattle.sw_reg.specs.Table as registrations
use Rattle.sw_reg.specs.Table.{slot_of}
use Rattle.sw_rules.specs.Rows.{is_done, is_evaluating, is_fetching, is_first, is_installing, is_job, is_waiting}
use Rattle.sw_tables.specs.Linked.{ArePlaces}
use Rattle.sw_tables.specs.Parts as parts
use Rattle.sw_worker.specs.Table as workers
use Rattle.sw_worker.specs.Table.{has_worker}

-- the test for a phase
abbrev pub is_in : JobPhase → JobPhase → Bool
is_in job_phase.Waiting phase = is_waiting phase
is_in job_phase.Fetching phase = is_fetching phase
is_in job_phase.Evaluating phase = is_evaluating phase
is_in job_phase.Installing phase = is_installing phase
is_in job_phase.Done phase = is_done phase

-- own: the worker that a job made for its registration: it is parsed and none installs while the job evaluates, and it
-- installs while the job installs
abbrev pub IsMade : JobPhase → ℕ → ℕ → workers.Table → registrations.Table → Type 0
IsMade job_phase.Evaluating registration worker of_workers of_registrations =
    (has_worker (parts.is_of_in parts.is_parsed registration) worker of_workers.rows ≡ true)
    × (slot_of slot.Installing registration of_registrations.rows ≡ None)
IsMade job_phase.Installing registration worker of_workers of_registrations =
    has_worker (parts.is_of_in parts.is_installing registration) worker of_workers.rows ≡ true
IsMade _ registration worker of_workers of_registrations = Unit {0}

-- own: a job past waiting goes its way
pub record GoesItsWay (jobs : List JobRow) (of_workers : workers.Table) (of_registrations : registrations.Table) (row : JobRow) : Type 0 where
  pub first : is_first jobs row ≡ true
  pub settled : is_installing row.phase ≡ true → is_some row.settled ≡ true
  pub there : IfSome row.registration (λ registration. registrations.is_there registration of_registrations.rows ≡ true)
  pub made : IfSome row.registration (λ registration. IfSome row.worker (λ worker.
      IsMade row.phase registration worker of_workers of_registrations))

-- own: the job of this number goes its way, where it joined none and fetches, evaluates or installs
pub record IsUnderWay (job : ℕ) (jobs : List JobRow) (of_workers : workers.Table) (of_registrations : registrations.Table) : Type 0 where
  pub numbers : ArePlaces (λ row. row.job.number) jobs
  pub goes : (row : JobRow) → find (is_job job) jobs ≡ Some row → is_none row.leader && is_under_way row.phase ≡ true
      → GoesItsWay jobs of_workers of_registrations row
