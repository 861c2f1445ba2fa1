-- What the run of a job needs and leaves (own).
use Rattle.std.specs.Prelude.{◌≡◌, ◌<◌, ℕ, Bool, true, ◌&&◌, List, [], length, find, bytes_eq, Option, Some, None, IfSome, Result, Ok, Err, option_map}
use Rattle.std.specs.Option.{option_map_or}
use Rattle.sw_client.specs.Table as clients
use Rattle.sw_data.specs.declared.answers.Answer.{Answer}
use Rattle.sw_data.specs.declared.answers.Answer.TheVariants as answer
use Rattle.sw_data.specs.declared.answers.Fault.{Fault}
use Rattle.sw_data.specs.declared.answers.Fault.TheVariants as fault
use Rattle.sw_data.specs.declared.rows.Job.{Job}
use Rattle.sw_data.specs.declared.rows.JobKind.{JobKind}
use Rattle.sw_data.specs.declared.rows.JobPhase.TheVariants as job_phase
use Rattle.sw_data.specs.declared.rows.JobRow.{JobRow}
use Rattle.sw_data.specs.declared.rows.RegistrationRow.{RegistrationRow}
use Rattle.sw_install.specs.declared.calls.Ran.{Ran}
use Rattle.sw_install.specs.declared.calls.Ran.TheVariants as ran
use Rattle.sw_reg.specs.Edits.{new_registration}
use Rattle.sw_reg.specs.Fits.{FitsRegistration}
use Rattle.sw_reg.specs.Table as registrations
use Rattle.sw_reg.specs.Table.{has_registration}
use Rattle.sw_rules.specs.Jobs.{next_draw, with_draw}
use Rattle.sw_rules.specs.Matching.{Scope}
use Rattle.sw_rules.specs.Registering.{register_refusal}
use Rattle.sw_rules.specs.Rows.{is_in_phase, is_first, is_job, is_waiting}
use Rattle.sw_rules.specs.State.{Draws}
use Rattle.sw_scope.specs.Scopes.{FitsScope, Scopes, maps}
use Rattle.sw_tables.specs.Lent.{Rest}
use Rattle.sw_tables.specs.declared.refusal.NotNow.{NotNow}

-- ---- the job

-- the job of this number, where it is there, is of this type
abbrev pub IsOfKind : JobKind → ℕ → List JobRow → Type 0
IsOfKind what job jobs = IfSome (find (is_job job) jobs) (λ row. row.job.what ≡ what)

-- the job may run: it joined no other and waits, and stands first in its queue
abbrev pub is_ready : List JobRow → JobRow → Bool
is_ready jobs row = is_in_phase is_waiting row && is_first jobs row

-- the first security fault of a register job
abbrev pub register_fault : Job → Option Fault
register_fault job = option_map fault.SecurityError (register_refusal job)

-- what is given as the fault of a register job is its fault
abbrev pub IsRefusal : Option Fault → ℕ → List JobRow → Type 0
IsRefusal refusal job jobs = IfSome (find (is_job job) jobs) (λ row. refusal ≡ register_fault row.job)

-- ---- the fetch

-- the number is the one that the next fetch of the job's script gets
abbrev pub IsNextDraw : ℕ → List Draws → ℕ → List JobRow → Type 0
IsNextDraw ordinal draws job jobs = IfSome (find (is_job job) jobs) (λ row. ordinal ≡ next_draw draws row.job.script)

-- the script of the job of a number
abbrev pub script_of : ℕ → List JobRow → List ℕ
script_of job jobs = option_map_or (λ row. row.job.script) (find (is_job job) jobs) []

-- one more fetch of a script is drawn
abbrev pub drawn : List ℕ → Rest → Rest
drawn script rest = record rest { draws = with_draw rest.draws script }

-- the same, where a job goes on to its fetch
abbrev pub drawn_by : Result Ran NotNow → List ℕ → Rest → Rest
drawn_by (Ok ran.Finished) script rest = rest
drawn_by (Ok (ran.Fetch ordinal)) script rest = drawn script rest
drawn_by (Err why) script rest = rest

-- the row of a job that fetches its script for a registration
abbrev pub fetches : ℕ → ℕ → JobRow → JobRow
fetches registration ordinal row =
    record row { phase = job_phase.Fetching; registration = Some registration; fetch = Some ordinal }

-- the answer of a run
abbrev pub ran_answer : Result Ran NotNow → Option Answer
ran_answer (Ok ran.Finished) = Some answer.Finished
ran_answer (Ok (ran.Fetch ordinal)) = Some (answer.Fetch ordinal)
ran_answer (Err why) = None

-- ---- the registration

-- the registration has the key and the scope of the job
abbrev pub is_of_job : Job → RegistrationRow → Bool
is_of_job job row = bytes_eq row.key job.key && bytes_eq row.scope job.scope

-- the same, of their numbers
abbrev pub HasItsNames : ℕ → ℕ → List JobRow → List RegistrationRow → Type 0
HasItsNames registration job jobs rows =
    IfSome (find (is_job job) jobs) (λ row. has_registration (is_of_job row.job) registration rows ≡ true)

-- own: the finished rows of a registration of the job that isn't mapped, which the tables may take
pub record IsNewRegistration (row : RegistrationRow) (scope : Scope) (job : Job) (map : Scopes) (of : registrations.Table) (of_clients : clients.Table) : Type 0 where
  pub fits : FitsRegistration row of
  pub new : row ≡ new_registration row.number job.key job.scope job.mode
  pub mappable : FitsScope scope map
  pub names : scope ≡ record { key = job.key; scope = job.scope; number = row.number }
  pub known : length of.rows < of_clients.known

-- own: such rows are there
abbrev pub HasNewRegistration : Option RegistrationRow → Option Scope → Job → Scopes → registrations.Table → clients.Table → Type 0
HasNewRegistration (Some row) (Some scope) job map of of_clients = IsNewRegistration row scope job map of of_clients
HasNewRegistration _ _ job map of of_clients = ⊥

-- own: they are there where the job may run, isn't refused, and has no mapped registration
abbrev pub HasWhatItMaps : Option Fault → Option RegistrationRow → Option Scope → ℕ → List JobRow → Scopes → registrations.Table → clients.Table → Type 0
HasWhatItMaps refusal row scope job jobs map of of_clients =
    IfSome (find (is_job job) jobs) (λ found.
    is_ready jobs found ≡ true → refusal ≡ None → maps map found.job.key found.job.scope ≡ None
    → HasNewRegistration row scope found.job map of of_clients)
