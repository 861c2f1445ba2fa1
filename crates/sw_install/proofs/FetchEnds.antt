-- What the end of the fetch of a job's script comes to.
use Rattle.std.proofs.Common.{◌≡◌, ◌∙◌, ℕ, Bool, true, false, Option, Some, None, find, refl, ap, arith, if◌then◌else◌}
use Rattle.std.specs.Prelude.{IfSome, Result, Ok, Err, not}
use Rattle.sw_data.specs.declared.answers.Answer.TheVariants as answer
use Rattle.sw_data.specs.declared.answers.Cause.TheVariants as cause
use Rattle.sw_data.specs.declared.answers.Fault.{Fault}
use Rattle.sw_data.specs.declared.answers.Fault.TheVariants as fault
use Rattle.sw_data.specs.declared.answers.SecurityCause.TheVariants as security
use Rattle.sw_data.specs.declared.recordings.Fetched.{Fetched}
use Rattle.sw_data.specs.declared.recordings.FetchLine.{FetchLine}
use Rattle.sw_data.specs.declared.rows.Job.{Job}
use Rattle.sw_data.specs.declared.rows.JobRow.{JobRow}
use Rattle.sw_data.specs.declared.rows.WorkerRow.{WorkerRow}
use Rattle.sw_data.specs.Media.{is_javascript}
use Rattle.sw_install.proofs.Enabled.{if_some}
use Rattle.sw_install.specs.Fetches.{ComesTo, IsOutcome, fetch_outcome}
use Rattle.sw_install.specs.declared.calls.FetchOutcome.{FetchOutcome}
use Rattle.sw_install.specs.declared.calls.FetchOutcome.TheVariants as outcome
use Rattle.sw_rules.specs.Installing.{fetch_ended, fetched, fetched_of, is_ok_status, is_scope_allowed, job_in, keep_script, make_worker, reject_and_drop, script_of}
use Rattle.sw_rules.specs.Rows.{is_in_phase, is_fetching, is_job}
use Rattle.sw_rules.specs.State.{State}
use Rattle.sw_rules.specs.Told.{type_error}
use Rattle.sw_tables.proofs.Rows.{found_number}

-- a script that has no fault is that of the response
pub script_given : (job : Job) (given : Option Fetched) (script : Fetched) → script_of job given ≡ Ok script → given ≡ Some script
script_given job None script is = absurd cc
script_given job (Some fetched) script is =
    by (is_javascript fetched.response.headers) (is_scope_allowed job fetched.response.headers) (is_ok_status fetched.response.status) is
  where
    by : (media scope status : Bool)
        → (if not media then Err (fault.SecurityError security.Mime)
        else if not scope then Err (fault.SecurityError security.Scope)
        else if not status then Err (type_error cause.Status)
        else Ok fetched) ≡ Ok script → Some fetched ≡ Some script
    by true true true same = cc
    by true true false same = absurd cc
    by true false status same = absurd cc
    by false scope status same = absurd cc

module _ (state : State) (registration : ℕ) (row : JobRow) where
  ended_rejected : (f : Option Fetched) (why : Fault) → outcome.Rejected why ≡ fetch_outcome state row registration f
      → fetch_ended state row f registration ≡ record { answer = answer.Rejected; told = reject_and_drop state row.job.number registration why }
  unfolding fetch_ended
  ended_rejected f why comes = by (script_of row.job f) refl
    where
      by : (o : Result Fetched Fault) → script_of row.job f ≡ o
          → fetch_ended state row f registration ≡ record { answer = answer.Rejected; told = reject_and_drop state row.job.number registration why }
      by (Err w) is = grind (arith, is, comes)
      by (Ok script) is = grind (arith, is, comes)

  ended_unchanged : (f : Option Fetched) → outcome.Unchanged ≡ fetch_outcome state row registration f
      → fetch_ended state row f registration ≡ record { answer = answer.Unchanged; told = keep_script state row.job registration }
  unfolding fetch_ended
  ended_unchanged f comes = by (script_of row.job f) refl
    where
      by : (o : Result Fetched Fault) → script_of row.job f ≡ o
          → fetch_ended state row f registration ≡ record { answer = answer.Unchanged; told = keep_script state row.job registration }
      by (Err w) is = grind (arith, is, comes)
      by (Ok script) is = grind (arith, is, comes)

  ended_changed : (f : Option Fetched) → outcome.Changed ≡ fetch_outcome state row registration f
      → (script : Fetched) × (f ≡ Some script) × (fetch_ended state row f registration ≡ record { answer = answer.Changed; told = make_worker state row registration script })
  unfolding fetch_ended
  ended_changed f comes = by (script_of row.job f) refl
    where
      by : (o : Result Fetched Fault) → script_of row.job f ≡ o
          → (script : Fetched) × (f ≡ Some script) × (fetch_ended state row f registration ≡ record { answer = answer.Changed; told = make_worker state row registration script })
      by (Err w) is = absurd (grind (arith, is, comes))
      by (Ok script) is = (script, script_given row.job f script is, grind (arith, is, comes))

module _ (state : State) (number registration : ℕ) (row : JobRow) (line : Option FetchLine) (is : find (is_job number) state.jobs ≡ Some row) (fetches : is_in_phase is_fetching row ≡ true) (of : row.registration ≡ Some registration) where
  own_number : row.job.number ≡ number
  own_number = found_number (λ (r : JobRow). r.job.number) number state.jobs row is

  ends : fetched state number line ≡ Some (fetch_ended state row (fetched_of line) registration)
  ends = grind (arith, is, fetches, of)

  pub rejected : (why : Fault) → outcome.Rejected why ≡ fetch_outcome state row registration (fetched_of line)
      → fetched state number line ≡ Some (record { answer = answer.Rejected; told = reject_and_drop state number registration why })
  rejected why comes =
      ends
      ∙ (ap Some (ended_rejected state registration row (fetched_of line) why comes)
      ∙ ap (λ (n : ℕ). Some (record { answer = answer.Rejected; told = reject_and_drop state n registration why })) own_number)

  pub unchanged : outcome.Unchanged ≡ fetch_outcome state row registration (fetched_of line)
      → fetched state number line ≡ Some (record { answer = answer.Unchanged; told = keep_script state row.job registration })
  unchanged comes = ends ∙ ap Some (ended_unchanged state registration row (fetched_of line) comes)

  pub script_changed : outcome.Changed ≡ fetch_outcome state row registration (fetched_of line)
      → (new : Fetched) × (fetched_of line ≡ Some new) × (fetched state number line ≡ Some (record { answer = answer.Changed; told = make_worker state row registration new }))
  script_changed comes =
      let ended = ended_changed state registration row (fetched_of line) comes in (ended.0, ended.1, ends ∙ ap Some ended.2)

-- the outcome of a fetch that is in flight
pub outcome_of : (given : FetchOutcome) (made : Option WorkerRow) (state : State) (number registration : ℕ) (row : JobRow) (line : Option FetchLine)
    → job_in (is_in_phase is_fetching) state number ≡ Some row → row.registration ≡ Some registration → ComesTo given made state number line
    → IsOutcome given made state row (fetched_of line) registration
outcome_of given made state number registration row line is of comes =
    if_some (IsOutcome given made state row (fetched_of line)) row.registration registration of
    (if_some (λ (r : JobRow). IfSome r.registration (IsOutcome given made state r (fetched_of line))) (job_in (is_in_phase is_fetching) state number) row is comes)
