-- The run of a register job, or of an update job, has no durable changes.
use Rattle.std.proofs.Common.{◌≡◌, ℕ, Bool, true, false, [], length, Option, Some, None, find, refl, if◌then◌else◌}
use Rattle.std.specs.Prelude.{IfSome}
use Rattle.sw_data.specs.declared.answers.Cause.TheVariants as cause
use Rattle.sw_data.specs.declared.answers.Fault.TheVariants as fault
use Rattle.sw_data.specs.declared.answers.SecurityCause.{SecurityCause}
use Rattle.sw_data.specs.declared.answers.Settlement.TheVariants as settlement
use Rattle.sw_data.specs.declared.rows.Job.{Job}
use Rattle.sw_data.specs.declared.rows.JobKind.{JobKind}
use Rattle.sw_data.specs.declared.rows.JobKind.TheVariants as job_kind
use Rattle.sw_data.specs.declared.rows.JobRow.{JobRow}
use Rattle.sw_prepare.proofs.JobChanges.{settled_quietly}
use Rattle.sw_prepare.specs.Laws.{RegistersQuietly}
use Rattle.sw_rules.specs.Jobs.{is_unregister, resolve_and_finish}
use Rattle.sw_rules.specs.Registering.{fetch_script, fetching, finished, has_script, is_registered, may_run, register_refusal, run_allowed_register, run_job, run_register, run_unregister, run_update}
use Rattle.sw_rules.specs.Registrations.{map_registration}
use Rattle.sw_rules.specs.Rows.{is_job, mapped_registration}
use Rattle.sw_rules.specs.State.{State, Registration}
use Rattle.sw_rules.specs.Told.{Outcome, followed, type_error}

fetched_quietly : (state : State) (job : Job) (n : ℕ) → (fetch_script state job n).changes ≡ []
unfolding fetch_script
fetched_quietly state job n = refl

mapped_quietly : (state : State) (job : Job) (n : ℕ) → (followed (map_registration state job) (λ after. fetch_script after job n)).changes ≡ []
unfolding followed map_registration fetch_script
mapped_quietly state job n = refl

allowed_quietly : (state : State) (job : Job) → (run_allowed_register state job).told.changes ≡ []
unfolding run_allowed_register
allowed_quietly state job = by (mapped_registration state job.key job.scope)
  where
    known : Registration → Bool → Outcome
    known row b =
        if b then finished (resolve_and_finish state job.number (settlement.Registration row.number))
        else fetching state job (fetch_script state job row.number)

    one : (row : Registration) (b : Bool) → (known row b).told.changes ≡ []
    one row true = settled_quietly state job.number (settlement.Registration row.number)
    one row false = fetched_quietly state job row.number

    comes_to : Option Registration → Outcome
    comes_to o =
        elim o [
          | None ↦
              fetching state job
              (followed (map_registration state job) (λ after. fetch_script after job (length state.registrations)))
          | Some row ↦ known row (is_registered state job row)
        ]

    by : (o : Option Registration) → (comes_to o).told.changes ≡ []
    by None = mapped_quietly state job (length state.registrations)
    by (Some row) = one row (is_registered state job row)

register_quietly : (state : State) (job : Job) → (run_register state job).told.changes ≡ []
unfolding run_register
register_quietly state job = by (register_refusal job)
  where
    comes_to : Option SecurityCause → Outcome
    comes_to o =
        elim o [
          | Some why ↦ finished (resolve_and_finish state job.number (settlement.Fault (fault.SecurityError why)))
          | None ↦ run_allowed_register state job
        ]

    by : (o : Option SecurityCause) → (comes_to o).told.changes ≡ []
    by None = allowed_quietly state job
    by (Some why) = settled_quietly state job.number (settlement.Fault (fault.SecurityError why))

update_quietly : (state : State) (job : Job) → (run_update state job).told.changes ≡ []
unfolding run_update
update_quietly state job = by (mapped_registration state job.key job.scope)
  where
    known : Registration → Bool → Outcome
    known row b =
        if b then fetching state job (fetch_script state job row.number)
        else finished (resolve_and_finish state job.number (settlement.Fault (type_error cause.Script)))

    one : (row : Registration) (b : Bool) → (known row b).told.changes ≡ []
    one row true = fetched_quietly state job row.number
    one row false = settled_quietly state job.number (settlement.Fault (type_error cause.Script))

    comes_to : Option Registration → Outcome
    comes_to o =
        elim o [
          | None ↦ finished (resolve_and_finish state job.number (settlement.Fault (type_error cause.NoRegistration)))
          | Some row ↦ known row (has_script state job row)
        ]

    by : (o : Option Registration) → (comes_to o).told.changes ≡ []
    by None = settled_quietly state job.number (settlement.Fault (type_error cause.NoRegistration))
    by (Some row) = one row (has_script state job row)

job_quietly : (state : State) (job : Job) → is_unregister job.what ≡ false → (run_job state job).told.changes ≡ []
job_quietly state job = by job.what
  where
    comes_to : JobKind → Outcome
    comes_to kind =
        elim kind [
          | job_kind.Register ↦ run_register state job
          | job_kind.Update ↦ run_update state job
          | job_kind.Unregister ↦ run_unregister state job
        ]

    by : (kind : JobKind) → is_unregister kind ≡ false → (comes_to kind).told.changes ≡ []
    by job_kind.Register is = register_quietly state job
    by job_kind.Update is = update_quietly state job
    by job_kind.Unregister is = absurd cc

pub registers_quietly : RegistersQuietly
registers_quietly state job = by (find (is_job job) state.jobs)
  where
    runs : (row : JobRow) → is_unregister row.job.what ≡ false → (b : Bool)
        → IfSome (if b then Some (run_job state row.job) else None) (λ (outcome : Outcome). outcome.told.changes ≡ [])
    runs row is true = job_quietly state row.job is
    runs row is false = tt

    by : (o : Option JobRow) → IfSome o (λ (row : JobRow). is_unregister row.job.what ≡ false)
        → IfSome (elim o [ None ↦ None | Some row ↦ if may_run state row then Some (run_job state row.job) else None ]) (λ (outcome : Outcome). outcome.told.changes ≡ [])
    by None is = tt
    by (Some row) is = runs row is (may_run state row)
