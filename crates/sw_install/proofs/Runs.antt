-- What the run of a job comes to.
use Rattle.std.proofs.Common.{◌≡◌, ◌∙◌, ℕ, true, false, List, [], length, Option, Some, None, find, refl, sym, ap, subst, arith}
use Rattle.std.specs.Option.{option_map_or}
use Rattle.sw_data.specs.declared.answers.Cause.TheVariants as cause
use Rattle.sw_data.specs.declared.answers.Fault.{Fault}
use Rattle.sw_data.specs.declared.answers.Fault.TheVariants as fault
use Rattle.sw_data.specs.declared.answers.SecurityCause.{SecurityCause}
use Rattle.sw_data.specs.declared.answers.Settlement.TheVariants as settlement
use Rattle.sw_data.specs.declared.rows.JobKind.TheVariants as job_kind
use Rattle.sw_data.specs.declared.rows.JobRow.{JobRow}
use Rattle.sw_install.specs.Runs.{is_ready, register_fault, script_of}
use Rattle.sw_rules.specs.Jobs.{resolve_and_finish}
use Rattle.sw_rules.specs.Noticing.{Did, NoticeList}
use Rattle.sw_rules.specs.Registering.{fetch_script, fetching, finished, has_script, is_registered, register_refusal, run, run_allowed_register, run_register, run_update}
use Rattle.sw_rules.specs.Registrations.{map_registration}
use Rattle.sw_rules.specs.Rows.{is_job, mapped_registration}
use Rattle.sw_rules.specs.State.{State, Registration}
use Rattle.sw_rules.specs.Told.{Told, followed, type_error}
use Rattle.sw_tables.proofs.Rows.{found_number}

module _ (state : State) (number : ℕ) (row : JobRow) (is : find (is_job number) state.jobs ≡ Some row) (ready : is_ready state.jobs row ≡ true) where
  own_number : row.job.number ≡ number
  own_number = found_number (λ (r : JobRow). r.job.number) number state.jobs row is

  module _ (updates : row.job.what ≡ job_kind.Update) where
    runs_update : run state number ≡ Some (run_update state row.job)
    runs_update = grind (arith, is, ready, updates)

    pub no_registration : mapped_registration state row.job.key row.job.scope ≡ None
        → run state number ≡ Some (finished (resolve_and_finish state number (settlement.Fault (type_error cause.NoRegistration))))
    unfolding run_update
    no_registration none = runs_update ∙ grind (arith, none, own_number)

    pub other_script : (mapped : Registration) → mapped_registration state row.job.key row.job.scope ≡ Some mapped → has_script state row.job mapped ≡ false
        → run state number ≡ Some (finished (resolve_and_finish state number (settlement.Fault (type_error cause.Script))))
    unfolding run_update
    other_script mapped there has = runs_update ∙ grind (arith, there, has, own_number)

    pub update_fetches : (mapped : Registration) → mapped_registration state row.job.key row.job.scope ≡ Some mapped → has_script state row.job mapped ≡ true
        → run state number ≡ Some (fetching state row.job (fetch_script state row.job mapped.number))
    unfolding run_update
    update_fetches mapped there has = runs_update ∙ grind (arith, there, has)

module _ (state : State) (number : ℕ) (row : JobRow) (is : find (is_job number) state.jobs ≡ Some row) (ready : is_ready state.jobs row ≡ true) (registers : row.job.what ≡ job_kind.Register) where
  own : row.job.number ≡ number
  own = found_number (λ (r : JobRow). r.job.number) number state.jobs row is

  runs_register : run state number ≡ Some (run_register state row.job)
  runs_register = grind (arith, is, ready, registers)

  pub refused : (why : Fault) → register_fault row.job ≡ Some why → run state number ≡ Some (finished (resolve_and_finish state number (settlement.Fault why)))
  unfolding run_register
  refused why fails = runs_register ∙ by (register_refusal row.job) refl
    where
      by : (o : Option SecurityCause) → register_refusal row.job ≡ o → Some (run_register state row.job) ≡ Some (finished (resolve_and_finish state number (settlement.Fault why)))
      by None none = absurd cc
      by (Some w) some = let same : fault.SecurityError w ≡ why = cc in cc (some, same, own)

  allowed : register_fault row.job ≡ None → run state number ≡ Some (run_allowed_register state row.job)
  unfolding run_register
  allowed passes = runs_register ∙ by (register_refusal row.job) refl
    where
      by : (o : Option SecurityCause) → register_refusal row.job ≡ o → Some (run_register state row.job) ≡ Some (run_allowed_register state row.job)
      by None none = cc (none)
      by (Some w) some = absurd cc

  pub registers_new : register_fault row.job ≡ None → mapped_registration state row.job.key row.job.scope ≡ None
      → run state number ≡ Some (fetching state row.job (followed (map_registration state row.job) (λ after. fetch_script after row.job (length state.registrations))))
  unfolding run_allowed_register
  registers_new passes none = allowed passes ∙ cc (none)

  pub registered : register_fault row.job ≡ None → (mapped : Registration) → mapped_registration state row.job.key row.job.scope ≡ Some mapped → is_registered state row.job mapped ≡ true
      → run state number ≡ Some (finished (resolve_and_finish state number (settlement.Registration mapped.number)))
  unfolding run_allowed_register
  registered passes mapped there has = allowed passes ∙ cc (there, has, own)

  pub register_fetches : register_fault row.job ≡ None → (mapped : Registration) → mapped_registration state row.job.key row.job.scope ≡ Some mapped → is_registered state row.job mapped ≡ false
      → run state number ≡ Some (fetching state row.job (fetch_script state row.job mapped.number))
  unfolding run_allowed_register
  register_fetches passes mapped there has = allowed passes ∙ cc (there, has)

-- the script that is drawn is that of the job
pub drawn_as : (told : Told) (before after : NoticeList) (job : ℕ) (jobs : List JobRow) (row : JobRow) → find (is_job job) jobs ≡ Some row → (after_draw : List ℕ → State)
    → Did told before after (after_draw row.job.script) → Did told before after (after_draw (script_of job jobs))
drawn_as told before after job jobs row is after_draw did =
    subst (λ (s : List ℕ). Did told before after (after_draw s))
    (sym (ap (λ (o : Option JobRow). option_map_or (λ (r : JobRow). r.job.script) o []) is)) did
