-- What is worked out for jobs is what the rules say.
use Rattle.std.proofs.Common.{◌≡◌, ◌∙◌, ℕ, true, false, List, [], length, Option, Some, None, refl, ap}
use Rattle.std.specs.Prelude.{Result, Ok, Err}
use Rattle.sw_data.specs.declared.answers.Answer.TheVariants as answer
use Rattle.sw_data.specs.declared.answers.Cause.{Cause}
use Rattle.sw_data.specs.declared.answers.Fault.{Fault}
use Rattle.sw_data.specs.declared.answers.Fault.TheVariants as fault
use Rattle.sw_data.specs.declared.answers.StateCause.TheVariants as state_cause
use Rattle.sw_data.specs.declared.events.Who.{Who}
use Rattle.sw_data.specs.declared.recordings.Registering.{Registering}
use Rattle.sw_data.specs.declared.rows.ClientRow.{ClientRow}
use Rattle.sw_data.specs.declared.rows.JobRow.{JobRow}
use Rattle.sw_data.specs.Addresses.{AddressFault, scope_address, script_address}
use Rattle.sw_rules.specs.Jobs.{schedule, scheduled}
use Rattle.sw_rules.specs.Registering as rules
use Rattle.sw_rules.specs.Registering.{rejected, scheduled_by}
use Rattle.sw_rules.specs.Rows.{client_row, newest_worker}
use Rattle.sw_rules.specs.State.{State, Registration, Worker}
use Rattle.sw_rules.specs.Told.{Outcome, answered, followed, type_error}
use Rattle.sw_pages.specs.Acts.{outcome_of}
use Rattle.sw_pages.specs.Jobs.{IsNextJob, asked_job, comes_to, rejects_with, schedules, scoped_job, scripted_job, with_cause}

-- ---- a registration

module _ (state : State) (who : Who) (asked : Registering) (client : ClientRow) where
  -- what the scope's address comes to
  abbrev by_scope : List ℕ → Result (List ℕ) AddressFault → Outcome
  by_scope script found =
      elim found [
        | Err why ↦ rejected state who (type_error (rules.address_cause why))
        | Ok scope ↦ scheduled_by state who (rules.register_job state client asked script scope)
      ]

  at_scope : (script : List ℕ) (found : Result (List ℕ) AddressFault) → by_scope script found
      ≡ outcome_of who (comes_to state.jobs (scoped_job (length state.jobs) client asked script (with_cause found))) state
  unfolding scheduled_by rejected followed
  at_scope script (Ok scope) = refl
  at_scope script (Err why) = refl

  -- what the script's address comes to
  abbrev by_script : Result (List ℕ) AddressFault → Outcome
  by_script found =
      elim found [
        | Err why ↦ rejected state who (type_error (rules.address_cause why))
        | Ok script ↦ by_scope script (scope_address asked.scope script client.url)
      ]

  at_script : (found : Result (List ℕ) AddressFault) → by_script found
      ≡ outcome_of who (comes_to state.jobs (scripted_job (length state.jobs) client asked (with_cause found))) state
  unfolding rejected followed
  at_script (Ok script) = at_scope script (scope_address asked.scope script client.url)
  at_script (Err why) = refl

  abbrev by_client : Option ClientRow → Outcome
  by_client found =
      elim found [
        | None ↦ answered state answer.NoClient
        | Some row ↦
            elim (script_address asked.script row.url) [
              | Err why ↦ rejected state who (type_error (rules.address_cause why))
              | Ok script ↦
                  elim (scope_address asked.scope script row.url) [
                    | Err why ↦ rejected state who (type_error (rules.address_cause why))
                    | Ok scope ↦ scheduled_by state who (rules.register_job state row asked script scope)
                  ]
            ]
      ]

  pub register_given : client_row state asked.client ≡ Some client → rules.register state who asked ≡ outcome_of who (comes_to state.jobs (asked_job (length state.jobs) client asked)) state
  register_given is = ap by_client is ∙ at_script (script_address asked.script client.url)

-- its job has the next number
module _ (jobs : List JobRow) (client : ClientRow) (asked : Registering) where
  next_scoped : (script : List ℕ) (found : Result (List ℕ) Cause) → IsNextJob jobs (scoped_job (length jobs) client asked script found)
  next_scoped script (Ok scope) = refl
  next_scoped script (Err why) = refl

  next_scripted : (found : Result (List ℕ) Cause) → IsNextJob jobs (scripted_job (length jobs) client asked found)
  next_scripted (Ok script) = next_scoped script (with_cause (scope_address asked.scope script client.url))
  next_scripted (Err why) = refl

  pub next_asked : IsNextJob jobs (asked_job (length jobs) client asked)
  next_asked = next_scripted (with_cause (script_address asked.script client.url))

-- ---- an update

module _ (state : State) (who : Who) where
  -- a fault that the promise of the action gets
  rejected_with : (why : Fault) → rejected state who why ≡ outcome_of who (rejects_with why) state
  unfolding rejected followed
  rejected_with why = refl

  module _ (row : Registration) (referrer : List ℕ) where
    -- a job that the action's promise waits for
    updated : (newest : Worker) → scheduled_by state who (rules.update_job state row newest true referrer)
        ≡ outcome_of who (schedules state.jobs (rules.update_job state row newest true referrer)) state
    unfolding scheduled_by
    updated newest = refl

    abbrev by_newest : Option Worker → Outcome
    by_newest found =
        elim found [
          | None ↦ rejected state who (fault.InvalidState state_cause.NoWorker)
          | Some newest ↦ scheduled_by state who (rules.update_job state row newest true referrer)
        ]

    pub newest_updated : (newest : Worker) → newest_worker state row.number ≡ Some newest → rules.update_named state who (Some row) referrer
        ≡ outcome_of who (schedules state.jobs (rules.update_job state row newest true referrer)) state
    newest_updated newest is = ap by_newest is ∙ updated newest

    pub none_updated : newest_worker state row.number ≡ None → rules.update_named state who (Some row) referrer ≡ outcome_of who (rejects_with (fault.InvalidState state_cause.NoWorker)) state
    none_updated is = ap by_newest is ∙ rejected_with (fault.InvalidState state_cause.NoWorker)

  -- ---- unregistering

  pub unregistered : (client : ClientRow) (scope : List ℕ) → scheduled_by state who (rules.unregister_job state client scope)
      ≡ outcome_of who (schedules state.jobs (rules.unregister_job state client scope)) state
  unfolding scheduled_by
  unregistered client scope = refl

  -- ---- an update that nobody waits for

  module _ (row : Registration) where
    abbrev soft_by_newest : Option Worker → Outcome
    soft_by_newest found =
        elim found [
          | None ↦ answered state answer.None
          | Some newest ↦
              record {
                answer = scheduled state (rules.update_job state row newest false []);
                told = schedule state (rules.update_job state row newest false []);
              }
        ]

    pub newest_soft_updated : (newest : Worker) → newest_worker state row.number ≡ Some newest
        → rules.soft_update_named state (Some row) ≡ outcome_of who (schedules state.jobs (rules.update_job state row newest false [])) state
    newest_soft_updated newest is = ap soft_by_newest is

    pub none_soft_updated : newest_worker state row.number ≡ None → rules.soft_update_named state (Some row) ≡ answered state answer.None
    none_soft_updated is = ap soft_by_newest is
