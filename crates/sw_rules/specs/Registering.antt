-- Registering, updating and unregistering: the actions that make jobs, and the run of a job.
use Rattle.std.specs.Prelude.{ℕ, Bool, true, false, not, ◌&&◌, List, [], length, bytes_eq, Option, Some, None, Ok, Err, if◌then◌else◌}
use Rattle.std.specs.Option.{option_map_or}
use Rattle.sw_data.specs.declared.answers.Answer.TheVariants as answer
use Rattle.sw_data.specs.declared.answers.Cause.{Cause}
use Rattle.sw_data.specs.declared.answers.Cause.TheVariants as cause
use Rattle.sw_data.specs.declared.answers.Fault.{Fault}
use Rattle.sw_data.specs.declared.answers.Fault.TheVariants as fault
use Rattle.sw_data.specs.declared.answers.SecurityCause.{SecurityCause}
use Rattle.sw_data.specs.declared.answers.SecurityCause.TheVariants as security
use Rattle.sw_data.specs.declared.answers.Settlement.TheVariants as settlement
use Rattle.sw_data.specs.declared.answers.StateCause.TheVariants as state_cause
use Rattle.sw_data.specs.declared.events.Who.{Who}
use Rattle.sw_data.specs.declared.recordings.ClientScope.{ClientScope}
use Rattle.sw_data.specs.declared.recordings.Registering.{Registering}
use Rattle.sw_data.specs.declared.rows.ClientRow.{ClientRow}
use Rattle.sw_data.specs.declared.rows.Job.{Job}
use Rattle.sw_data.specs.declared.rows.JobKind.TheVariants as job_kind
use Rattle.sw_data.specs.declared.rows.JobPhase.TheVariants as job_phase
use Rattle.sw_data.specs.declared.rows.JobRow.{JobRow}
use Rattle.sw_data.specs.declared.workers.Kind.TheVariants as kind
use Rattle.sw_data.specs.declared.workers.Mode.TheVariants as mode
use Rattle.sw_data.specs.Addresses.{AddressFault, Unparsed, Scheme, EscapedSlash, is_trustworthy, same_origin, scope_address, script_address}
use Rattle.sw_rules.specs.Jobs.{finish, next_draw, promise, resolve_and_finish, same_kind, same_mode, schedule, scheduled, settle, with_draw}
use Rattle.sw_rules.specs.Registrations.{map_registration, try_clear, unmap}
use Rattle.sw_rules.specs.Rows.{changed, client_row, is_in_phase, is_first, is_job, is_waiting, job_row, mapped_registration, named_scope, newest_worker}
use Rattle.sw_rules.specs.State.{State, Registration, Worker, of_job, value}
use Rattle.sw_rules.specs.Told.{Told, Outcome, answered, followed, quiet, type_error}

-- ---- actions

-- an action of a client that is open
abbrev pub with_client : State → ℕ → (ClientRow → Outcome) → Outcome
with_client state number act =
    elim (client_row state number) [ None ↦ answered state answer.NoClient | Some client ↦ act client ]

-- a fault that the promise of the action gets
unfoldable pub rejected : State → Who → Fault → Outcome
rejected state who why =
    record { answer = answer.Fault why; told = promise state who (value (settlement.Fault why)) }

-- a job is scheduled, and the promise of the action waits for it
unfoldable pub scheduled_by : State → Who → Job → Outcome
scheduled_by state who job = record {
  answer = scheduled state job;
  told = followed (schedule state job) (λ after. promise after who (of_job job.number));
}

abbrev pub address_cause : AddressFault → Cause
address_cause Unparsed = cause.Unparsed
address_cause Scheme = cause.Scheme
address_cause EscapedSlash = cause.EscapedSlash

-- the job of a registration
abbrev pub register_job : State → ClientRow → Registering → List ℕ → List ℕ → Job
register_job state client register script scope = record {
  number = length state.jobs;
  what = job_kind.Register;
  key = client.key;
  scope = scope;
  script = script;
  kind = register.kind;
  mode = register.mode;
  has_client = true;
  referrer = client.url;
}

-- a client registers a script for a scope (Service Workers, Appendix A, "Start Register")
abbrev pub register : State → Who → Registering → Outcome
register state who asked =
    with_client state asked.client (λ client.
    elim (script_address asked.script client.url) [
      | Err why ↦ rejected state who (type_error (address_cause why))
      | Ok script ↦
          elim (scope_address asked.scope script client.url) [
            | Err why ↦ rejected state who (type_error (address_cause why))
            | Ok scope ↦ scheduled_by state who (register_job state client asked script scope)
          ]
    ])

-- the job of an update of a registration whose newest worker is this one
abbrev pub update_job : State → Registration → Worker → Bool → List ℕ → Job
update_job state row newest has_client referrer = record {
  number = length state.jobs;
  what = job_kind.Update;
  key = row.key;
  scope = row.scope;
  script = newest.script;
  kind = newest.kind;
  mode = row.mode;
  has_client = has_client;
  referrer = referrer;
}

-- an update of a registration that is named, or isn't there (Service Workers, ServiceWorkerRegistration, "update()")
abbrev pub update_named : State → Who → Option Registration → List ℕ → Outcome
update_named state who None referrer = rejected state who fault.NoRegistration
update_named state who (Some row) referrer =
    elim (newest_worker state row.number) [
      | None ↦ rejected state who (fault.InvalidState state_cause.NoWorker)
      | Some newest ↦ scheduled_by state who (update_job state row newest true referrer)
    ]

-- a client updates a registration
abbrev pub update : State → Who → ClientScope → Outcome
update state who of =
    with_client state of.client (λ client.
    elim (named_scope client of.scope) [
      | None ↦ rejected state who (type_error cause.Unparsed)
      | Some scope ↦ update_named state who (mapped_registration state client.key scope) client.url
    ])

-- an update that nobody waits for (Service Workers, Appendix A, "Soft Update")
abbrev pub soft_update_named : State → Option Registration → Outcome
soft_update_named state None = answered state (answer.Fault fault.NoRegistration)
soft_update_named state (Some row) =
    elim (newest_worker state row.number) [
      | None ↦ answered state answer.None
      | Some newest ↦
          let job = update_job state row newest false [] in
          record { answer = scheduled state job; told = schedule state job }
    ]

abbrev pub soft_update : State → ClientScope → Outcome
soft_update state of =
    with_client state of.client (λ client.
    elim (named_scope client of.scope) [
      | None ↦ answered state (answer.Fault (type_error cause.Unparsed))
      | Some scope ↦ soft_update_named state (mapped_registration state client.key scope)
    ])

-- the job of unregistering
abbrev pub unregister_job : State → ClientRow → List ℕ → Job
unregister_job state client scope = record {
  number = length state.jobs;
  what = job_kind.Unregister;
  key = client.key;
  scope = scope;
  script = [];
  kind = kind.Classic;
  mode = mode.Imports;
  has_client = true;
  referrer = client.url;
}

-- a client unregisters a scope (Service Workers, ServiceWorkerRegistration, "unregister()")
abbrev pub unregister : State → Who → ClientScope → Outcome
unregister state who of =
    with_client state of.client (λ client.
    elim (named_scope client of.scope) [
      | None ↦ rejected state who (type_error cause.Unparsed)
      | Some scope ↦ scheduled_by state who (unregister_job state client scope)
    ])

-- ---- the run of a job (Service Workers, Appendix A, "Run Job")

-- a job is over
abbrev pub finished : Told → Outcome
finished told = record { answer = answer.Finished; told = told }

-- the first security fault of a register job
abbrev pub register_refusal : Job → Option SecurityCause
register_refusal job =
    if not (is_trustworthy job.script) then Some security.Untrusted
    else if not (same_origin job.script job.referrer) then Some security.ScriptOrigin
    else if not (same_origin job.scope job.referrer) then Some security.ScopeOrigin
    else None

-- a job's script is to be fetched for this registration: the fetch gets its number
unfoldable pub fetch_script : State → Job → ℕ → Told
fetch_script state job registration =
    quiet (record state {
      jobs =
          changed (is_job job.number)
          (λ row. record row {
            phase = job_phase.Fetching;
            registration = Some registration;
            fetch = Some (next_draw state.draws job.script);
          })
          state.jobs;
      draws = with_draw state.draws job.script;
    })

-- a job goes on to the fetch of its script
abbrev pub fetching : State → Job → Told → Outcome
fetching state job told = record { answer = answer.Fetch (next_draw state.draws job.script); told = told }

-- a registration has this script, type and mode already
abbrev pub is_registered : State → Job → Registration → Bool
is_registered state job row =
    option_map_or
    (λ newest. bytes_eq newest.script job.script && same_kind newest.kind job.kind && same_mode row.mode job.mode)
    (newest_worker state row.number) false

-- a register job runs, its addresses being allowed (Service Workers, Appendix A, "Register")
unfoldable pub run_allowed_register : State → Job → Outcome
run_allowed_register state job =
    elim (mapped_registration state job.key job.scope) [
      | None ↦
          fetching state job
          (followed (map_registration state job) (λ after. fetch_script after job (length state.registrations)))
      | Some row ↦
          if is_registered state job row
          then finished (resolve_and_finish state job.number (settlement.Registration row.number))
          else fetching state job (fetch_script state job row.number)
    ]

-- a register job runs (Service Workers, Appendix A, "Register")
unfoldable pub run_register : State → Job → Outcome
run_register state job =
    elim (register_refusal job) [
      | Some why ↦ finished (resolve_and_finish state job.number (settlement.Fault (fault.SecurityError why)))
      | None ↦ run_allowed_register state job
    ]

-- the newest worker, if any, has the job's script
abbrev pub has_script : State → Job → Registration → Bool
has_script state job row =
    option_map_or (λ newest. bytes_eq newest.script job.script) (newest_worker state row.number) true

-- an update job runs (Service Workers, Appendix A, "Update", before the fetch)
unfoldable pub run_update : State → Job → Outcome
run_update state job =
    elim (mapped_registration state job.key job.scope) [
      | None ↦
          finished (resolve_and_finish state job.number (settlement.Fault (type_error cause.NoRegistration)))
      | Some row ↦
          if has_script state job row then fetching state job (fetch_script state job row.number)
          else finished (resolve_and_finish state job.number (settlement.Fault (type_error cause.Script)))
    ]

-- a registration leaves the map, its job's promise resolves, and it is cleared where it may be
unfoldable pub unregister_mapped : State → Job → ℕ → Told
unregister_mapped state job registration =
    followed (unmap state registration) (λ unmapped.
    followed (settle unmapped job.number (settlement.Truth true)) (λ settled.
    followed (try_clear settled registration) (λ cleared. finish cleared job.number)))

-- an unregister job runs (Service Workers, Appendix A, "Unregister")
unfoldable pub run_unregister : State → Job → Outcome
run_unregister state job =
    if same_origin job.scope job.referrer
    then
    elim (mapped_registration state job.key job.scope) [
      | None ↦ finished (resolve_and_finish state job.number (settlement.Truth false))
      | Some row ↦ finished (unregister_mapped state job row.number)
    ]
    else finished (resolve_and_finish state job.number (settlement.Fault (fault.SecurityError security.ScopeOrigin)))

abbrev pub run_job : State → Job → Outcome
run_job state job =
    elim job.what [
      | job_kind.Register ↦ run_register state job
      | job_kind.Update ↦ run_update state job
      | job_kind.Unregister ↦ run_unregister state job
    ]

-- a job may run: it is waiting, and stands first in its queue
abbrev pub may_run : State → JobRow → Bool
may_run state row = is_in_phase is_waiting row && is_first state.jobs row

-- a job runs, where it may
abbrev pub run : State → ℕ → Option Outcome
run state number =
    elim (job_row state number) [
      | None ↦ None
      | Some row ↦ if may_run state row then Some (run_job state row.job) else None
    ]
