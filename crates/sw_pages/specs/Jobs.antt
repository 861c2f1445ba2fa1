-- The jobs that actions make, and what an action comes to where it makes one.
use Rattle.std.specs.Prelude.{◌≡◌, ℕ, true, List, [], length, is_some, Option, Some, None, Result, Ok, Err, if◌then◌else◌}
use Rattle.std.specs.Option.{unwrap_or}
use Rattle.sw_data.specs.declared.answers.Answer.{Answer}
use Rattle.sw_data.specs.declared.answers.Answer.TheVariants as answer
use Rattle.sw_data.specs.declared.answers.Cause.{Cause}
use Rattle.sw_data.specs.declared.answers.Fault.{Fault}
use Rattle.sw_data.specs.declared.answers.Settlement.TheVariants as settlement
use Rattle.sw_data.specs.declared.recordings.Registering.{Registering}
use Rattle.sw_data.specs.declared.rows.ClientRow.{ClientRow}
use Rattle.sw_data.specs.declared.rows.Job.{Job}
use Rattle.sw_data.specs.declared.rows.JobKind.TheVariants as job_kind
use Rattle.sw_data.specs.declared.rows.JobRow.{JobRow}
use Rattle.sw_data.specs.declared.rows.RegistrationRow.{RegistrationRow}
use Rattle.sw_data.specs.declared.rows.WorkerRow.{WorkerRow}
use Rattle.sw_data.specs.declared.workers.Kind.TheVariants as kind
use Rattle.sw_data.specs.declared.workers.Mode.TheVariants as mode
use Rattle.sw_data.specs.Addresses.{AddressFault, scope_address, script_address}
use Rattle.sw_ledgers.specs.declared.promises.Awaited.TheVariants as awaited
use Rattle.sw_queue.specs.Tables.{joined_in}
use Rattle.sw_rules.specs.Jobs.{new_job_row}
use Rattle.sw_rules.specs.Registering.{address_cause}
use Rattle.sw_rules.specs.Told.{type_error}
use Rattle.sw_pages.specs.declared.worked.PageAct.TheVariants as act
use Rattle.sw_pages.specs.declared.worked.Worked.{Worked}

-- own: the answer for a job that joined this one, or none
abbrev pub job_answer : ℕ → Option ℕ → Answer
job_answer number leader =
    elim leader [
      | None ↦ answer.Job number
      | Some leader ↦ answer.Joined number leader
    ]

-- own: a job is scheduled behind these; where it has a client, the promise of the action waits for it
abbrev pub schedules : List JobRow → Job → Worked
schedules jobs job = record {
  answer = job_answer job.number (joined_in jobs job);
  act = act.Schedule (new_job_row job (joined_in jobs job));
  awaited = if job.has_client then Some (awaited.Job job.number) else None;
}

-- own: what an action comes to by the job that it makes, or without one
abbrev pub comes_to : List JobRow → Result Job Worked → Worked
comes_to jobs (Ok job) = schedules jobs job
comes_to jobs (Err worked) = worked

-- own: the job has the next number; without one nothing is done
abbrev pub IsNextJob : List JobRow → Result Job Worked → Type 0
IsNextJob jobs (Ok job) = job.number ≡ length jobs
IsNextJob jobs (Err worked) = worked.act ≡ act.Nothing

-- own: a fault, which the promise of the action gets
abbrev pub rejects_with : Fault → Worked
rejects_with why = record {
  answer = answer.Fault why;
  act = act.Nothing;
  awaited = Some (awaited.Value (settlement.Fault why));
}

-- ---- the jobs

-- own: an address, or the cause of its refusal
abbrev pub with_cause : Result (List ℕ) AddressFault → Result (List ℕ) Cause
with_cause (Ok address) = Ok address
with_cause (Err why) = Err (address_cause why)

-- the job of a registration whose addresses are allowed (Service Workers, Appendix A, "Start Register")
abbrev pub register_job : ℕ → ClientRow → Registering → List ℕ → List ℕ → Job
register_job number client asked script scope = record {
  number = number;
  what = job_kind.Register;
  key = client.key;
  scope = scope;
  script = script;
  kind = asked.kind;
  mode = asked.mode;
  has_client = true;
  referrer = client.url;
}

-- own: the job of a registration, or what it comes to where its scope is refused
abbrev pub scoped_job : ℕ → ClientRow → Registering → List ℕ → Result (List ℕ) Cause → Result Job Worked
scoped_job number client asked script (Ok scope) = Ok (register_job number client asked script scope)
scoped_job number client asked script (Err why) = Err (rejects_with (type_error why))

-- own: the job of a registration, or what it comes to where its script or its scope is refused
abbrev pub scripted_job : ℕ → ClientRow → Registering → Result (List ℕ) Cause → Result Job Worked
scripted_job number client asked (Ok script) =
    scoped_job number client asked script (with_cause (scope_address asked.scope script client.url))
scripted_job number client asked (Err why) = Err (rejects_with (type_error why))

-- own: the job of an open client's registration, or what it comes to where an address of it is refused
abbrev pub asked_job : ℕ → ClientRow → Registering → Result Job Worked
asked_job number client asked =
    scripted_job number client asked (with_cause (script_address asked.script client.url))

-- the job of an update of a registration whose newest worker is this one, for a client of this address, or for none (Service Workers, Appendix A, "Update" and "Soft Update")
abbrev pub update_job : ℕ → RegistrationRow → WorkerRow → Option (List ℕ) → Job
update_job number row newest client = record {
  number = number;
  what = job_kind.Update;
  key = row.key;
  scope = row.scope;
  script = newest.script;
  kind = newest.kind;
  mode = row.mode;
  has_client = is_some client;
  referrer = unwrap_or client [];
}

-- the job of unregistering (Service Workers, ServiceWorkerRegistration, "unregister()")
abbrev pub unregister_job : ℕ → ClientRow → List ℕ → Job
unregister_job number client scope = record {
  number = number;
  what = job_kind.Unregister;
  key = client.key;
  scope = scope;
  script = [];
  kind = kind.Classic;
  mode = mode.Imports;
  has_client = true;
  referrer = client.url;
}
