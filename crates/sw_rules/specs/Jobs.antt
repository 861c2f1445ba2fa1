-- Jobs and their promises (Service Workers, Appendix A, "Create Job" to "Reject Job Promise").
use Rattle.std.specs.Prelude.{ℕ, ◌+◌, Bool, true, false, ◌&&◌, ◌||◌, List, [], ◌∷◌, ◌++◌, map, filter, find, bytes_eq, is_none, Option, Some, None, option_and_then, if◌then◌else◌}
use Rattle.std.specs.List.{list_any}
use Rattle.std.specs.Option.{option_map_or}
use Rattle.sw_data.specs.declared.answers.Answer.{Answer}
use Rattle.sw_data.specs.declared.answers.Answer.TheVariants as answer
use Rattle.sw_data.specs.declared.answers.Notice.TheVariants as notice
use Rattle.sw_data.specs.declared.answers.Settlement.{Settlement}
use Rattle.sw_data.specs.declared.events.Who.{Who}
use Rattle.sw_data.specs.declared.events.Who.TheVariants as who
use Rattle.sw_data.specs.declared.rows.Job.{Job}
use Rattle.sw_data.specs.declared.rows.JobKind.{JobKind}
use Rattle.sw_data.specs.declared.rows.JobKind.TheVariants as job_kind
use Rattle.sw_data.specs.declared.rows.JobPhase.TheVariants as job_phase
use Rattle.sw_data.specs.declared.rows.JobRow.{JobRow}
use Rattle.sw_data.specs.declared.workers.Kind.{Kind}
use Rattle.sw_data.specs.declared.workers.Kind.TheVariants as kind
use Rattle.sw_data.specs.declared.workers.Mode.{Mode}
use Rattle.sw_data.specs.declared.workers.Mode.TheVariants as mode
use Rattle.sw_data.specs.Addresses.{without_fragment}
use Rattle.sw_rules.specs.Rows.{changed, is_job, is_number, is_promise, job_row, last_job, promise_row, task_row, without}
use Rattle.sw_rules.specs.State.{State, Awaited, Draws, value, of_job, of_task}
use Rattle.sw_rules.specs.Told.{Told, followed, quiet}

-- ---- equivalent jobs

abbrev pub same_job_kind : JobKind → JobKind → Bool
same_job_kind job_kind.Register job_kind.Register = true
same_job_kind job_kind.Update job_kind.Update = true
same_job_kind job_kind.Unregister job_kind.Unregister = true
same_job_kind _ _ = false

abbrev pub same_kind : Kind → Kind → Bool
same_kind kind.Classic kind.Classic = true
same_kind kind.Module kind.Module = true
same_kind _ _ = false

abbrev pub same_mode : Mode → Mode → Bool
same_mode mode.Imports mode.Imports = true
same_mode mode.All mode.All = true
same_mode mode.Never mode.Never = true
same_mode _ _ = false

-- the job is one of unregistering, for which key and scope alone count
abbrev pub is_unregister : JobKind → Bool
is_unregister job_kind.Unregister = true
is_unregister _ = false

-- two jobs are equivalent (Service Workers, Appendix A, "equivalent"; the key is own)
abbrev pub is_equivalent : Job → Job → Bool
is_equivalent one other =
    same_job_kind one.what other.what
    && bytes_eq one.key other.key && bytes_eq one.scope other.scope
    && (is_unregister one.what
    || (bytes_eq one.script other.script && same_kind one.kind other.kind && same_mode one.mode other.mode))

-- ---- Schedule Job

-- the job that a new job joins: the last one of its queue, where the two are equivalent and its promise has not settled
abbrev pub joined_job : State → Job → Option ℕ
joined_job state job =
    option_and_then
    (λ last. if is_equivalent job last.job && is_none last.settled then Some last.job.number else None)
    (last_job job.key job.scope state.jobs)

-- the row of a job that was just scheduled
abbrev pub new_job_row : Job → Option ℕ → JobRow
new_job_row job leader = record {
  job = job;
  leader = leader;
  phase = job_phase.Waiting;
  settled = None;
  registration = None;
  fetch = None;
  remembered = None;
  worker = None;
}

-- a job joins the last one of its queue, or stands last in it (Service Workers, Appendix A, "Schedule Job")
unfoldable pub schedule : State → Job → Told
schedule state job =
    quiet (record state { jobs = state.jobs ++ new_job_row job (joined_job state job) ∷ [] })

-- the answer of scheduling
abbrev pub scheduled : State → Job → Answer
scheduled state job =
    elim (joined_job state job) [
      | None ↦ answer.Job job.number
      | Some leader ↦ answer.Joined job.number leader
    ]

-- ---- Resolve Job Promise, Reject Job Promise, Finish Job

-- a job gets the value of this one: it is this job or has joined it, and has no value yet
abbrev pub gets_value : ℕ → JobRow → Bool
gets_value job row = (is_job job row || is_number row.leader job) && is_none row.settled

-- the promise of a job and those of the jobs that joined it get a value (Service Workers, Appendix A, "Resolve Job Promise", "Reject Job Promise")
unfoldable pub settle : State → ℕ → Settlement → Told
settle state job result = record {
  state = record state { jobs = changed (gets_value job) (λ row. record row { settled = Some result }) state.jobs };
  notices =
      map (λ row. notice.Settled row.job.number result)
      (filter (λ row. gets_value job row && row.job.has_client) state.jobs);
  changes = [];
}

-- a job leaves its queue (Service Workers, Appendix A, "Finish Job")
unfoldable pub finish : State → ℕ → Told
finish state job =
    quiet (record state { jobs = changed (is_job job) (λ row. record row { phase = job_phase.Done }) state.jobs })

-- the promise of a job gets a value, and the job leaves its queue
unfoldable pub resolve_and_finish : State → ℕ → Settlement → Told
resolve_and_finish state job result = followed (settle state job result) (λ settled. finish settled job)

-- ---- promises of actions

-- the promise of an action takes the place of an earlier one of that lane and position; another maker has none
unfoldable pub promise : State → Who → Awaited → Told
promise state (who.Lane lane at) awaited =
    quiet (record state {
      promises = without (is_promise lane at) state.promises ++ record { lane = lane; at = at; awaited = awaited } ∷ [];
    })
promise state _ awaited = quiet state

-- the value of what a promise waits for, where it has one
abbrev pub awaited_value : State → Awaited → Option Settlement
awaited_value state (value result) = Some result
awaited_value state (of_job job) = option_and_then (λ row. row.settled) (job_row state job)
awaited_value state (of_task task) = option_and_then (λ row. row.settled) (task_row state task)

-- the value of the promise of an action, where it has settled
abbrev pub promised_value : State → ℕ → ℕ → Option Settlement
promised_value state lane at = option_and_then (λ row. awaited_value state row.awaited) (promise_row state lane at)

-- ---- drawn numbers

abbrev pub is_draw_of : List ℕ → Draws → Bool
is_draw_of address row = bytes_eq row.address address

-- the number that the next fetch of an address gets (own)
abbrev pub next_draw : List Draws → List ℕ → ℕ
next_draw draws address = option_map_or (λ row. row.number) (find (is_draw_of (without_fragment address)) draws) 0

-- one more fetch of an address, without its fragment, is drawn
abbrev pub with_draw : List Draws → List ℕ → List Draws
with_draw draws address =
    if list_any (is_draw_of (without_fragment address)) draws
    then changed (is_draw_of (without_fragment address)) (λ row. record row { number = row.number + 1 }) draws
    else draws ++ record { address = without_fragment address; number = 1 } ∷ []
