-- What an addAll comes to where its fetches have ended.
use Rattle.std.specs.Prelude.{◌≡◌, ◌==◌, ℕ, Bool, true, false, not, List, [], Option, Some, None, find, option_and_then, option_map, slice_get, if◌then◌else◌}
use Rattle.sw_cachestorage.specs.Acts.{acted}
use Rattle.sw_cachestorage.specs.declared.act.CacheStep.{CacheStep}
use Rattle.sw_cachestorage.specs.declared.ended.AddedStep.{AddedStep}
use Rattle.sw_data.specs.declared.answers.Answer.{Answer}
use Rattle.sw_data.specs.declared.answers.Answer.TheVariants as answer
use Rattle.sw_data.specs.declared.answers.Cause.{Cause}
use Rattle.sw_data.specs.declared.answers.Cause.TheVariants as cause
use Rattle.sw_data.specs.declared.answers.Settlement.{Settlement}
use Rattle.sw_data.specs.declared.answers.Settlement.TheVariants as settlement
use Rattle.sw_data.specs.declared.exchange.Op.{Op}
use Rattle.sw_data.specs.declared.exchange.Op.TheVariants as op
use Rattle.sw_data.specs.declared.exchange.Request.{Request}
use Rattle.sw_data.specs.declared.exchange.Response.{Response}
use Rattle.sw_data.specs.declared.recordings.Fetched.{Fetched}
use Rattle.sw_data.specs.declared.recordings.FetchLine.{FetchLine}
use Rattle.sw_data.specs.declared.rows.WorkerRow.{WorkerRow}
use Rattle.sw_rules.specs.Caching.{added, batch_fault, puts_of, responses_fault, run_batch, settle_task, with_cache_pairs}
use Rattle.sw_rules.specs.Installing.{fetched_of, is_ok_status}
use Rattle.sw_rules.specs.Matching.{varies_on_all}
use Rattle.sw_rules.specs.Rows.{changed, is_task, maker_worker}
use Rattle.sw_rules.specs.State.{State, AddAll}
use Rattle.sw_rules.specs.Told.{Told, Outcome, refused}
use Rattle.sw_state.specs.Hosted.{Hosted, state_of}
use Rattle.sw_worker.specs.Edits.{task_counted, with_handler}
use Rattle.sw_worker.specs.Table.{is_worker}

-- own: what an addAll does to its cache, before it settles: nothing where a response is bad, or else the batch of its puts
abbrev pub stored : State → List (Option FetchLine) → AddAll → Outcome
stored state lines row =
    elim (responses_fault 0 row.requests lines) [
      | Some why ↦ refused state why
      | None ↦
          with_cache_pairs state row.key row.name
          (run_batch state row.key row.name (puts_of row.requests lines) answer.Ok batch_fault)
    ]

-- own: what was fetched at a place; none for a network error, or where no line is there
abbrev pub fetched_at : List (Option FetchLine) → ℕ → Option Fetched
fetched_at lines place = option_and_then fetched_of (slice_get lines place)

-- own: the fault of a response
abbrev pub response_fault : Response → Option Cause
response_fault response =
    if not (is_ok_status response.status) then Some cause.Status
    else if response.status == 206 then Some cause.Partial
    else if varies_on_all response.headers then Some cause.Vary
    else None

-- own: the fault of the response at a place; where nothing was fetched, that of the network
abbrev pub fault_at : List (Option FetchLine) → ℕ → Option Cause
fault_at lines place =
    elim (fetched_at lines place) [ None ↦ Some cause.Network | Some fetched ↦ response_fault fetched.response ]

-- own: the put of a request and of the response at a place, where something was fetched
abbrev pub put_at : Request → List (Option FetchLine) → ℕ → Option Op
put_at request lines place = option_map (λ fetched. op.Put request fetched.response) (fetched_at lines place)

-- own: what an addAll settles with, by its answer, and whether that is a fault
abbrev pub value_of : Answer → Settlement
value_of (answer.Fault why) = settlement.Fault why
value_of _ = settlement.Done

abbrev pub is_fault : Answer → Bool
is_fault (answer.Fault why) = true
is_fault _ = false

-- own: an addAll that settles with what was done to its cache
abbrev pub settled_by : CacheStep → AddedStep
settled_by step = record {
  answer = step.answer;
  act = step.act;
  changes = step.changes;
  value = value_of step.answer;
  faulted = is_fault step.answer;
}

-- own: the caches become what the step says, and the addAll settles
abbrev pub told_by_added : AddedStep → ℕ → State → Told
told_by_added step task state =
    settle_task (record state { caches = acted step.act state.caches }) task step.value step.faulted

-- own: an outcome is what this step comes to, has its durable changes, and tells nothing else
pub record IsAdded (outcome : Outcome) (state : State) (task : ℕ) (step : AddedStep) : Type 0 where
  pub answer : outcome.answer ≡ step.answer
  pub notices : outcome.told.notices ≡ []
  pub state_is : outcome.told.state ≡ (told_by_added step task state).state
  pub changes : outcome.told.changes ≡ step.changes

-- own: the end of an addAll's fetches is enabled on a host, and comes to this step
abbrev pub IsEnded : ℕ → List (Option FetchLine) → Hosted → AddedStep → Type 0
IsEnded task lines host step =
    (outcome : Outcome) × (added (state_of host) task lines ≡ Some outcome) × IsAdded outcome (state_of host) task step

-- own: the worker whose handler made an addAll, if one did
abbrev pub maker_of : ℕ → List AddAll → Option ℕ
maker_of task tasks = option_and_then (λ row. maker_worker row.maker) (find (is_task task) tasks)

-- own: the handler of a worker notes that an addAll of it has settled, where there is such a worker
abbrev pub noted_settled : Option ℕ → Bool → List WorkerRow → List WorkerRow
noted_settled None fault rows = rows
noted_settled (Some worker) fault rows = changed (is_worker worker) (with_handler (task_counted fault)) rows
