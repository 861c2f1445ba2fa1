-- Tasks: what the host may do next in a state.
use Rattle.std.specs.Prelude.{ℕ, Bool, false, not, ◌&&◌, List, ◌++◌, map, filter, zip, is_none, Option, Some, None, option_map, option_and_then, slice_get}
use Rattle.std.specs.Option.{option_map_or}
use Rattle.sw_data.specs.declared.events.Event.{Event}
use Rattle.sw_data.specs.declared.events.Event.TheVariants as event
use Rattle.sw_data.specs.declared.events.Who.TheVariants as who
use Rattle.sw_data.specs.declared.histories.Task.{Task}
use Rattle.sw_data.specs.declared.histories.Task.TheVariants as task
use Rattle.sw_data.specs.declared.recordings.Call.{Call}
use Rattle.sw_data.specs.declared.recordings.FetchLine.{FetchLine}
use Rattle.sw_data.specs.declared.recordings.Recording.{Recording}
use Rattle.sw_data.specs.declared.rows.JobRow.{JobRow}
use Rattle.sw_data.specs.Addresses.{without_fragment}
use Rattle.sw_rules.specs.Installing.{calls_of}
use Rattle.sw_rules.specs.Recordings.{line_of}
use Rattle.sw_rules.specs.Registering.{may_run}
use Rattle.sw_rules.specs.Rows.{free_handler, is_in_phase, is_evaluating, is_fetching, is_install, is_installing, job_row, task_row, worker_row}
use Rattle.sw_rules.specs.State.{State, Worker, AddAll, Handler}

-- ---- ready tasks, by kind and then by rising number (own: the order)

-- the numbers of the jobs that pass
abbrev pub jobs_where : (JobRow → Bool) → State → List ℕ
jobs_where test state = map (λ row. row.job.number) (filter test state.jobs)

-- the install handler of the worker that a job made may go on
abbrev pub may_install : State → JobRow → Bool
may_install state row =
    is_in_phase is_installing row
    && option_map_or (λ handler. is_install handler.phase) (option_and_then (free_handler state) row.worker) false

-- the activate handler of a worker may go on
abbrev pub may_activate : State → Worker → Bool
may_activate state worker =
    option_map_or (λ handler. not (is_install handler.phase)) (free_handler state worker.number) false

abbrev pub runs : State → List Task
runs state = map task.Run (jobs_where (may_run state) state)

abbrev pub script_fetches : State → List Task
script_fetches state = map task.Fetch (jobs_where (is_in_phase is_fetching) state)

abbrev pub add_all_fetches : State → List Task
add_all_fetches state = map (λ row. task.FetchAll row.number) (filter (λ row. is_none row.settled) state.tasks)

abbrev pub evaluations : State → List Task
evaluations state = map task.Evaluate (jobs_where (is_in_phase is_evaluating) state)

abbrev pub installs : State → List Task
installs state = map task.Install (jobs_where (may_install state) state)

abbrev pub try_activates : State → List Task
try_activates state = map (λ row. task.TryActivate row.number) (filter (λ row. row.owed) state.registrations)

abbrev pub activates : State → List Task
activates state = map (λ row. task.Activate row.number) (filter (may_activate state) state.workers)

-- the ready tasks; a fetch is ready from its drawing until its event
abbrev pub ready_tasks : State → List Task
ready_tasks state =
    runs state ++ script_fetches state ++ add_all_fetches state ++ evaluations state ++ installs state
    ++ try_activates state ++ activates state

-- ---- the event of a task

-- the next call of a worker's handler, none where it has made all
abbrev pub next_call : State → ℕ → Handler → Option Call
next_call state worker row =
    option_and_then (λ maker. slice_get (calls_of maker row.phase) row.made) (worker_row state worker)

-- the next call of a worker's handler, or else this end of it
abbrev pub call_or : State → Event → ℕ → Handler → Event
call_or state end worker row =
    elim (next_call state worker row) [
      | Some call ↦ event.Call (who.Handler worker row.phase row.made) call
      | None ↦ end
    ]

-- what the handler of a worker does next, where it may go on
abbrev pub handler_event : State → Event → ℕ → Option Event
handler_event state end worker = option_map (call_or state end worker) (free_handler state worker)

-- the line of a job's fetch
abbrev pub job_line : Recording → JobRow → Option FetchLine
job_line recording row = option_and_then (line_of recording (without_fragment row.job.script)) row.fetch

-- the lines of an addAll's fetches, in the order of its requests
abbrev pub add_all_lines : Recording → AddAll → List (Option FetchLine)
add_all_lines recording row =
    map (λ drawn. line_of recording (without_fragment drawn.0.url) drawn.1) (zip row.requests row.fetches)

-- the event of a task
abbrev pub event_of : Recording → State → Task → Option Event
event_of recording state (task.Run job) = Some (event.Run who.Host job)
event_of recording state (task.Fetch job) =
    option_map (λ row. event.Fetched who.Host job (job_line recording row)) (job_row state job)
event_of recording state (task.FetchAll number) =
    option_map (λ row. event.Added who.Host number (add_all_lines recording row)) (task_row state number)
event_of recording state (task.Evaluate job) = Some (event.Evaluated who.Host job)
event_of recording state (task.Install job) =
    option_and_then (handler_event state (event.Installed who.Host job))
    (option_and_then (λ row. row.worker) (job_row state job))
event_of recording state (task.TryActivate registration) = Some (event.TryActivate who.Host registration)
event_of recording state (task.Activate worker) = handler_event state (event.Activated who.Host worker) worker
