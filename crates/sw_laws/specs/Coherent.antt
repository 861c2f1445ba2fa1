-- What holds of the rows of every state that a legal history leaves (own).
use Rattle.std.specs.Prelude.{◌≡◌, ℕ, Bool, true, false, not, ◌&&◌, ◌||◌, ◌==◌, nat_lt, List, [], ◌∷◌, map, length, find, bytes_eq, is_some, Option, Some, None, if◌then◌else◌}
use Rattle.std.specs.List.{list_all, list_any, range_with_len}
use Rattle.std.specs.Option.{option_map_or}
use Rattle.sw_data.specs.declared.rows.ClientRow.{ClientRow}
use Rattle.sw_data.specs.declared.rows.JobPhase.{JobPhase}
use Rattle.sw_data.specs.declared.rows.JobPhase.TheVariants as job_phase
use Rattle.sw_data.specs.declared.rows.JobRow.{JobRow}
use Rattle.sw_data.specs.declared.storage.KeptCache.{KeptCache}
use Rattle.sw_data.specs.declared.workers.WorkerState.{WorkerState}
use Rattle.sw_data.specs.declared.workers.WorkerState.TheVariants as worker_state
use Rattle.sw_rules.specs.Rows.{has_worker, in_queue, is_in_phase, is_activated, is_activating, is_active, is_evaluating, is_install, is_installing, is_job, is_number, is_unfinished, is_waiting, maker_worker}
use Rattle.sw_rules.specs.State.{State, Registration, Worker, Awaited, AddAll, FetchEvent, value, of_job, of_task}
use Rattle.sw_rules.specs.Storage.{is_cache}

-- ---- lists of rows

-- no row clashes with a later one
abbrev pub apart : {X : Type 0} → (X → X → Bool) → List X → Bool
apart clash [] = true
apart clash (row ∷ rows) = list_all (λ later. not (clash row later)) rows && apart clash rows

-- each row's number is its place
abbrev pub ArePlaces : {X : Type 0} → (X → ℕ) → List X → Type 0
ArePlaces number rows = map number rows ≡ range_with_len 0 (length rows)

-- a number is that of a row, where numbers are places
abbrev pub is_place : {X : Type 0} → List X → ℕ → Bool
is_place rows number = nat_lt number (length rows)

-- ---- registrations

-- both are mapped, with one key and scope
abbrev pub same_scope : Registration → Registration → Bool
same_scope one other = one.mapped && other.mapped && bytes_eq one.key other.key && bytes_eq one.scope other.scope

pub record SoundRegistrations (rows : List Registration) : Type 0 where
  pub numbers : ArePlaces (λ row. row.number) rows
  pub scopes : apart same_scope rows ≡ true

-- ---- workers

abbrev pub is_parsed : Worker → Bool
is_parsed row = elim row.state [ worker_state.Parsed ↦ true | _ ↦ false ]

abbrev pub is_being_installed : Worker → Bool
is_being_installed row = elim row.state [ worker_state.Installing ↦ true | _ ↦ false ]

-- an install handler runs exactly while its worker installs, and an activate handler exactly while it activates
abbrev pub has_its_handler : Worker → Bool
has_its_handler row =
    elim row.handler [
      | None ↦ not (is_being_installed row) && not (is_activating row)
      | Some handler ↦ if is_install handler.phase then is_being_installed row else is_activating row
    ]

-- both states stand in one slot
abbrev pub same_slot : WorkerState → WorkerState → Bool
same_slot worker_state.Installing worker_state.Installing = true
same_slot worker_state.Installed worker_state.Installed = true
same_slot worker_state.Activating worker_state.Activating = true
same_slot worker_state.Activating worker_state.Activated = true
same_slot worker_state.Activated worker_state.Activating = true
same_slot worker_state.Activated worker_state.Activated = true
same_slot _ _ = false

-- both stand in one slot of one registration
abbrev pub share_slot : Worker → Worker → Bool
share_slot one other = one.registration == other.registration && same_slot one.state other.state

pub record SoundWorkers (registrations : List Registration) (rows : List Worker) : Type 0 where
  pub numbers : ArePlaces (λ row. row.number) rows
  pub slots : apart share_slot rows ≡ true
  pub handlers : list_all has_its_handler rows ≡ true
  pub owners : list_all (λ row. is_place registrations row.registration) rows ≡ true

-- ---- jobs

-- a later job of the same queue is past waiting
abbrev pub is_early : JobRow → JobRow → Bool
is_early first later =
    is_unfinished first && in_queue first.job.key first.job.scope later && not (is_waiting later.phase)

-- in these phases a job's promise has settled
abbrev pub is_settled_phase : JobPhase → Bool
is_settled_phase job_phase.Installing = true
is_settled_phase job_phase.Done = true
is_settled_phase _ = false

-- a job that joined this one waits, and has the value of that one, which joined none
abbrev pub HasValueOf : List JobRow → JobRow → Option ℕ → Type 0
HasValueOf rows row None = Unit {0}
HasValueOf rows row (Some leader) =
    (is_waiting row.phase ≡ true)
    × ((first : JobRow)
    × (find (is_job leader) rows ≡ Some first) × (first.leader ≡ None) × (first.settled ≡ row.settled))

-- a job has the value of the one that it joined
abbrev pub HasLeadersValue : List JobRow → Option JobRow → Type 0
HasLeadersValue rows None = Unit {0}
HasLeadersValue rows (Some row) = HasValueOf rows row row.leader

-- two jobs have made one worker
abbrev pub share_worker : JobRow → JobRow → Bool
share_worker one other = option_map_or (is_number other.worker) one.worker false

pub record SoundJobs (rows : List JobRow) : Type 0 where
  pub numbers : ArePlaces (λ row. row.job.number) rows
  pub queues : apart is_early rows ≡ true
  pub settled : list_all (λ row. not (is_settled_phase row.phase) || is_some row.settled) rows ≡ true
  pub joined : (number : ℕ) → HasLeadersValue rows (find (is_job number) rows)
  pub workers : apart share_worker rows ≡ true

-- ---- jobs, their registrations and their workers

-- the registration of a job has its key and scope
abbrev pub has_own_registration : List Registration → JobRow → Bool
has_own_registration registrations row =
    option_map_or
    (λ number.
    list_any
    (λ found. found.number == number && bytes_eq found.key row.job.key && bytes_eq found.scope row.job.scope)
    registrations)
    row.registration true

-- the worker that a job made is of its registration, and passes
abbrev pub has_made : (Worker → Bool) → List Worker → JobRow → Bool
has_made test workers row =
    option_map_or (has_worker (λ worker. is_number row.registration worker.registration && test worker) workers)
    row.worker false

-- a job that fetches has a registration, and one that evaluates or installs has a worker that is parsed or installs
abbrev pub has_its_worker : List Worker → JobRow → Bool
has_its_worker workers row =
    (not (is_unfinished row) || is_waiting row.phase || is_some row.registration)
    && (not (is_in_phase is_evaluating row) || has_made is_parsed workers row)
    && (not (is_in_phase is_installing row) || has_made is_being_installed workers row)

-- a worker that installs is the one of a job that installs
abbrev pub has_its_job : List JobRow → Worker → Bool
has_its_job jobs worker =
    not (is_being_installed worker)
    || list_any
    (λ row. is_in_phase is_installing row && is_number row.worker worker.number && is_number row.registration worker.registration)
    jobs

-- the worker of a job is there
abbrev pub has_worker_row : List Worker → JobRow → Bool
has_worker_row workers row = option_map_or (is_place workers) row.worker true

pub record SoundWork (registrations : List Registration) (workers : List Worker) (jobs : List JobRow) : Type 0 where
  pub keys : list_all (has_own_registration registrations) jobs ≡ true
  pub made : list_all (has_worker_row workers) jobs ≡ true
  pub phases : list_all (has_its_worker workers) jobs ≡ true
  pub installing : list_all (has_its_job jobs) workers ≡ true

-- ---- addAlls

-- the handler of this maker runs
abbrev pub is_running : List Worker → Option ℕ → Bool
is_running workers None = true
is_running workers (Some worker) = has_worker (λ row. is_some row.handler) workers worker

-- an addAll whose promise hasn't settled has its handler running, where a handler made it
abbrev pub maker_runs : List Worker → AddAll → Bool
maker_runs workers row = is_some row.settled || is_running workers (maker_worker row.maker)

pub record SoundTasks (workers : List Worker) (rows : List AddAll) : Type 0 where
  pub numbers : ArePlaces (λ row. row.number) rows
  pub makers : list_all (maker_runs workers) rows ≡ true

-- ---- clients

abbrev pub same_client : ClientRow → ClientRow → Bool
same_client one other = one.number == other.number

-- a controller is an active worker
abbrev pub is_controlled : List Worker → ClientRow → Bool
is_controlled workers client = option_map_or (has_worker (λ row. is_active row.state) workers) client.controller true

-- the registration of a worker has this key
abbrev pub is_of_key : List Registration → List ℕ → Worker → Bool
is_of_key registrations key worker =
    list_any (λ row. row.number == worker.registration && bytes_eq row.key key) registrations

-- a client with a controller is secure, and has the key of the controller's registration
abbrev pub is_secured : List Registration → List Worker → ClientRow → Bool
is_secured registrations workers client =
    option_map_or (λ number. client.secure && has_worker (is_of_key registrations client.key) workers number)
    client.controller true

pub record SoundClients (registrations : List Registration) (workers : List Worker) (clients : List ClientRow) : Type 0 where
  pub numbers : apart same_client clients ≡ true
  pub controllers : list_all (is_controlled workers) clients ≡ true
  pub keys : list_all (is_secured registrations workers) clients ≡ true

-- ---- fetch events

abbrev pub same_event : FetchEvent → FetchEvent → Bool
same_event one other = one.number == other.number

pub record SoundEvents (workers : List Worker) (events : List FetchEvent) : Type 0 where
  pub numbers : apart same_event events ≡ true
  pub activated : list_all (λ event. has_worker is_activated workers event.worker) events ≡ true

-- ---- caches and promises

abbrev pub same_cache : KeptCache → KeptCache → Bool
same_cache one other = is_cache one.key one.name other

-- what a promise waits for is there
abbrev pub is_there : List JobRow → List AddAll → Awaited → Bool
is_there jobs tasks (value result) = true
is_there jobs tasks (of_job job) = is_place jobs job
is_there jobs tasks (of_task task) = is_place tasks task

-- own: the rows of a state fit together
pub record Coherent (state : State) : Type 0 where
  pub registrations : SoundRegistrations state.registrations
  pub workers : SoundWorkers state.registrations state.workers
  pub jobs : SoundJobs state.jobs
  pub work : SoundWork state.registrations state.workers state.jobs
  pub tasks : SoundTasks state.workers state.tasks
  pub clients : SoundClients state.registrations state.workers state.clients
  pub events : SoundEvents state.workers state.fetch_events
  pub caches : apart same_cache state.caches ≡ true
  pub promises : list_all (λ row. is_there state.jobs state.tasks row.awaited) state.promises ≡ true
