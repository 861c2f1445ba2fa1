-- Rows of a state: how they are found, tested and changed.
use Rattle.std.specs.Prelude.{ℕ, Bool, true, false, not, ◌&&◌, ◌||◌, ◌==◌, List, map, filter, find, bytes_eq, is_none, is_some, Option, Some, None, option_map, option_and_then, if◌then◌else◌}
use Rattle.std.specs.List.{list_any, last_or}
use Rattle.std.specs.Option.{option_map_or, option_or}
use Rattle.sw_data.specs.declared.events.Who.{Who}
use Rattle.sw_data.specs.declared.events.Who.TheVariants as who
use Rattle.sw_data.specs.declared.recordings.ClientScope.{ClientScope}
use Rattle.sw_data.specs.declared.rows.ClientRow.{ClientRow}
use Rattle.sw_data.specs.declared.rows.JobPhase.{JobPhase}
use Rattle.sw_data.specs.declared.rows.JobPhase.TheVariants as job_phase
use Rattle.sw_data.specs.declared.rows.JobRow.{JobRow}
use Rattle.sw_data.specs.declared.workers.Phase.{Phase}
use Rattle.sw_data.specs.declared.workers.Phase.TheVariants as phase
use Rattle.sw_data.specs.declared.workers.Slot.{Slot}
use Rattle.sw_data.specs.declared.workers.Slot.TheVariants as slot
use Rattle.sw_data.specs.declared.workers.WorkerState.{WorkerState}
use Rattle.sw_data.specs.declared.workers.WorkerState.TheVariants as worker_state
use Rattle.sw_data.specs.Addresses.{resolved, without_fragment}
use Rattle.sw_rules.specs.Matching.{Scope, longest}
use Rattle.sw_rules.specs.State.{State, Registration, Worker, Promise, AddAll, Handler, FetchEvent}

-- ---- rows

-- the rows that pass are changed
abbrev pub changed : {X : Type 0} → (X → Bool) → (X → X) → List X → List X
changed test f rows = map (λ row. if test row then f row else row) rows

-- the rows that don't pass
abbrev pub without : {X : Type 0} → (X → Bool) → List X → List X
without test rows = filter (λ row. not (test row)) rows

-- the number is there, and is this one
abbrev pub is_number : Option ℕ → ℕ → Bool
is_number number other = option_map_or (λ n. n == other) number false

-- ---- jobs

abbrev pub is_job : ℕ → JobRow → Bool
is_job number row = row.job.number == number

abbrev pub job_row : State → ℕ → Option JobRow
job_row state number = find (is_job number) state.jobs

abbrev pub is_waiting : JobPhase → Bool
is_waiting job_phase.Waiting = true
is_waiting _ = false

abbrev pub is_fetching : JobPhase → Bool
is_fetching job_phase.Fetching = true
is_fetching _ = false

abbrev pub is_evaluating : JobPhase → Bool
is_evaluating job_phase.Evaluating = true
is_evaluating _ = false

abbrev pub is_installing : JobPhase → Bool
is_installing job_phase.Installing = true
is_installing _ = false

abbrev pub is_done : JobPhase → Bool
is_done job_phase.Done = true
is_done _ = false

-- a job that joined no other and isn't done
abbrev pub is_unfinished : JobRow → Bool
is_unfinished row = is_none row.leader && not (is_done row.phase)

-- a job that joined no other is in this phase
abbrev pub is_in_phase : (JobPhase → Bool) → JobRow → Bool
is_in_phase test row = is_none row.leader && test row.phase

-- a job stands in the queue of a key and a scope (Service Workers, Appendix A, "job queue"; that a key has its own is own)
abbrev pub in_queue : List ℕ → List ℕ → JobRow → Bool
in_queue key scope row = is_unfinished row && bytes_eq row.job.key key && bytes_eq row.job.scope scope

-- the queue of a key and a scope
abbrev pub queue : List ℕ → List ℕ → List JobRow → List JobRow
queue key scope jobs = filter (in_queue key scope) jobs

-- the first job of a queue
abbrev pub first_job : List ℕ → List ℕ → List JobRow → Option JobRow
first_job key scope jobs = find (in_queue key scope) jobs

-- the last job of a queue
abbrev pub last_job : List ℕ → List ℕ → List JobRow → Option JobRow
last_job key scope jobs = last_or None (queue key scope jobs)

-- the job stands first in its queue
abbrev pub is_first : List JobRow → JobRow → Bool
is_first jobs row = option_map_or (is_job row.job.number) (first_job row.job.key row.job.scope jobs) false

-- ---- workers

abbrev pub is_worker : ℕ → Worker → Bool
is_worker number row = row.number == number

abbrev pub worker_row : State → ℕ → Option Worker
worker_row state number = find (is_worker number) state.workers

-- a worker of this number passes
abbrev pub has_worker : (Worker → Bool) → List Worker → ℕ → Bool
has_worker test rows number = list_any (λ row. row.number == number && test row) rows

-- the registration of a worker
abbrev pub registration_of : State → ℕ → Option ℕ
registration_of state worker = option_map (λ row. row.registration) (worker_row state worker)

abbrev pub is_activating : Worker → Bool
is_activating row = elim row.state [ worker_state.Activating ↦ true | _ ↦ false ]

abbrev pub is_activated : Worker → Bool
is_activated row = elim row.state [ worker_state.Activated ↦ true | _ ↦ false ]

abbrev pub is_active : WorkerState → Bool
is_active worker_state.Activating = true
is_active worker_state.Activated = true
is_active _ = false

abbrev pub in_slot : Slot → WorkerState → Bool
in_slot slot.Installing worker_state.Installing = true
in_slot slot.Waiting worker_state.Installed = true
in_slot slot.Active state = is_active state
in_slot _ _ = false

-- the worker of a registration in a slot (Service Workers, "installing worker", "waiting worker", "active worker")
abbrev pub slot_worker : State → Slot → ℕ → Option Worker
slot_worker state place registration =
    find (λ row. row.registration == registration && in_slot place row.state) state.workers

-- the number of the active worker of a registration
abbrev pub active_worker_number : State → ℕ → Option ℕ
active_worker_number state registration = option_map (λ row. row.number) (slot_worker state slot.Active registration)

-- the newest worker of a registration (Service Workers, Appendix A, "Get Newest Worker")
abbrev pub newest_worker : State → ℕ → Option Worker
newest_worker state registration =
    option_or (slot_worker state slot.Installing registration)
    (option_or (slot_worker state slot.Waiting registration) (slot_worker state slot.Active registration))

-- ---- registrations

abbrev pub is_registration : ℕ → Registration → Bool
is_registration number row = row.number == number

abbrev pub registration_row : State → ℕ → Option Registration
registration_row state number = find (is_registration number) state.registrations

-- a registration is mapped (Service Workers, Appendix A, "unregistered", is the opposite)
abbrev pub is_mapped : State → ℕ → Bool
is_mapped state number = list_any (λ row. row.number == number && row.mapped) state.registrations

-- a mapped registration is that of a key and a scope
abbrev pub is_mapped_to : List ℕ → List ℕ → Registration → Bool
is_mapped_to key scope row = row.mapped && bytes_eq row.key key && bytes_eq row.scope scope

-- the mapped registration of a key and a scope (Service Workers, Appendix A, "Get Registration")
abbrev pub mapped_registration : State → List ℕ → List ℕ → Option Registration
mapped_registration state key scope = find (is_mapped_to key scope) state.registrations

-- the mapped scopes
abbrev pub mapped_scopes : State → List Scope
mapped_scopes state =
    map (λ row. record { key = row.key; scope = row.scope; number = row.number })
    (filter (λ row. row.mapped) state.registrations)

-- the registration that an address of a key matches (Service Workers, Appendix A, "Match Service Worker Registration")
abbrev pub matched_registration_number : State → List ℕ → List ℕ → Option ℕ
matched_registration_number state key address = option_map (λ row. row.number) (longest (mapped_scopes state) key address)

-- the key of a worker's registration
abbrev pub key_of_worker : State → ℕ → Option (List ℕ)
key_of_worker state worker =
    option_map (λ row. row.key) (option_and_then (registration_row state) (registration_of state worker))

-- ---- clients

abbrev pub is_client : ℕ → ClientRow → Bool
is_client number row = row.number == number

abbrev pub client_row : State → ℕ → Option ClientRow
client_row state number = find (is_client number) state.clients

-- a client's controller is a worker of the registration (Service Workers, "using")
abbrev pub uses : List Worker → ℕ → ClientRow → Bool
uses workers registration client =
    elim client.controller [
      | Some number ↦ has_worker (λ row. row.registration == registration) workers number
      | None ↦ false
    ]

-- a client uses the registration
abbrev pub is_used : State → ℕ → Bool
is_used state registration = list_any (uses state.workers registration) state.clients

-- the scope that a client names, its text parsed against the client's address, without its fragment
abbrev pub named_scope : ClientRow → List ℕ → Option (List ℕ)
named_scope client text = option_map without_fragment (resolved text client.url)

-- the mapped registration that a client names by a scope
abbrev pub named_registration : State → ClientScope → Option Registration
named_registration state of =
    option_and_then (λ client.
    option_and_then (mapped_registration state client.key) (named_scope client of.scope))
    (client_row state of.client)

-- ---- promises

abbrev pub is_promise : ℕ → ℕ → Promise → Bool
is_promise lane at row = row.lane == lane && row.at == at

abbrev pub promise_row : State → ℕ → ℕ → Option Promise
promise_row state lane at = find (is_promise lane at) state.promises

-- ---- addAll tasks

abbrev pub is_task : ℕ → AddAll → Bool
is_task number row = row.number == number

abbrev pub task_row : State → ℕ → Option AddAll
task_row state number = find (is_task number) state.tasks

-- a worker that made an event by a call of its handler
abbrev pub maker_worker : Who → Option ℕ
maker_worker (who.Handler worker phase number) = Some worker
maker_worker _ = None

-- an addAll of this worker's handler has not settled
abbrev pub is_unsettled_of : ℕ → AddAll → Bool
is_unsettled_of worker row = is_none row.settled && is_number (maker_worker row.maker) worker

-- ---- handlers and fetch events

abbrev pub is_install : Phase → Bool
is_install phase.Install = true
is_install phase.Activate = false

-- the handler of a worker that may go on: it runs, and no addAll of it is unsettled
abbrev pub free_handler : State → ℕ → Option Handler
free_handler state worker =
    if list_any (is_unsettled_of worker) state.tasks then None
    else option_and_then (λ row. row.handler) (worker_row state worker)

abbrev pub is_event : ℕ → FetchEvent → Bool
is_event number row = row.number == number

abbrev pub event_row : State → ℕ → Option FetchEvent
event_row state number = find (is_event number) state.fetch_events

-- a handler or a fetch event of this worker is pending (Service Workers, "has no pending events", is the opposite)
abbrev pub has_pending : State → Worker → Bool
has_pending state row = is_some row.handler || list_any (λ event. event.worker == row.number) state.fetch_events

-- a worker of the registration has a pending event
abbrev pub has_pending_worker : State → ℕ → Bool
has_pending_worker state registration =
    list_any (λ row. row.registration == registration && has_pending state row) state.workers
