-- Laws of every legal history, each the clause of the call of `sw_laws::laws` that has its name.
use Rattle.std.specs.Prelude.{◌≡◌, ◌⊎◌, ℕ, suc, Bool, true, false, ◌&&◌, ◌==◌, List, [], ◌∷◌, ◌++◌, take, filter, find, bytes_eq, is_none, is_some, Option, Some, option_map}
use Rattle.std.specs.List.{list_any}
use Rattle.std.specs.Option.{option_map_or}
use Rattle.sw_data.specs.declared.answers.Answer.{Answer}
use Rattle.sw_data.specs.declared.answers.Notice.{Notice}
use Rattle.sw_data.specs.declared.answers.Notice.TheVariants as notice
use Rattle.sw_data.specs.declared.answers.Settlement.{Settlement}
use Rattle.sw_data.specs.declared.events.Event.{Event}
use Rattle.sw_data.specs.declared.events.Event.TheVariants as event
use Rattle.sw_data.specs.declared.histories.Entry.{Entry}
use Rattle.sw_data.specs.declared.rows.JobRow.{JobRow}
use Rattle.sw_data.specs.declared.storage.Change.{Change}
use Rattle.sw_data.specs.declared.storage.Change.TheVariants as change
use Rattle.sw_data.specs.declared.storage.Kept.{Kept}
use Rattle.sw_data.specs.declared.workers.WorkerState.{WorkerState}
use Rattle.sw_data.specs.declared.workers.WorkerState.TheVariants as worker_state
use Rattle.sw_rules.specs.Durable as kept
use Rattle.sw_rules.specs.History.{Controlled, Legal, after, moved}
use Rattle.sw_rules.specs.Jobs.{awaited_value}
use Rattle.sw_rules.specs.Restart.{restart}
use Rattle.sw_rules.specs.Rows.{is_in_phase, is_fetching, is_unfinished, is_worker, job_row, mapped_registration, registration_row, worker_row}
use Rattle.sw_rules.specs.State.{State, Worker, Awaited, of_job}
use Rattle.sw_rules.specs.Step.{Step, changes_of, state_after}
use Rattle.sw_rules.specs.Storage.{IsMade, applied, kept_after}
use Rattle.sw_rules.specs.Tasks.{ready_tasks}
use Rattle.sw_laws.specs.Coherent.{Coherent, apart, share_slot}

-- own: a restart leaves a coherent state, each event keeps one coherent, and so each legal history leaves one
pub record IsAlwaysCoherent : Type 0 where
  pub restarts : (base : Kept) → IsMade base → Coherent (restart base)
  pub steps : (state : State) (happened : Event) → Coherent state → Coherent (state_after state happened)
  pub histories : (base : Kept) (history : List Entry) → Legal base history → Coherent (after base history)

-- in every legal history each controller is null or the active worker that matching or claiming gave
abbrev pub IsAlwaysControlled : Type 0
IsAlwaysControlled = (base : Kept) (history : List Entry) → Legal base history → Controlled base history

-- own: no unfinished job, running handler, unsettled addAll or owed Try Activate is left in a state
pub record HasNoWork (state : State) : Type 0 where
  pub jobs : filter is_unfinished state.jobs ≡ []
  pub handlers : filter (λ row. is_some row.handler) state.workers ≡ []
  pub tasks : filter (λ row. is_none row.settled) state.tasks ≡ []
  pub owed : filter (λ row. row.owed) state.registrations ≡ []

-- own: where no task is ready after a legal history, no work is left
pub record RestsWithoutWork : Type 0 where
  pub rests : (base : Kept) (history : List Entry)
      → Legal base history → ready_tasks (after base history) ≡ [] → HasNoWork (after base history)

-- own: restarting twice is restarting once, in the content and in the state that a restart leaves; and what is kept of
-- that state is the content of the restart
pub record RestartsOnce : Type 0 where
  pub content : (kept : Kept) → applied (applied kept change.Restarted) change.Restarted ≡ applied kept change.Restarted
  pub state : (kept : Kept) → restart (applied kept change.Restarted) ≡ restart kept
  pub durable : (base : Kept) → IsMade base → kept.durable (restart base) ≡ applied base change.Restarted

-- ---- promises and slots

-- the state behind this one (Service Workers, "state" of a service worker); behind a redundant one there is none
abbrev pub next_state : WorkerState → WorkerState
next_state worker_state.Parsed = worker_state.Installing
next_state worker_state.Installing = worker_state.Installed
next_state worker_state.Installed = worker_state.Activating
next_state worker_state.Activating = worker_state.Activated
next_state worker_state.Activated = worker_state.Redundant
next_state worker_state.Redundant = worker_state.Redundant

-- a worker's state stays, goes on to the next one, or becomes redundant
abbrev pub GoesOnTo : WorkerState → WorkerState → Type 0
GoesOnTo old new = (new ≡ old) ⊎ ((new ≡ next_state old) ⊎ (new ≡ worker_state.Redundant))

-- a worker is still there, of the same registration, and its state stays, goes on to the next one, or becomes redundant
pub record HasGoneOn (before : Worker) (workers : List Worker) (number : ℕ) : Type 0 where
  pub now : Worker
  pub found : find (is_worker number) workers ≡ Some now
  pub registration : now.registration ≡ before.registration
  pub state : GoesOnTo before.state now.state

-- own: a promise, of a job or an addAll, settles at most once: the value that it has it keeps; and a job that joined
-- another has that one's value
pub record SettlesOnce : Type 0 where
  pub stays : (base : Kept) (history : List Entry) (happened : Event) (awaited : Awaited) (result : Settlement)
      → Legal base history → awaited_value (after base history) awaited ≡ Some result
      → awaited_value (state_after (after base history) happened) awaited ≡ Some result
  pub joined : (base : Kept) (history : List Entry) (row : JobRow) (job leader : ℕ)
      → Legal base history → job_row (after base history) job ≡ Some row → row.leader ≡ Some leader
      → awaited_value (after base history) (of_job leader) ≡ row.settled

-- own: a registration has at most one worker in each slot, and each event leaves a worker's state, moves it to the next
-- one, or makes it redundant
pub record HasSlots : Type 0 where
  pub slots : (base : Kept) (history : List Entry)
      → Legal base history → apart share_slot (after base history).workers ≡ true
  pub states : (base : Kept) (history : List Entry) (happened : Event) (number : ℕ) (row : Worker)
      → Legal base history → worker_row (after base history) number ≡ Some row
      → HasGoneOn row (state_after (after base history) happened).workers number

-- ---- fetches

-- the event ends the fetch of this job
abbrev pub ends_fetch : ℕ → Event → Bool
ends_fetch job (event.Fetched who other line) = other == job
ends_fetch job _ = false

-- the event ends the fetches of this addAll
abbrev pub ends_add_all : ℕ → Event → Bool
ends_add_all task (event.Added who other lines) = other == task
ends_add_all task _ = false

-- a job of this number fetches
abbrev pub is_fetching_job : State → ℕ → Bool
is_fetching_job state job = list_any (λ row. row.job.number == job && is_in_phase is_fetching row) state.jobs

-- an addAll of this number has not settled
abbrev pub is_open_task : State → ℕ → Bool
is_open_task state task = list_any (λ row. row.number == task && is_none row.settled) state.tasks

-- own: what is fetched stays so until the event that ends it
pub record FetchesStay : Type 0 where
  pub jobs : (state : State) (happened : Event) (job : ℕ)
      → Coherent state → ends_fetch job happened ≡ false
      → is_fetching_job state job ≡ true → is_fetching_job (state_after state happened) job ≡ true
  pub tasks : (state : State) (happened : Event) (task : ℕ)
      → Coherent state → ends_add_all task happened ≡ false
      → is_open_task state task ≡ true → is_open_task (state_after state happened) task ≡ true

-- ---- the map

-- the number of the registration that a key and a scope map to, if any
abbrev pub mapped_number : State → List ℕ → List ℕ → Option ℕ
mapped_number state key scope = option_map (λ row. row.number) (mapped_registration state key scope)

-- the registration of this number has this key and scope
abbrev pub has_key_and_scope : State → List ℕ → List ℕ → ℕ → Bool
has_key_and_scope state key scope number =
    option_map_or (λ row. bytes_eq row.key key && bytes_eq row.scope scope) (registration_row state number) false

-- a notice tells that a registration of this key and scope has got into the map, or has left it
abbrev pub tells_move : State → List ℕ → List ℕ → Notice → Bool
tells_move state key scope (notice.Mapped number) = has_key_and_scope state key scope number
tells_move state key scope (notice.Unmapped number) = has_key_and_scope state key scope number
tells_move state key scope _ = false

-- own: a step leaves what a key and a scope map to, unless a notice of it names a registration of theirs
pub record TellsItsMap : Type 0 where
  pub stays : (old new : State) (happened : Event) (reply : Answer) (notices : List Notice) (key scope : List ℕ)
      → Coherent old → Step old happened reply notices new
      → list_any (tells_move new key scope) notices ≡ false
      → mapped_number new key scope ≡ mapped_number old key scope

-- ---- what is kept

-- the durable changes of entries, each from the state before it
abbrev pub changes_along : State → List Entry → List Change
changes_along state [] = []
changes_along state (entry ∷ entries) = changes_of state entry.event ++ changes_along (moved state entry) entries

-- the durable changes of a history, whose first entry is the restart (own)
abbrev pub changes_of_history : Kept → List Entry → List Change
changes_of_history base [] = []
changes_of_history base (opening ∷ entries) = change.Restarted ∷ changes_along (restart base) entries

-- own: the content that the changes of the first entries make of the base is the durable part of the state after them,
-- for each number of entries from one on
pub record DurableIsKept : Type 0 where
  pub prefixes : (base : Kept) (history : List Entry) (n : ℕ)
      → Legal base history
      → kept_after base (changes_of_history base (take (suc n) history))
      ≡ kept.durable (after base (take (suc n) history))
