-- The events of ready tasks: a handler's next call by the row of its worker, and that a ready task which ends no fetches has an event.
use Rattle.std.proofs.Common.{◌≡◌, ◌∙◌, ℕ, Bool, true, false, not, ◌==◌, ◌&&◌, ◌||◌, List, [], ◌∷◌, Option, Some, None, option_map, option_and_then, slice_get, refl, sym, ap, arith, if◌then◌else◌}
use Rattle.std.specs.Prelude.{is_some, IfSome, IfOk, Result, Ok, Err}
use Rattle.std.specs.List.{list_any}
use Rattle.std.specs.Option.{option_map_or}
use Rattle.std.proofs.lemmas.Bool.Decides.{nat_tests}
use Rattle.sw_next.proofs.ReadyAny.{ready_activate, ready_install}
use Rattle.sw_lane.specs.Picked.{is_fetch}
use Rattle.sw_data.specs.declared.events.Event.{Event}
use Rattle.sw_data.specs.declared.events.Event.TheVariants as event
use Rattle.sw_data.specs.declared.events.Who.TheVariants as maker
use Rattle.sw_data.specs.declared.base.no_memory.NoMemory.{NoMemory}
use Rattle.sw_data.specs.declared.histories.Task.{Task}
use Rattle.sw_data.specs.declared.histories.Task.TheVariants as task
use Rattle.sw_data.specs.declared.recordings.Recording.{Recording}
use Rattle.sw_data.specs.declared.rows.HandlerRow.{HandlerRow}
use Rattle.sw_data.specs.declared.rows.JobRow.{JobRow}
use Rattle.sw_data.specs.declared.rows.WorkerRow.{WorkerRow}
use Rattle.sw_lane.specs.Picked.{is_task}
use Rattle.sw_rules.specs.Installing.{calls_of}
use Rattle.sw_rules.specs.Rows.{free_handler, is_in_phase, is_install, is_installing, job_row}
use Rattle.sw_rules.specs.State.{State, Handler, Worker}
use Rattle.sw_rules.specs.Tasks.{call_or, event_of, handler_event, may_install, next_call, ready_tasks}
use Rattle.sw_tables.proofs.Lookups.{worker_shown}
use Rattle.sw_tables.proofs.Rows.{any_at}
use Rattle.sw_tables.specs.Linked.{ArePlaces}
use Rattle.sw_tables.specs.Lent.{shown_handler, shown_worker}
use Rattle.sw_state.specs.Hosted.{Hosted, state_of}
use Rattle.sw_worker.specs.Table.{worker_at}

-- ---- calls

-- the next call is that of the row of the worker
pub next_shown : (host : Hosted) (worker : ℕ) (handler : HandlerRow)
    → option_and_then (λ row. slice_get (calls_of (shown_worker row) handler.phase) handler.made) (worker_at worker host.workers.rows)
    ≡ next_call (state_of host) worker (shown_handler handler)
next_shown host worker handler =
    by (worker_at worker host.workers.rows)
    ∙ ap (option_and_then (λ maker. slice_get (calls_of maker handler.phase) handler.made)) (sym (worker_shown worker host.workers.rows))
  where
    by : (o : Option WorkerRow) → option_and_then (λ row. slice_get (calls_of (shown_worker row) handler.phase) handler.made) o
        ≡ option_and_then (λ maker. slice_get (calls_of maker handler.phase) handler.made) (option_map shown_worker o)
    by None = refl
    by (Some row) = refl

-- ---- ready tasks have events

some_event : (state : State) (end : Event) (worker : ℕ) (test : Handler → Bool) → option_map_or test (free_handler state worker) false ≡ true
    → is_some (handler_event state end worker) ≡ true
some_event state end worker test free = by (free_handler state worker) free
  where
    by : (o : Option Handler) → option_map_or test o false ≡ true → is_some (option_map (call_or state end worker) o) ≡ true
    by None is = absurd cc
    by (Some handler) is = refl

-- where a number and its row pass, the number's own passes
own_passes : {X : Type 0} (number : X → ℕ) (passes : ℕ → Bool) (n : ℕ) (xs : List X) → list_any (λ x. n == number x && passes (number x)) xs ≡ true → passes n ≡ true
own_passes number passes n [] is = absurd cc
own_passes number passes n (x ∷ xs) is =
    by (n == number x) refl (passes (number x)) refl (list_any (λ y. n == number y && passes (number y)) xs) (own_passes number passes n xs) is
  where
    by : (b : Bool) → (n == number x) ≡ b → (q : Bool) → passes (number x) ≡ q → (later : Bool) → (later ≡ true → passes n ≡ true)
        → ((b && q) || later) ≡ true → passes n ≡ true
    by true same true one later rest is = let own : number x ≡ n = grind (arith, nat_tests, same) in ap passes (sym own) ∙ one
    by true same false one later rest is = rest is
    by false same q one later rest is = rest is

pub other_way : (n m : ℕ) → (n == m) ≡ (m == n)
other_way n m = grind (arith, nat_tests)

pub same_any : {X : Type 0} (p q : X → Bool) → ((x : X) → p x ≡ q x) → (xs : List X) → list_any p xs ≡ list_any q xs
same_any p q same [] = refl
same_any p q same (x ∷ xs) = grind (arith, same x, same_any p q same xs)

-- the row of the number of a job whose install handler may go on
its_row : (state : State) (job : ℕ) → ArePlaces (λ (row : JobRow). row.job.number) state.jobs
    → list_any (is_task (task.Install job)) (ready_tasks state) ≡ true → option_map_or (may_install state) (job_row state job) false ≡ true
its_row state job places ready =
    sym (any_at (λ (row : JobRow). row.job.number) (may_install state) job state.jobs places)
    ∙ (same_any (λ (row : JobRow). row.job.number == job && may_install state row) (λ (row : JobRow). job == row.job.number && may_install state row)
    (λ (row : JobRow). ap (λ b. b && may_install state row) (other_way row.job.number job)) state.jobs
    ∙ (sym (ready_install state job) ∙ ready))

install_event : (state : State) (end : Event) (o : Option JobRow) → option_map_or (may_install state) o false ≡ true
    → is_some (option_and_then (handler_event state end) (option_and_then (λ row. row.worker) o)) ≡ true
install_event state end None is = absurd cc
install_event state end (Some row) is = by row.worker (is_in_phase is_installing row) is
  where
    by : (w : Option ℕ) (b : Bool) → (b && option_map_or (λ handler. is_install handler.phase) (option_and_then (free_handler state) w) false) ≡ true
        → is_some (option_and_then (handler_event state end) w) ≡ true
    by None true free = absurd cc
    by None false free = absurd cc
    by (Some worker) true free = some_event state end worker (λ handler. is_install handler.phase) free
    by (Some worker) false free = absurd cc

has_event : (state : State) → ArePlaces (λ (row : JobRow). row.job.number) state.jobs → (of : Task) → list_any (is_task of) (ready_tasks state) ≡ true
    → (recording : Recording) → is_some (if is_fetch of then None else event_of recording state of) ≡ not (is_fetch of)
has_event state places (task.Run job) ready recording = refl
has_event state places (task.Fetch job) ready recording = refl
has_event state places (task.FetchAll number) ready recording = refl
has_event state places (task.Evaluate job) ready recording = refl
has_event state places (task.Install job) ready recording =
    install_event state (event.Installed maker.Host job) (job_row state job) (its_row state job places ready)
has_event state places (task.TryActivate registration) ready recording = refl
has_event state places (task.Activate worker) ready recording =
    some_event state (event.Activated maker.Host worker) worker (λ handler. not (is_install handler.phase))
    (own_passes (λ (row : Worker). row.number)
    (λ n. option_map_or (λ handler. not (is_install handler.phase)) (free_handler state n) false) worker state.workers
    (sym (ready_activate state worker) ∙ ready))

-- the event, which is the same for each recording
abbrev IsOwn : State → Task → Option Event → Type 0
IsOwn state of happened = (recording : Recording) → happened ≡ (if is_fetch of then None else event_of recording state of)

some_event_of : (host : Hosted) → ArePlaces (λ (row : JobRow). row.job.number) host.queues.rows → (of : Task)
    → list_any (is_task of) (ready_tasks (state_of host)) ≡ true → (happened : Option Event) → IsOwn (state_of host) of happened
    → is_some happened ≡ not (is_fetch of)
some_event_of host places of ready happened own =
    let none : Recording = record { fetches = []; lanes = [] } in
    ap is_some (own none) ∙ has_event (state_of host) places of ready none

pub happens_some : (host : Hosted) → ArePlaces (λ (row : JobRow). row.job.number) host.queues.rows → (of : Task)
    → list_any (is_task of) (ready_tasks (state_of host)) ≡ true → (r : Result (Option Event) NoMemory) → IfOk r (IsOwn (state_of host) of)
    → IfOk r (λ happened. is_some happened ≡ not (is_fetch of))
happens_some host places of ready (Ok happened) own = some_event_of host places of ready happened own
happens_some host places of ready (Err fault) own = tt

event_is : (host : Hosted) (of : Task) (happened : Option Event) → IsOwn (state_of host) of happened
    → IfSome happened (λ one. (recording : Recording) → event_of recording (state_of host) of ≡ Some one)
event_is host of None own = tt
event_is host of (Some one) own = λ recording. by (is_fetch of) (event_of recording (state_of host) of) (own recording)
  where
    by : (b : Bool) (o : Option Event) → Some one ≡ (if b then None else o) → o ≡ Some one
    by true o is = absurd cc
    by false o is = sym is

pub happens : (host : Hosted) (of : Task) (r : Result (Option Event) NoMemory) → IfOk r (IsOwn (state_of host) of)
    → IfOk r (λ event. IfSome event (λ one. (recording : Recording) → event_of recording (state_of host) of ≡ Some one))
happens host of (Ok happened) own = event_is host of happened own
happens host of (Err fault) own = tt
