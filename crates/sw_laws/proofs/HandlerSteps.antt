-- The end of a handler, with what becomes of its worker.
use Rattle.std.proofs.Common.{◌≡◌, ℕ, Bool, true, false, not, ◌&&◌, ◌||◌, ◌==◌, List, [], ◌∷◌, map, Option, Some, None, refl, arith, if◌then◌else◌}
use Rattle.std.specs.List.{list_all}
use Rattle.std.specs.Prelude.{is_none, is_some}
use Rattle.std.proofs.lemmas.Bool.{and_parts}
use Rattle.std.proofs.lemmas.Bool.Decides.{nat_tests}
use Rattle.sw_data.specs.declared.answers.Settlement.{Settlement}
use Rattle.sw_data.specs.declared.workers.Phase.{Phase}
use Rattle.sw_data.specs.declared.workers.WorkerState.{WorkerState}
use Rattle.sw_data.specs.declared.workers.WorkerState.TheVariants as worker_state
use Rattle.sw_rules.specs.Activating.{become_activated}
use Rattle.sw_rules.specs.Installing.{end_handler, ended_handler}
use Rattle.sw_rules.specs.Registrations.{become}
use Rattle.sw_rules.specs.Rows.{changed, is_activating, is_install, is_number, is_unsettled_of, is_worker, maker_worker, worker_row}
use Rattle.sw_rules.specs.State.{State, Worker, AddAll, Handler}
use Rattle.sw_rules.specs.Told.{followed, keep}
use Rattle.sw_laws.specs.Coherent.{Coherent, SoundTasks, has_its_handler, is_running, share_slot}
use Rattle.sw_laws.proofs.Lists.{all_both, all_not, all_weaker, any_changed}
use Rattle.sw_laws.proofs.Moves.{Keeps, all_of_number, clients-moved, events-moved, work-moved, workers-moved}
use Rattle.sw_laws.proofs.Places.{all_at_found}

-- the handler of a worker ends, and the worker gets this state
abbrev pub ended_in : WorkerState → ℕ → Worker → Worker
ended_in to number row = if row.number == number then record row { handler = None; state = to } else row

pub ended_in_keeps : (to : WorkerState) (number : ℕ) → Keeps (ended_in to number)
ended_in_keeps to number = record { number = λ x. grind arith; registration = λ x. grind arith }

pub ends_in : (to : WorkerState) (number : ℕ) (rows : List Worker) → changed (is_worker number) (λ row. record row { state = to }) (changed (is_worker number) (λ row. record row { handler = None }) rows) ≡ map (ended_in to number) rows
ends_in to number [] = refl
ends_in to number (row ∷ rows) = grind (arith, ends_in to number rows)

-- a handler that has ended is the one of its worker's row, and no addAll of it is unsettled
pub record IsEnded (state : State) (worker : Worker) (handler : Handler) : Type 0 where
  pub row : worker_row state worker.number ≡ Some worker
  pub runs : worker.handler ≡ Some handler
  pub settled : list_all (λ row. not (is_unsettled_of worker.number row)) state.tasks ≡ true

pub ended_from : (state : State) (test : Phase → Bool) (worker : Worker) (handler : Handler) → worker_row state worker.number ≡ Some worker → ended_handler state test worker ≡ Some handler → (test handler.phase ≡ true) × IsEnded state worker handler
ended_from state test worker handler found ended = (
  grind (arith, found, ended),
  record {
    row = found;
    runs = grind (arith, found, ended);
    settled = all_not (is_unsettled_of worker.number) state.tasks (grind (arith, found, ended));
  },
)

maker_stays : (f : Worker → Worker) (keeps : Keeps f) (number : ℕ) → ((x : Worker) → (x.number == number) ≡ false → is_some x.handler ≡ true → is_some (f x).handler ≡ true) → (workers : List Worker) (settled : Option Settlement) (maker : Option ℕ)
    → not (is_none settled && is_number maker number) ≡ true → (is_some settled || is_running workers maker) ≡ true → (is_some settled || is_running (map f workers) maker) ≡ true
maker_stays f keeps number goes workers (Some result) maker free is = refl
maker_stays f keeps number goes workers None None free is = refl
maker_stays f keeps number goes workers None (Some maker) free is =
    any_changed (λ row. row.number == maker && is_some row.handler) _ f (λ row here. grind (arith, nat_tests, free, here, goes row, keeps.number row)) workers is

-- the handlers that addAlls wait for go on
pub makers-stay : (f : Worker → Worker) (keeps : Keeps f) (number : ℕ) → ((x : Worker) → (x.number == number) ≡ false → is_some x.handler ≡ true → is_some (f x).handler ≡ true) → (workers : List Worker) (tasks : List AddAll) → list_all (λ row. not (is_unsettled_of number row)) tasks ≡ true → SoundTasks workers tasks → SoundTasks (map f workers) tasks
makers-stay f keeps number goes workers tasks settled sound = record {
  numbers = sound.numbers;
  makers = all_weaker _ _ (λ row is. let parts = and_parts _ _ is in maker_stays f keeps number goes workers row.settled (maker_worker row.maker) parts.0 parts.1) tasks (all_both _ _ tasks settled sound.makers);
}

-- ---- an activate handler ends, and its worker is activated

activated_slots : (number : ℕ) (x y : Worker) → (not (x.number == number) || is_activating x) ≡ true → (not (y.number == number) || is_activating y) ≡ true → share_slot x y ≡ false → share_slot (ended_in worker_state.Activated number x) (ended_in worker_state.Activated number y) ≡ false
activated_slots number x y one other fine = grind (arith, nat_tests, one, other, fine)

-- the worker whose activate handler ends is activating
pub activating_rows : (state : State) (worker : Worker) (handler : Handler) → IsEnded state worker handler → is_install handler.phase ≡ false → Coherent state → list_all (λ row. not (row.number == worker.number) || is_activating row) state.workers ≡ true
activating_rows state worker handler ended phase sound =
    all_of_number is_activating state.workers worker.number worker sound.workers.numbers ended.row
    (grind (arith, ended.runs, phase, all_at_found (is_worker worker.number) has_its_handler state.workers worker ended.row sound.workers.handlers))

pub activated-coherent : (state : State) (registration : ℕ) (worker : Worker) (handler : Handler) → IsEnded state worker handler → is_install handler.phase ≡ false → Coherent state → Coherent (become_activated (end_handler state worker.number).state registration worker.number).state
unfolding become_activated followed keep become end_handler
activated-coherent state registration worker handler ended phase sound =
    let rows = state.workers in
    let number = worker.number in
    let f = ended_in worker_state.Activated number in
    let keeps = ended_in_keeps worker_state.Activated number in
    let known = λ (row : Worker). not (row.number == number) || is_activating row in
    let knows : list_all known rows ≡ true = activating_rows state worker handler ended phase sound in
    rw (ends_in worker_state.Activated number rows) (record {
      registrations = sound.registrations;
      workers = workers-moved f keeps known rows knows state.registrations (λ x y a b fine. activated_slots number x y a b fine) (λ x a is. grind (arith, a, is)) sound.workers;
      jobs = sound.jobs;
      work = work-moved f keeps known rows knows state.registrations state.jobs (λ x a is. grind (arith, a, is)) (λ x a is. grind (arith, a, is)) (λ x a is. grind (arith, a, is)) sound.work;
      tasks = makers-stay f keeps number (λ x other is. grind (arith, other, is)) rows state.tasks ended.settled sound.tasks;
      clients = clients-moved f keeps known rows knows state.registrations state.clients (λ x a is. grind (arith, is)) sound.clients;
      events = events-moved f keeps known rows knows state.fetch_events (λ x a is. grind (arith, is)) sound.events;
      caches = sound.caches;
      promises = sound.promises;
    })

pub activated_from : (state : State) (worker : Worker) (handler : Handler) → worker_row state worker.number ≡ Some worker → ended_handler state (λ in_phase. not (is_install in_phase)) worker ≡ Some handler → Coherent state
    → Coherent (become_activated (end_handler state worker.number).state worker.registration worker.number).state
activated_from state worker handler found ended sound =
    let is = ended_from state (λ in_phase. not (is_install in_phase)) worker handler found ended in
    activated-coherent state worker.registration worker handler is.1 (grind (arith, is.0)) sound
