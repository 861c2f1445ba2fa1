-- Steps that move workers keep a state coherent: flags and handlers' notes, Activate, Clear, and the end of an activate handler.
use Rattle.std.proofs.Common.{◌≡◌, ℕ, Bool, true, false, not, ◌&&◌, ◌==◌, List, map, Option, Some, option_map, refl, ap, arith, if◌then◌else◌, subst, sym}
use Rattle.std.specs.List.{list_all, list_any}
use Rattle.std.specs.Prelude.{is_some, option_and_then}
use Rattle.std.proofs.lemmas.Bool.{and_parts}
use Rattle.std.proofs.lemmas.Bool.Decides.{nat_tests}
use Rattle.sw_data.specs.declared.answers.Settlement.{Settlement}
use Rattle.sw_data.specs.declared.rows.ClientRow.{ClientRow}
use Rattle.sw_data.specs.declared.rows.JobRow.{JobRow}
use Rattle.sw_rules.specs.Caching.{is_maker, noted_task, settle_task}
use Rattle.sw_rules.specs.Calls.{counted_call, note_call}
use Rattle.sw_rules.specs.Clients.{flagged}
use Rattle.sw_rules.specs.Registrations.{clear}
use Rattle.sw_rules.specs.Rows.{changed, has_pending, has_pending_worker, has_worker, is_activated, is_active, is_task, is_used, is_worker, maker_worker, task_row, uses}
use Rattle.sw_rules.specs.State.{State, Worker, Awaited, AddAll, value, of_job, of_task}
use Rattle.sw_laws.specs.Coherent.{Coherent, SoundTasks, has_its_handler, is_controlled, is_there, share_slot}
use Rattle.sw_laws.proofs.AtOnce.{are_apart, clear_state, cleared_at_once, cleared_slots}
use Rattle.sw_laws.proofs.Lists.{all_both, all_but, all_changed, all_not, all_there, all_true, all_weaker, any_but, any_changed}
use Rattle.sw_laws.proofs.Moves.{Keeps, clients-moved, events-moved, keys-moved, tasks-moved, work-moved, workers-moved}
use Rattle.sw_laws.proofs.Places.{any_known, place_changed, places_changed}

-- ---- a change that moves no worker's state

pub record Harmless (f : Worker → Worker) : Type 0 where
  pub keeps : Keeps f
  pub state : (x : Worker) → (f x).state ≡ x.state
  pub handlers : (x : Worker) → has_its_handler x ≡ true → has_its_handler (f x) ≡ true
  pub runs : (x : Worker) → is_some x.handler ≡ true → is_some (f x).handler ≡ true

slots_stay : (f : Worker → Worker) → Harmless f → (x y : Worker) → share_slot x y ≡ false → share_slot (f x) (f y) ≡ false
slots_stay f harmless x y fine = rw (harmless.state x, harmless.state y, harmless.keeps.registration x, harmless.keeps.registration y) fine

pub harmless-coherent : (f : Worker → Worker) → Harmless f → (state : State) → Coherent state → Coherent (record state { workers = map f state.workers })
harmless-coherent f harmless state sound =
    let rows = state.workers in
    let known = λ (x : Worker). true in
    let knows : list_all known rows ≡ true = all_true rows in
    record {
      registrations = sound.registrations;
      workers = workers-moved f harmless.keeps known rows knows state.registrations (λ x y a b fine. slots_stay f harmless x y fine) (λ x a is. harmless.handlers x is) sound.workers;
      jobs = sound.jobs;
      work = work-moved f harmless.keeps known rows knows state.registrations state.jobs (λ x a is. rw (harmless.state x) is) (λ x a is. rw (harmless.state x) is) (λ x a is. rw (harmless.state x) at is) sound.work;
      tasks = tasks-moved f harmless.keeps known rows knows state.tasks (λ x a is. harmless.runs x is) sound.tasks;
      clients = clients-moved f harmless.keeps known rows knows state.registrations state.clients (λ x a is. rw (harmless.state x) is) sound.clients;
      events = events-moved f harmless.keeps known rows knows state.fetch_events (λ x a is. rw (harmless.state x) is) sound.events;
      caches = sound.caches;
      promises = sound.promises;
    }

flagged_harmless : (worker : ℕ) → Harmless (λ row. if is_worker worker row then record row { skip_waiting = true } else row)
flagged_harmless worker = record {
  keeps = record { number = λ x. grind arith; registration = λ x. grind arith };
  state = λ x. grind arith;
  handlers = λ x is. grind (arith, is);
  runs = λ x is. grind (arith, is);
}

pub flagged-coherent : (state : State) (worker : ℕ) → Coherent state → Coherent (flagged worker state)
flagged-coherent state worker sound = harmless-coherent _ (flagged_harmless worker) state sound

pub call_harmless : (worker : ℕ) (faulted : Bool) → Harmless (λ row. if is_worker worker row then record row { handler = option_map (counted_call faulted) row.handler } else row)
call_harmless worker faulted = record {
  keeps = record { number = λ x. grind arith; registration = λ x. grind arith };
  state = λ x. grind arith;
  handlers = λ x is. grind (arith, is);
  runs = λ x is. grind (arith, is);
}

pub note_call-coherent : (state : State) (worker : ℕ) (faulted : Bool) → Coherent state → Coherent (note_call state worker faulted).state
unfolding note_call
note_call-coherent state worker faulted sound = harmless-coherent _ (call_harmless worker faulted) state sound

task_harmless : (maker : Option ℕ) (faulted : Bool) → Harmless (λ row. if is_maker maker row then record row { handler = option_map (noted_task faulted) row.handler } else row)
task_harmless maker faulted = record {
  keeps = record { number = λ x. grind arith; registration = λ x. grind arith };
  state = λ x. grind arith;
  handlers = λ x is. grind (arith, is);
  runs = λ x is. grind (arith, is);
}

settled_tasks : (workers : List Worker) (number : ℕ) (result : Settlement) (tasks : List AddAll) → SoundTasks workers tasks → SoundTasks workers (changed (is_task number) (λ row. record row { settled = Some result }) tasks)
settled_tasks workers number result tasks sound = record {
  numbers = places_changed (λ row. row.number) _ (λ row. grind arith) tasks sound.numbers;
  makers = all_changed _ _ _ (λ row is. grind (arith, is)) tasks sound.makers;
}

settled_there : (jobs : List JobRow) (f : AddAll → AddAll) (tasks : List AddAll) (awaited : Awaited) → is_there jobs tasks awaited ≡ true → is_there jobs (map f tasks) awaited ≡ true
settled_there jobs f tasks (value result) is = refl
settled_there jobs f tasks (of_job job) is = is
settled_there jobs f tasks (of_task task) is = place_changed f tasks task is

pub settle_task-coherent : (state : State) (number : ℕ) (result : Settlement) (faulted : Bool) → Coherent state → Coherent (settle_task state number result faulted).state
unfolding settle_task
settle_task-coherent state number result faulted sound =
    let maker = option_and_then (λ (row : AddAll). maker_worker row.maker) (task_row state number) in
    let noted = harmless-coherent _ (task_harmless maker faulted) state sound in
    record {
      registrations = noted.registrations;
      workers = noted.workers;
      jobs = noted.jobs;
      work = noted.work;
      tasks = settled_tasks _ number result state.tasks noted.tasks;
      clients = noted.clients;
      events = noted.events;
      caches = noted.caches;
      promises = all_weaker _ _ (λ row is. settled_there state.jobs _ state.tasks row.awaited is) state.promises noted.promises;
    }

-- ---- Clear

-- what is known of a worker where its registration has no pending event
abbrev is_idle : State → ℕ → Worker → Bool
is_idle state registration row = not (row.registration == registration && has_pending state row)

abbrev pub cleared : ℕ → Worker → Worker
cleared registration row = if row.registration == registration then record row { state = clear_state row.state } else row

pub cleared_keeps : (registration : ℕ) → Keeps (cleared registration)
cleared_keeps registration = record { number = λ x. grind arith; registration = λ x. grind arith }

-- a worker with a fetch event stays activated where no worker of the registration has one
event_stays : (state : State) (registration number : ℕ) → list_all (is_idle state registration) state.workers ≡ true → has_worker is_activated state.workers number ≡ true → list_any (λ event. event.worker == number) state.fetch_events ≡ true → has_worker is_activated (map (cleared registration) state.workers) number ≡ true
event_stays state registration number idle is busy =
    any_known (is_idle state registration) (λ row. row.number == number && is_activated row) _ (cleared registration)
    (λ row know here. grind (arith, nat_tests, know, here, busy, λ (e : row.number ≡ number). ap (λ n. list_any (λ event. event.worker == n) state.fetch_events) e)) state.workers idle is

-- a controller of another registration stays
other_stays : (registration : ℕ) (f : Worker → Worker) → ((row : Worker) → (row.registration == registration) ≡ false → f row ≡ row) → (workers : List Worker) (number : ℕ) → has_worker (λ row. is_active row.state) workers number ≡ true → has_worker (λ row. row.registration == registration) workers number ≡ false → has_worker (λ row. is_active row.state) (map f workers) number ≡ true
other_stays registration f fixed workers number active other =
    any_changed _ _ _ (λ row is. grind (arith, is, fixed row)) workers (any_but _ _ workers active other)

pub unused_stays : (registration : ℕ) (f : Worker → Worker) → ((row : Worker) → (row.registration == registration) ≡ false → f row ≡ row) → (workers : List Worker) (client : ClientRow) → is_controlled workers client ≡ true → uses workers registration client ≡ false → is_controlled (map f workers) client ≡ true
unused_stays registration f fixed workers client is unused = grind (arith, is, unused, other_stays registration f fixed workers)

pub clear-coherent : (state : State) (registration : ℕ) → is_used state registration ≡ false → has_pending_worker state registration ≡ false → Coherent state → Coherent (clear state registration).state
clear-coherent state registration unused idle sound =
    let f = cleared registration in
    let rows = state.workers in
    let keeps = cleared_keeps registration in
    let known = λ (row : Worker). is_idle state registration row && has_its_handler row in
    let calm : list_all (is_idle state registration) rows ≡ true = all_not _ rows idle in
    let knows : list_all known rows ≡ true = all_both _ _ rows calm sound.workers.handlers in
    subst Coherent (sym (cleared_at_once state registration (are_apart state.registrations rows sound.workers))) (record {
      registrations = sound.registrations;
      workers = workers-moved f keeps known rows knows state.registrations (λ x y a b fine. cleared_slots registration x y fine) (λ x a is. grind (arith, a, is)) sound.workers;
      jobs = sound.jobs;
      work = work-moved f keeps known rows knows state.registrations state.jobs (λ x a is. grind (arith, is)) (λ x a is. grind (arith, a, is)) (λ x a is. grind (arith, a, is)) sound.work;
      tasks = tasks-moved f keeps known rows knows state.tasks (λ x a is. grind (arith, is)) sound.tasks;
      clients = record {
        numbers = sound.clients.numbers;
        controllers = all_weaker _ _ (λ client is. grind (arith, is, unused_stays registration f (λ row other. grind (arith, other)) rows client)) state.clients (all_but _ _ state.clients sound.clients.controllers unused);
        keys = keys-moved f keeps known rows knows state.registrations state.clients sound.clients.keys;
      };
      events = record {
        numbers = sound.events.numbers;
        activated = all_weaker _ _ (λ event is. let parts = and_parts _ _ is in event_stays state registration event.worker calm parts.0 parts.1) state.fetch_events (all_both _ _ state.fetch_events sound.events.activated (all_there (λ event. event.worker) state.fetch_events));
      };
      caches = sound.caches;
      promises = sound.promises;
    })
