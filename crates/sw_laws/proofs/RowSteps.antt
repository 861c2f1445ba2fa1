-- Steps on clients, fetch events, caches, addAlls and promises keep a state coherent.
use Rattle.std.proofs.Common.{◌≡◌, ℕ, Bool, true, false, not, ◌&&◌, ◌==◌, List, [], ◌∷◌, ◌++◌, map, filter, fold, Option, Some, None, option_map, refl, sym, subst, arith, if◌then◌else◌}
use Rattle.std.specs.List.{list_all, list_any}
use Rattle.std.specs.Prelude.{bytes_eq, find, is_some, option_and_then}
use Rattle.std.specs.Option.{option_map_or}
use Rattle.std.proofs.lemmas.Bool.{and_from, and_parts}
use Rattle.std.proofs.lemmas.Bool.Decides.{nat_tests}
use Rattle.sw_data.specs.declared.events.Who.{Who}
use Rattle.sw_data.specs.declared.events.Who.TheVariants as who
use Rattle.sw_data.specs.declared.exchange.Op.{Op}
use Rattle.sw_data.specs.declared.exchange.Request.{Request}
use Rattle.sw_data.specs.declared.rows.ClientRow.{ClientRow}
use Rattle.sw_data.specs.declared.rows.JobRow.{JobRow}
use Rattle.sw_data.specs.declared.storage.KeptCache.{KeptCache}
use Rattle.sw_data.specs.declared.workers.Slot.TheVariants as slot
use Rattle.sw_data.specs.Addresses.{is_trustworthy}
use Rattle.sw_rules.specs.Caching.{add_cache, add_task, carry_out, drop_cache, new_task, pairs_of, with_pairs}
use Rattle.sw_rules.specs.Clients.{add_client, add_event, new_client, remove_client, remove_event}
use Rattle.sw_rules.specs.Jobs.{promise}
use Rattle.sw_rules.specs.Matching.{Pair, Scope, holds_address, longer, longest}
use Rattle.sw_rules.specs.Registrations.{left_by}
use Rattle.sw_rules.specs.Rows.{active_worker_number, client_row, event_row, has_worker, in_slot, is_activated, is_activating, is_active, is_client, is_event, is_promise, is_worker, maker_worker, mapped_scopes, matched_registration_number, slot_worker, without, worker_row}
use Rattle.sw_rules.specs.State.{State, Registration, Worker, Awaited, AddAll, value, of_job, of_task}
use Rattle.sw_rules.specs.Storage.{is_cache}
use Rattle.sw_laws.specs.Coherent.{Coherent, apart, is_controlled, is_of_key, is_running, is_secured, is_there, same_cache, same_client, same_event}
use Rattle.sw_laws.proofs.Lists.{all_changed, all_members, all_of_filter, all_weaker, apart_changed, by_test, bytes_eq_equal, bytes_eq_same, bytes_eq_symmetric, false_of, find_any, find_passes, none_found}
use Rattle.sw_laws.proofs.Places.{all_at_found, all_pushed, apart_filter, apart_pushed, found_numbered, place_pushed, places_apart, places_pushed}

-- ---- the registration that an address matches

all_of_map : {X Y : Type 0} (p : Y → Bool) (f : X → Y) (xs : List X) → list_all (λ x. p (f x)) xs ≡ true → list_all p (map f xs) ≡ true
all_of_map p f [] is = is
all_of_map p f (x ∷ xs) is = grind (arith, is, all_of_map p f xs)

all_that_pass : {X : Type 0} (p q : X → Bool) → ((x : X) → p x ≡ true → q x ≡ true → q x ≡ true) → (xs : List X) → list_all q (filter p xs) ≡ true → list_all (λ x. p x && q x) (filter p xs) ≡ true
all_that_pass p q goes [] is = is
all_that_pass p q goes (x ∷ xs) is = grind (arith, is, all_that_pass p q goes xs)

longest_passes : (p : Scope → Bool) (xs : List Scope) (o : Option Scope) → list_all p xs ≡ true → option_map_or p o true ≡ true → option_map_or p (fold longer o xs) true ≡ true
longest_passes p [] o all is = is
longest_passes p (x ∷ xs) None all is = grind (arith, all, longest_passes p xs (Some x))
longest_passes p (x ∷ xs) (Some best) all is = grind (arith, all, is, longest_passes p xs (Some x), longest_passes p xs (Some best))

-- the registration of a scope has its number and key
abbrev stands_for : List Registration → Scope → Bool
stands_for rows scope = list_any (λ row. row.number == scope.number && bytes_eq row.key scope.key) rows

scopes_stand : (rows : List Registration) → list_all (stands_for rows) (map (λ row. record { key = row.key; scope = row.scope; number = row.number }) (filter (λ row. row.mapped) rows)) ≡ true
scopes_stand rows =
    all_of_map (stands_for rows) _ (filter (λ row. row.mapped) rows)
    (all_of_filter _ (λ row. row.mapped) rows (all_members (λ row other. row.number == other.number && bytes_eq row.key other.key) (λ row. grind (arith, nat_tests, bytes_eq_same row.key)) rows rows (λ row is. is)))

scope_key : (rows : List Registration) (key : List ℕ) (url : List ℕ) (found : Option Scope) (registration : ℕ) → option_map (λ (scope : Scope). scope.number) found ≡ Some registration
    → option_map_or (λ scope. holds_address key url scope && stands_for rows scope) found true ≡ true → list_any (λ row. row.number == registration && bytes_eq row.key key) rows ≡ true
scope_key rows key url None registration got is = absurd cc
scope_key rows key url (Some scope) registration got is =
    let number : scope.number ≡ registration = cc in
    let parts = and_parts (holds_address key url scope) (stands_for rows scope) is in
    let keyed : scope.key ≡ key = bytes_eq_equal scope.key key (grind (arith, parts.0)) in
    subst (λ (k : List ℕ). list_any (λ row. row.number == registration && bytes_eq row.key k) rows ≡ true) keyed
    (subst (λ n. list_any (λ (row : Registration). row.number == n && bytes_eq row.key scope.key) rows ≡ true) number parts.1)

-- the registration that an address of a key matches has this key
pub matched_key : (state : State) (key url : List ℕ) (registration : ℕ) → matched_registration_number state key url ≡ Some registration → list_any (λ row. row.number == registration && bytes_eq row.key key) state.registrations ≡ true
matched_key state key url registration is =
    scope_key state.registrations key url (longest (mapped_scopes state) key url) registration is
    (longest_passes (λ scope. holds_address key url scope && stands_for state.registrations scope) (filter (holds_address key url) (mapped_scopes state)) None
    (all_that_pass (holds_address key url) (stands_for state.registrations) (λ x one other. other) (mapped_scopes state) (all_of_filter (stands_for state.registrations) (holds_address key url) (mapped_scopes state) (scopes_stand state.registrations))) refl)

-- ---- clients

pub left_by-coherent : (state : State) (client : ℕ) → Coherent state → Coherent (left_by client state)
left_by-coherent state client sound = record {
  registrations = sound.registrations;
  workers = sound.workers;
  jobs = sound.jobs;
  work = sound.work;
  tasks = sound.tasks;
  clients = record {
    numbers = apart_changed same_client _ (λ x y fine. grind (arith, fine)) state.clients sound.clients.numbers;
    controllers = all_changed _ _ _ (λ row is. grind (arith, is)) state.clients sound.clients.controllers;
    keys = all_changed _ _ _ (λ row is. by_test (λ r. is_secured state.registrations state.workers r ≡ true) (is_client client row) _ row (λ here. refl) (λ other. is)) state.clients sound.clients.keys;
  };
  events = sound.events;
  caches = sound.caches;
  promises = sound.promises;
}

pub remove_client-coherent : (state : State) (client : ℕ) → Coherent state → Coherent (remove_client state client).state
unfolding remove_client
remove_client-coherent state client sound = record {
  registrations = sound.registrations;
  workers = sound.workers;
  jobs = sound.jobs;
  work = sound.work;
  tasks = sound.tasks;
  clients = record {
    numbers = apart_filter same_client _ state.clients sound.clients.numbers;
    controllers = all_of_filter _ _ state.clients sound.clients.controllers;
    keys = all_of_filter _ _ state.clients sound.clients.keys;
  };
  events = sound.events;
  caches = sound.caches;
  promises = sound.promises;
}

-- the active worker of a registration with a key may control a client of that key
pub slot_controls : (state : State) (registration : ℕ) (key : List ℕ) (found : Option Worker) (number : ℕ) → slot_worker state slot.Active registration ≡ found → option_map (λ (row : Worker). row.number) found ≡ Some number
    → list_any (λ row. row.number == registration && bytes_eq row.key key) state.registrations ≡ true
    → (has_worker (λ row. is_active row.state) state.workers number ≡ true) × (has_worker (is_of_key state.registrations key) state.workers number ≡ true)
slot_controls state registration key None number is got keyed = absurd cc
slot_controls state registration key (Some worker) number is got keyed =
    let passes = find_passes (λ row. row.registration == registration && in_slot slot.Active row.state) state.workers worker is in
    let same : worker.number ≡ number = cc in
    let of : worker.registration ≡ registration = grind (arith, nat_tests, passes) in (
      find_any _ (λ row. row.number == number && is_active row.state) state.workers worker is (grind (arith, nat_tests, passes, same)),
      find_any _ (λ row. row.number == number && is_of_key state.registrations key row) state.workers worker is
          (and_from _ _ (grind (arith, nat_tests, same)) (subst (λ n. list_any (λ (row : Registration). row.number == n && bytes_eq row.key key) state.registrations ≡ true) (sym of) keyed)),
    )

opened : (state : State) (key url : List ℕ) (matched : Option ℕ) (controller : Option ℕ) → matched_registration_number state key url ≡ matched → option_and_then (active_worker_number state) matched ≡ controller
    → (option_map_or (has_worker (λ row. is_active row.state) state.workers) controller true ≡ true) × (option_map_or (has_worker (is_of_key state.registrations key) state.workers) controller true ≡ true)
opened state key url matched None is got = (refl, refl)
opened state key url None (Some number) is got = absurd cc
opened state key url (Some registration) (Some number) is got =
    slot_controls state registration key (slot_worker state slot.Active registration) number refl got (matched_key state key url registration is)

new_controlled : (state : State) (key url : List ℕ) (trusted : Bool) → option_map_or (has_worker (λ row. is_active row.state) state.workers) (if trusted then option_and_then (active_worker_number state) (matched_registration_number state key url) else None) true ≡ true
new_controlled state key url true = (opened state key url (matched_registration_number state key url) (option_and_then (active_worker_number state) (matched_registration_number state key url)) refl refl).0
new_controlled state key url false = refl

both_there : {A : Type 0} (p : A → Bool) (o : Option A) → option_map_or p o true ≡ true → option_map_or (λ a. true && p a) o true ≡ true
both_there p None is = refl
both_there p (Some a) is = is

new_secured : (state : State) (key url : List ℕ) (trusted : Bool) → option_map_or (λ number. trusted && has_worker (is_of_key state.registrations key) state.workers number) (if trusted then option_and_then (active_worker_number state) (matched_registration_number state key url) else None) true ≡ true
new_secured state key url true = both_there (has_worker (is_of_key state.registrations key) state.workers) (option_and_then (active_worker_number state) (matched_registration_number state key url)) (opened state key url (matched_registration_number state key url) (option_and_then (active_worker_number state) (matched_registration_number state key url)) refl refl).1
new_secured state key url false = refl

pub no_option : {A : Type 0} (o : Option A) → is_some o ≡ false → o ≡ None
no_option None is = refl
no_option (Some a) is = absurd cc

no_pairs : (o : Option KeptCache) → is_some (option_map (λ row. row.pairs) o) ≡ false → o ≡ None
no_pairs None is = refl
no_pairs (Some row) is = absurd cc

-- ---- fetch events

pub remove_event-coherent : (state : State) (number : ℕ) → Coherent state → Coherent (remove_event state number).state
unfolding remove_event
remove_event-coherent state number sound = record {
  registrations = sound.registrations;
  workers = sound.workers;
  jobs = sound.jobs;
  work = sound.work;
  tasks = sound.tasks;
  clients = sound.clients;
  events = record {
    numbers = apart_filter same_event _ state.fetch_events sound.events.numbers;
    activated = all_of_filter _ _ state.fetch_events sound.events.activated;
  };
  caches = sound.caches;
  promises = sound.promises;
}

-- the worker of a controller that isn't activating is activated
controller_activated : (state : State) (row : ClientRow) (worker : Worker) (controller : Option ℕ) → Coherent state → row.controller ≡ controller → is_controlled state.workers row ≡ true → option_and_then (worker_row state) controller ≡ Some worker → is_activating worker ≡ false
    → has_worker is_activated state.workers worker.number ≡ true
controller_activated state row worker None sound here is got ready = absurd cc
controller_activated state row worker (Some number) sound here is got ready =
    let active : has_worker (λ w. is_active w.state) state.workers number ≡ true = rw here at is in
    let own = found_numbered (λ (w : Worker). w.number) (λ w. is_active w.state) state.workers number worker (places_apart (λ w. w.number) state.workers sound.workers.numbers) got active in
    find_any (is_worker number) (λ w. w.number == worker.number && is_activated w) state.workers worker got (grind (arith, nat_tests, own, ready))

pub add_event-coherent : (state : State) (client number : ℕ) (row : ClientRow) (worker : Worker) → client_row state client ≡ Some row → option_and_then (worker_row state) row.controller ≡ Some worker → is_activating worker ≡ false → is_some (event_row state number) ≡ false
    → Coherent state → Coherent (add_event state number worker.number).state
unfolding add_event
add_event-coherent state client number row worker there controls ready free sound = record {
  registrations = sound.registrations;
  workers = sound.workers;
  jobs = sound.jobs;
  work = sound.work;
  tasks = sound.tasks;
  clients = sound.clients;
  events = record {
    numbers = apart_pushed same_event state.fetch_events _ sound.events.numbers (none_found (is_event number) state.fetch_events (no_option (event_row state number) free));
    activated = all_pushed _ state.fetch_events _ sound.events.activated (controller_activated state row worker row.controller sound refl (all_at_found (is_client client) (is_controlled state.workers) state.clients row there sound.clients.controllers) controls ready);
  };
  caches = sound.caches;
  promises = sound.promises;
}

pub add_client-coherent : (state : State) (number : ℕ) (key url : List ℕ) → is_some (client_row state number) ≡ false → Coherent state → Coherent (add_client state (new_client state number key url)).state
unfolding add_client
add_client-coherent state number key url free sound =
    let new = new_client state number key url in
    record {
      registrations = sound.registrations;
      workers = sound.workers;
      jobs = sound.jobs;
      work = sound.work;
      tasks = sound.tasks;
      clients = record {
        numbers = apart_pushed same_client state.clients new sound.clients.numbers (none_found (is_client number) state.clients (no_option (client_row state number) free));
        controllers = all_pushed _ state.clients new sound.clients.controllers (new_controlled state key url (is_trustworthy url));
        keys = all_pushed _ state.clients new sound.clients.keys (new_secured state key url (is_trustworthy url));
      };
      events = sound.events;
      caches = sound.caches;
      promises = sound.promises;
    }

-- ---- caches

cache_apart : (key name : List ℕ) (row : KeptCache) → is_cache key name row ≡ false → not (same_cache row (record { key = key; name = name; pairs = [] })) ≡ true
cache_apart key name row other = grind (arith, other, bytes_eq_symmetric key row.key, bytes_eq_symmetric name row.name)

pub caches-coherent : (state : State) (rows : List KeptCache) → apart same_cache rows ≡ true → Coherent state → Coherent (record state { caches = rows })
caches-coherent state rows fine sound = record {
  registrations = sound.registrations;
  workers = sound.workers;
  jobs = sound.jobs;
  work = sound.work;
  tasks = sound.tasks;
  clients = sound.clients;
  events = sound.events;
  caches = fine;
  promises = sound.promises;
}

pub add_cache-coherent : (state : State) (key name : List ℕ) → is_some (pairs_of key name state.caches) ≡ false → Coherent state → Coherent (add_cache state key name).state
unfolding add_cache
add_cache-coherent state key name free sound =
    caches-coherent state _ (apart_pushed same_cache state.caches _ sound.caches (all_weaker _ _ (λ row is. cache_apart key name row (false_of is)) state.caches (none_found (is_cache key name) state.caches (no_pairs (find (is_cache key name) state.caches) free)))) sound

pub drop_cache-coherent : (state : State) (key name : List ℕ) → Coherent state → Coherent (drop_cache state key name).state
unfolding drop_cache
drop_cache-coherent state key name sound = caches-coherent state _ (apart_filter same_cache _ state.caches sound.caches) sound

clear_of_cache : (key name : List ℕ) (pairs : List Pair) (row : KeptCache) (rows : List KeptCache) → list_all (λ y. not (same_cache row y)) rows ≡ true → list_all (λ y. not (same_cache row y)) (with_pairs key name pairs rows) ≡ true
clear_of_cache key name pairs row [] is = refl
clear_of_cache key name pairs row (x ∷ xs) is = grind (arith, is, clear_of_cache key name pairs row xs)

with_pairs_apart : (key name : List ℕ) (pairs : List Pair) (rows : List KeptCache) → apart same_cache rows ≡ true → apart same_cache (with_pairs key name pairs rows) ≡ true
with_pairs_apart key name pairs [] is = refl
with_pairs_apart key name pairs (x ∷ xs) is =
    let parts = and_parts (list_all (λ y. not (same_cache x y)) xs) (apart same_cache xs) is in
    by_test (λ rows. apart same_cache rows ≡ true) (is_cache key name x) _ _
    (λ here. and_from _ _ parts.0 parts.1)
    (λ other. and_from _ _ (clear_of_cache key name pairs x xs parts.0) (with_pairs_apart key name pairs xs parts.1))

pub carry_out-coherent : (state : State) (key name : List ℕ) (ops : List Op) (pairs : List Pair) → Coherent state → Coherent (carry_out state key name ops pairs).state
unfolding carry_out
carry_out-coherent state key name ops pairs sound = caches-coherent state _ (with_pairs_apart key name pairs state.caches sound.caches) sound

-- ---- addAlls and promises

there_of_tasks : (jobs : List JobRow) (tasks : List AddAll) (new : AddAll) (awaited : Awaited) → is_there jobs tasks awaited ≡ true → is_there jobs (tasks ++ new ∷ []) awaited ≡ true
there_of_tasks jobs tasks new (value result) is = refl
there_of_tasks jobs tasks new (of_job job) is = is
there_of_tasks jobs tasks new (of_task task) is = place_pushed tasks new task is

pub add_task-coherent : (state : State) (maker : Who) (key name : List ℕ) (requests : List Request) → is_running state.workers (maker_worker maker) ≡ true → Coherent state → Coherent (add_task state maker key name requests).state
unfolding add_task
add_task-coherent state maker key name requests runs sound =
    let new = new_task state maker key name requests in
    record {
      registrations = sound.registrations;
      workers = sound.workers;
      jobs = sound.jobs;
      work = sound.work;
      tasks = record {
        numbers = places_pushed (λ (row : AddAll). row.number) state.tasks new refl sound.tasks.numbers;
        makers = all_pushed _ state.tasks new sound.tasks.makers runs;
      };
      clients = sound.clients;
      events = sound.events;
      caches = sound.caches;
      promises = all_weaker _ _ (λ row is. there_of_tasks state.jobs state.tasks new row.awaited is) state.promises sound.promises;
    }

pub promise-coherent : (state : State) (maker : Who) (awaited : Awaited) → is_there state.jobs state.tasks awaited ≡ true → Coherent state → Coherent (promise state maker awaited).state
unfolding promise
promise-coherent state who.Host awaited there sound = sound
promise-coherent state (who.Lane lane at) awaited there sound = record {
  registrations = sound.registrations;
  workers = sound.workers;
  jobs = sound.jobs;
  work = sound.work;
  tasks = sound.tasks;
  clients = sound.clients;
  events = sound.events;
  caches = sound.caches;
  promises = all_pushed _ (without (is_promise lane at) state.promises) _ (all_of_filter _ _ state.promises sound.promises) there;
}
promise-coherent state (who.Handler worker in_phase number) awaited there sound = sound
