-- Forgetting a key keeps a state coherent.
use Rattle.std.proofs.Common.{◌≡◌, ◌∙◌, ℕ, Bool, true, false, not, ◌&&◌, ◌||◌, ◌==◌, List, [], ◌∷◌, map, filter, Option, Some, None, option_map, refl, sym, ap, subst, true≢false, arith, if◌then◌else◌}
use Rattle.std.specs.List.{list_all, list_any}
use Rattle.std.specs.Prelude.{bytes_eq, find, is_none, is_some, option_and_then}
use Rattle.std.specs.Option.{option_map_or}
use Rattle.std.proofs.lemmas.Bool.{and_parts}
use Rattle.std.proofs.lemmas.Bool.Decides.{nat_tests}
use Rattle.sw_data.specs.declared.rows.ClientRow.{ClientRow}
use Rattle.sw_data.specs.declared.workers.WorkerState.{WorkerState}
use Rattle.sw_rules.specs.Forgetting.{forget_key, is_busy, is_mapped_of, is_worker_of_key}
use Rattle.sw_rules.specs.Rows.{has_worker, is_activated, is_active, is_registration, is_unfinished, is_worker, registration_row, worker_row}
use Rattle.sw_rules.specs.State.{State, Registration, Worker}
use Rattle.sw_laws.specs.Coherent.{Coherent, apart, has_its_handler, is_of_key, same_cache, same_slot, share_slot}
use Rattle.sw_laws.proofs.AtOnce.{are_apart, clear_state}
use Rattle.sw_laws.proofs.FetchSteps.{bytes_joined}
use Rattle.sw_laws.proofs.Forgotten.{cleared, forgotten_together, is_numbered, left}
use Rattle.sw_laws.proofs.Lists.{all_both, all_members, all_not, all_weaker, any_changed, any_weaker, by_test, bytes_eq_symmetric, false_of, or_from}
use Rattle.sw_laws.proofs.Moves.{Keeps, from_any, keys-moved, tasks-moved, work-moved, workers-moved}
use Rattle.sw_laws.proofs.Places.{any_known, apart_filter, both_numbered, found_numbered, not_there, places_apart}
use Rattle.sw_laws.proofs.RegistrationSteps.{plain_keeps, registrations-coherent}
use Rattle.sw_laws.proofs.RowSteps.{caches-coherent}

-- ---- what a key that isn't busy has not

pub record IsIdle (state : State) (key : List ℕ) : Type 0 where
  pub clients : list_all (λ row. not (bytes_eq row.key key)) state.clients ≡ true
  pub handlers : list_all (λ row. not (is_some row.handler && is_worker_of_key state key row.number)) state.workers ≡ true
  pub events : list_all (λ row. not (is_worker_of_key state key row.worker)) state.fetch_events ≡ true

none_of_five : (a b c d e : Bool) → (a || b || c || d || e) ≡ false → (not a && not c && not d) ≡ true
none_of_five a b c d e is = grind (arith, is)

first_of_three : (a c d : Bool) → (not a && not c && not d) ≡ true → a ≡ false
first_of_three a c d is = grind (arith, is)

second_of_three : (a c d : Bool) → (not a && not c && not d) ≡ true → c ≡ false
second_of_three a c d is = grind (arith, is)

third_of_three : (a c d : Bool) → (not a && not c && not d) ≡ true → d ≡ false
third_of_three a c d is = grind (arith, is)

idle : (state : State) (key : List ℕ) → is_busy state key ≡ false → IsIdle state key
idle state key is =
    let parts = none_of_five (list_any (λ row. bytes_eq row.key key) state.clients) (list_any (λ row. is_unfinished row && bytes_eq row.job.key key) state.jobs)
    (list_any (λ row. is_some row.handler && is_worker_of_key state key row.number) state.workers) (list_any (λ row. is_worker_of_key state key row.worker) state.fetch_events) (list_any (λ row. is_none row.settled && bytes_eq row.key key) state.tasks) is in
    record {
      clients = all_not (λ row. bytes_eq row.key key) state.clients (first_of_three _ _ _ parts);
      handlers = all_not (λ row. is_some row.handler && is_worker_of_key state key row.number) state.workers (second_of_three _ _ _ parts);
      events = all_not (λ row. is_worker_of_key state key row.worker) state.fetch_events (third_of_three _ _ _ parts);
    }

-- ---- the workers of the key's registrations

-- a worker of a mapped registration of a key is a worker of the key
pub any_of_filter : (key : List ℕ) (registration : ℕ) (rows : List Registration) → is_numbered (filter (is_mapped_of key) rows) registration ≡ true → list_any (λ row. row.number == registration && bytes_eq row.key key) rows ≡ true
any_of_filter key registration [] is = is
any_of_filter key registration (x ∷ xs) is = grind (arith, is, any_of_filter key registration xs)

found_key : (rows : List Registration) (key : List ℕ) (registration : ℕ) (found : Option Registration) → find (is_registration registration) rows ≡ found → apart (λ x y. x.number == y.number) rows ≡ true → list_any (λ row. row.number == registration && bytes_eq row.key key) rows ≡ true
    → option_map_or (bytes_eq key) (option_map (λ (row : Registration). row.key) found) false ≡ true
found_key rows key registration None is fine has = absurd (not_there (λ (r : Registration). r.number) (λ r. bytes_eq r.key key) rows registration is has)
found_key rows key registration (Some row) is fine has =
    found_numbered (λ (r : Registration). r.number) (λ r. bytes_eq key r.key) rows registration row fine is (any_weaker (λ r. r.number == registration && bytes_eq r.key key) _ (λ r here. grind (arith, here, bytes_eq_symmetric r.key key)) rows has)

key_by : (state : State) (key : List ℕ) (registration number : ℕ) (found : Option Worker) → find (is_worker number) state.workers ≡ found → apart (λ x y. x.number == y.number) state.workers ≡ true → apart (λ x y. x.number == y.number) state.registrations ≡ true
    → has_worker (λ w. w.registration == registration) state.workers number ≡ true
    → list_any (λ row. row.number == registration && bytes_eq row.key key) state.registrations ≡ true
    → option_map_or (bytes_eq key) (option_map (λ (row : Registration). row.key) (option_and_then (registration_row state) (option_map (λ (w : Worker). w.registration) found))) false ≡ true
key_by state key registration number None is fine keyed has there = absurd (not_there (λ (w : Worker). w.number) (λ w. w.registration == registration) state.workers number is has)
key_by state key registration number (Some w) is fine keyed has there =
    let same : w.registration ≡ registration = grind (arith, nat_tests, found_numbered (λ (w : Worker). w.number) (λ r. r.registration == registration) state.workers number w fine is has) in
    subst (λ n. option_map_or (bytes_eq key) (option_map (λ (row : Registration). row.key) (registration_row state n)) false ≡ true) (sym same)
    (found_key state.registrations key registration (registration_row state registration) refl keyed there)

keys_clash : (client key : List ℕ) (registration : ℕ) (rows : List Registration) → apart (λ x y. x.number == y.number) rows ≡ true → list_any (λ row. row.number == registration && bytes_eq row.key client) rows ≡ true → list_any (λ row. row.number == registration && bytes_eq row.key key) rows ≡ true → not (bytes_eq client key) ≡ true → ⊥
keys_clash client key registration rows fine one two other =
    let joined : bytes_eq client key ≡ true = from_any (λ row. row.number == registration && (bytes_eq row.key client && bytes_eq row.key key)) _ (λ row here. grind (arith, here, bytes_joined row.key client key)) rows (both_numbered (λ (r : Registration). r.number) (λ row. bytes_eq row.key client) (λ row. bytes_eq row.key key) rows registration fine one two) in
    true≢false (sym joined ∙ false_of other)

clear_apart : (one other : WorkerState) → same_slot one other ≡ false → (same_slot (clear_state one) (clear_state other) || same_slot (clear_state one) other || same_slot one (clear_state other)) ≡ false
clear_apart one other is = grind arith

slots_plain : (a b : Bool) (x y : Worker) → share_slot x y ≡ false → share_slot (if a then cleared x else x) (if b then cleared y else y) ≡ false
slots_plain a b x y fine = grind (arith, fine, clear_apart x.state y.state)

forgotten_slots : (gone : List Registration) (x y : Worker) → share_slot x y ≡ false → share_slot (if is_numbered gone x.registration then cleared x else x) (if is_numbered gone y.registration then cleared y else y) ≡ false
forgotten_slots gone x y fine = slots_plain (is_numbered gone x.registration) (is_numbered gone y.registration) x y fine

module _ (state : State) (key : List ℕ) (calm : IsIdle state key) (sound : Coherent state) where
  abbrev gone : List Registration
  gone = filter (is_mapped_of key) state.registrations

  abbrev f : Worker → Worker
  f w = if is_numbered gone w.registration then cleared w else w

  workers_apart : apart (λ x y. x.number == y.number) state.workers ≡ true
  workers_apart = places_apart (λ w. w.number) state.workers sound.workers.numbers

  registrations_apart : apart (λ x y. x.number == y.number) state.registrations ≡ true
  registrations_apart = places_apart (λ row. row.number) state.registrations sound.registrations.numbers

  abbrev is_keyed : Worker → Bool
  is_keyed w = not (is_numbered gone w.registration) || is_worker_of_key state key w.number

  keyed : list_all is_keyed state.workers ≡ true
  keyed =
      all_weaker (λ w. list_any (λ y. y.number == w.number && y.registration == w.registration) state.workers) _
      (λ w here. or_from (is_numbered gone w.registration) _ (λ of. key_by state key w.registration w.number (worker_row state w.number) refl workers_apart registrations_apart here (any_of_filter key w.registration state.registrations of))) state.workers
      (all_members (λ y w. y.number == w.number && y.registration == w.registration) (λ w. grind (arith, nat_tests)) state.workers state.workers (λ w is. is))

  abbrev known : Worker → Bool
  known w = (not (is_numbered gone w.registration) || is_none w.handler) && has_its_handler w

  knows : list_all known state.workers ≡ true
  knows = all_both _ _ state.workers
      (all_weaker _ _ (λ w here. let parts = and_parts (is_keyed w) (not (is_some w.handler && is_worker_of_key state key w.number)) here in grind (arith, parts.0, parts.1)) state.workers (all_both is_keyed _ state.workers keyed calm.handlers))
      sound.workers.handlers

  f_keeps : Keeps f
  f_keeps = record { number = λ x. by_test (λ w. w.number ≡ x.number) (is_numbered gone x.registration) _ x (λ a. refl) (λ b. refl); registration = λ x. by_test (λ w. w.registration ≡ x.registration) (is_numbered gone x.registration) _ x (λ a. refl) (λ b. refl) }

  event_stays : (number : ℕ) → not (is_worker_of_key state key number) ≡ true → has_worker is_activated state.workers number ≡ true → has_worker is_activated (map f state.workers) number ≡ true
  event_stays number free is =
      any_known is_keyed (λ w. w.number == number && is_activated w) _ f
      (λ w know here. grind (arith, nat_tests, know, here, free, λ (e : w.number ≡ number). ap (is_worker_of_key state key) e)) state.workers keyed is

  -- a controller of another key stays
  controller_stays : (client : ClientRow) → not (bytes_eq client.key key) ≡ true → (number : ℕ) → has_worker (λ w. is_active w.state) state.workers number ≡ true → has_worker (is_of_key state.registrations client.key) state.workers number ≡ true → has_worker (λ w. is_active w.state) (map f state.workers) number ≡ true
  controller_stays client other number active of =
      any_changed (λ w. w.number == number && (is_active w.state && is_of_key state.registrations client.key w)) _ f
      (λ w here. by_test (λ r. (r.number == number && is_active r.state) ≡ true) (is_numbered gone w.registration) _ w
      (λ any. absurd (keys_clash client.key key w.registration state.registrations registrations_apart (grind (arith, here)) (any_of_filter key w.registration state.registrations any) other))
      (λ none. grind (arith, here))) state.workers
      (both_numbered (λ (w : Worker). w.number) (λ w. is_active w.state) (is_of_key state.registrations client.key) state.workers number workers_apart active of)

  client_stays : (client : ClientRow) → not (bytes_eq client.key key) ≡ true → (controller : Option ℕ) → option_map_or (has_worker (λ w. is_active w.state) state.workers) controller true ≡ true
      → option_map_or (λ number. client.secure && has_worker (is_of_key state.registrations client.key) state.workers number) controller true ≡ true → option_map_or (has_worker (λ w. is_active w.state) (map f state.workers)) controller true ≡ true
  client_stays client other None active of = refl
  client_stays client other (Some number) active of = controller_stays client other number active (and_parts client.secure _ of).1

  moved : Coherent (record state { workers = map f state.workers })
  moved = record {
    registrations = sound.registrations;
    workers = workers-moved f f_keeps known state.workers knows state.registrations (λ x y a b fine. forgotten_slots gone x y fine) (λ x a is. grind (arith, a, is)) sound.workers;
    jobs = sound.jobs;
    work = work-moved f f_keeps known state.workers knows state.registrations state.jobs (λ x a is. grind (arith, is)) (λ x a is. grind (arith, a, is)) (λ x a is. grind (arith, a, is)) sound.work;
    tasks = tasks-moved f f_keeps known state.workers knows state.tasks (λ x a is. grind (arith, is)) sound.tasks;
    clients = record {
      numbers = sound.clients.numbers;
      controllers = all_weaker _ _ (λ client here. let outer = and_parts _ _ here in let parts = and_parts _ _ outer.1 in client_stays client outer.0 client.controller parts.0 parts.1) state.clients
          (all_both _ _ state.clients calm.clients (all_both _ _ state.clients sound.clients.controllers sound.clients.keys));
      keys = keys-moved f f_keeps known state.workers knows state.registrations state.clients sound.clients.keys;
    };
    events = record {
      numbers = sound.events.numbers;
      activated = all_weaker _ _ (λ event here. let parts = and_parts _ _ here in event_stays event.worker parts.0 parts.1) state.fetch_events (all_both _ _ state.fetch_events calm.events sound.events.activated);
    };
    caches = sound.caches;
    promises = sound.promises;
  }

  forgotten : Coherent (forget_key state key).state
  forgotten =
      let after : State = record state { workers = map f state.workers } in
      let unmapped = registrations-coherent _ (plain_keeps (is_mapped_of key) left (λ x. refl) (λ x. refl) (λ x. refl) (λ x is. absurd cc)) after moved in
      subst Coherent (sym (forgotten_together state key (are_apart state.registrations state.workers sound.workers) registrations_apart)) (caches-coherent _ _ (apart_filter same_cache _ state.caches sound.caches) unmapped)

pub forget-coherent : (state : State) (key : List ℕ) → is_busy state key ≡ false → Coherent state → Coherent (forget_key state key).state
forget-coherent state key is sound = forgotten state key (idle state key is) sound
