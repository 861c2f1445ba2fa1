-- Activate, and the end of an activate handler, keep a state coherent.
use Rattle.std.proofs.Common.{◌≡◌, ℕ, Bool, true, false, not, ◌&&◌, ◌||◌, ◌==◌, List, map, Option, Some, None, refl, ap, arith, if◌then◌else◌, subst, sym}
use Rattle.std.specs.List.{list_all, list_any}
use Rattle.std.specs.Prelude.{bytes_eq, option_and_then}
use Rattle.std.proofs.lemmas.Bool.{and_parts}
use Rattle.std.proofs.lemmas.Bool.Decides.{nat_tests}
use Rattle.sw_data.specs.declared.rows.ClientRow.{ClientRow}
use Rattle.sw_data.specs.declared.workers.Slot.TheVariants as slot
use Rattle.sw_rules.specs.Registrations.{activate, chosen, controlled_by, may_replace}
use Rattle.sw_rules.specs.Rows.{has_pending, has_worker, in_slot, is_activated, is_activating, is_active, slot_worker, uses}
use Rattle.sw_rules.specs.State.{State, Registration, Worker}
use Rattle.sw_laws.specs.Coherent.{Coherent, apart, has_its_handler, is_of_key, is_secured, share_slot}
use Rattle.sw_laws.proofs.AtOnce.{activated_at_once, are_apart, promote}
use Rattle.sw_laws.proofs.Lists.{all_both, all_changed, all_there, all_weaker, any_changed, apart_changed, find_any, find_passes}
use Rattle.sw_laws.proofs.Moves.{Keeps, from_any, keys-moved, tasks-moved, work-moved, workers-moved}
use Rattle.sw_laws.proofs.Places.{all_as_found, all_not_found, any_known, both_numbered, places_apart}
use Rattle.sw_laws.proofs.WorkerSteps.{unused_stays}

-- ---- the worker that Try Activate makes active

pub record IsChosen (state : State) (registration worker : ℕ) : Type 0 where
  pub waiting : Worker
  pub found : slot_worker state slot.Waiting registration ≡ Some waiting
  pub number : waiting.number ≡ worker
  pub replaces : list_all (λ row. not (row.registration == registration && in_slot slot.Active row.state) || (not (is_activating row) && not (has_pending state row))) state.workers ≡ true

replaces_found : (state : State) (registration : ℕ) (waiting : Worker) (old : Option Worker) → slot_worker state slot.Active registration ≡ old → may_replace state registration waiting old ≡ true → apart share_slot state.workers ≡ true
    → list_all (λ row. not (row.registration == registration && in_slot slot.Active row.state) || (not (is_activating row) && not (has_pending state row))) state.workers ≡ true
replaces_found state registration waiting None is may fine = all_not_found _ _ state.workers is
replaces_found state registration waiting (Some old) is may fine =
    all_as_found share_slot (λ row. row.registration == registration && in_slot slot.Active row.state) (λ row. not (is_activating row) && not (has_pending state row)) (λ x y one other. grind (arith, nat_tests, one, other)) state.workers old fine is (grind (arith, may))

is_chosen_by : (state : State) (registration worker : ℕ) (waiting : Option Worker) → slot_worker state slot.Waiting registration ≡ waiting
    → option_and_then (λ (row : Worker). if may_replace state registration row (slot_worker state slot.Active registration) then Some row.number else None) waiting ≡ Some worker
    → apart share_slot state.workers ≡ true → IsChosen state registration worker
is_chosen_by state registration worker None is got fine = absurd cc
is_chosen_by state registration worker (Some waiting) is got fine = record {
  waiting = waiting;
  found = is;
  number = grind (arith, got);
  replaces = replaces_found state registration waiting (slot_worker state slot.Active registration) refl (grind (arith, got)) fine;
}

pub is_chosen : (state : State) (registration worker : ℕ) → chosen state registration ≡ Some worker → Coherent state → IsChosen state registration worker
is_chosen state registration worker is sound =
    is_chosen_by state registration worker (slot_worker state slot.Waiting registration) refl is sound.workers.slots

-- ---- Activate

abbrev pub promoted_of : ℕ → Worker → Worker
promoted_of registration row = if row.registration == registration then promote row else row

pub promoted_keeps : (registration : ℕ) → Keeps (promoted_of registration)
promoted_keeps registration = record { number = λ x. grind arith; registration = λ x. grind arith }

promoted_slots : (registration : ℕ) (x y : Worker) → share_slot x y ≡ false → share_slot (promoted_of registration x) (promoted_of registration y) ≡ false
promoted_slots registration x y fine = grind (arith, nat_tests, fine)

module _ (state : State) (registration worker : ℕ) (picked : IsChosen state registration worker) (sound : Coherent state) where
  abbrev rows : List Worker
  rows = state.workers

  abbrev f : Worker → Worker
  f = promoted_of registration

  abbrev known : Worker → Bool
  known row = (not (row.registration == registration && in_slot slot.Active row.state) || (not (is_activating row) && not (has_pending state row))) && has_its_handler row

  knows : list_all known rows ≡ true
  knows = all_both _ _ rows picked.replaces sound.workers.handlers

  pub waits : (picked.waiting.registration == registration && in_slot slot.Waiting picked.waiting.state) ≡ true
  waits = find_passes _ rows picked.waiting picked.found

  -- the waiting worker is active afterwards
  becomes_active : has_worker (λ row. is_active row.state) (map f rows) worker ≡ true
  becomes_active =
      any_changed (λ row. row.number == worker && (row.registration == registration && in_slot slot.Waiting row.state)) _ f (λ row here. grind (arith, here)) rows
      (find_any _ _ rows picked.waiting picked.found (grind (arith, nat_tests, waits, picked.number)))

  event_stays : (number : ℕ) → has_worker is_activated rows number ≡ true → list_any (λ event. event.worker == number) state.fetch_events ≡ true → has_worker is_activated (map f rows) number ≡ true
  event_stays number is busy =
      any_known known (λ row. row.number == number && is_activated row) _ f
      (λ row know here. grind (arith, nat_tests, know, here, busy, λ (e : row.number ≡ number). ap (λ n. list_any (λ event. event.worker == n) state.fetch_events) e)) rows knows is

  -- a client of the registration has its key, and so is one of the new worker
  key_of_registration : (client : ClientRow) (number : ℕ) → has_worker (is_of_key state.registrations client.key) rows number ≡ true → has_worker (λ row. row.registration == registration) rows number ≡ true
      → list_any (λ row. row.number == registration && bytes_eq row.key client.key) state.registrations ≡ true
  key_of_registration client number keyed used =
      from_any _ _ (λ row here. grind (arith, nat_tests, here, λ (e : row.registration ≡ registration). ap (λ n. list_any (λ (found : Registration). found.number == n && bytes_eq found.key client.key) state.registrations) e)) rows
      (both_numbered (λ (w : Worker). w.number) (is_of_key state.registrations client.key) (λ row. row.registration == registration) rows number (places_apart (λ row. row.number) rows sound.workers.numbers) keyed used)

  new_key : (client : ClientRow) → list_any (λ row. row.number == registration && bytes_eq row.key client.key) state.registrations ≡ true → has_worker (is_of_key state.registrations client.key) (map f rows) worker ≡ true
  new_key client keyed =
      any_changed (λ row. row.number == worker && row.registration == registration) _ f
      (λ row here. grind (arith, nat_tests, here, keyed, (promoted_keeps registration).number row, (promoted_keeps registration).registration row, λ (e : row.registration ≡ registration). ap (λ n. list_any (λ (found : Registration). found.number == n && bytes_eq found.key client.key) state.registrations) e)) rows
      (find_any _ _ rows picked.waiting picked.found (grind (arith, nat_tests, waits, picked.number)))

  abbrev given : ClientRow → ClientRow
  given client = if uses rows registration client then controlled_by worker client else client

  given_key : (client : ClientRow) → is_secured state.registrations rows client ≡ true → is_secured state.registrations (map f rows) client ≡ true → is_secured state.registrations (map f rows) (given client) ≡ true
  given_key client is kept = grind (arith, is, kept, key_of_registration client, new_key client)

  pub activate-coherent : Coherent (activate state registration worker).state
  activate-coherent = subst Coherent (sym (activated_at_once state registration worker picked.waiting (are_apart state.registrations rows sound.workers) picked.found picked.number)) (record {
    registrations = sound.registrations;
    workers = workers-moved f (promoted_keeps registration) known rows knows state.registrations (λ x y a b fine. promoted_slots registration x y fine) (λ x a is. grind (arith, a, is)) sound.workers;
    jobs = sound.jobs;
    work = work-moved f (promoted_keeps registration) known rows knows state.registrations state.jobs (λ x a is. grind (arith, is)) (λ x a is. grind (arith, is)) (λ x a is. grind (arith, is)) sound.work;
    tasks = tasks-moved f (promoted_keeps registration) known rows knows state.tasks (λ x a is. grind (arith, is)) sound.tasks;
    clients = record {
      numbers = apart_changed _ given (λ x y fine. grind (arith, fine)) state.clients sound.clients.numbers;
      controllers = all_changed _ _ given (λ client is. grind (arith, is, becomes_active, unused_stays registration f (λ row other. grind (arith, other)) rows client)) state.clients sound.clients.controllers;
      keys = all_changed _ _ given (λ client is. let parts = and_parts _ _ is in given_key client parts.0 parts.1) state.clients
          (all_both _ _ state.clients sound.clients.keys (keys-moved f (promoted_keeps registration) known rows knows state.registrations state.clients sound.clients.keys));
    };
    events = record {
      numbers = sound.events.numbers;
      activated = all_weaker _ _ (λ event is. let parts = and_parts _ _ is in event_stays event.worker parts.0 parts.1) state.fetch_events (all_both _ _ state.fetch_events sound.events.activated (all_there (λ event. event.worker) state.fetch_events));
    };
    caches = sound.caches;
    promises = sound.promises;
  })
