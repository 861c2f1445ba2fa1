-- Steps on registrations, clients, fetch events, caches, addAlls and promises keep a state coherent.
use Rattle.std.proofs.Common.{◌≡◌, ℕ, Bool, true, false, not, ◌&&◌, ◌==◌, List, [], ◌∷◌, ◌++◌, map, None, length, refl, arith, if◌then◌else◌}
use Rattle.std.specs.Prelude.{bytes_eq}
use Rattle.std.proofs.lemmas.Bool.{and_from, and_parts}
use Rattle.std.proofs.lemmas.List.Folds.{list_any-append}
use Rattle.sw_data.specs.declared.rows.ClientRow.{ClientRow}
use Rattle.sw_data.specs.declared.rows.Job.{Job}
use Rattle.sw_data.specs.declared.rows.JobRow.{JobRow}
use Rattle.sw_data.specs.declared.workers.Mode.{Mode}
use Rattle.sw_rules.specs.Activating.{paid}
use Rattle.sw_rules.specs.Preloading.{set_preload}
use Rattle.sw_rules.specs.Registrations.{map_registration, new_registration, set_mode, unmap}
use Rattle.sw_rules.specs.Rows.{is_mapped_to, is_registration, mapped_registration}
use Rattle.sw_rules.specs.State.{State, Registration, Worker}
use Rattle.sw_laws.specs.Coherent.{Coherent, has_own_registration, is_of_key, is_secured, same_scope}
use Rattle.sw_laws.proofs.Lists.{all_weaker, any_changed, any_weaker, apart_changed, by_test, false_of, none_found, where_there}
use Rattle.sw_laws.proofs.Places.{apart_pushed, place_changed, place_pushed, places_changed, places_pushed}

-- ---- registrations

-- a change of registrations that keeps number, key and scope, and maps none
pub record KeepsRegistration (f : Registration → Registration) : Type 0 where
  pub number : (x : Registration) → (f x).number ≡ x.number
  pub key : (x : Registration) → (f x).key ≡ x.key
  pub scope : (x : Registration) → (f x).scope ≡ x.scope
  pub mapped : (x y : Registration) → same_scope x y ≡ false → same_scope (f x) (f y) ≡ false

fewer_mapped : (a b c d same_key same_text : Bool) → (c ≡ true → a ≡ true) → (d ≡ true → b ≡ true) → (a && b && same_key && same_text) ≡ false → (c && d && same_key && same_text) ≡ false
fewer_mapped a b c d same_key same_text one other is = grind (arith, one, other, is)

key_stays : (f : Registration → Registration) → KeepsRegistration f → (rows : List Registration) (key : List ℕ) (worker : Worker) → is_of_key rows key worker ≡ true → is_of_key (map f rows) key worker ≡ true
key_stays f keeps rows key worker is =
    any_changed (λ row. row.number == worker.registration && bytes_eq row.key key) _ f (λ row here. rw (keeps.number row, keeps.key row) here) rows is

secured_stays : (f : Registration → Registration) → KeepsRegistration f → (rows : List Registration) (workers : List Worker) (client : ClientRow) → is_secured rows workers client ≡ true → is_secured (map f rows) workers client ≡ true
secured_stays f keeps rows workers client is =
    where_there _ _ client.controller (λ number here. let parts = and_parts _ _ here in and_from _ _ parts.0 (any_weaker (λ row. row.number == number && is_of_key rows client.key row) _ (λ row passes. let both = and_parts _ _ passes in and_from _ _ both.0 (key_stays f keeps rows client.key row both.1)) workers parts.1)) is

own_stays : (f : Registration → Registration) → KeepsRegistration f → (rows : List Registration) (row : JobRow) → has_own_registration rows row ≡ true → has_own_registration (map f rows) row ≡ true
own_stays f keeps rows row is =
    where_there _ _ row.registration (λ number here. any_changed (λ found. found.number == number && bytes_eq found.key row.job.key && bytes_eq found.scope row.job.scope) _ f (λ found passes. rw (keeps.number found, keeps.key found, keeps.scope found) passes) rows here) is

pub registrations-coherent : (f : Registration → Registration) → KeepsRegistration f → (state : State) → Coherent state → Coherent (record state { registrations = map f state.registrations })
registrations-coherent f keeps state sound =
    let rows = state.registrations in
    record {
      registrations = record {
        numbers = places_changed (λ row. row.number) f keeps.number rows sound.registrations.numbers;
        scopes = apart_changed same_scope f keeps.mapped rows sound.registrations.scopes;
      };
      workers = record {
        numbers = sound.workers.numbers;
        slots = sound.workers.slots;
        handlers = sound.workers.handlers;
        owners = all_weaker _ _ (λ row is. place_changed f rows row.registration is) state.workers sound.workers.owners;
      };
      jobs = sound.jobs;
      work = record {
        keys = all_weaker _ _ (own_stays f keeps rows) state.jobs sound.work.keys;
        made = sound.work.made;
        phases = sound.work.phases;
        installing = sound.work.installing;
      };
      tasks = sound.tasks;
      clients = record {
        numbers = sound.clients.numbers;
        controllers = sound.clients.controllers;
        keys = all_weaker _ _ (secured_stays f keeps rows state.workers) state.clients sound.clients.keys;
      };
      events = sound.events;
      caches = sound.caches;
      promises = sound.promises;
    }

pub plain_keeps : (test : Registration → Bool) (g : Registration → Registration) → ((x : Registration) → (g x).number ≡ x.number) → ((x : Registration) → (g x).key ≡ x.key) → ((x : Registration) → (g x).scope ≡ x.scope) → ((x : Registration) → (g x).mapped ≡ true → x.mapped ≡ true)
    → KeepsRegistration (λ row. if test row then g row else row)
plain_keeps test g number key scope mapped =
    let f = λ (row : Registration). if test row then g row else row in
    let is_number : (x : Registration) → (f x).number ≡ x.number = λ x. by_test (λ row. row.number ≡ x.number) (test x) _ x (λ here. number x) (λ other. refl) in
    let is_key : (x : Registration) → (f x).key ≡ x.key = λ x. by_test (λ row. row.key ≡ x.key) (test x) _ x (λ here. key x) (λ other. refl) in
    let is_scope : (x : Registration) → (f x).scope ≡ x.scope = λ x. by_test (λ row. row.scope ≡ x.scope) (test x) _ x (λ here. scope x) (λ other. refl) in
    let was_mapped : (x : Registration) → (f x).mapped ≡ true → x.mapped ≡ true = λ x. by_test (λ row. row.mapped ≡ true → x.mapped ≡ true) (test x) _ x (λ here. mapped x) (λ other is. is) in
    record {
      number = is_number;
      key = is_key;
      scope = is_scope;
      mapped = λ x y fine. rw (is_key x, is_key y, is_scope x, is_scope y) (fewer_mapped _ _ _ _ _ _ (was_mapped x) (was_mapped y) fine);
    }

pub unmap-coherent : (state : State) (registration : ℕ) → Coherent state → Coherent (unmap state registration).state
unfolding unmap
unmap-coherent state registration sound =
    registrations-coherent _ (plain_keeps (is_registration registration) (λ row. record row { mapped = false }) (λ x. refl) (λ x. refl) (λ x. refl) (λ x is. absurd cc)) state sound

pub set_mode-coherent : (state : State) (registration : ℕ) (mode : Mode) → Coherent state → Coherent (set_mode state registration mode).state
unfolding set_mode
set_mode-coherent state registration mode sound =
    registrations-coherent _ (plain_keeps (is_registration registration) (λ row. record row { mode = mode }) (λ x. refl) (λ x. refl) (λ x. refl) (λ x is. is)) state sound

pub set_preload-coherent : (state : State) (registration : ℕ) (on : Bool) (text : List ℕ) → Coherent state → Coherent (set_preload state registration on text).state
unfolding set_preload
set_preload-coherent state registration on text sound =
    registrations-coherent _ (plain_keeps (is_registration registration) (λ row. record row { preload = on; preload_value = text }) (λ x. refl) (λ x. refl) (λ x. refl) (λ x is. is)) state sound

pub paid-coherent : (state : State) (registration : ℕ) → Coherent state → Coherent (paid registration state)
paid-coherent state registration sound =
    registrations-coherent _ (plain_keeps (is_registration registration) (λ row. record row { owed = false }) (λ x. refl) (λ x. refl) (λ x. refl) (λ x is. is)) state sound

-- a new registration is mapped where none is
key_pushed : (rows : List Registration) (new : Registration) (key : List ℕ) (worker : Worker) → is_of_key rows key worker ≡ true → is_of_key (rows ++ new ∷ []) key worker ≡ true
key_pushed rows new key worker is = grind (arith, is, list_any-append (λ row. row.number == worker.registration && bytes_eq row.key key) rows (new ∷ []))

secured_pushed : (rows : List Registration) (new : Registration) (workers : List Worker) (client : ClientRow) → is_secured rows workers client ≡ true → is_secured (rows ++ new ∷ []) workers client ≡ true
secured_pushed rows new workers client is =
    where_there _ _ client.controller (λ number here. let parts = and_parts _ _ here in and_from _ _ parts.0 (any_weaker (λ row. row.number == number && is_of_key rows client.key row) _ (λ row passes. let both = and_parts _ _ passes in and_from _ _ both.0 (key_pushed rows new client.key row both.1)) workers parts.1)) is

own_pushed : (rows : List Registration) (new : Registration) (row : JobRow) → has_own_registration rows row ≡ true → has_own_registration (rows ++ new ∷ []) row ≡ true
own_pushed rows new row is =
    where_there _ _ row.registration (λ number here. grind (arith, here, list_any-append (λ found. found.number == number && bytes_eq found.key row.job.key && bytes_eq found.scope row.job.scope) rows (new ∷ []))) is

unmapped_scope : (job : Job) (number : ℕ) (row : Registration) → is_mapped_to job.key job.scope row ≡ false → not (same_scope row (new_registration number job)) ≡ true
unmapped_scope job number row is = grind (arith, is)

pub map_registration-coherent : (state : State) (job : Job) → mapped_registration state job.key job.scope ≡ None → Coherent state → Coherent (map_registration state job).state
unfolding map_registration
map_registration-coherent state job free sound =
    let rows = state.registrations in
    let new = new_registration (length rows) job in
    record {
      registrations = record {
        numbers = places_pushed (λ (row : Registration). row.number) rows new refl sound.registrations.numbers;
        scopes = apart_pushed same_scope rows new sound.registrations.scopes (all_weaker _ _ (λ row is. unmapped_scope job (length rows) row (false_of is)) rows (none_found (is_mapped_to job.key job.scope) rows free));
      };
      workers = record {
        numbers = sound.workers.numbers;
        slots = sound.workers.slots;
        handlers = sound.workers.handlers;
        owners = all_weaker _ _ (λ row is. place_pushed rows new row.registration is) state.workers sound.workers.owners;
      };
      jobs = sound.jobs;
      work = record {
        keys = all_weaker _ _ (own_pushed rows new) state.jobs sound.work.keys;
        made = sound.work.made;
        phases = sound.work.phases;
        installing = sound.work.installing;
      };
      tasks = sound.tasks;
      clients = record {
        numbers = sound.clients.numbers;
        controllers = sound.clients.controllers;
        keys = all_weaker _ _ (secured_pushed rows new state.workers) state.clients sound.clients.keys;
      };
      events = sound.events;
      caches = sound.caches;
      promises = sound.promises;
    }
