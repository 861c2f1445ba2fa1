-- Changes of workers that keep number and registration: what each clause asks of them.
use Rattle.std.proofs.Common.{◌≡◌, ℕ, Bool, true, false, not, ◌&&◌, ◌||◌, ◌==◌, List, [], ◌∷◌, map, Option, Some, None, refl, arith}
use Rattle.std.specs.List.{list_all, list_any}
use Rattle.std.specs.Prelude.{find, is_some}
use Rattle.std.proofs.lemmas.Bool.Decides.{nat_tests}
use Rattle.sw_data.specs.declared.rows.ClientRow.{ClientRow}
use Rattle.sw_data.specs.declared.rows.JobRow.{JobRow}
use Rattle.sw_rules.specs.Rows.{has_worker, is_in_phase, is_activated, is_active, is_evaluating, is_installing, is_number, is_unfinished, is_waiting, is_worker, maker_worker}
use Rattle.sw_rules.specs.State.{Registration, Worker, AddAll, FetchEvent}
use Rattle.sw_laws.specs.Coherent.{SoundClients, SoundEvents, SoundTasks, SoundWork, SoundWorkers, ArePlaces, has_its_handler, has_its_job, has_made, is_being_installed, is_of_key, is_parsed, is_running, is_secured, share_slot}
use Rattle.sw_laws.proofs.Lists.{all_weaker, where_there}
use Rattle.sw_laws.proofs.Places.{all_as_found, all_known, any_known, apart_known, place_changed, places_apart, places_changed}

-- the numbers and registrations of workers stay
pub record Keeps (f : Worker → Worker) : Type 0 where
  pub number : (x : Worker) → (f x).number ≡ x.number
  pub registration : (x : Worker) → (f x).registration ≡ x.registration

weaker_or : (one other rest : Bool) → (other ≡ true → one ≡ true) → (not one || rest) ≡ true → (not other || rest) ≡ true
weaker_or one other rest back is = grind (arith, back, is)

still_job : (jobs : List JobRow) (row new : Worker) → new.number ≡ row.number → new.registration ≡ row.registration → (is_being_installed new ≡ true → is_being_installed row ≡ true) → has_its_job jobs row ≡ true → has_its_job jobs new ≡ true
still_job jobs row new number registration back here = rw (number, registration) (weaker_or (is_being_installed row) (is_being_installed new) _ back here)

-- the worker of a job stays in its phase
pub weaker_phases : (job : JobRow) (parsed installing now_parsed now_installing : Bool) → (parsed ≡ true → now_parsed ≡ true) → (installing ≡ true → now_installing ≡ true)
    → ((not (is_unfinished job) || is_waiting job.phase || is_some job.registration) && (not (is_in_phase is_evaluating job) || parsed) && (not (is_in_phase is_installing job) || installing)) ≡ true
    → ((not (is_unfinished job) || is_waiting job.phase || is_some job.registration) && (not (is_in_phase is_evaluating job) || now_parsed) && (not (is_in_phase is_installing job) || now_installing)) ≡ true
weaker_phases job parsed installing now_parsed now_installing one other is = grind (arith, one, other, is)

module _ (f : Worker → Worker) (keeps : Keeps f) (known : Worker → Bool) (rows : List Worker) (knows : list_all known rows ≡ true) where
  -- a worker that passes is one that passes after the change
  pub has-moved : (p q : Worker → Bool) → ((x : Worker) → known x ≡ true → p x ≡ true → q (f x) ≡ true) → (number : ℕ) → has_worker p rows number ≡ true → has_worker q (map f rows) number ≡ true
  has-moved p q goes number is =
      any_known known _ _ f (λ row know here. grind (arith, nat_tests, keeps.number row, goes row know)) rows knows is

  pub workers-moved : (registrations : List Registration)
      → ((x y : Worker) → known x ≡ true → known y ≡ true → share_slot x y ≡ false → share_slot (f x) (f y) ≡ false)
      → ((x : Worker) → known x ≡ true → has_its_handler x ≡ true → has_its_handler (f x) ≡ true)
      → SoundWorkers registrations rows → SoundWorkers registrations (map f rows)
  workers-moved registrations slots handlers sound = record {
    numbers = places_changed (λ row. row.number) f keeps.number rows sound.numbers;
    slots = apart_known known share_slot share_slot f slots rows knows sound.slots;
    handlers = all_known known has_its_handler has_its_handler f handlers rows knows sound.handlers;
    owners = all_known known _ _ f (λ row know here. grind (arith, keeps.registration row, here)) rows knows sound.owners;
  }

  running-moved : ((x : Worker) → known x ≡ true → is_some x.handler ≡ true → is_some (f x).handler ≡ true) → (maker : Option ℕ) → is_running rows maker ≡ true → is_running (map f rows) maker ≡ true
  running-moved runs None is = refl
  running-moved runs (Some worker) is = has-moved (λ x. is_some x.handler) (λ x. is_some x.handler) runs worker is

  pub tasks-moved : (tasks : List AddAll) → ((x : Worker) → known x ≡ true → is_some x.handler ≡ true → is_some (f x).handler ≡ true) → SoundTasks rows tasks → SoundTasks (map f rows) tasks
  tasks-moved tasks runs sound = record {
    numbers = sound.numbers;
    makers = all_weaker _ _ (λ row is. grind (arith, is, running-moved runs (maker_worker row.maker))) tasks sound.makers;
  }

  pub events-moved : (events : List FetchEvent) → ((x : Worker) → known x ≡ true → is_activated x ≡ true → is_activated (f x) ≡ true) → SoundEvents rows events → SoundEvents (map f rows) events
  events-moved events activated sound = record {
    numbers = sound.numbers;
    activated = all_weaker _ _ (λ event is. has-moved is_activated is_activated activated event.worker is) events sound.activated;
  }

  -- the key of a client is that of its controller's registration, whatever the workers' states are
  secured-moved : (registrations : List Registration) (client : ClientRow) → is_secured registrations rows client ≡ true → is_secured registrations (map f rows) client ≡ true
  secured-moved registrations client is =
      grind (arith, is, has-moved (is_of_key registrations client.key) (is_of_key registrations client.key) (λ x know here. grind (arith, keeps.registration x, here)))

  pub keys-moved : (registrations : List Registration) (clients : List ClientRow) → list_all (is_secured registrations rows) clients ≡ true → list_all (is_secured registrations (map f rows)) clients ≡ true
  keys-moved registrations clients is = all_weaker _ _ (secured-moved registrations) clients is

  pub clients-moved : (registrations : List Registration) (clients : List ClientRow) → ((x : Worker) → known x ≡ true → is_active x.state ≡ true → is_active (f x).state ≡ true) → SoundClients registrations rows clients → SoundClients registrations (map f rows) clients
  clients-moved registrations clients active sound = record {
    numbers = sound.numbers;
    controllers = all_weaker _ _ (λ client is. grind (arith, is, has-moved (λ x. is_active x.state) (λ x. is_active x.state) active)) clients sound.controllers;
    keys = keys-moved registrations clients sound.keys;
  }

  made-moved : (job : JobRow) (p q : Worker → Bool) → ((x : Worker) → known x ≡ true → p x ≡ true → q (f x) ≡ true) → has_made p rows job ≡ true → has_made q (map f rows) job ≡ true
  made-moved job p q goes is =
      grind (arith, is, has-moved (λ worker. is_number job.registration worker.registration && p worker) (λ worker. is_number job.registration worker.registration && q worker) (λ x know here. grind (arith, keeps.registration x, goes x know, here)))

  pub work-moved : (registrations : List Registration) (jobs : List JobRow)
      → ((x : Worker) → known x ≡ true → is_parsed x ≡ true → is_parsed (f x) ≡ true)
      → ((x : Worker) → known x ≡ true → is_being_installed x ≡ true → is_being_installed (f x) ≡ true)
      → ((x : Worker) → known x ≡ true → is_being_installed (f x) ≡ true → is_being_installed x ≡ true)
      → SoundWork registrations rows jobs → SoundWork registrations (map f rows) jobs
  work-moved registrations jobs parsed installed back sound = record {
    keys = sound.keys;
    made = all_weaker _ _ (λ job is. where_there _ _ job.worker (place_changed f rows) is) jobs sound.made;
    phases = all_weaker _ _ (λ job is. weaker_phases job _ _ _ _ (made-moved job is_parsed is_parsed parsed) (made-moved job is_being_installed is_being_installed installed) is) jobs sound.phases;
    installing = all_known known _ _ f (λ row know here. still_job jobs row (f row) (keeps.number row) (keeps.registration row) (back row know) here) rows knows sound.installing;
  }

-- ---- more on workers of a number

-- what holds of each worker that passes holds where there is one
pub from_any : {X : Type 0} (p : X → Bool) (b : Bool) → ((x : X) → p x ≡ true → b ≡ true) → (xs : List X) → list_any p xs ≡ true → b ≡ true
from_any p b goes [] is = absurd cc
from_any p b goes (x ∷ xs) is = grind (arith, is, goes x, from_any p b goes xs)

-- the row of a number is as the one that was found
pub all_of_number : (q : Worker → Bool) (rows : List Worker) (number : ℕ) (worker : Worker) → ArePlaces (λ row. row.number) rows → find (is_worker number) rows ≡ Some worker → q worker ≡ true → list_all (λ row. not (row.number == number) || q row) rows ≡ true
all_of_number q rows number worker are is here =
    all_as_found (λ x y. x.number == y.number) (is_worker number) q (λ x y one other. grind (arith, nat_tests, one, other)) rows worker (places_apart (λ row. row.number) rows are) is here
