-- What the host's forget leaves: the keys of clients, jobs, registrations, workers and addAlls.
use Rattle.std.proofs.Common.{◌≡◌, ◌∙◌, ℕ, Bool, false, List, [], ◌∷◌, Option, Some, None, option_map, refl, sym, ap, arith}
use Rattle.std.specs.Prelude.{find, filter, option_and_then}
use Rattle.std.specs.Option.{option_or}
use Rattle.sw_data.specs.declared.events.Event.{Event}
use Rattle.sw_data.specs.declared.events.Event.TheVariants as event
use Rattle.sw_data.specs.declared.events.Who.TheVariants as who
use Rattle.sw_data.specs.declared.workers.Slot.{Slot}
use Rattle.sw_data.specs.declared.workers.Slot.TheVariants as slot
use Rattle.sw_data.specs.declared.workers.WorkerState.{WorkerState}
use Rattle.sw_data.specs.declared.workers.WorkerState.TheVariants as worker_state
use Rattle.sw_data.specs.Events.{named_client, named_page}
use Rattle.sw_rules.specs.Caching.{place_key}
use Rattle.sw_rules.specs.Forgetting.{forget, forget_key, forget_registrations, is_busy, is_mapped_of}
use Rattle.sw_rules.specs.Registrations.{become, clear, retire, unmap}
use Rattle.sw_rules.specs.Rows.{changed, is_registration, is_worker, key_of_worker, registration_of, registration_row, slot_worker}
use Rattle.sw_rules.specs.State.{State, Registration, Worker}
use Rattle.sw_rules.specs.Step.{state_after, step}
use Rattle.sw_rules.specs.Told.{Told, Outcome, followed}
use Rattle.sw_laws.proofs.Lists.{by_option, by_result, by_test}
use Rattle.sw_bucket.specs.Eviction.{forget_event, forget_page}
use Rattle.sw_bucket.specs.Noted.{IsForgottenFrom, all_forgotten}
use Rattle.sw_bucket.specs.Uses.{client_key, job_key, named_key, page_key, registration_key, task_key, work_key}

-- the keys of all that an event names are the same
pub record SameKeys (old new : State) : Type 0 where
  pub clients : (number : ℕ) → client_key new number ≡ client_key old number
  pub jobs : (number : ℕ) → job_key new number ≡ job_key old number
  pub registrations : (number : ℕ) → registration_key new number ≡ registration_key old number
  pub workers : (number : ℕ) → key_of_worker new number ≡ key_of_worker old number
  pub tasks : (number : ℕ) → task_key new number ≡ task_key old number

pub same_keys : (state : State) → SameKeys state state
same_keys state = record {
  clients = λ number. refl;
  jobs = λ number. refl;
  registrations = λ number. refl;
  workers = λ number. refl;
  tasks = λ number. refl;
}

both_same : (one two three : State) → SameKeys one two → SameKeys two three → SameKeys one three
both_same one two three first second = record {
  clients = λ number. second.clients number ∙ first.clients number;
  jobs = λ number. second.jobs number ∙ first.jobs number;
  registrations = λ number. second.registrations number ∙ first.registrations number;
  workers = λ number. second.workers number ∙ first.workers number;
  tasks = λ number. second.tasks number ∙ first.tasks number;
}

-- ---- rows

-- what a row that is found shows, after a change that it doesn't see
found_shows : {X Y : Type 0} (is : X → Bool) (shows : X → Y) (test : X → Bool) (g : X → X) → ((x : X) → is (g x) ≡ is x) → ((x : X) → shows (g x) ≡ shows x) → (rows : List X)
    → option_map shows (find is (changed test g rows)) ≡ option_map shows (find is rows)
found_shows is shows test g one other [] = refl
found_shows is shows test g one other (x ∷ xs) = grind (arith, one x, other x, found_shows is shows test g one other xs)

-- the key of a worker, by the registration that it is of
pub of_registration : (state : State) (registration : Option ℕ) → option_map (λ (row : Registration). row.key) (option_and_then (registration_row state) registration) ≡ option_and_then (registration_key state) registration
of_registration state None = refl
of_registration state (Some number) = refl

same_bound : (one other : ℕ → Option (List ℕ)) → ((number : ℕ) → one number ≡ other number) → (found : Option ℕ) → option_and_then one found ≡ option_and_then other found
same_bound one other same None = refl
same_bound one other same (Some number) = same number

same_workers : (old new : State) → ((number : ℕ) → registration_of new number ≡ registration_of old number) → ((number : ℕ) → registration_key new number ≡ registration_key old number)
    → (number : ℕ) → key_of_worker new number ≡ key_of_worker old number
same_workers old new owners keys number =
    of_registration new (registration_of new number)
    ∙ (ap (option_and_then (registration_key new)) (owners number)
    ∙ (same_bound (registration_key new) (registration_key old) keys (registration_of old number)
    ∙ sym (of_registration old (registration_of old number))))

-- ---- forget

-- a registration leaves the map
unmapped_same : (state : State) (number : ℕ) → SameKeys state (unmap state number).state
unfolding unmap
unmapped_same state number =
    let new = (unmap state number).state in
    let keys : (n : ℕ) → registration_key new n ≡ registration_key state n =
    λ n. found_shows (is_registration n) (λ (row : Registration). row.key) (is_registration number) (λ row. record row { mapped = false }) (λ x. refl) (λ x. refl) state.registrations in
    record {
      clients = λ n. refl;
      jobs = λ n. refl;
      registrations = keys;
      workers = same_workers state new (λ n. refl) keys;
      tasks = λ n. refl;
    }

-- the state of a worker becomes another
become_same : (state : State) (worker : ℕ) (to : WorkerState) → SameKeys state (become state worker to).state
unfolding become
become_same state worker to = record {
  clients = λ n. refl;
  jobs = λ n. refl;
  registrations = λ n. refl;
  workers =
      same_workers state (become state worker to).state
      (λ n. found_shows (is_worker n) (λ (row : Worker). row.registration) (is_worker worker) (λ row. record row { state = to }) (λ x. refl) (λ x. refl) state.workers)
      (λ n. refl);
  tasks = λ n. refl;
}

retire_same : (state : State) (place : Slot) (registration : ℕ) → SameKeys state (retire state place registration).state
unfolding retire
retire_same state place registration =
    by_option (λ (told : Told). SameKeys state told.state) (slot_worker state place registration) _ _ (λ none. same_keys state) (λ old is. become_same state old.number worker_state.Redundant)

-- a registration leaves the map and is cleared
one_same : (state : State) (number : ℕ) → SameKeys state (clear (unmap state number).state number).state
unfolding clear followed
one_same state number =
    let unmapped = (unmap state number).state in
    let one = (retire unmapped slot.Installing number).state in
    let two = (retire one slot.Waiting number).state in
    let three = (retire two slot.Active number).state in
    both_same state unmapped three (unmapped_same state number)
    (both_same unmapped one three (retire_same unmapped slot.Installing number)
    (both_same one two three (retire_same one slot.Waiting number) (retire_same two slot.Active number)))

registrations_same : (rows : List Registration) (state : State) → SameKeys state (forget_registrations state rows).state
unfolding forget_registrations followed
registrations_same [] state = same_keys state
registrations_same (row ∷ rows) state =
    let next = (clear (unmap state row.number).state row.number).state in
    both_same state next (forget_registrations next rows).state (one_same state row.number) (registrations_same rows next)

forgotten_same : (state : State) (key : List ℕ) → SameKeys state (forget_key state key).state
unfolding forget_key
forgotten_same state key =
    let same = registrations_same (filter (is_mapped_of key) state.registrations) state in
    record {
      clients = same.clients;
      jobs = same.jobs;
      registrations = same.registrations;
      workers = same.workers;
      tasks = same.tasks;
    }

forget_same : (state : State) (key : List ℕ) → SameKeys state (forget state key).told.state
forget_same state key = by_test (λ (o : Outcome). SameKeys state o.told.state) (is_busy state key) _ _ (λ busy. same_keys state) (λ free. forgotten_same state key)

once_same : (state : State) (key : List ℕ) → SameKeys state (state_after state (forget_event key))
unfolding step
once_same state key = by_result (λ (o : Outcome). SameKeys state o.told.state) (place_key (forget_page key)) _ _ (λ own is. forget_same state own) (λ why is. same_keys state)

all_same : (keys : List (List ℕ)) (state : State) → SameKeys state (all_forgotten state keys)
all_same [] state = same_keys state
all_same (key ∷ keys) state =
    let next = state_after state (forget_event key) in
    both_same state next (all_forgotten next keys) (once_same state key) (all_same keys next)

-- ---- what an event names

pub forgotten_from_same : (state now : State) → IsForgottenFrom state now → SameKeys state now
forgotten_from_same state now (keys, is) = rw is (all_same keys state)

same_work : (old new : State) → SameKeys old new → (happened : Event) → work_key new happened ≡ work_key old happened
unfolding work_key
same_work old new same (event.Call who.Host asked) = refl
same_work old new same (event.Call (who.Lane lane at) asked) = refl
same_work old new same (event.Call (who.Handler worker in_phase number) asked) = same.workers worker
same_work old new same (event.Run maker job) = same.jobs job
same_work old new same (event.Fetched maker job line) = same.jobs job
same_work old new same (event.Evaluated maker job) = same.jobs job
same_work old new same (event.Installed maker job) = same.jobs job
same_work old new same (event.TryActivate maker registration) = same.registrations registration
same_work old new same (event.Activated maker worker) = same.workers worker
same_work old new same (event.Added maker task lines) = same.tasks task
same_work old new same happened = refl

pub same_named : (old new : State) → SameKeys old new → (happened : Event) → named_key (client_key new) new happened ≡ named_key (client_key old) old happened
same_named old new same happened = rw (same_work old new same happened) (clients (named_client happened))
  where
    clients : (named : Option ℕ) → option_or (option_and_then (client_key new) named) (option_or (option_and_then page_key (named_page happened)) (work_key old happened))
        ≡ option_or (option_and_then (client_key old) named) (option_or (option_and_then page_key (named_page happened)) (work_key old happened))
    clients named = ap (λ (key : Option (List ℕ)). option_or key (option_or (option_and_then page_key (named_page happened)) (work_key old happened))) (same_bound (client_key new) (client_key old) same.clients named)
