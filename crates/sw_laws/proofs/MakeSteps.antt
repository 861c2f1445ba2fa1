-- A worker is made for a job: this keeps a state coherent.
use Rattle.std.proofs.Common.{◌≡◌, ℕ, Bool, true, false, not, ◌&&◌, ◌||◌, ◌==◌, List, [], ◌∷◌, ◌++◌, Option, Some, None, length, refl, subst, arith, if◌then◌else◌}
use Rattle.std.specs.List.{list_all, list_any}
use Rattle.std.specs.Prelude.{bytes_eq, is_none, is_some, nat_lt}
use Rattle.std.specs.Option.{option_map_or}
use Rattle.std.proofs.lemmas.Bool.{and_from, and_parts}
use Rattle.std.proofs.lemmas.Bool.Decides.{nat_tests}
use Rattle.std.proofs.lemmas.List.Folds.{list_any-append}
use Rattle.sw_data.specs.declared.recordings.Fetched.{Fetched}
use Rattle.sw_data.specs.declared.rows.JobPhase.TheVariants as job_phase
use Rattle.sw_data.specs.declared.rows.JobRow.{JobRow}
use Rattle.sw_rules.specs.Installing.{made_worker, make_worker}
use Rattle.sw_rules.specs.Rows.{has_worker, is_in_phase, is_activated, is_active, is_fetching, is_installing, is_job, is_number, is_unfinished, is_waiting, maker_worker}
use Rattle.sw_rules.specs.State.{State, Registration, Worker}
use Rattle.sw_laws.specs.Coherent.{Coherent, SoundWork, has_its_worker, has_own_registration, has_worker_row, is_being_installed, is_early, is_of_key, is_parsed, is_place, is_running, is_settled_phase, share_slot, share_worker}
use Rattle.sw_laws.proofs.JobMoves.{GoTogether, KeepsJob, jobs-moved, jobs_of_number, there_of_jobs, work-of-jobs}
use Rattle.sw_laws.proofs.Lists.{all_both, all_weaker, by_test, either_way, where_there}
use Rattle.sw_laws.proofs.Moves.{weaker_phases}
use Rattle.sw_laws.proofs.Places.{all_at_found, all_pushed, apart_both, apart_known, apart_pushed, place_new, place_pushed, places_apart, places_below, places_pushed}
use Rattle.sw_laws.proofs.ScheduleSteps.{all_always}
use Rattle.sw_laws.proofs.Split.{IsAt}

-- ---- one more worker, which is parsed

has_pushed : (p : Worker → Bool) (rows : List Worker) (new : Worker) (number : ℕ) → has_worker p rows number ≡ true → has_worker p (rows ++ new ∷ []) number ≡ true
has_pushed p rows new number is = grind (arith, is, list_any-append (λ row. row.number == number && p row) rows (new ∷ []))

running_pushed : (rows : List Worker) (new : Worker) (maker : Option ℕ) → is_running rows maker ≡ true → is_running (rows ++ new ∷ []) maker ≡ true
running_pushed rows new None is = refl
running_pushed rows new (Some worker) is = has_pushed (λ row. is_some row.handler) rows new worker is

or_weaker : (one other new : Bool) → (other ≡ true → new ≡ true) → (one || other) ≡ true → (one || new) ≡ true
or_weaker one other new goes is = grind (arith, goes, is)

made_pushed : (p : Worker → Bool) (rows : List Worker) (new : Worker) (registration made : Option ℕ)
    → option_map_or (has_worker (λ w. is_number registration w.registration && p w) rows) made false ≡ true → option_map_or (has_worker (λ w. is_number registration w.registration && p w) (rows ++ new ∷ [])) made false ≡ true
made_pushed p rows new registration None is = absurd cc
made_pushed p rows new registration (Some number) is = has_pushed (λ w. is_number registration w.registration && p w) rows new number is

never_shares : (row new : Worker) → is_parsed new ≡ true → not (share_slot row new) ≡ true
never_shares row new is = grind (arith, is)

-- ---- the job that made it

abbrev evaluating_with : ℕ → ℕ → JobRow → JobRow
evaluating_with job worker row = if is_job job row then record row { phase = job_phase.Evaluating; worker = Some worker } else row

evaluating_keeps : (job worker : ℕ) → KeepsJob (evaluating_with job worker)
evaluating_keeps job worker = record { job = λ x. grind arith; leader = λ x. grind arith }

abbrev may_evaluate : ℕ → ℕ → List Worker → JobRow → Bool
may_evaluate job registration workers row =
    (not (is_job job row) || (is_none row.leader && is_fetching row.phase && is_number row.registration registration))
    && has_worker_row workers row

evaluating_together : (job registration worker : ℕ) (workers : List Worker) → GoTogether (may_evaluate job registration workers) (evaluating_with job worker)
evaluating_together job registration worker workers row first leader know knows is there joined waits same =
    (grind (arith, know, is, waits), grind (arith, same))

moved_both : (x y : JobRow) (worker : ℕ) → is_unfinished x ≡ true → (is_unfinished y && not (is_waiting y.phase)) ≡ true → is_early x y ≡ false → is_early (record x { phase = job_phase.Evaluating; worker = Some worker }) (record y { phase = job_phase.Evaluating; worker = Some worker }) ≡ false
moved_both x y worker one other fine = grind (arith, one, other, fine)

moved_first : (x y : JobRow) (worker : ℕ) → is_unfinished x ≡ true → is_early x y ≡ false → is_early (record x { phase = job_phase.Evaluating; worker = Some worker }) y ≡ false
moved_first x y worker one fine = grind (arith, one, fine)

moved_last : (x y : JobRow) (worker : ℕ) → (is_unfinished y && not (is_waiting y.phase)) ≡ true → is_early x y ≡ false → is_early x (record y { phase = job_phase.Evaluating; worker = Some worker }) ≡ false
moved_last x y worker other fine = grind (arith, other, fine)

evaluating_queues : (job registration worker : ℕ) (workers : List Worker) (x y : JobRow) → may_evaluate job registration workers x ≡ true → may_evaluate job registration workers y ≡ true → is_early x y ≡ false → is_early (evaluating_with job worker x) (evaluating_with job worker y) ≡ false
evaluating_queues job registration worker workers x y one other fine =
    by_test (λ r. is_early r (evaluating_with job worker y) ≡ false) (is_job job x) _ x
    (λ here. by_test (λ r. is_early (record x { phase = job_phase.Evaluating; worker = Some worker }) r ≡ false) (is_job job y) _ y
    (λ there. moved_both x y worker (grind (arith, here, one)) (grind (arith, there, other)) fine)
    (λ none. moved_first x y worker (grind (arith, here, one)) fine))
    (λ none. by_test (λ r. is_early x r ≡ false) (is_job job y) _ y (λ there. moved_last x y worker (grind (arith, there, other)) fine) (λ same. fine))

new_apart : (made : Option ℕ) (worker : ℕ) → option_map_or (λ n. nat_lt n worker) made true ≡ true → is_number made worker ≡ false
new_apart None worker is = refl
new_apart (Some number) worker is = grind (arith, nat_tests, is)

old_apart : (made : Option ℕ) (worker : ℕ) → option_map_or (λ n. nat_lt n worker) made true ≡ true → option_map_or (is_number (Some worker)) made false ≡ false
old_apart None worker is = refl
old_apart (Some number) worker is = grind (arith, nat_tests, is)

where_number : (made : Option ℕ) (workers : List Worker) → option_map_or (is_place workers) made true ≡ true → option_map_or (λ n. nat_lt n (length workers)) made true ≡ true
where_number made workers is = is

-- no other job has the new worker
evaluating_apart : (job registration worker : ℕ) (workers : List Worker) → length workers ≡ worker → (x y : JobRow) → may_evaluate job registration workers x ≡ true → may_evaluate job registration workers y ≡ true
    → (share_worker x y || x.job.number == y.job.number) ≡ false → share_worker (evaluating_with job worker x) (evaluating_with job worker y) ≡ false
evaluating_apart job registration worker workers is x y one other fine =
    by_test (λ r. share_worker r (evaluating_with job worker y) ≡ false) (is_job job x) _ x
    (λ here. by_test (λ r. share_worker (record x { phase = job_phase.Evaluating; worker = Some worker }) r ≡ false) (is_job job y) _ y
    (λ there. absurd (grind (arith, nat_tests, here, there, fine)))
    (λ none. new_apart y.worker worker (subst (λ n. option_map_or (λ m. nat_lt m n) y.worker true ≡ true) is (where_number y.worker workers (grind (arith, other))))))
    (λ none. by_test (λ r. share_worker x r ≡ false) (is_job job y) _ y
    (λ there. old_apart x.worker worker (subst (λ n. option_map_or (λ m. nat_lt m n) x.worker true ≡ true) is (where_number x.worker workers (grind (arith, one)))))
    (λ same. grind (arith, fine)))

from_known : {X : Type 0} (known p : X → Bool) (b : Bool) → ((x : X) → known x ≡ true → p x ≡ true → b ≡ true) → (xs : List X) → list_all known xs ≡ true → list_any p xs ≡ true → b ≡ true
from_known known p b goes [] all is = absurd cc
from_known known p b goes (x ∷ xs) all is = grind (arith, all, is, goes x, from_known known p b goes xs)

-- a job that evaluates has its worker
evaluates_fits : (x : JobRow) (worker : ℕ) (workers : List Worker) → is_some x.registration ≡ true → has_worker (λ w. is_number x.registration w.registration && is_parsed w) workers worker ≡ true → has_its_worker workers (record x { phase = job_phase.Evaluating; worker = Some worker }) ≡ true
evaluates_fits x worker workers there has = grind (arith, there, has)

number_there : (o : Option ℕ) (n : ℕ) → is_number o n ≡ true → is_some o ≡ true
number_there None n is = absurd cc
number_there (Some m) n is = refl

has_last : (p : Worker → Bool) (rows : List Worker) (new : Worker) → p new ≡ true → has_worker p (rows ++ new ∷ []) new.number ≡ true
has_last p rows new is = grind (arith, nat_tests, is, list_any-append (λ row. row.number == new.number && p row) rows (new ∷ []))

-- the registration of a job is a place
registered_place : (registrations : List Registration) (row : JobRow) (registration : ℕ) → list_all (λ found. is_place registrations found.number) registrations ≡ true → row.registration ≡ Some registration → has_own_registration registrations row ≡ true → is_place registrations registration ≡ true
registered_place registrations row registration places is own =
    from_known (λ found. is_place registrations found.number) (λ found. found.number == registration && bytes_eq found.key row.job.key && bytes_eq found.scope row.job.scope) (is_place registrations registration)
    (λ found knows here. grind (arith, nat_tests, knows, here)) registrations places (rw is at own)

module _ (state : State) (row : JobRow) (registration : ℕ) (script : Fetched) (at : IsAt state is_fetching row registration) (sound : Coherent state) where
  abbrev new : Worker
  new = made_worker state row registration script

  abbrev after : List Worker
  after = state.workers ++ new ∷ []

  abbrev g : JobRow → JobRow
  g = evaluating_with row.job.number (length state.workers)

  abbrev known : JobRow → Bool
  known = may_evaluate row.job.number registration state.workers

  knows : list_all known state.jobs ≡ true
  knows = all_both _ _ state.jobs
      (jobs_of_number (λ x. is_none x.leader && is_fetching x.phase && is_number x.registration registration) state.jobs row.job.number row sound.jobs.numbers at.found (grind (arith, nat_tests, at.phase, at.registered)))
      sound.work.made

  place : is_place state.registrations registration ≡ true
  place = registered_place state.registrations row registration (places_below (λ x. x.number) state.registrations sound.registrations.numbers) at.registered (all_at_found (is_job row.job.number) (has_own_registration state.registrations) state.jobs row at.found sound.work.keys)

  work_pushed : SoundWork state.registrations after state.jobs
  work_pushed = record {
    keys = sound.work.keys;
    made = all_weaker _ _ (λ x is. where_there _ _ x.worker (λ n here. place_pushed state.workers new n here) is) state.jobs sound.work.made;
    phases = all_weaker _ _ (λ x is. weaker_phases x _ _ _ _ (made_pushed is_parsed state.workers new x.registration x.worker) (made_pushed is_being_installed state.workers new x.registration x.worker) is) state.jobs sound.work.phases;
    installing = all_pushed _ state.workers new sound.work.installing refl;
  }

  new_fits : (x : JobRow) → known x ≡ true → is_job row.job.number x ≡ true → has_its_worker after (record x { phase = job_phase.Evaluating; worker = Some (length state.workers) }) ≡ true
  new_fits x know here =
      let of : is_number x.registration registration ≡ true = grind (arith, know, here) in
      evaluates_fits x (length state.workers) after (number_there x.registration registration of)
      (has_last (λ w. is_number x.registration w.registration && is_parsed w) state.workers new (and_from _ _ of refl))

  pub make_worker-coherent : Coherent (make_worker state row registration script).state
  unfolding make_worker
  make_worker-coherent = record {
    registrations = sound.registrations;
    workers = record {
      numbers = places_pushed (λ (x : Worker). x.number) state.workers new refl sound.workers.numbers;
      slots = apart_pushed share_slot state.workers new sound.workers.slots (all_always _ (λ x. never_shares x new refl) state.workers);
      handlers = all_pushed _ state.workers new sound.workers.handlers refl;
      owners = all_pushed _ state.workers new sound.workers.owners place;
    };
    jobs = jobs-moved g (evaluating_keeps row.job.number (length state.workers)) known state.jobs knows (evaluating_together row.job.number registration (length state.workers) state.workers)
        (apart_known known is_early is_early g (evaluating_queues row.job.number registration (length state.workers) state.workers) state.jobs knows sound.jobs.queues)
        (λ x a is. either_way (λ r. (not (is_settled_phase r.phase) || is_some r.settled) ≡ true) (is_job row.job.number x) _ x refl is)
        (apart_known known (λ x y. share_worker x y || x.job.number == y.job.number) share_worker g (evaluating_apart row.job.number registration (length state.workers) state.workers refl) state.jobs knows
        (apart_both share_worker (λ x y. x.job.number == y.job.number) state.jobs sound.jobs.workers (places_apart (λ x. x.job.number) state.jobs sound.jobs.numbers)))
        sound.jobs;
    work = work-of-jobs g (evaluating_keeps row.job.number (length state.workers)) known state.jobs knows state.registrations after
        (λ x a is. either_way (λ r. has_own_registration state.registrations r ≡ true) (is_job row.job.number x) _ x is is)
        (λ x a is. either_way (λ r. has_worker_row after r ≡ true) (is_job row.job.number x) _ x (place_new state.workers new) is)
        (λ x a is. by_test (λ r. has_its_worker after r ≡ true) (is_job row.job.number x) _ x (new_fits x a) (λ other. is))
        (λ x worker number a is. by_test (λ r. (is_in_phase is_installing r && is_number r.worker worker && is_number r.registration number) ≡ true) (is_job row.job.number x) _ x (λ here. absurd (grind (arith, here, a, is))) (λ other. is))
        work_pushed;
    tasks = record {
      numbers = sound.tasks.numbers;
      makers = all_weaker _ _ (λ x is. or_weaker (is_some x.settled) _ _ (running_pushed state.workers new (maker_worker x.maker)) is) state.tasks sound.tasks.makers;
    };
    clients = record {
      numbers = sound.clients.numbers;
      controllers = all_weaker _ _ (λ x is. where_there _ _ x.controller (λ n here. has_pushed (λ w. is_active w.state) state.workers new n here) is) state.clients sound.clients.controllers;
      keys = all_weaker _ _ (λ x is. where_there _ _ x.controller (λ n here. let parts = and_parts _ _ here in and_from _ _ parts.0 (has_pushed (is_of_key state.registrations x.key) state.workers new n parts.1)) is) state.clients sound.clients.keys;
    };
    events = record {
      numbers = sound.events.numbers;
      activated = all_weaker _ _ (λ x is. has_pushed is_activated state.workers new x.worker is) state.fetch_events sound.events.activated;
    };
    caches = sound.caches;
    promises = all_weaker _ _ (λ p is. there_of_jobs g state.jobs state.tasks p.awaited is) state.promises sound.promises;
  }
