-- A job comes to its end together with its worker: a script that throws, and the end of an install handler.
use Rattle.std.proofs.Common.{◌≡◌, ℕ, Bool, true, false, not, ◌&&◌, ◌||◌, ◌==◌, map, Option, Some, None, arith}
use Rattle.std.specs.List.{list_all}
use Rattle.std.specs.Prelude.{find, is_none, is_some}
use Rattle.std.specs.Option.{option_map_or}
use Rattle.std.proofs.lemmas.Bool.Decides.{nat_tests}
use Rattle.sw_data.specs.declared.rows.JobRow.{JobRow}
use Rattle.sw_rules.specs.Rows.{has_worker, is_in_phase, is_activated, is_active, is_installing, is_job, is_number, is_unfinished, is_waiting, job_row}
use Rattle.sw_rules.specs.State.{State, Worker}
use Rattle.sw_laws.specs.Coherent.{Coherent, SoundTasks, has_its_handler, has_its_job, has_its_worker, has_own_registration, has_worker_row, is_being_installed, is_early, is_parsed, share_slot, share_worker}
use Rattle.sw_laws.proofs.JobMoves.{GoTogether, joined-moved, jobs_of_number, there_of_jobs}
use Rattle.sw_laws.proofs.JobSteps.{done_fits, finished, finished_keeps}
use Rattle.sw_laws.proofs.Lists.{all_both, all_weaker, apart_changed, by_test, false_of, found_by, where_there}
use Rattle.sw_laws.proofs.Moves.{Keeps, clients-moved, events-moved, weaker_phases, workers-moved}
use Rattle.sw_laws.proofs.Places.{all_as_found, all_known, any_known, place_changed, places_changed}

-- ---- a job with its worker

-- a job that joined none, is settled, and has made this worker
pub record IsMaker (state : State) (row : JobRow) (worker : ℕ) : Type 0 where
  pub found : job_row state row.job.number ≡ Some row
  pub leads : (is_unfinished row && not (is_waiting row.phase)) ≡ true
  pub made : row.worker ≡ Some worker

-- the rows of the job have the worker, and no others do
abbrev pub alone_has : JobRow → ℕ → JobRow → Bool
alone_has row worker other =
    (not (is_job row.job.number other) || (is_number other.worker worker && is_none other.leader && not (is_waiting other.phase)))
    && (not (is_number other.worker worker) || is_job row.job.number other)

pub alone : (state : State) (row : JobRow) (worker : ℕ) → IsMaker state row worker → Coherent state → list_all (alone_has row worker) state.jobs ≡ true
alone state row worker is sound =
    let job = row.job.number in
    let has : is_number row.worker worker ≡ true = rw is.made (grind (arith, nat_tests)) in
    let same : is_job job row ≡ true = grind (arith, nat_tests) in
    let found : find (λ other. is_number other.worker worker) state.jobs ≡ Some row =
    found_by share_worker (is_job job) (λ other. is_number other.worker worker) state.jobs row sound.jobs.workers is.found has (λ y here. grind (arith, nat_tests, here, is.made)) in
    all_both _ _ state.jobs
    (jobs_of_number (λ other. is_number other.worker worker && is_none other.leader && not (is_waiting other.phase)) state.jobs job row sound.jobs.numbers is.found (grind (arith, has, is.leads)))
    (all_as_found share_worker (λ other. is_number other.worker worker) (is_job job) (λ x y one other. grind (arith, nat_tests, one, other)) state.jobs row sound.jobs.workers found same)

-- ---- the worker goes on, and the job is done

job_kept : (was now same one other : Bool) → (now ≡ true → (was && not same) ≡ true) → (not same ≡ true → one ≡ true → other ≡ true) → (not was || one) ≡ true → (not now || other) ≡ true
job_kept was now same one other back goes is = grind (arith, back, goes, is)

pub pass_on : (one of_it was now : Bool) → (one ≡ true → was ≡ true → now ≡ true) → (one && (of_it && was)) ≡ true → (one && (of_it && now)) ≡ true
pass_on one of_it was now goes is = grind (arith, goes, is)

pub same_place : (new_number old_number new_owner old_owner number : ℕ) (registration : Option ℕ) (b : Bool) → new_number ≡ old_number → new_owner ≡ old_owner → (old_number == number && (is_number registration old_owner && b)) ≡ true → (new_number == number && (is_number registration new_owner && b)) ≡ true
same_place new_number old_number new_owner old_owner number registration b one other is = rw (one, other) is

pub other_number : (n number worker : ℕ) → (n == number) ≡ true → (number == worker) ≡ false → (n == worker) ≡ false
other_number n number worker same free = grind (arith, nat_tests, same, free)

still_installs : (row : JobRow) (worker : ℕ) (w : Worker) (x : JobRow) → (w.number == worker) ≡ false → alone_has row worker x ≡ true
    → (is_in_phase is_installing x && is_number x.worker w.number && is_number x.registration w.registration) ≡ true
    → (is_in_phase is_installing (finished row.job.number x) && is_number (finished row.job.number x).worker w.number && is_number (finished row.job.number x).registration w.registration) ≡ true
still_installs row worker w x other know here =
    by_test (λ r. (is_in_phase is_installing r && is_number r.worker w.number && is_number r.registration w.registration) ≡ true) (is_job row.job.number x) _ x
    (λ same. absurd (grind (arith, nat_tests, same, other, know, here)))
    (λ there. here)

-- what a change of workers has to keep, where the job of one of them ends
pub record EndsWith (f : Worker → Worker) (known : Worker → Bool) (worker : ℕ) : Type 0 where
  pub keeps : Keeps f
  pub slots : (x y : Worker) → known x ≡ true → known y ≡ true → share_slot x y ≡ false → share_slot (f x) (f y) ≡ false
  pub handlers : (x : Worker) → known x ≡ true → has_its_handler x ≡ true → has_its_handler (f x) ≡ true
  pub active : (x : Worker) → known x ≡ true → is_active x.state ≡ true → is_active (f x).state ≡ true
  pub activated : (x : Worker) → known x ≡ true → is_activated x ≡ true → is_activated (f x) ≡ true
  pub parsed : (x : Worker) → known x ≡ true → (x.number == worker) ≡ false → is_parsed x ≡ true → is_parsed (f x) ≡ true
  pub installing : (x : Worker) → known x ≡ true → (x.number == worker) ≡ false → is_being_installed x ≡ true → is_being_installed (f x) ≡ true
  pub back : (x : Worker) → known x ≡ true → is_being_installed (f x) ≡ true → (is_being_installed x && not (x.number == worker)) ≡ true

module _ (state : State) (row : JobRow) (worker : ℕ) (made : IsMaker state row worker) (settled : is_some row.settled ≡ true) (sound : Coherent state)
    (f : Worker → Worker) (known : Worker → Bool) (knows : list_all known state.workers ≡ true) (ends : EndsWith f known worker)
    (tasks : SoundTasks (map f state.workers) state.tasks) where
  abbrev g : JobRow → JobRow
  g = finished row.job.number

  made_by : (number registration : Option ℕ) (p : Worker → Bool) → ((x : Worker) → known x ≡ true → (x.number == worker) ≡ false → p x ≡ true → p (f x) ≡ true) → is_number number worker ≡ false
      → option_map_or (has_worker (λ w. is_number registration w.registration && p w) state.workers) number false ≡ true
      → option_map_or (has_worker (λ w. is_number registration w.registration && p w) (map f state.workers)) number false ≡ true
  made_by None registration p goes free is = absurd cc
  made_by (Some number) registration p goes free is =
      any_known known (λ w. w.number == number && (is_number registration w.registration && p w)) _ f
      (λ x know here. same_place (f x).number x.number (f x).registration x.registration number registration (p (f x)) (ends.keeps.number x) (ends.keeps.registration x)
      (pass_on (x.number == number) (is_number registration x.registration) (p x) (p (f x)) (λ same passes. goes x know (other_number x.number number worker same free) passes) here)) state.workers knows is

  fits_after : (other : JobRow) → alone_has row worker other ≡ true → has_its_worker state.workers other ≡ true → has_its_worker (map f state.workers) (g other) ≡ true
  fits_after other know is =
      by_test (λ r. has_its_worker (map f state.workers) r ≡ true) (is_job row.job.number other) _ other
      (λ here. done_fits (map f state.workers) other)
      (λ there.
      let free : is_number other.worker worker ≡ false = grind (arith, know, there) in
      weaker_phases other _ _ _ _ (made_by other.worker other.registration is_parsed ends.parsed free) (made_by other.worker other.registration is_being_installed ends.installing free) is)

  job_after : (w : Worker) → known w ≡ true → has_its_job state.jobs w ≡ true → has_its_job (map g state.jobs) (f w) ≡ true
  job_after w know is =
      rw (ends.keeps.number w, ends.keeps.registration w)
      (job_kept (is_being_installed w) (is_being_installed (f w)) (w.number == worker) _ _ (ends.back w know)
      (λ other. any_known (alone_has row worker) _ _ g (λ x knows_x here. still_installs row worker w x (false_of other) knows_x here) state.jobs (alone state row worker made sound)) is)

  ended_together : GoTogether (alone_has row worker) g
  ended_together other first leader know knows_first is there joined waits same =
      (grind (arith, know, is, waits), grind (arith, same))

  pub end-coherent : Coherent (record state { workers = map f state.workers; jobs = map g state.jobs })
  end-coherent =
      let jobs = state.jobs in
      let others = alone state row worker made sound in
      let knows_settled : list_all (λ x. not (is_job row.job.number x) || is_some x.settled) jobs ≡ true = jobs_of_number (λ x. is_some x.settled) jobs row.job.number row sound.jobs.numbers made.found settled in
      record {
        registrations = sound.registrations;
        workers = workers-moved f ends.keeps known state.workers knows state.registrations ends.slots ends.handlers sound.workers;
        jobs = record {
          numbers = places_changed (λ x. x.job.number) g (λ x. grind arith) jobs sound.jobs.numbers;
          queues = apart_changed is_early g (λ x y fine. grind (arith, fine)) jobs sound.jobs.queues;
          settled = all_known (λ x. not (is_job row.job.number x) || is_some x.settled) _ _ g (λ x know is. grind (arith, know, is)) jobs knows_settled sound.jobs.settled;
          joined = joined-moved g (finished_keeps row.job.number) (alone_has row worker) jobs others ended_together sound.jobs.joined;
          workers = apart_changed share_worker g (λ x y fine. grind (arith, fine)) jobs sound.jobs.workers;
        };
        work = record {
          keys = all_known (alone_has row worker) _ _ g (λ x know is. by_test (λ r. has_own_registration state.registrations r ≡ true) (is_job row.job.number x) _ x (λ here. is) (λ there. is)) jobs others sound.work.keys;
          made = all_known (alone_has row worker) _ _ g (λ x know is. by_test (λ r. has_worker_row (map f state.workers) r ≡ true) (is_job row.job.number x) _ x (λ here. where_there _ _ x.worker (place_changed f state.workers) is) (λ there. where_there _ _ x.worker (place_changed f state.workers) is)) jobs others sound.work.made;
          phases = all_known (alone_has row worker) _ _ g fits_after jobs others sound.work.phases;
          installing = all_known known _ _ f job_after state.workers knows sound.work.installing;
        };
        tasks = tasks;
        clients = clients-moved f ends.keeps known state.workers knows state.registrations state.clients ends.active sound.clients;
        events = events-moved f ends.keeps known state.workers knows state.fetch_events ends.activated sound.events;
        caches = sound.caches;
        promises = all_weaker _ _ (λ p is. there_of_jobs g jobs state.tasks p.awaited is) state.promises sound.promises;
      }
