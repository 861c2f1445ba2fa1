-- Schedule Job, settle, Finish Job and the drawing of a script's fetch keep a state coherent.
use Rattle.std.proofs.Common.{◌≡◌, ℕ, Bool, true, false, not, ◌&&◌, ◌||◌, List, Option, Some, None, refl, arith, if◌then◌else◌}
use Rattle.std.specs.List.{list_all}
use Rattle.std.specs.Prelude.{is_none, is_some}
use Rattle.std.specs.Option.{option_map_or}
use Rattle.std.proofs.lemmas.Bool.Decides.{nat_tests}
use Rattle.sw_data.specs.declared.answers.Settlement.{Settlement}
use Rattle.sw_data.specs.declared.rows.JobPhase.TheVariants as job_phase
use Rattle.sw_data.specs.declared.rows.JobRow.{JobRow}
use Rattle.sw_rules.specs.Jobs.{finish, gets_value, settle}
use Rattle.sw_rules.specs.Rows.{is_job, job_row}
use Rattle.sw_rules.specs.State.{State, Worker}
use Rattle.sw_laws.specs.Coherent.{Coherent, has_its_worker, has_own_registration, is_early, is_settled_phase, share_worker}
use Rattle.sw_laws.proofs.JobMoves.{GoTogether, KeepsJob, jobs-moved, jobs_of_number, there_of_jobs, work-of-jobs}
use Rattle.sw_laws.proofs.Lists.{all_weaker, apart_changed, either_way}
use Rattle.sw_laws.proofs.Split.{may_end, may_finish}

-- ---- rows that are there

found_row : (p : JobRow → Bool) (state : State) (job : ℕ) (row : Option JobRow) → job_row state job ≡ row → option_map_or p row false ≡ true → (found : JobRow) × (job_row state job ≡ Some found) × (p found ≡ true)
found_row p state job None is passes = absurd cc
found_row p state job (Some row) is passes = (row, is, passes)

-- what is known of the rows of a job's number
of_number : (p : JobRow → Bool) (state : State) (job : ℕ) → Coherent state → option_map_or p (job_row state job) false ≡ true → list_all (λ row. not (is_job job row) || p row) state.jobs ≡ true
of_number p state job sound is =
    let found = found_row p state job (job_row state job) refl is in
    jobs_of_number p state.jobs job found.0 sound.jobs.numbers found.1 found.2

leads_none : (here leads early : Bool) → (not here || (leads && early)) ≡ true → (not here || leads) ≡ true
leads_none here leads early is = grind (arith, is)

-- ---- settle

abbrev pub settled_with : ℕ → Settlement → JobRow → JobRow
settled_with job result row = if gets_value job row then record row { settled = Some result } else row

pub settled_keeps : (job : ℕ) (result : Settlement) → KeepsJob (settled_with job result)
settled_keeps job result = record { job = λ x. grind arith; leader = λ x. grind arith }

pub settled_queues : (job : ℕ) (result : Settlement) (x y : JobRow) → is_early x y ≡ false → is_early (settled_with job result x) (settled_with job result y) ≡ false
settled_queues job result x y fine =
    either_way (λ row. is_early row (settled_with job result y) ≡ false) (gets_value job x) _ x
    (either_way (λ row. is_early x row ≡ false) (gets_value job y) _ y fine fine)
    (either_way (λ row. is_early x row ≡ false) (gets_value job y) _ y fine fine)

pub settled_together : (job : ℕ) (result : Settlement) → GoTogether (λ row. not (is_job job row) || is_none row.leader) (settled_with job result)
settled_together job result row first leader know knows is there joined waits same =
    (grind (arith, waits), grind (arith, nat_tests, know, is, there, joined, same))

module _ (state : State) (job : ℕ) (result : Settlement) (may : may_end state job ≡ true) (sound : Coherent state) where
  pub settle-coherent : Coherent (settle state job result).state
  unfolding settle
  settle-coherent =
      let g = settled_with job result in
      let known = λ (row : JobRow). not (is_job job row) || is_none row.leader in
      let knows : list_all known state.jobs ≡ true = all_weaker _ _ (λ row is. leads_none (is_job job row) (is_none row.leader) (not (is_settled_phase row.phase)) is) state.jobs (of_number (λ row. is_none row.leader && not (is_settled_phase row.phase)) state job sound may) in
      record {
        registrations = sound.registrations;
        workers = sound.workers;
        jobs = jobs-moved g (settled_keeps job result) known state.jobs knows (settled_together job result)
            (apart_changed is_early g (λ x y fine. settled_queues job result x y fine) state.jobs sound.jobs.queues)
            (λ x a is. grind (arith, is))
            (apart_changed share_worker g (λ x y fine. grind (arith, fine)) state.jobs sound.jobs.workers)
            sound.jobs;
        work = work-of-jobs g (settled_keeps job result) known state.jobs knows state.registrations state.workers
            (λ x a is. either_way (λ row. has_own_registration state.registrations row ≡ true) (gets_value job x) _ x is is) (λ x a is. grind (arith, is)) (λ x a is. either_way (λ row. has_its_worker state.workers row ≡ true) (gets_value job x) _ x is is) (λ x worker registration a is. grind (arith, is)) sound.work;
        tasks = sound.tasks;
        clients = sound.clients;
        events = sound.events;
        caches = sound.caches;
        promises = all_weaker _ _ (λ row is. there_of_jobs g state.jobs state.tasks row.awaited is) state.promises sound.promises;
      }

-- ---- Finish Job

abbrev pub finished : ℕ → JobRow → JobRow
finished job row = if is_job job row then record row { phase = job_phase.Done } else row

pub finished_keeps : (job : ℕ) → KeepsJob (finished job)
finished_keeps job = record { job = λ x. grind arith; leader = λ x. grind arith }

-- nothing is asked of a job that is done
pub done_fits : (workers : List Worker) (row : JobRow) → has_its_worker workers (record row { phase = job_phase.Done }) ≡ true
done_fits workers row = grind arith

abbrev may_be_done : ℕ → JobRow → Bool
may_be_done job row = not (is_job job row) || (is_none row.leader && not (is_settled_phase row.phase) && is_some row.settled)

finished_together : (job : ℕ) → GoTogether (may_be_done job) (finished job)
finished_together job row first leader know knows is there joined waits same =
    (grind (arith, know, is, waits), grind (arith, same))

module _ (state : State) (job : ℕ) (may : may_finish state job ≡ true) (sound : Coherent state) where
  pub finish-coherent : Coherent (finish state job).state
  unfolding finish
  finish-coherent =
      let g = finished job in
      let known = may_be_done job in
      let knows : list_all known state.jobs ≡ true = of_number (λ row. is_none row.leader && not (is_settled_phase row.phase) && is_some row.settled) state job sound may in
      record {
        registrations = sound.registrations;
        workers = sound.workers;
        jobs = jobs-moved g (finished_keeps job) known state.jobs knows (finished_together job)
            (apart_changed is_early g (λ x y fine. grind (arith, fine)) state.jobs sound.jobs.queues)
            (λ x a is. grind (arith, a, is))
            (apart_changed share_worker g (λ x y fine. grind (arith, fine)) state.jobs sound.jobs.workers)
            sound.jobs;
        work = work-of-jobs g (finished_keeps job) known state.jobs knows state.registrations state.workers
            (λ x a is. either_way (λ row. has_own_registration state.registrations row ≡ true) (is_job job x) _ x is is) (λ x a is. grind (arith, is)) (λ x a is. either_way (λ row. has_its_worker state.workers row ≡ true) (is_job job x) _ x (done_fits state.workers x) is) (λ x worker registration a is. grind (arith, a, is)) sound.work;
        tasks = sound.tasks;
        clients = sound.clients;
        events = sound.events;
        caches = sound.caches;
        promises = all_weaker _ _ (λ row is. there_of_jobs g state.jobs state.tasks row.awaited is) state.promises sound.promises;
      }
