-- Changes of jobs that keep the job and its leader: what each clause asks of them.
use Rattle.std.proofs.Common.{◌≡◌, ◌∙◌, ℕ, Bool, true, not, ◌&&◌, ◌||◌, ◌==◌, List, map, Option, Some, None, option_map, refl, ap, arith}
use Rattle.std.specs.List.{list_all}
use Rattle.std.specs.Prelude.{find, is_some}
use Rattle.std.proofs.lemmas.Bool.Decides.{nat_tests}
use Rattle.sw_data.specs.declared.rows.Job.{Job}
use Rattle.sw_data.specs.declared.rows.JobRow.{JobRow}
use Rattle.sw_rules.specs.Rows.{is_in_phase, is_installing, is_job, is_number, is_waiting}
use Rattle.sw_rules.specs.State.{Registration, Worker, Awaited, AddAll, value, of_job, of_task}
use Rattle.sw_laws.specs.Coherent.{ArePlaces, HasLeadersValue, HasValueOf, SoundJobs, SoundWork, apart, has_its_worker, has_own_registration, has_worker_row, is_being_installed, is_early, is_settled_phase, is_there, share_worker}
use Rattle.sw_laws.proofs.Lists.{all_weaker, find_changed, find_passes}
use Rattle.sw_laws.proofs.Places.{all_as_found, all_at_found, all_known, any_known, place_changed, places_apart, places_changed}

-- the job and its leader stay
pub record KeepsJob (g : JobRow → JobRow) : Type 0 where
  pub job : (x : JobRow) → (g x).job ≡ x.job
  pub leader : (x : JobRow) → (g x).leader ≡ x.leader

-- the row of a number is as the one that was found
pub jobs_of_number : (q : JobRow → Bool) (rows : List JobRow) (number : ℕ) (row : JobRow) → ArePlaces (λ row. row.job.number) rows → find (is_job number) rows ≡ Some row → q row ≡ true → list_all (λ other. not (is_job number other) || q other) rows ≡ true
jobs_of_number q rows number row are is here =
    all_as_found (λ x y. x.job.number == y.job.number) (is_job number) q (λ x y one other. grind (arith, nat_tests, one, other)) rows row (places_apart (λ row. row.job.number) rows are) is here

-- a joined job and the one that it joined get their values together
abbrev pub GoTogether : (JobRow → Bool) → (JobRow → JobRow) → Type 0
GoTogether known g =
    (row first : JobRow) (leader : ℕ) → known row ≡ true → known first ≡ true → row.leader ≡ Some leader → is_job leader first ≡ true → first.leader ≡ None
    → is_waiting row.phase ≡ true → first.settled ≡ row.settled
    → (is_waiting (g row).phase ≡ true) × ((g first).settled ≡ (g row).settled)

pub its_job : (worker : Worker) (one other : Bool) → (one ≡ true → other ≡ true) → (not (is_being_installed worker) || one) ≡ true → (not (is_being_installed worker) || other) ≡ true
its_job worker one other goes is = grind (arith, goes, is)

module _ (g : JobRow → JobRow) (keeps : KeepsJob g) (known : JobRow → Bool) (rows : List JobRow) (knows : list_all known rows ≡ true) where
  found_after : (number : ℕ) → find (is_job number) (map g rows) ≡ option_map g (find (is_job number) rows)
  found_after number = find_changed (is_job number) (is_job number) g (λ row. ap (λ (job : Job). job.number == number) (keeps.job row)) rows

  led_after : GoTogether known g → (row : JobRow) (leader : Option ℕ) → row.leader ≡ leader → known row ≡ true
      → HasValueOf rows row leader → HasValueOf (map g rows) (g row) leader
  led_after together row None is know was = tt
  led_after together row (Some l) is know was =
      let first = was.1.0 in
      let goes = together row first l know (all_at_found (is_job l) known rows first was.1.1 knows) is (find_passes (is_job l) rows first was.1.1) was.1.2 was.0 was.1.3 in
      (goes.0, (g first, found_after l ∙ ap (option_map g) was.1.1, keeps.leader first ∙ was.1.2, goes.1))

  value_after : GoTogether known g → (number : ℕ) (found : Option JobRow) → find (is_job number) rows ≡ found → HasLeadersValue rows found → HasLeadersValue (map g rows) (option_map g found)
  value_after together number None is was = tt
  value_after together number (Some row) is was =
      rw (keeps.leader row) (led_after together row row.leader refl (all_at_found (is_job number) known rows row is knows) was)

  pub joined-moved : GoTogether known g → ((number : ℕ) → HasLeadersValue rows (find (is_job number) rows)) → (number : ℕ) → HasLeadersValue (map g rows) (find (is_job number) (map g rows))
  joined-moved together was number =
      rw (found_after number) (value_after together number (find (is_job number) rows) refl (was number))

  pub jobs-moved : GoTogether known g
      → apart is_early (map g rows) ≡ true
      → ((x : JobRow) → known x ≡ true → (not (is_settled_phase x.phase) || is_some x.settled) ≡ true → (not (is_settled_phase (g x).phase) || is_some (g x).settled) ≡ true)
      → apart share_worker (map g rows) ≡ true
      → SoundJobs rows → SoundJobs (map g rows)
  jobs-moved together queues settled workers sound = record {
    numbers = places_changed (λ row. row.job.number) g (λ row. ap (λ (job : Job). job.number) (keeps.job row)) rows sound.numbers;
    queues = queues;
    settled = all_known known _ _ g settled rows knows sound.settled;
    joined = joined-moved together sound.joined;
    workers = workers;
  }

  -- a job that installs goes on to do so, with its worker
  pub work-of-jobs : (registrations : List Registration) (workers : List Worker)
      → ((x : JobRow) → known x ≡ true → has_own_registration registrations x ≡ true → has_own_registration registrations (g x) ≡ true)
      → ((x : JobRow) → known x ≡ true → has_worker_row workers x ≡ true → has_worker_row workers (g x) ≡ true)
      → ((x : JobRow) → known x ≡ true → has_its_worker workers x ≡ true → has_its_worker workers (g x) ≡ true)
      → ((x : JobRow) (worker registration : ℕ) → known x ≡ true → (is_in_phase is_installing x && is_number x.worker worker && is_number x.registration registration) ≡ true → (is_in_phase is_installing (g x) && is_number (g x).worker worker && is_number (g x).registration registration) ≡ true)
      → SoundWork registrations workers rows → SoundWork registrations workers (map g rows)
  work-of-jobs registrations workers keys made phases installs sound = record {
    keys = all_known known _ _ g keys rows knows sound.keys;
    made = all_known known _ _ g made rows knows sound.made;
    phases = all_known known _ _ g phases rows knows sound.phases;
    installing = all_weaker _ _ (λ worker is. its_job worker _ _ (any_known known _ _ g (λ x know here. installs x worker.number worker.registration know here) rows knows) is) workers sound.installing;
  }

-- what a promise waits for is there after a change of jobs
pub there_of_jobs : (g : JobRow → JobRow) (jobs : List JobRow) (tasks : List AddAll) (awaited : Awaited) → is_there jobs tasks awaited ≡ true → is_there (map g jobs) tasks awaited ≡ true
there_of_jobs g jobs tasks (value result) is = refl
there_of_jobs g jobs tasks (of_job job) is = place_changed g jobs job is
there_of_jobs g jobs tasks (of_task task) is = is
