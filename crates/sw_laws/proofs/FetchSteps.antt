-- The drawing of a script's fetch keeps a state coherent: the first job of a queue goes on.
use Rattle.std.proofs.Common.{◌≡◌, ◌∙◌, ℕ, Bool, true, false, not, ◌&&◌, ◌||◌, ◌==◌, List, [], ◌∷◌, map, Option, Some, None, refl, sym, subst, true≢false, arith, if◌then◌else◌}
use Rattle.std.specs.List.{list_all, list_any}
use Rattle.std.specs.Prelude.{bytes_eq, find, is_none}
use Rattle.std.specs.Option.{option_map_or}
use Rattle.std.proofs.lemmas.Bool.{and_from, and_parts}
use Rattle.std.proofs.lemmas.Bool.Decides.{nat_tests}
use Rattle.sw_data.specs.declared.rows.JobPhase.TheVariants as job_phase
use Rattle.sw_data.specs.declared.rows.JobRow.{JobRow}
use Rattle.sw_rules.specs.Jobs.{next_draw}
use Rattle.sw_rules.specs.Registering.{fetch_script, may_run}
use Rattle.sw_rules.specs.Rows.{changed, first_job, in_queue, is_job, is_mapped_to, is_unfinished, is_waiting, job_row, mapped_registration}
use Rattle.sw_rules.specs.State.{State, Registration, Worker}
use Rattle.sw_laws.specs.Coherent.{Coherent, apart, has_its_worker, has_own_registration, is_early, share_worker}
use Rattle.sw_laws.proofs.JobMoves.{GoTogether, KeepsJob, jobs-moved, jobs_of_number, there_of_jobs, work-of-jobs}
use Rattle.sw_laws.proofs.Lists.{all_both, all_changed, all_weaker, apart_changed, by_test, bytes_eq_equal, bytes_eq_same, either_way, false_of, find_any, find_passes, found_clear}
use Rattle.sw_laws.proofs.Places.{places_apart}

-- ---- the first job of a queue may go on

abbrev same_number : JobRow → JobRow → Bool
same_number x y = x.job.number == y.job.number

abbrev fetching_for : ℕ → ℕ → ℕ → JobRow → JobRow
fetching_for job registration drawn row =
    if is_job job row then record row { phase = job_phase.Fetching; registration = Some registration; fetch = Some drawn } else row

changed_none : {X : Type 0} (test : X → Bool) (f : X → X) (xs : List X) → list_all (λ x. not (test x)) xs ≡ true → changed test f xs ≡ xs
changed_none test f [] none = refl
changed_none test f (x ∷ xs) none = grind (arith, changed_none test f xs)

pub bytes_joined : (a b c : List ℕ) → bytes_eq a b ≡ true → bytes_eq a c ≡ true → bytes_eq b c ≡ true
bytes_joined a b c one other =
    let is : a ≡ b = bytes_eq_equal a b one in
    subst (λ (x : List ℕ). bytes_eq x c ≡ true) is other

-- a later job of the queue of an earlier one: both stand in it
queue_joined : (key scope : List ℕ) (x y : JobRow) → is_unfinished x ≡ true → (bytes_eq y.job.key x.job.key && bytes_eq y.job.scope x.job.scope) ≡ true → in_queue key scope y ≡ true → in_queue key scope x ≡ true
queue_joined key scope x y here behind is =
    grind (arith, here, behind, is, bytes_joined y.job.key x.job.key key, bytes_joined y.job.scope x.job.scope scope)

never_all : (a b c d : Bool) → (a ≡ true → (c && d) ≡ true → ⊥) → (a && (b && c && d) && true) ≡ false
never_all a b c d never = grind (arith, never)

not_early : (x y : JobRow) (registration drawn : ℕ) → (is_unfinished x ≡ true → (bytes_eq y.job.key x.job.key && bytes_eq y.job.scope x.job.scope) ≡ true → ⊥) → is_early x (record y { phase = job_phase.Fetching; registration = Some registration; fetch = Some drawn }) ≡ false
not_early x y registration drawn never = never_all (is_unfinished x) (is_unfinished (record y { phase = job_phase.Fetching; registration = Some registration; fetch = Some drawn })) (bytes_eq y.job.key x.job.key) (bytes_eq y.job.scope x.job.scope) never

-- a job that stands behind one of another queue may go on
early_after : (key scope : List ℕ) (job registration drawn : ℕ) (x y : JobRow) → in_queue key scope x ≡ false → is_early x y ≡ false → (not (is_job job y) || in_queue key scope y) ≡ true → is_early x (fetching_for job registration drawn y) ≡ false
early_after key scope job registration drawn x y out fine own =
    by_test (λ row. is_early x row ≡ false) (is_job job y) _ y
    (λ here. not_early x y registration drawn (λ unfinished behind. true≢false (sym (queue_joined key scope x y unfinished behind (grind (arith, here, own))) ∙ out)))
    (λ other. fine)

-- a job that goes on is no more unfinished than it was
still_apart : (x y : JobRow) (registration drawn : ℕ) → is_unfinished x ≡ true → not (is_early x y) ≡ true → not (is_early (record x { phase = job_phase.Fetching; registration = Some registration; fetch = Some drawn }) y) ≡ true
still_apart x y registration drawn here is = grind (arith, here, is)

after_other : (job registration drawn : ℕ) (x y : JobRow) → is_job job x ≡ false → is_early x y ≡ false → not (is_early (fetching_for job registration drawn x) y) ≡ true
after_other job registration drawn x y other fine = by_test (λ row. not (is_early row y) ≡ true) (is_job job x) _ x (λ here. absurd (true≢false (sym here ∙ other))) (λ none. grind (arith, fine))

module _ (key scope : List ℕ) (job registration drawn : ℕ) where
  abbrev g : JobRow → JobRow
  g = fetching_for job registration drawn

  pub first-apart : (rows : List JobRow) (this : JobRow) → apart same_number rows ≡ true → list_all (λ row. not (is_job job row) || in_queue key scope row) rows ≡ true → find (in_queue key scope) rows ≡ Some this → this.job.number ≡ job → apart is_early rows ≡ true → apart is_early (map g rows) ≡ true
  first-apart [] this numbers own is was fine = refl
  first-apart (x ∷ xs) this numbers own is was fine =
      let n = and_parts (list_all (λ y. not (same_number x y)) xs) (apart same_number xs) numbers in
      let o = and_parts (not (is_job job x) || in_queue key scope x) (list_all (λ row. not (is_job job row) || in_queue key scope row) xs) own in
      let l = and_parts (list_all (λ y. not (is_early x y)) xs) (apart is_early xs) fine in
      elim (in_queue key scope x) as (λ b. in_queue key scope x ≡ b → apart is_early (map g (x ∷ xs)) ≡ true) [
        | true ↦ λ first.
            let same : x.job.number ≡ job = grind (arith, is, was, first) in
            let rest : map g xs ≡ xs = changed_none (is_job job) (λ row. record row { phase = job_phase.Fetching; registration = Some registration; fetch = Some drawn }) xs (all_weaker _ _ (λ y here. grind (arith, nat_tests, here, same)) xs n.0) in
            subst (λ (ys : List JobRow). (list_all (λ y. not (is_early (g x) y)) ys && apart is_early ys) ≡ true) (sym rest)
            (and_from _ _ (all_weaker _ _ (λ y here. either_way (λ row. not (is_early row y) ≡ true) (is_job job x) _ x (still_apart x y registration drawn (grind (arith, first)) here) here) xs l.0) l.1)
        | false ↦ λ out.
            let found : find (in_queue key scope) xs ≡ Some this = grind (arith, is, out) in
            let other : is_job job x ≡ false = grind (arith, nat_tests, was, found_clear same_number (in_queue key scope) x xs this n.0 found) in
            and_from _ _
            (all_changed (λ y. not (is_early x y) && (not (is_job job y) || in_queue key scope y)) _ _ (λ y here. let parts = and_parts _ _ here in after_other job registration drawn x (g y) other (early_after key scope job registration drawn x y out (false_of parts.0) parts.1)) xs (all_both _ _ xs l.0 o.1))
            (first-apart xs this n.1 o.1 found was l.1)
      ] refl

-- ---- the drawing of a script's fetch

fetching_keeps : (job registration drawn : ℕ) → KeepsJob (fetching_for job registration drawn)
fetching_keeps job registration drawn = record { job = λ x. grind arith; leader = λ x. grind arith }

-- what is known of the rows of a job that may run
abbrev may_fetch : JobRow → ℕ → JobRow → Bool
may_fetch this job row =
    not (is_job job row) || (is_unfinished row && is_waiting row.phase && is_none row.leader && bytes_eq this.job.key row.job.key && bytes_eq this.job.scope row.job.scope)

fetching_together : (this : JobRow) (job registration drawn : ℕ) → GoTogether (may_fetch this job) (fetching_for job registration drawn)
fetching_together this job registration drawn row first leader know knows is there joined waits same =
    (grind (arith, know, is, waits), grind (arith, same))

-- the job's registration has its key and scope
registered : (registrations : List Registration) (this row : JobRow) (registration : Registration) → find (is_mapped_to this.job.key this.job.scope) registrations ≡ Some registration → bytes_eq this.job.key row.job.key ≡ true → bytes_eq this.job.scope row.job.scope ≡ true
    → list_any (λ found. found.number == registration.number && bytes_eq found.key row.job.key && bytes_eq found.scope row.job.scope) registrations ≡ true
registered registrations this row registration is key scope =
    let passes = find_passes (is_mapped_to this.job.key this.job.scope) registrations registration is in
    find_any (is_mapped_to this.job.key this.job.scope) _ registrations registration is
    (grind (arith, nat_tests, passes, key, scope, subst (λ (k : List ℕ). bytes_eq registration.key this.job.key ≡ bytes_eq registration.key k) (bytes_eq_equal this.job.key row.job.key key) refl, subst (λ (k : List ℕ). bytes_eq registration.scope this.job.scope ≡ bytes_eq registration.scope k) (bytes_eq_equal this.job.scope row.job.scope scope) refl))

fetching_fits : (workers : List Worker) (row : JobRow) (registration drawn : ℕ) → has_its_worker workers (record row { phase = job_phase.Fetching; registration = Some registration; fetch = Some drawn }) ≡ true
fetching_fits workers row registration drawn = grind arith

pub first_is : (jobs : List JobRow) (row : JobRow) (this : Option JobRow) → find (in_queue row.job.key row.job.scope) jobs ≡ this → option_map_or (is_job row.job.number) this false ≡ true
    → (found : JobRow) × (find (in_queue row.job.key row.job.scope) jobs ≡ Some found) × (found.job.number ≡ row.job.number)
first_is jobs row None is first = absurd cc
first_is jobs row (Some this) is first = (this, is, grind (arith, nat_tests, first))

module _ (state : State) (row : JobRow) (registration : Registration) (found : job_row state row.job.number ≡ Some row) (may : may_run state row ≡ true) (mapped : mapped_registration state row.job.key row.job.scope ≡ Some registration) (sound : Coherent state) where
  waiting_row : (is_unfinished row && is_waiting row.phase && is_none row.leader) ≡ true
  waiting_row = grind (arith, may)

  this_fetches : (is_unfinished row && is_waiting row.phase && is_none row.leader && bytes_eq row.job.key row.job.key && bytes_eq row.job.scope row.job.scope) ≡ true
  this_fetches = grind (arith, waiting_row, bytes_eq_same row.job.key, bytes_eq_same row.job.scope)

  pub fetch_script-coherent : Coherent (fetch_script state row.job registration.number).state
  unfolding fetch_script
  fetch_script-coherent =
      let job = row.job.number in
      let jobs = state.jobs in
      let drawn = next_draw state.draws row.job.script in
      let g = fetching_for job registration.number drawn in
      let known = may_fetch row job in
      let knows : list_all known jobs ≡ true = jobs_of_number (λ x. is_unfinished x && is_waiting x.phase && is_none x.leader && bytes_eq row.job.key x.job.key && bytes_eq row.job.scope x.job.scope) jobs job row sound.jobs.numbers found this_fetches in
      let own : list_all (λ x. not (is_job job x) || in_queue row.job.key row.job.scope x) jobs ≡ true =
      jobs_of_number (in_queue row.job.key row.job.scope) jobs job row sound.jobs.numbers found (grind (arith, waiting_row, bytes_eq_same row.job.key, bytes_eq_same row.job.scope)) in
      let first = first_is jobs row (first_job row.job.key row.job.scope jobs) refl (grind (arith, may)) in
      record {
        registrations = sound.registrations;
        workers = sound.workers;
        jobs = jobs-moved g (fetching_keeps job registration.number drawn) known jobs knows (fetching_together row job registration.number drawn)
            (first-apart row.job.key row.job.scope job registration.number drawn jobs first.0 (places_apart (λ (x : JobRow). x.job.number) jobs sound.jobs.numbers) own first.1 first.2 sound.jobs.queues)
            (λ x a is. grind (arith, is))
            (apart_changed share_worker g (λ x y fine. grind (arith, fine)) jobs sound.jobs.workers)
            sound.jobs;
        work = work-of-jobs g (fetching_keeps job registration.number drawn) known jobs knows state.registrations state.workers
            (λ x a is. by_test (λ r. has_own_registration state.registrations r ≡ true) (is_job job x) _ x (λ here. registered state.registrations row x registration mapped (grind (arith, here, a)) (grind (arith, here, a))) (λ other. is))
            (λ x a is. grind (arith, is))
            (λ x a is. either_way (λ r. has_its_worker state.workers r ≡ true) (is_job job x) _ x (fetching_fits state.workers x registration.number drawn) is)
            (λ x worker number a is. grind (arith, a, is)) sound.work;
        tasks = sound.tasks;
        clients = sound.clients;
        events = sound.events;
        caches = sound.caches;
        promises = all_weaker _ _ (λ p is. there_of_jobs g jobs state.tasks p.awaited is) state.promises sound.promises;
      }
