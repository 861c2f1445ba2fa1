-- Where no task is ready, no work is left.
use Rattle.std.proofs.Common.{◌≡◌, ◌∙◌, ℕ, Bool, true, false, not, ◌&&◌, ◌||◌, ◌==◌, List, [], ◌∷◌, ◌++◌, map, filter, Option, Some, None, refl, sym, true≢false, arith}
use Rattle.std.specs.List.{list_all, list_any}
use Rattle.std.specs.Prelude.{bytes_eq, find, is_none, is_some, option_and_then}
use Rattle.std.specs.Option.{option_map_or}
use Rattle.std.proofs.lemmas.Bool.{and_parts}
use Rattle.std.proofs.lemmas.Bool.Decides.{nat_tests}
use Rattle.sw_data.specs.declared.histories.Task.{Task}
use Rattle.sw_data.specs.declared.histories.Task.TheVariants as task
use Rattle.sw_data.specs.declared.rows.JobRow.{JobRow}
use Rattle.sw_rules.specs.Registering.{may_run}
use Rattle.sw_rules.specs.Rows.{free_handler, has_worker, is_in_phase, is_evaluating, is_fetching, is_first, is_install, is_installing, is_number, is_unfinished, is_unsettled_of, worker_row}
use Rattle.sw_rules.specs.State.{State, Registration, Worker, AddAll, Handler}
use Rattle.sw_rules.specs.Tasks.{activates, add_all_fetches, evaluations, installs, may_activate, may_install, ready_tasks, runs, script_fetches, try_activates}
use Rattle.sw_laws.specs.Coherent.{Coherent, apart, has_its_handler, has_its_job, has_its_worker, is_being_installed}
use Rattle.sw_laws.specs.Laws.{HasNoWork}
use Rattle.sw_laws.proofs.Lists.{all_both, all_members, all_not, all_weaker, any_from_find, any_weaker, bytes_eq_same, false_of, find_any, find_passes, found_stronger, or_from}
use Rattle.sw_laws.proofs.Places.{found_numbered, not_there, places_apart}

both_empty : {X : Type 0} (xs ys : List X) → xs ++ ys ≡ [] → (xs ≡ []) × (ys ≡ [])
both_empty [] ys is = (refl, is)
both_empty (x ∷ xs) ys is = absurd cc

none_mapped : {X Y : Type 0} (f : X → Y) (xs : List X) → map f xs ≡ [] → xs ≡ []
none_mapped f [] is = refl
none_mapped f (x ∷ xs) is = absurd cc

none_filtered : {X : Type 0} (p : X → Bool) (xs : List X) → list_all (λ x. not (p x)) xs ≡ true → filter p xs ≡ []
none_filtered p [] is = refl
none_filtered p (x ∷ xs) is = grind (arith, is, none_filtered p xs)

all_unlisted : {X : Type 0} (p : X → Bool) (xs : List X) → filter p xs ≡ [] → list_all (λ x. not (p x)) xs ≡ true
all_unlisted p [] is = refl
all_unlisted p (x ∷ xs) is = grind (arith, is, all_unlisted p xs)

none_of_all : {X : Type 0} (p : X → Bool) (xs : List X) → list_all (λ x. not (p x)) xs ≡ true → list_any p xs ≡ false
none_of_all p [] is = refl
none_of_all p (x ∷ xs) is = grind (arith, is, none_of_all p xs)

-- the lists of ready tasks
pub record AreEmpty (state : State) : Type 0 where
  pub runs : runs state ≡ []
  pub fetches : script_fetches state ≡ []
  pub tasks : add_all_fetches state ≡ []
  pub evaluations : evaluations state ≡ []
  pub installs : installs state ≡ []
  pub owed : try_activates state ≡ []
  pub activates : activates state ≡ []

are_empty : (state : State) → ready_tasks state ≡ [] → AreEmpty state
are_empty state is =
    let one = both_empty _ (activates state) is in
    let two = both_empty _ (try_activates state) one.0 in
    let three = both_empty _ (installs state) two.0 in
    let four = both_empty _ (evaluations state) three.0 in
    let five = both_empty _ (add_all_fetches state) four.0 in
    let six = both_empty (runs state) (script_fetches state) five.0 in
    record { runs = six.0; fetches = six.1; tasks = five.1; evaluations = four.1; installs = three.1; owed = two.1; activates = one.1 }

-- the first unfinished job of all stands first in its queue
first_of_all : (jobs : List JobRow) (row : JobRow) → find is_unfinished jobs ≡ Some row → is_first jobs row ≡ true
first_of_all jobs row is =
    let found : find (λ x. is_unfinished x && bytes_eq x.job.key row.job.key && bytes_eq x.job.scope row.job.scope) jobs ≡ Some row =
    found_stronger is_unfinished _ (λ x here. grind (arith, here)) jobs row is (grind (arith, find_passes is_unfinished jobs row is, bytes_eq_same row.job.key, bytes_eq_same row.job.scope)) in
    grind (arith, nat_tests, found)

none_unfinished : (state : State) (o : Option JobRow) → find is_unfinished state.jobs ≡ o
    → list_any (may_run state) state.jobs ≡ false → list_any (is_in_phase is_fetching) state.jobs ≡ false → list_any (is_in_phase is_evaluating) state.jobs ≡ false → list_any (is_in_phase is_installing) state.jobs ≡ false
    → list_any is_unfinished state.jobs ≡ false
none_unfinished state None is waiting fetching evaluating installing = any_from_find is_unfinished state.jobs is
none_unfinished state (Some row) is waiting fetching evaluating installing =
    grind (
      arith,
      first_of_all state.jobs row is,
      find_passes is_unfinished state.jobs row is,
      find_any is_unfinished (may_run state) state.jobs row is,
      find_any is_unfinished (is_in_phase is_fetching) state.jobs row is,
      find_any is_unfinished (is_in_phase is_evaluating) state.jobs row is,
      find_any is_unfinished (is_in_phase is_installing) state.jobs row is,
    )

same_any : {X : Type 0} (known p q : X → Bool) → ((x : X) → known x ≡ true → p x ≡ true → q x ≡ true) → (xs : List X) → list_all known xs ≡ true → list_any p xs ≡ true → list_any q xs ≡ true
same_any known p q goes [] all is = is
same_any known p q goes (x ∷ xs) all is = grind (arith, all, is, goes x, same_any known p q goes xs)

either_phase : (b : Bool) → (b ≡ true → ⊥) → not b ≡ true
either_phase b never = grind (arith, never)

not_both : {a b : Bool} → a ≡ true → not (a && b) ≡ true → b ≡ false
not_both {a} {b} here none = grind (arith, here, none)

no_handler : (w : Worker) → has_its_handler w ≡ true → (option_map_or (λ (h : Handler). not (is_install h.phase)) w.handler false ≡ true → ⊥) → (is_being_installed w ≡ true → ⊥) → not (is_some w.handler) ≡ true
no_handler w has one other = grind (arith, has, one, other)

given_one : (here one other : Bool) → one ≡ true → (here && (not one || other)) ≡ true → (here && other) ≡ true
given_one here one other is both = grind (arith, is, both)

own_stands : (b : Bool) (number : ℕ) → (number == number && (not b || b)) ≡ true
own_stands b number = grind (arith, nat_tests)

module _ (state : State) (sound : Coherent state) (empty : AreEmpty state) where
  fine : apart (λ x y. x.number == y.number) state.workers ≡ true
  fine = places_apart (λ w. w.number) state.workers sound.workers.numbers

  all_settled : list_all (λ row. not (is_none row.settled)) state.tasks ≡ true
  all_settled = all_unlisted (λ row. is_none row.settled) state.tasks (none_mapped (λ (row : AddAll). task.FetchAll row.number) (filter (λ row. is_none row.settled) state.tasks) empty.tasks)

  none_unsettled : (worker : ℕ) → list_any (is_unsettled_of worker) state.tasks ≡ false
  none_unsettled worker = none_of_all (is_unsettled_of worker) state.tasks (all_weaker _ _ (λ row is. grind (arith, is)) state.tasks all_settled)

  -- a handler that runs may go on
  goes_on : (p : Handler → Bool) (number : ℕ) (found : Option Worker) → worker_row state number ≡ found → has_worker (λ w. option_map_or p w.handler false) state.workers number ≡ true → option_map_or p (free_handler state number) false ≡ true
  goes_on p number None is has = absurd (not_there (λ (w : Worker). w.number) (λ w. option_map_or p w.handler false) state.workers number is has)
  goes_on p number (Some w) is has =
      let own = found_numbered (λ (w : Worker). w.number) (λ w. option_map_or p w.handler false) state.workers number w fine is has in
      rw (none_unsettled number, is) own

  -- a worker that installs has its install handler
  installs_handler : (w : Worker) → has_its_handler w ≡ true → is_being_installed w ≡ true → option_map_or (λ (h : Handler). is_install h.phase) w.handler false ≡ true
  installs_handler w has is = grind (arith, has, is)

  its_handlers : (number : ℕ) → has_worker is_being_installed state.workers number ≡ true → has_worker (λ w. option_map_or (λ (h : Handler). is_install h.phase) w.handler false) state.workers number ≡ true
  its_handlers number has =
      same_any (λ w. has_its_handler w) (λ w. w.number == number && is_being_installed w) (λ w. w.number == number && option_map_or (λ (h : Handler). is_install h.phase) w.handler false)
      (λ w know here. grind (arith, know, here, installs_handler w)) state.workers sound.workers.handlers has

  goes_on_by : (made registration : Option ℕ) → option_map_or (has_worker (λ w. is_number registration w.registration && is_being_installed w) state.workers) made false ≡ true → option_map_or (λ (h : Handler). is_install h.phase) (option_and_then (free_handler state) made) false ≡ true
  goes_on_by None registration has = absurd cc
  goes_on_by (Some number) registration has =
      goes_on (λ h. is_install h.phase) number (worker_row state number) refl
      (its_handlers number (any_weaker (λ w. w.number == number && (is_number registration w.registration && is_being_installed w)) _ (λ w here. grind (arith, here)) state.workers has))

  unlisted : (p : JobRow → Bool) (f : ℕ → Task) → map f (map (λ row. row.job.number) (filter p state.jobs)) ≡ [] → list_any p state.jobs ≡ false
  unlisted p f is = none_of_all p state.jobs (all_unlisted p state.jobs (none_mapped (λ (row : JobRow). row.job.number) (filter p state.jobs) (none_mapped f (map (λ row. row.job.number) (filter p state.jobs)) is)))

  -- no job installs
  job_idle : (row : JobRow) → has_its_worker state.workers row ≡ true → not (may_install state row) ≡ true → not (is_in_phase is_installing row) ≡ true
  job_idle row fits none =
      either_phase (is_in_phase is_installing row) (λ here. absurd (true≢false (sym (goes_on_by row.worker row.registration (grind (arith, fits, here))) ∙ not_both here none)))

  none_installing : list_any (is_in_phase is_installing) state.jobs ≡ false
  none_installing =
      none_of_all (is_in_phase is_installing) state.jobs
      (all_weaker _ _ (λ row is. let parts = and_parts _ _ is in job_idle row parts.0 parts.1) state.jobs
      (all_both _ _ state.jobs sound.work.phases (all_unlisted (may_install state) state.jobs (none_mapped (λ (row : JobRow). row.job.number) (filter (may_install state) state.jobs) (none_mapped task.Install _ empty.installs)))))

  none_left : list_any is_unfinished state.jobs ≡ false
  none_left = none_unfinished state (find is_unfinished state.jobs) refl (unlisted (may_run state) task.Run empty.runs) (unlisted (is_in_phase is_fetching) task.Fetch empty.fetches) (unlisted (is_in_phase is_evaluating) task.Evaluate empty.evaluations) none_installing

  abbrev runs_activate : Worker → Bool
  runs_activate w = option_map_or (λ (h : Handler). not (is_install h.phase)) w.handler false

  stands_there : list_all (λ w. not (runs_activate w) || has_worker runs_activate state.workers w.number) state.workers ≡ true
  stands_there =
      all_weaker (λ w. list_any (λ y. y.number == w.number && (not (runs_activate w) || runs_activate y)) state.workers) _
      (λ w here. or_from (runs_activate w) _ (λ is. any_weaker (λ y. y.number == w.number && (not (runs_activate w) || runs_activate y)) (λ y. y.number == w.number && runs_activate y) (λ y both. given_one (y.number == w.number) (runs_activate w) (runs_activate y) is both) state.workers here)) state.workers
      (all_members (λ y w. y.number == w.number && (not (runs_activate w) || runs_activate y)) (λ w. own_stands (runs_activate w) w.number) state.workers state.workers (λ w is. is))

  -- no handler runs
  handler_idle : (w : Worker) → (not (runs_activate w) || has_worker runs_activate state.workers w.number) ≡ true → not (may_activate state w) ≡ true → has_its_handler w ≡ true → has_its_job state.jobs w ≡ true → not (is_some w.handler) ≡ true
  handler_idle w there none has job =
      no_handler w has
      (λ activate. true≢false (sym (goes_on (λ h. not (is_install h.phase)) w.number (worker_row state w.number) refl (grind (arith, there, activate))) ∙ false_of none))
      (λ installing. true≢false (sym (any_weaker (λ row. is_in_phase is_installing row && is_number row.worker w.number && is_number row.registration w.registration) (is_in_phase is_installing) (λ row here. grind (arith, here)) state.jobs (grind (arith, job, installing))) ∙ none_installing))

  pub no_work : HasNoWork state
  no_work = record {
    jobs = none_filtered is_unfinished state.jobs (all_not is_unfinished state.jobs none_left);
    handlers = none_filtered (λ w. is_some w.handler) state.workers
        (all_weaker _ _ (λ w is. let a = and_parts _ _ is in let b = and_parts _ _ a.1 in let c = and_parts _ _ b.1 in handler_idle w a.0 b.0 c.0 c.1) state.workers
        (all_both _ _ state.workers stands_there
        (all_both _ _ state.workers (all_unlisted (may_activate state) state.workers (none_mapped (λ (w : Worker). task.Activate w.number) (filter (may_activate state) state.workers) empty.activates)) (all_both _ _ state.workers sound.workers.handlers sound.work.installing))));
    tasks = none_mapped (λ (row : AddAll). task.FetchAll row.number) (filter (λ row. is_none row.settled) state.tasks) empty.tasks;
    owed = none_mapped (λ (row : Registration). task.TryActivate row.number) (filter (λ row. row.owed) state.registrations) empty.owed;
  }

pub rests : (state : State) → Coherent state → ready_tasks state ≡ [] → HasNoWork state
rests state sound is = no_work state sound (are_empty state is)
