-- Whether a task that goes on with a handler is one of the ready tasks of a host: whether a row of its number passes.
use Rattle.std.proofs.Common.{◌≡◌, ◌∙◌, ℕ, Bool, true, false, ◌==◌, ◌&&◌, ◌||◌, List, [], ◌∷◌, ◌++◌, map, filter, refl, ap, arith}
use Rattle.std.specs.Prelude.{is_none}
use Rattle.std.specs.List.{list_any}
use Rattle.std.proofs.lemmas.List.Folds.{list_any-append}
use Rattle.sw_data.specs.declared.histories.Task.{Task}
use Rattle.sw_data.specs.declared.histories.Task.TheVariants as task
use Rattle.sw_data.specs.declared.rows.JobRow.{JobRow}
use Rattle.sw_lane.specs.Picked.{is_task}
use Rattle.sw_rules.specs.Registering.{may_run}
use Rattle.sw_rules.specs.Rows.{is_in_phase, is_evaluating, is_fetching}
use Rattle.sw_rules.specs.State.{State, AddAll, Registration, Worker}
use Rattle.sw_rules.specs.Tasks.{activates, add_all_fetches, evaluations, installs, jobs_where, may_activate, may_install, ready_tasks, runs, script_fetches, try_activates}
use Rattle.sw_tables.proofs.Rows.{any_map}

-- ---- what passes among rows that pass

pub any_filter : {X : Type 0} (p test : X → Bool) (xs : List X) → list_any p (filter test xs) ≡ list_any (λ x. p x && test x) xs
any_filter p test [] = refl
any_filter p test (x ∷ xs) = grind (arith, any_filter p test xs)

abbrev number : JobRow → ℕ
number row = row.job.number

pub any_job : (p : Task → Bool) (f : ℕ → Task) (test : JobRow → Bool) (rows : List JobRow)
    → list_any p (map f (map number (filter test rows))) ≡ list_any (λ (row : JobRow). p (f row.job.number) && test row) rows
any_job p f test rows =
    any_map p f (map number (filter test rows))
    ∙ (any_map (λ n. p (f n)) number (filter test rows) ∙ any_filter (λ row. p (f (number row))) test rows)

-- ---- what none passes

none_passes : {X : Type 0} (p : X → Bool) → ((x : X) → p x ≡ false) → (xs : List X) → list_any p xs ≡ false
none_passes p fails [] = refl
none_passes p fails (x ∷ xs) = grind (arith, fails x, none_passes p fails xs)

pub none_mapped : {X : Type 0} (p : Task → Bool) (f : X → Task) → ((x : X) → p (f x) ≡ false) → (xs : List X) → list_any p (map f xs) ≡ false
none_mapped p f fails xs = any_map p f xs ∙ none_passes (λ x. p (f x)) fails xs

or_false : (b : Bool) → (b || false) ≡ b
or_false true = refl
or_false false = refl

-- the tasks before pass nothing
past : (p : Task → Bool) (xs ys : List Task) → list_any p xs ≡ false → list_any p (xs ++ ys) ≡ list_any p ys
past p xs ys none = list_any-append p xs ys ∙ ap (λ b. b || list_any p ys) none

-- the tasks behind pass nothing
before : (p : Task → Bool) (xs ys : List Task) → list_any p ys ≡ false → list_any p (xs ++ ys) ≡ list_any p xs
before p xs ys none = list_any-append p xs ys ∙ (ap (λ b. list_any p xs || b) none ∙ or_false (list_any p xs))

-- neither list passes anything
none_both : (p : Task → Bool) (xs ys : List Task) → list_any p xs ≡ false → list_any p ys ≡ false → list_any p (xs ++ ys) ≡ false
none_both p xs ys one other = past p xs ys one ∙ other

-- ---- the two kinds

module _ (state : State) (n : ℕ) where
  -- the tasks of jobs and addAlls
  abbrev first_four : List Task
  first_four = runs state ++ script_fetches state ++ add_all_fetches state ++ evaluations state

  none_of_four : (p : Task → Bool) → ((m : ℕ) → p (task.Run m) ≡ false) → ((m : ℕ) → p (task.Fetch m) ≡ false)
      → ((m : ℕ) → p (task.FetchAll m) ≡ false) → ((m : ℕ) → p (task.Evaluate m) ≡ false) → list_any p first_four ≡ false
  none_of_four p run fetch fetch_all evaluate =
      none_both p (runs state ++ script_fetches state ++ add_all_fetches state) (evaluations state)
      (none_both p (runs state ++ script_fetches state) (add_all_fetches state)
      (none_both p (runs state) (script_fetches state)
      (none_mapped p task.Run run (jobs_where (may_run state) state))
      (none_mapped p task.Fetch fetch (jobs_where (is_in_phase is_fetching) state)))
      (none_mapped p (λ (row : AddAll). task.FetchAll row.number) (λ row. fetch_all row.number) (filter (λ (row : AddAll). is_none row.settled) state.tasks)))
      (none_mapped p task.Evaluate evaluate (jobs_where (is_in_phase is_evaluating) state))

  none_tried : (p : Task → Bool) → ((m : ℕ) → p (task.TryActivate m) ≡ false) → list_any p (try_activates state) ≡ false
  none_tried p fails =
      none_mapped p (λ (row : Registration). task.TryActivate row.number) (λ row. fails row.number) (filter (λ (row : Registration). row.owed) state.registrations)

  pub ready_install : list_any (is_task (task.Install n)) (ready_tasks state)
      ≡ list_any (λ (row : JobRow). n == row.job.number && may_install state row) state.jobs
  ready_install =
      let p = is_task (task.Install n) in
      let none_activates = none_mapped p (λ (row : Worker). task.Activate row.number) (λ row. refl) (filter (may_activate state) state.workers) in
      before p (first_four ++ installs state ++ try_activates state) (activates state) none_activates
      ∙ (before p (first_four ++ installs state) (try_activates state) (none_tried p (λ m. refl))
      ∙ (past p first_four (installs state) (none_of_four p (λ m. refl) (λ m. refl) (λ m. refl) (λ m. refl))
      ∙ any_job p task.Install (may_install state) state.jobs))

  pub ready_activate : list_any (is_task (task.Activate n)) (ready_tasks state)
      ≡ list_any (λ (row : Worker). n == row.number && may_activate state row) state.workers
  ready_activate =
      let p = is_task (task.Activate n) in
      let none_installs = none_mapped p task.Install (λ m. refl) (jobs_where (may_install state) state) in
      past p (first_four ++ installs state ++ try_activates state) (activates state)
      (none_both p (first_four ++ installs state) (try_activates state)
      (none_both p first_four (installs state) (none_of_four p (λ m. refl) (λ m. refl) (λ m. refl) (λ m. refl)) none_installs)
      (none_tried p (λ m. refl)))
      ∙ (any_map p (λ (row : Worker). task.Activate row.number) (filter (may_activate state) state.workers)
      ∙ any_filter (λ (row : Worker). n == row.number) (may_activate state) state.workers)
