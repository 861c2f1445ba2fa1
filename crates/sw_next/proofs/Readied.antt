-- Whether a task is one of the ready tasks: by the row of its number.
use Rattle.std.proofs.Common.{◌≡◌, ◌∙◌, ◌==◌, ℕ, Bool, false, ◌&&◌, ◌||◌, List, filter, Option, Some, None, option_map, is_some, refl, sym, ap, arith}
use Rattle.std.specs.Prelude.{find, is_none}
use Rattle.std.specs.List.{list_any}
use Rattle.std.specs.Option.{option_map_or}
use Rattle.std.proofs.lemmas.List.Folds.{list_any-append}
use Rattle.sw_next.proofs.Enabling.{runs_where}
use Rattle.sw_next.proofs.ReadyAny.{any_filter, any_job, none_mapped, ready_activate, ready_install}
use Rattle.sw_next.proofs.TaskEvents.{other_way, same_any}
use Rattle.sw_state.specs.Hosted.{Hosted, state_of}
use Rattle.sw_data.specs.declared.histories.Task.{Task}
use Rattle.sw_data.specs.declared.histories.Task.TheVariants as task
use Rattle.sw_data.specs.declared.rows.JobRow.{JobRow}
use Rattle.sw_data.specs.declared.rows.WorkerRow.{WorkerRow}
use Rattle.sw_lane.specs.Picked.{is_task}
use Rattle.sw_rules.specs.Activating.{is_owed}
use Rattle.sw_rules.specs.Registering.{may_run, run}
use Rattle.sw_rules.specs.Rows.{is_in_phase, is_evaluating, is_fetching, job_row, task_row, worker_row}
use Rattle.sw_rules.specs.State.{State, AddAll, Registration, Worker}
use Rattle.sw_rules.specs.Tasks.{activates, add_all_fetches, evaluations, installs, jobs_where, may_activate, may_install, ready_tasks, runs, script_fetches, try_activates}
use Rattle.sw_tables.proofs.Lookups.{worker_shown}
use Rattle.sw_tables.proofs.Rows.{any_at, any_map}
use Rattle.sw_tables.specs.Lent.{shown_worker}
use Rattle.sw_tables.specs.Linked.{ArePlaces}
use Rattle.sw_worker.specs.Table.{worker_at}

-- ---- the kinds of ready tasks

module _ (p : Task → Bool) (state : State) where
  -- the ready tasks are those of each kind
  each_kind : list_any p (ready_tasks state)
      ≡ (list_any p (runs state) || list_any p (script_fetches state) || list_any p (add_all_fetches state) || list_any p (evaluations state)
      || list_any p (installs state) || list_any p (try_activates state) || list_any p (activates state))
  each_kind = simp (list_any-append p) refl

  no_runs : ((n : ℕ) → p (task.Run n) ≡ false) → list_any p (runs state) ≡ false
  no_runs never = none_mapped p task.Run never (jobs_where (may_run state) state)

  no_fetches : ((n : ℕ) → p (task.Fetch n) ≡ false) → list_any p (script_fetches state) ≡ false
  no_fetches never = none_mapped p task.Fetch never (jobs_where (is_in_phase is_fetching) state)

  no_add_alls : ((n : ℕ) → p (task.FetchAll n) ≡ false) → list_any p (add_all_fetches state) ≡ false
  no_add_alls never = none_mapped p (λ (row : AddAll). task.FetchAll row.number) (λ row. never row.number) (filter (λ (row : AddAll). is_none row.settled) state.tasks)

  no_evaluations : ((n : ℕ) → p (task.Evaluate n) ≡ false) → list_any p (evaluations state) ≡ false
  no_evaluations never = none_mapped p task.Evaluate never (jobs_where (is_in_phase is_evaluating) state)

  no_installs : ((n : ℕ) → p (task.Install n) ≡ false) → list_any p (installs state) ≡ false
  no_installs never = none_mapped p task.Install never (jobs_where (may_install state) state)

  no_tries : ((n : ℕ) → p (task.TryActivate n) ≡ false) → list_any p (try_activates state) ≡ false
  no_tries never = none_mapped p (λ (row : Registration). task.TryActivate row.number) (λ row. never row.number) (filter (λ (row : Registration). row.owed) state.registrations)

  no_activates : ((n : ℕ) → p (task.Activate n) ≡ false) → list_any p (activates state) ≡ false
  no_activates never = none_mapped p (λ (row : Worker). task.Activate row.number) (λ row. never row.number) (filter (may_activate state) state.workers)

module _ (state : State) (n : ℕ) where
  ready_run : list_any (is_task (task.Run n)) (ready_tasks state) ≡ list_any (λ (row : JobRow). n == row.job.number && may_run state row) state.jobs
  ready_run =
      let p = is_task (task.Run n) in
      let kind : list_any p (ready_tasks state) ≡ list_any p (runs state) =
      grind (arith, each_kind p state, no_fetches p state (λ m. refl), no_add_alls p state (λ m. refl), no_evaluations p state (λ m. refl), no_installs p state (λ m. refl), no_tries p state (λ m. refl), no_activates p state (λ m. refl)) in
      kind ∙ any_job p task.Run (may_run state) state.jobs

  ready_fetch : list_any (is_task (task.Fetch n)) (ready_tasks state) ≡ list_any (λ (row : JobRow). n == row.job.number && is_in_phase is_fetching row) state.jobs
  ready_fetch =
      let p = is_task (task.Fetch n) in
      let kind : list_any p (ready_tasks state) ≡ list_any p (script_fetches state) =
      grind (arith, each_kind p state, no_runs p state (λ m. refl), no_add_alls p state (λ m. refl), no_evaluations p state (λ m. refl), no_installs p state (λ m. refl), no_tries p state (λ m. refl), no_activates p state (λ m. refl)) in
      kind ∙ any_job p task.Fetch (is_in_phase is_fetching) state.jobs

  ready_fetch_all : list_any (is_task (task.FetchAll n)) (ready_tasks state) ≡ list_any (λ (row : AddAll). n == row.number && is_none row.settled) state.tasks
  ready_fetch_all =
      let p = is_task (task.FetchAll n) in
      let kind : list_any p (ready_tasks state) ≡ list_any p (add_all_fetches state) =
      grind (arith, each_kind p state, no_runs p state (λ m. refl), no_fetches p state (λ m. refl), no_evaluations p state (λ m. refl), no_installs p state (λ m. refl), no_tries p state (λ m. refl), no_activates p state (λ m. refl)) in
      kind
      ∙ (any_map p (λ (row : AddAll). task.FetchAll row.number) (filter (λ (row : AddAll). is_none row.settled) state.tasks)
      ∙ any_filter (λ (row : AddAll). n == row.number) (λ (row : AddAll). is_none row.settled) state.tasks)

  ready_evaluate : list_any (is_task (task.Evaluate n)) (ready_tasks state) ≡ list_any (λ (row : JobRow). n == row.job.number && is_in_phase is_evaluating row) state.jobs
  ready_evaluate =
      let p = is_task (task.Evaluate n) in
      let kind : list_any p (ready_tasks state) ≡ list_any p (evaluations state) =
      grind (arith, each_kind p state, no_runs p state (λ m. refl), no_fetches p state (λ m. refl), no_add_alls p state (λ m. refl), no_installs p state (λ m. refl), no_tries p state (λ m. refl), no_activates p state (λ m. refl)) in
      kind ∙ any_job p task.Evaluate (is_in_phase is_evaluating) state.jobs

  ready_try : list_any (is_task (task.TryActivate n)) (ready_tasks state) ≡ list_any (λ (row : Registration). n == row.number && row.owed) state.registrations
  ready_try =
      let p = is_task (task.TryActivate n) in
      let kind : list_any p (ready_tasks state) ≡ list_any p (try_activates state) =
      grind (arith, each_kind p state, no_runs p state (λ m. refl), no_fetches p state (λ m. refl), no_add_alls p state (λ m. refl), no_evaluations p state (λ m. refl), no_installs p state (λ m. refl), no_activates p state (λ m. refl)) in
      kind
      ∙ (any_map p (λ (row : Registration). task.TryActivate row.number) (filter (λ (row : Registration). row.owed) state.registrations)
      ∙ any_filter (λ (row : Registration). n == row.number) (λ (row : Registration). row.owed) state.registrations)

-- ---- the row of a task's number

module _ {X : Type 0} (number : X → ℕ) (test : X → Bool) (n : ℕ) (xs : List X) where
  turned : list_any (λ x. n == number x && test x) xs ≡ list_any (λ x. number x == n && test x) xs
  turned = same_any (λ x. n == number x && test x) (λ x. number x == n && test x) (λ x. ap (λ b. b && test x) (other_way n (number x))) xs

  its_row : ArePlaces number xs → list_any (λ x. n == number x && test x) xs ≡ option_map_or test (find (λ x. number x == n) xs) false
  its_row are = turned ∙ any_at number test n xs are

-- what tells whether a task is ready tells it of the same task
tells : (state : State) (of one : Task) (passes : Bool) → of ≡ one → list_any (is_task one) (ready_tasks state) ≡ passes → passes ≡ list_any (is_task of) (ready_tasks state)
tells state of one passes is ready = sym (ap (λ (t : Task). list_any (is_task t) (ready_tasks state)) is ∙ ready)

module _ (state : State) (n : ℕ) (of : Task) where
  module _ (jobs : ArePlaces (λ (row : JobRow). row.job.number) state.jobs) where
    its_job : (test : JobRow → Bool) → list_any (λ (row : JobRow). n == row.job.number && test row) state.jobs ≡ option_map_or test (job_row state n) false
    its_job test = its_row (λ (row : JobRow). row.job.number) test n state.jobs jobs

    pub run_ready : of ≡ task.Run n → is_some (run state n) ≡ list_any (is_task of) (ready_tasks state)
    run_ready is = tells state of (task.Run n) _ is (ready_run state n ∙ (its_job (may_run state) ∙ runs_where state n))

    pub fetch_ready : of ≡ task.Fetch n → option_map_or (is_in_phase is_fetching) (job_row state n) false ≡ list_any (is_task of) (ready_tasks state)
    fetch_ready is = tells state of (task.Fetch n) _ is (ready_fetch state n ∙ its_job (is_in_phase is_fetching))

    pub evaluate_ready : of ≡ task.Evaluate n → option_map_or (is_in_phase is_evaluating) (job_row state n) false ≡ list_any (is_task of) (ready_tasks state)
    evaluate_ready is = tells state of (task.Evaluate n) _ is (ready_evaluate state n ∙ its_job (is_in_phase is_evaluating))

    pub install_ready : of ≡ task.Install n → option_map_or (may_install state) (job_row state n) false ≡ list_any (is_task of) (ready_tasks state)
    install_ready is = tells state of (task.Install n) _ is (ready_install state n ∙ its_job (may_install state))

  pub fetch_all_ready : ArePlaces (λ (row : AddAll). row.number) state.tasks → of ≡ task.FetchAll n
      → option_map_or (λ row. is_none row.settled) (task_row state n) false ≡ list_any (is_task of) (ready_tasks state)
  fetch_all_ready are is =
      tells state of (task.FetchAll n) _ is
      (ready_fetch_all state n ∙ its_row (λ (row : AddAll). row.number) (λ (row : AddAll). is_none row.settled) n state.tasks are)

  pub try_ready : of ≡ task.TryActivate n → is_owed state n ≡ list_any (is_task of) (ready_tasks state)
  try_ready is =
      tells state of (task.TryActivate n) _ is
      (ready_try state n ∙ turned (λ (row : Registration). row.number) (λ (row : Registration). row.owed) n state.registrations)

mapped_or : {X Y : Type 0} (test : Y → Bool) (f : X → Y) (o : Option X) → option_map_or (λ x. test (f x)) o false ≡ option_map_or test (option_map f o) false
mapped_or test f None = refl
mapped_or test f (Some x) = refl

pub activate_ready : (host : Hosted) (n : ℕ) (of : Task) → ArePlaces (λ (row : WorkerRow). row.number) host.workers.rows → of ≡ task.Activate n
    → option_map_or (may_activate (state_of host)) (worker_row (state_of host) n) false ≡ list_any (is_task of) (ready_tasks (state_of host))
activate_ready host n of are is =
    let passes = λ (row : WorkerRow). may_activate (state_of host) (shown_worker row) in
    tells (state_of host) of (task.Activate n) _ is
    (ready_activate (state_of host) n
    ∙ (any_map (λ (row : Worker). n == row.number && may_activate (state_of host) row) shown_worker host.workers.rows
    ∙ (its_row (λ (row : WorkerRow). row.number) passes n host.workers.rows are
    ∙ (mapped_or (may_activate (state_of host)) shown_worker (worker_at n host.workers.rows)
    ∙ ap (λ (o : Option Worker). option_map_or (may_activate (state_of host)) o false) (sym (worker_shown n host.workers.rows))))))
