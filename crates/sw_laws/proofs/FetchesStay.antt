-- What is fetched stays so until the event that ends it.
use Rattle.std.proofs.Common.{◌≡◌, ◌∙◌, ℕ, Bool, true, false, ◌==◌, Option, Some, None, IfSome, refl, sym, true≢false, arith, if◌then◌else◌, ap}
use Rattle.std.specs.Prelude.{is_none}
use Rattle.std.specs.Option.{option_map_or}
use Rattle.std.proofs.lemmas.Bool.Decides.{nat_tests}
use Rattle.sw_data.specs.declared.answers.Fault.{Fault}
use Rattle.sw_data.specs.declared.answers.Settlement.{Settlement}
use Rattle.sw_data.specs.declared.answers.Settlement.TheVariants as settlement
use Rattle.sw_data.specs.declared.events.Event.{Event}
use Rattle.sw_data.specs.declared.recordings.Fetched.{Fetched}
use Rattle.sw_data.specs.declared.rows.Job.{Job}
use Rattle.sw_data.specs.declared.rows.JobRow.{JobRow}
use Rattle.sw_data.specs.declared.workers.WorkerState.TheVariants as worker_state
use Rattle.sw_rules.specs.Activating.{become_activated, finish_activate}
use Rattle.sw_rules.specs.Caching.{carry_out, settle_task}
use Rattle.sw_rules.specs.Installing.{become_waiting, begin_install, end_handler, fail_install, finish_install, install, keep_script, make_worker, reject_and_drop, remember, tell_update, throw}
use Rattle.sw_rules.specs.Jobs.{finish, resolve_and_finish, settle}
use Rattle.sw_rules.specs.Registering.{fetch_script, may_run, unregister_mapped}
use Rattle.sw_rules.specs.Registrations.{become, drop_registration, map_registration, set_mode, start_handler, try_clear, unmap}
use Rattle.sw_rules.specs.Rows.{is_in_phase, is_fetching, is_task, job_row}
use Rattle.sw_rules.specs.State.{State, Worker, AddAll}
use Rattle.sw_rules.specs.Step.{state_after, step}
use Rattle.sw_rules.specs.Told.{Outcome, Told, followed, keep, quiet}
use Rattle.sw_laws.specs.Coherent.{Coherent}
use Rattle.sw_laws.specs.Laws.{FetchesStay, ends_add_all, ends_fetch}
use Rattle.sw_laws.proofs.AtOnce.{waiting_leaves}
use Rattle.sw_laws.proofs.Events.{activated-by, step-law-by}
use Rattle.sw_laws.proofs.Fetching.{Stay, Stays, drop_stays, fetch_stays, fetches, further, others, others_fetch, others_open, rechecks_stay, settle_stays, stay_law, try_clear_stays, unmoved}
use Rattle.sw_laws.proofs.JobEvents.{IsAddLaw, IsFetchLaw, IsRunLaw, added-by, evaluated-by, fetched-by, installed-by, run-by}
use Rattle.sw_laws.proofs.Lists.{by_test, by_truth, find_passes}
use Rattle.sw_laws.proofs.Places.{found_numbered, places_apart}
use Rattle.sw_laws.proofs.Split.{IsHostLaw, law_of, recheck-law}

-- ---- what the events of a job leave of the other jobs

module _ (tasks : ℕ → Bool) where
  abbrev Spares : ℕ → State → Told → Type 0
  Spares job = Stays (others job) tasks

  quiet_spares : (job : ℕ) (old new : State) → new.jobs ≡ old.jobs → new.tasks ≡ old.tasks → Stay (others job) tasks old new
  quiet_spares job = unmoved (others job) tasks

  then_spares : (job : ℕ) (state : State) (told : Told) (next : State → Told) → Spares job state told → Spares job told.state (next told.state) → Spares job state (followed told next)
  then_spares job = further (others job) tasks

  finish_spares : (state : State) (job : ℕ) → Spares job state (finish state job)
  unfolding finish
  finish_spares state job = record { fetching = others_fetch job _ state.jobs; unsettled = λ task of is. is }

  ended_spares : (state : State) (job : ℕ) (result : Settlement) → Spares job state (resolve_and_finish state job result)
  unfolding resolve_and_finish
  ended_spares state job result =
      then_spares job state (settle state job result) _ (settle_stays (others job) tasks state job result) (finish_spares (settle state job result).state job)

  rejected_spares : (state : State) (job registration : ℕ) (why : Fault) → Spares job state (reject_and_drop state job registration why)
  unfolding reject_and_drop
  rejected_spares state job registration why =
      let settled = settle state job (settlement.Fault why) in
      let dropped = drop_registration settled.state registration in
      then_spares job state settled _ (settle_stays (others job) tasks state job (settlement.Fault why))
      (then_spares job settled.state dropped _ (drop_stays (others job) tasks settled.state registration) (finish_spares dropped.state job))

  -- ---- the run of a job

  registered_spares : (state : State) (job : Job) (registration : ℕ) → Spares job.number state (followed (map_registration state job) (λ after. fetch_script after job registration))
  unfolding map_registration
  registered_spares state job registration =
      then_spares job.number state (map_registration state job) _ (quiet_spares job.number state _ refl refl) (fetch_stays (others job.number) tasks (map_registration state job).state job registration)

  unregistered_spares : (state : State) (job : Job) (registration : ℕ) → Spares job.number state (unregister_mapped state job registration)
  unfolding unregister_mapped unmap
  unregistered_spares state job registration =
      let number = job.number in
      let left = unmap state registration in
      let settled = settle left.state number (settlement.Truth true) in
      let cleared = try_clear settled.state registration in
      then_spares number state left _ (quiet_spares number state _ refl refl)
      (then_spares number left.state settled _ (settle_stays (others number) tasks left.state number (settlement.Truth true))
      (then_spares number settled.state cleared _ (try_clear_stays (others number) tasks settled.state registration) (finish_spares cleared.state number)))

  -- ---- the fetch of a script

  kept_spares : (state : State) (job : Job) (registration : ℕ) → Spares job.number state (keep_script state job registration)
  unfolding keep_script set_mode
  kept_spares state job registration =
      then_spares job.number state (set_mode state registration job.mode) _ (quiet_spares job.number state _ refl refl) (ended_spares (set_mode state registration job.mode).state job.number _)

  made_spares : (state : State) (row : JobRow) (registration : ℕ) (script : Fetched) → Spares row.job.number state (make_worker state row registration script)
  unfolding make_worker
  made_spares state row registration script = record { fetching = others_fetch row.job.number _ state.jobs; unsettled = λ task of is. is }

  -- ---- the evaluation of a script, and the end of an install handler

  threw_spares : (state : State) (job registration worker : ℕ) → Spares job state (throw state job registration worker)
  unfolding throw become
  threw_spares state job registration worker =
      then_spares job state (become state worker worker_state.Redundant) _ (quiet_spares job state _ refl refl) (rejected_spares (become state worker worker_state.Redundant).state job registration _)

  begun_spares : (state : State) (job registration worker : ℕ) → Spares job state (begin_install state job registration worker)
  unfolding begin_install followed remember become start_handler
  begun_spares state job registration worker = record { fetching = others_fetch job _ state.jobs; unsettled = λ task of is. is }

  installing_spares : (state : State) (job : Job) (registration worker : ℕ) → Spares job.number state (install state job registration worker)
  unfolding install set_mode tell_update
  installing_spares state job registration worker =
      let number = job.number in
      let moded = set_mode state registration job.mode in
      let begun = begin_install moded.state number registration worker in
      let settled = settle begun.state number (settlement.Registration registration) in
      then_spares number state moded _ (quiet_spares number state _ refl refl)
      (then_spares number moded.state begun _ (begun_spares moded.state number registration worker)
      (then_spares number begun.state settled _ (settle_stays (others number) tasks begun.state number (settlement.Registration registration)) (quiet_spares number settled.state _ refl refl)))

  failed_spares : (state : State) (row : JobRow) (registration worker : ℕ) → Spares row.job.number state (fail_install state row registration worker)
  unfolding fail_install end_handler become unmap
  failed_spares state row registration worker =
      let number = row.job.number in
      let ended = end_handler state worker in
      let discarded = become ended.state worker worker_state.Redundant in
      let left = if is_none row.remembered then unmap discarded.state registration else quiet discarded.state in
      then_spares number state ended _ (quiet_spares number state _ refl refl)
      (then_spares number ended.state discarded _ (quiet_spares number ended.state _ refl refl)
      (then_spares number discarded.state left _
      (by_test (Spares number discarded.state) (is_none row.remembered) _ _ (λ none. quiet_spares number discarded.state _ refl refl) (λ there. quiet_spares number discarded.state discarded.state refl refl))
      (finish_spares left.state number)))

  installed_spares : (state : State) (job registration : ℕ) (worker : Worker) → Spares job state (finish_install state job registration worker)
  unfolding finish_install end_handler
  installed_spares state job registration worker =
      let ended = end_handler state worker.number in
      let waiting = become_waiting ended.state registration worker in
      let leaves = waiting_leaves ended.state registration worker in
      then_spares job state ended _ (quiet_spares job state _ refl refl)
      (then_spares job ended.state waiting _ (quiet_spares job ended.state _ (ap (λ s. s.jobs) leaves) (ap (λ s. s.tasks) leaves)) (finish_spares waiting.state job))

-- ---- each event

module _ (jobs tasks : ℕ → Bool) where
  -- the event ends the fetch of none of these jobs, and those of none of these addAlls
  abbrev EndsNone : Event → Type 0
  EndsNone happened =
      ((job : ℕ) → jobs job ≡ true → ends_fetch job happened ≡ false)
      × ((task : ℕ) → tasks task ≡ true → ends_add_all task happened ≡ false)

  -- of a coherent state, of these jobs and addAlls what fetches goes on to do so
  abbrev Lasts : State → Told → Type 0
  Lasts state told = Coherent state → Stays jobs tasks state told

  -- a job that fetches is another than one that doesn't
  another : (state : State) (row : JobRow) (job : ℕ) → Coherent state → job_row state row.job.number ≡ Some row → is_in_phase is_fetching row ≡ false → fetches state.jobs job ≡ true → others row.job.number job ≡ true
  another state row job sound found idle is =
      by_truth (job == row.job.number)
      (λ same. absurd (true≢false (sym (found_numbered (λ (x : JobRow). x.job.number) (is_in_phase is_fetching) state.jobs job row (places_apart (λ (x : JobRow). x.job.number) state.jobs sound.jobs.numbers) (grind (arith, nat_tests, same, found)) is) ∙ idle)))
      (λ other. grind (arith, other))

  -- what leaves the jobs but one that doesn't fetch leaves all that do
  spared : (state : State) (row : JobRow) (new : State) → job_row state row.job.number ≡ Some row → is_in_phase is_fetching row ≡ false → Stay (others row.job.number) tasks state new → Coherent state → Stay jobs tasks state new
  spared state row new found idle spares sound = record {
    fetching = λ job of is. spares.fetching job (another state row job sound found idle is) is;
    unsettled = spares.unsettled;
  }

  running : (state : State) (row : JobRow) → job_row state row.job.number ≡ Some row → may_run state row ≡ true → IsRunLaw Lasts state row.job
  running state row found may =
      let idle : is_in_phase is_fetching row ≡ false = grind (arith, may) in
      record {
        ending = λ result. spared state row _ found idle (ended_spares tasks state row.job.number result);
        mapping = λ none. spared state row _ found idle (registered_spares tasks state row.job _);
        fetching = λ registration there. spared state row _ found idle (fetch_stays (others row.job.number) tasks state row.job registration.number);
        unregistering = λ registration there. spared state row _ found idle (unregistered_spares tasks state row.job registration.number);
      }

  -- and what leaves the jobs but one of another number leaves these
  spared_by : (state : State) (number : ℕ) (new : State) → ((job : ℕ) → jobs job ≡ true → (number == job) ≡ false) → Stay (others number) tasks state new → Coherent state → Stay jobs tasks state new
  spared_by state number new none spares sound = record {
    fetching = λ job of is. spares.fetching job (grind (arith, nat_tests, none job of)) is;
    unsettled = spares.unsettled;
  }

  fetching : (state : State) (row : JobRow) (registration : ℕ) → ((job : ℕ) → jobs job ≡ true → (row.job.number == job) ≡ false) → IsFetchLaw Lasts state row registration
  fetching state row registration none = record {
    rejecting = λ why. spared_by state row.job.number _ none (rejected_spares tasks state row.job.number registration why);
    keeping = spared_by state row.job.number _ none (kept_spares tasks state row.job registration);
    making = λ script. spared_by state row.job.number _ none (made_spares tasks state row registration script);
  }

  settled_lasts : (state : State) (task : ℕ) (result : Settlement) (faulted : Bool) → ((other : ℕ) → tasks other ≡ true → (task == other) ≡ false) → Stays jobs tasks state (settle_task state task result faulted)
  unfolding settle_task
  settled_lasts state task result faulted none = record {
    fetching = λ job of is. is;
    unsettled = λ other of is. others_open task _ state.tasks other (grind (arith, nat_tests, none other of)) is;
  }

  adding : (state : State) (row : AddAll) → ((task : ℕ) → tasks task ≡ true → (row.number == task) ≡ false) → IsAddLaw Lasts state row
  unfolding carry_out
  adding state row none = record {
    storing = λ ops pairs new there is sound.
        further jobs tasks state (carry_out state row.key row.name ops new) _ (unmoved jobs tasks state _ refl refl) (settled_lasts (carry_out state row.key row.name ops new).state row.number settlement.Done false none);
    refusing = λ why sound. settled_lasts state row.number (settlement.Fault why) true none;
  }

  active_stays : (state : State) (registration worker : ℕ) → Stays jobs tasks state (become_activated state registration worker)
  unfolding become_activated followed keep become
  active_stays state registration worker = unmoved jobs tasks state _ refl refl

  activated_stays : (state : State) (registration worker : ℕ) → Stays jobs tasks state (finish_activate state registration worker)
  unfolding finish_activate end_handler
  activated_stays state registration worker =
      let ended = end_handler state worker in
      let active = become_activated ended.state registration worker in
      further jobs tasks state ended _ (unmoved jobs tasks state _ refl refl)
      (further jobs tasks ended.state active _ (active_stays ended.state registration worker) (recheck-law (Stays jobs tasks) registration (law_of registration (rechecks_stay jobs tasks)) active.state))

  host_law : IsHostLaw EndsNone Lasts
  host_law = record {
    moves = record {
      evaluating = evaluated-by Lasts
          (λ state row registration worker at made. spared state row _ at.found (grind (arith, at.phase)) (threw_spares tasks state row.job.number registration worker.number))
          (λ state row registration worker at made. spared state row _ at.found (grind (arith, at.phase)) (installing_spares tasks state row.job registration worker.number));
      installing = installed-by Lasts
          (λ state row registration worker handler is. spared state row _ is.at.found (grind (arith, is.at.phase)) (failed_spares tasks state row registration worker.number))
          (λ state row registration worker handler is. spared state row _ is.at.found (grind (arith, is.at.phase)) (installed_spares tasks state row.job.number registration worker));
      activating = activated-by Lasts (λ state worker handler found ended sound. activated_stays state worker.registration worker.number);
    };
    running = run-by Lasts running;
    fetching = λ state maker number line none. fetched-by Lasts state number (λ row registration own at. fetching state row registration (rw own none.0)) line;
    adding = λ state maker number lines none. added-by Lasts state number (λ row there unsettled. adding state row (λ task of. grind (arith, nat_tests, find_passes (is_task number) state.tasks row there, none.1 task of))) lines;
  }

  lasts_after : (state : State) (o : Option Outcome) → IfSome o (λ outcome. Lasts state outcome.told) → Coherent state → Stay jobs tasks state (option_map_or (λ outcome. outcome.told.state) o state)
  lasts_after state None law sound = unmoved jobs tasks state state refl refl
  lasts_after state (Some outcome) law sound = law sound

  step_stays : (state : State) (happened : Event) → Coherent state → EndsNone happened → Stay jobs tasks state (state_after state happened)
  step_stays state happened sound none =
      lasts_after state (step state happened) (step-law-by (Stays jobs tasks) _ _ true (stay_law jobs tasks) EndsNone Lasts (λ before told stays fine. stays) host_law state happened (λ may. refl) none) sound

-- ---- the law

pub fetches_stay : FetchesStay
fetches_stay = record {
  jobs = λ state happened job sound goes is.
      (step_stays (λ number. number == job) (λ number. false) state happened sound (λ number own. grind (arith, nat_tests, own, goes), λ number none. absurd cc)).fetching job (grind (arith, nat_tests)) is;
  tasks = λ state happened task sound goes is.
      (step_stays (λ number. false) (λ number. number == task) state happened sound (λ number none. absurd cc, λ number own. grind (arith, nat_tests, own, goes))).unsettled task (grind (arith, nat_tests)) is;
}
