-- The split over jobs and the fetches of an addAll: scheduling, running, the fetch of a script, its evaluation, and the
-- end of an install handler.
use Rattle.std.proofs.Common.{◌≡◌, ◌∙◌, ℕ, Bool, true, false, ◌&&◌, ◌||◌, ◌==◌, List, [], ◌∷◌, length, Option, Some, None, Ok, IfSome, option_map, refl, ap, arith, if◌then◌else◌}
use Rattle.std.specs.Prelude.{is_none, option_and_then}
use Rattle.std.specs.List.{list_any}
use Rattle.std.proofs.lemmas.Bool.Decides.{nat_tests}
use Rattle.std.proofs.lemmas.List.Folds.{find-append}
use Rattle.sw_data.specs.declared.answers.Fault.{Fault}
use Rattle.sw_data.specs.declared.answers.Settlement.{Settlement}
use Rattle.sw_data.specs.declared.answers.Settlement.TheVariants as settlement
use Rattle.sw_data.specs.declared.events.Who.{Who}
use Rattle.sw_data.specs.declared.exchange.Op.{Op}
use Rattle.sw_data.specs.declared.recordings.Fetched.{Fetched}
use Rattle.sw_data.specs.declared.recordings.FetchLine.{FetchLine}
use Rattle.sw_data.specs.declared.rows.Job.{Job}
use Rattle.sw_data.specs.declared.rows.JobRow.{JobRow}
use Rattle.sw_data.specs.declared.rows.JobKind.{JobKind}
use Rattle.sw_data.specs.declared.rows.JobKind.TheVariants as job_kind
use Rattle.sw_data.specs.declared.rows.JobPhase.{JobPhase}
use Rattle.sw_data.specs.declared.workers.Mode.{Mode}
use Rattle.sw_data.specs.Addresses.{same_origin}
use Rattle.sw_rules.specs.Batch.{batch}
use Rattle.sw_rules.specs.Caching.{added, carry_out, pairs_of, puts_of, responses_fault, settle_task, store_task, task_ended}
use Rattle.sw_rules.specs.Jobs.{finish, gets_value, promise, resolve_and_finish, schedule, settle}
use Rattle.sw_rules.specs.Installing.{ended_handler, evaluated, evaluated_worker, fail_install, fetch_ended, fetched, fetched_of, finish_install, install, install_ended, installed, is_same_script, job_worker, keep_script, make_worker, reject_and_drop, script_of, throw}
use Rattle.sw_rules.specs.Matching.{Pair}
use Rattle.sw_rules.specs.Registering.{fetch_script, has_script, is_registered, may_run, register_refusal, rejected, run, run_allowed_register, run_job, run_register, run_unregister, run_update, scheduled_by, unregister_mapped}
use Rattle.sw_rules.specs.Registrations.{drop_registration, map_registration, new_registration, set_mode, try_clear, unmap}
use Rattle.sw_rules.specs.Rows.{changed, is_in_phase, is_evaluating, is_fetching, is_install, is_installing, is_job, is_mapped, is_registration, is_mapped_to, is_task, job_row, mapped_registration, task_row}
use Rattle.sw_rules.specs.State.{State, Registration, Worker, AddAll, Handler, of_job, value}
use Rattle.sw_rules.specs.Told.{Told, Outcome, followed, quiet}
use Rattle.sw_laws.specs.Coherent.{is_there}
use Rattle.sw_laws.proofs.AtOnce.{clear_only}
use Rattle.sw_laws.proofs.Lists.{bound_holds, bytes_eq_same, by_option, by_result, by_test, find_changed, find_passes, length_pushed, mapped_holds}
use Rattle.sw_laws.proofs.Split.{IsAt, IsInstalled, IsLawBeside, IsLawWhere, IsLeavingLaw, LeavesMap, law_of, may_end, may_finish, may_settle, try_clear-law}

-- ---- look-ups along the chains

-- a job that was found has the number
own_number : (state : State) (number : ℕ) (row : JobRow) → job_row state number ≡ Some row → row.job.number ≡ number
own_number state number row is = grind (arith, nat_tests, find_passes (is_job number) state.jobs row is)

-- and is found by its own
found_by_own : (state : State) (number : ℕ) (row : JobRow) → job_row state number ≡ Some row → job_row state row.job.number ≡ Some row
found_by_own state number row is = ap (job_row state) (own_number state number row is) ∙ is

-- a job whose promise settles may finish
settled_may_finish : (state : State) (job : ℕ) (result : Settlement) → may_end state job ≡ true → may_finish (settle state job result).state job ≡ true
unfolding settle
settled_may_finish state job result is =
    grind (arith, nat_tests, find_passes (is_job job) state.jobs, find_changed (is_job job) (is_job job) (λ row. if gets_value job row then record row { settled = Some result } else row) (λ row. grind arith) state.jobs)

try_clear_jobs : (state : State) (registration : ℕ) → (try_clear state registration).state.jobs ≡ state.jobs
unfolding try_clear
try_clear_jobs state registration = grind (arith, ap (λ (s : State). s.jobs) (clear_only state registration).rest)

drop_jobs : (state : State) (registration : ℕ) → (drop_registration state registration).state.jobs ≡ state.jobs
unfolding drop_registration unmap
drop_jobs state registration = grind arith

never_mapped : (registration : ℕ) (rows : List Registration) → list_any (λ row. row.number == registration && row.mapped) (changed (is_registration registration) (λ row. record row { mapped = false }) rows) ≡ false
never_mapped registration [] = refl
never_mapped registration (row ∷ rows) = grind (arith, never_mapped registration rows)

unmap_may_end : (state : State) (registration job : ℕ) → may_end state job ≡ true → may_end (unmap state registration).state job ≡ true
unfolding unmap
unmap_may_end state registration job may = may

mode_may_end : (state : State) (registration job : ℕ) (mode : Mode) → may_end state job ≡ true → may_end (set_mode state registration mode).state job ≡ true
unfolding set_mode
mode_may_end state registration job mode may = may

pub mode_at : (state : State) (registration : ℕ) (mode : Mode) (row : JobRow) (own : ℕ) → IsAt state is_evaluating row own → IsAt (set_mode state registration mode).state is_evaluating row own
unfolding set_mode
mode_at state registration mode row own at = record { found = at.found; phase = at.phase; registered = at.registered }

pub mode_made : (state : State) (registration : ℕ) (mode : Mode) (row : JobRow) (worker : Worker) → job_worker state row ≡ Some worker → job_worker (set_mode state registration mode).state row ≡ Some worker
unfolding set_mode
mode_made state registration mode row worker made = made

mapped_same : (state : State) (row : JobRow) → job_row state row.job.number ≡ Some row → job_row (map_registration state row.job).state row.job.number ≡ Some row
unfolding map_registration
mapped_same state row is = is

mapped_may_run : (state : State) (row : JobRow) → may_run state row ≡ true → may_run (map_registration state row.job).state row ≡ true
unfolding map_registration
mapped_may_run state row may = may

-- the registration that was mapped for a job is its mapped registration
mapped_new : (state : State) (job : Job) → mapped_registration state job.key job.scope ≡ None → mapped_registration (map_registration state job).state job.key job.scope ≡ Some (new_registration (length state.registrations) job)
unfolding map_registration
mapped_new state job is =
    find-append (is_mapped_to job.key job.scope) state.registrations (new_registration (length state.registrations) job ∷ [])
    ∙ grind (arith, is, bytes_eq_same job.key, bytes_eq_same job.scope)

-- a registration that left the map isn't mapped
unmapped : (state : State) (registration job : ℕ) (result : Settlement) → is_mapped (settle (unmap state registration).state job result).state registration ≡ false
unfolding unmap settle
unmapped state registration job result = never_mapped registration state.registrations

scheduled_there : (state : State) (job : Job) → job.number ≡ length state.jobs → let after = (schedule state job).state in is_there after.jobs after.tasks (of_job job.number) ≡ true
unfolding schedule
scheduled_there state job is = grind (arith, nat_tests, is, length_pushed)

-- a job that may run may end
run_may_end : (state : State) (row : JobRow) → job_row state row.job.number ≡ Some row → may_run state row ≡ true → may_end state row.job.number ≡ true
run_may_end state row is may = grind (arith, is, may)

fetching_may_end : (state : State) (row : JobRow) (registration : ℕ) → IsAt state is_fetching row registration → may_end state row.job.number ≡ true
fetching_may_end state row registration at = grind (arith, at.found, at.phase)

-- an addAll that was found, and has not settled, may settle
task_may_settle : (state : State) (number : ℕ) (row : AddAll) → task_row state number ≡ Some row → is_none row.settled ≡ true → may_settle state row.number ≡ true
task_may_settle state number row is unsettled =
    let own : row.number ≡ number = grind (arith, nat_tests, find_passes (is_task number) state.tasks row is) in
    ap (may_settle state) own ∙ grind (arith, is, unsettled)

carried_may_settle : (state : State) (key name : List ℕ) (ops : List Op) (new : List Pair) (task : ℕ) → may_settle state task ≡ true → may_settle (carry_out state key name ops new).state task ≡ true
unfolding carry_out
carried_may_settle state key name ops new task may = may

by_kind : (P : Outcome → Type 0) (what : JobKind) (one two three : Outcome) → P one → P two → P three
    → P (elim what [ job_kind.Register ↦ one | job_kind.Update ↦ two | job_kind.Unregister ↦ three ])
by_kind P job_kind.Register one two three is_one is_two is_three = is_one
by_kind P job_kind.Update one two three is_one is_two is_three = is_two
by_kind P job_kind.Unregister one two three is_one is_two is_three = is_three

-- ---- the events of a job in a phase

module _ (Law : State → Told → Type 0) where
  abbrev pub Holds : State → Outcome → Type 0
  Holds state outcome = Law state outcome.told

  abbrev pub HoldsIf : State → Option Outcome → Type 0
  HoldsIf state outcome = IfSome outcome (Holds state)

  registered-law : (state : State) (test : JobPhase → Bool) (act : JobRow → ℕ → Option Outcome) (row : JobRow) (registration : Option ℕ) → row.registration ≡ registration
      → job_row state row.job.number ≡ Some row → is_in_phase test row ≡ true
      → ((registration : ℕ) → IsAt state test row registration → HoldsIf state (act row registration))
      → HoldsIf state (option_and_then (act row) registration)
  registered-law state test act row None is found here acts = tt
  registered-law state test act row (Some registration) is found here acts = acts registration (record { found = found; phase = here; registered = is })

  -- what happens to a job in a phase, with its registration
  at_phase-law : (state : State) (number : ℕ) (test : JobPhase → Bool) (act : JobRow → ℕ → Option Outcome) (found : Option JobRow) → job_row state number ≡ found
      → ((row : JobRow) (registration : ℕ) → row.job.number ≡ number → IsAt state test row registration → HoldsIf state (act row registration))
      → HoldsIf state (option_and_then (λ row. option_and_then (act row) row.registration) (option_and_then (λ row. if is_in_phase test row then Some row else None) found))
  at_phase-law state number test act None is acts = tt
  at_phase-law state number test act (Some row) is acts =
      by_test (λ o. HoldsIf state (option_and_then (λ (row : JobRow). option_and_then (act row) row.registration) o)) (is_in_phase test row) _ _
      (λ here. registered-law state test act row row.registration refl (found_by_own state number row is) here (λ registration. acts row registration (own_number state number row is)))
      (λ no_phase. tt)

  evaluated_worker-by : ((state : State) (row : JobRow) (registration : ℕ) (worker : Worker) → IsAt state is_evaluating row registration → job_worker state row ≡ Some worker → Law state (throw state row.job.number registration worker.number))
      → ((state : State) (row : JobRow) (registration : ℕ) (worker : Worker) → IsAt state is_evaluating row registration → job_worker state row ≡ Some worker → Law state (install state row.job registration worker.number))
      → (state : State) (row : JobRow) (registration : ℕ) (worker : Worker) → IsAt state is_evaluating row registration → job_worker state row ≡ Some worker → Holds state (evaluated_worker state row.job registration worker)
  evaluated_worker-by throwing beginning state row registration worker at made =
      by_test (Holds state) worker.handlers.throws _ _
      (λ throws. throwing state row registration worker at made)
      (λ runs. beginning state row registration worker at made)

  pub evaluated-by : ((state : State) (row : JobRow) (registration : ℕ) (worker : Worker) → IsAt state is_evaluating row registration → job_worker state row ≡ Some worker → Law state (throw state row.job.number registration worker.number))
      → ((state : State) (row : JobRow) (registration : ℕ) (worker : Worker) → IsAt state is_evaluating row registration → job_worker state row ≡ Some worker → Law state (install state row.job registration worker.number))
      → (state : State) (number : ℕ) → HoldsIf state (evaluated state number)
  evaluated-by throwing beginning state number =
      at_phase-law state number is_evaluating (λ row registration. option_map (evaluated_worker state row.job registration) (job_worker state row)) (job_row state number) refl
      (λ row registration own at. mapped_holds (Holds state) (evaluated_worker state row.job registration) (job_worker state row)
      (λ worker made. evaluated_worker-by throwing beginning state row registration worker at made))

  install_ended-by : ((state : State) (row : JobRow) (registration : ℕ) (worker : Worker) (handler : Handler) → IsInstalled state row registration worker handler → Law state (fail_install state row registration worker.number))
      → ((state : State) (row : JobRow) (registration : ℕ) (worker : Worker) (handler : Handler) → IsInstalled state row registration worker handler → Law state (finish_install state row.job.number registration worker))
      → (state : State) (row : JobRow) (registration : ℕ) (worker : Worker) (handler : Handler) → IsInstalled state row registration worker handler → Holds state (install_ended state row registration worker handler)
  install_ended-by failing installing state row registration worker handler is =
      by_test (Holds state) (worker.handlers.install_fails || handler.faulted) _ _
      (λ fails. failing state row registration worker handler is)
      (λ ends. installing state row registration worker handler is)

  pub installed-by : ((state : State) (row : JobRow) (registration : ℕ) (worker : Worker) (handler : Handler) → IsInstalled state row registration worker handler → Law state (fail_install state row registration worker.number))
      → ((state : State) (row : JobRow) (registration : ℕ) (worker : Worker) (handler : Handler) → IsInstalled state row registration worker handler → Law state (finish_install state row.job.number registration worker))
      → (state : State) (number : ℕ) → HoldsIf state (installed state number)
  installed-by failing installing state number =
      at_phase-law state number is_installing (λ row registration. option_and_then (λ worker. option_map (install_ended state row registration worker) (ended_handler state is_install worker)) (job_worker state row)) (job_row state number) refl
      (λ row registration own at. bound_holds (Holds state) (λ worker. option_map (install_ended state row registration worker) (ended_handler state is_install worker)) (job_worker state row)
      (λ worker made. mapped_holds (Holds state) (install_ended state row registration worker) (ended_handler state is_install worker)
      (λ handler ended. install_ended-by failing installing state row registration worker handler (record { at = at; made = made; ended = ended }))))

-- ---- the cases of a run, and of what a fetch gave

-- what a law has to say of the run of a job
pub record IsRunLaw (Law : State → Told → Type 0) (state : State) (job : Job) : Type 0 where
  pub ending : (result : Settlement) → Law state (resolve_and_finish state job.number result)
  pub mapping : mapped_registration state job.key job.scope ≡ None → Law state (followed (map_registration state job) (λ after. fetch_script after job (length state.registrations)))
  pub fetching : (found : Registration) → mapped_registration state job.key job.scope ≡ Some found → Law state (fetch_script state job found.number)
  pub unregistering : (found : Registration) → mapped_registration state job.key job.scope ≡ Some found → Law state (unregister_mapped state job found.number)

-- of what the fetch of its script gave
pub record IsFetchLaw (Law : State → Told → Type 0) (state : State) (row : JobRow) (registration : ℕ) : Type 0 where
  pub rejecting : (why : Fault) → Law state (reject_and_drop state row.job.number registration why)
  pub keeping : Law state (keep_script state row.job registration)
  pub making : (script : Fetched) → Law state (make_worker state row registration script)

-- and of what the fetches of an addAll gave
pub record IsAddLaw (Law : State → Told → Type 0) (state : State) (row : AddAll) : Type 0 where
  pub storing : (ops : List Op) (pairs new : List Pair) → pairs_of row.key row.name state.caches ≡ Some pairs → batch pairs ops ≡ Ok new
      → Law state (followed (carry_out state row.key row.name ops new) (λ stored. settle_task stored row.number settlement.Done false))
  pub refusing : (why : Fault) → Law state (settle_task state row.number (settlement.Fault why) true)

module _ (Law : State → Told → Type 0) (state : State) (job : Job) (law : IsRunLaw Law state job) where
  run_allowed_register-by : Holds Law state (run_allowed_register state job)
  unfolding run_allowed_register
  run_allowed_register-by =
      by_option (Holds Law state) (mapped_registration state job.key job.scope) _ _ law.mapping
      (λ found there. by_test (Holds Law state) (is_registered state job found) _ _
      (λ same. law.ending (settlement.Registration found.number))
      (λ other. law.fetching found there))

  run_register-by : Holds Law state (run_register state job)
  unfolding run_register
  run_register-by =
      by_option (Holds Law state) (register_refusal job) _ _ (λ none. run_allowed_register-by) (λ why there. law.ending _)

  run_update-by : Holds Law state (run_update state job)
  unfolding run_update
  run_update-by =
      by_option (Holds Law state) (mapped_registration state job.key job.scope) _ _ (λ none. law.ending _)
      (λ found there. by_test (Holds Law state) (has_script state job found) _ _
      (λ same. law.fetching found there)
      (λ other. law.ending _))

  run_unregister-by : Holds Law state (run_unregister state job)
  unfolding run_unregister
  run_unregister-by =
      by_test (Holds Law state) (same_origin job.scope job.referrer) _ _
      (λ same. by_option (Holds Law state) (mapped_registration state job.key job.scope) _ _ (λ none. law.ending _) law.unregistering)
      (λ other. law.ending _)

  run_job-by : Holds Law state (run_job state job)
  run_job-by = by_kind (Holds Law state) job.what _ _ _ run_register-by run_update-by run_unregister-by

module _ (Law : State → Told → Type 0) where
  pub run-by : ((state : State) (row : JobRow) → job_row state row.job.number ≡ Some row → may_run state row ≡ true → IsRunLaw Law state row.job) → (state : State) (number : ℕ) → HoldsIf Law state (run state number)
  run-by running state number =
      by_option (HoldsIf Law state) (job_row state number) _ _ (λ none. tt)
      (λ row found. by_test (HoldsIf Law state) (may_run state row) _ _
      (λ may. run_job-by Law state row.job (running state row (found_by_own state number row found) may)) (λ no_run. tt))

  fetch_ended-by : (state : State) (row : JobRow) (registration : ℕ) → IsFetchLaw Law state row registration → (given : Option Fetched) → Holds Law state (fetch_ended state row given registration)
  unfolding fetch_ended
  fetch_ended-by state row registration law given =
      by_result (Holds Law state) (script_of row.job given) _ _
      (λ script there. by_test (Holds Law state) (is_same_script state row.job registration script.response.body) _ _ (λ same. law.keeping) (λ other. law.making script))
      (λ why none. law.rejecting why)

  pub fetched-by : (state : State) (number : ℕ) → ((row : JobRow) (registration : ℕ) → row.job.number ≡ number → IsAt state is_fetching row registration → IsFetchLaw Law state row registration) → (line : Option FetchLine) → HoldsIf Law state (fetched state number line)
  fetched-by state number fetching line =
      at_phase-law Law state number is_fetching (λ row registration. Some (fetch_ended state row (fetched_of line) registration)) (job_row state number) refl
      (λ row registration own at. fetch_ended-by state row registration (fetching row registration own at) (fetched_of line))

  store_task-by : (state : State) (row : AddAll) → IsAddLaw Law state row → (ops : List Op) (pairs : List Pair) → pairs_of row.key row.name state.caches ≡ Some pairs → Holds Law state (store_task state row ops pairs)
  store_task-by state row law ops pairs there =
      by_result (Holds Law state) (batch pairs ops) _ _ (λ new is. law.storing ops pairs new there is) (λ why is. law.refusing _)

  task_ended-by : (state : State) (row : AddAll) → IsAddLaw Law state row → (lines : List (Option FetchLine)) → Holds Law state (task_ended state lines row)
  task_ended-by state row law lines =
      by_option (Holds Law state) (responses_fault 0 row.requests lines) _ _
      (λ none. by_option (Holds Law state) (pairs_of row.key row.name state.caches) _ _ (λ gone. law.refusing _)
      (λ pairs there. store_task-by state row law (puts_of row.requests lines) pairs there))
      (λ why is. law.refusing why)

  pub added-by : (state : State) (number : ℕ) → ((row : AddAll) → task_row state number ≡ Some row → is_none row.settled ≡ true → IsAddLaw Law state row) → (lines : List (Option FetchLine)) → HoldsIf Law state (added state number lines)
  added-by state number adding lines =
      bound_holds (Holds Law state) _ (task_row state number) (λ row there.
      by_test (HoldsIf Law state) (is_none row.settled) _ _ (λ unsettled. task_ended-by state row (adding row there unsettled) lines) (λ done. tt))

-- ---- what the promise of an action waits for

module _ (Law Own Ends : State → Told → Type 0) (controls : Bool) {anywhere : Bool} (law : IsLawBeside Law Own Ends controls anywhere) where
  pub rejected-law : (state : State) (who : Who) (why : Fault) → Law state (rejected state who why).told
  unfolding rejected
  rejected-law state who why = law.promising state who (value (settlement.Fault why)) refl

  pub scheduled_by-law : (state : State) (who : Who) (job : Job) → job.number ≡ length state.jobs → Law state (scheduled_by state who job).told
  unfolding scheduled_by
  scheduled_by-law state who job is =
      law.rechecks.further state (schedule state job) (λ after. promise after who (of_job job.number))
      (law.scheduling state job is) (law.promising (schedule state job).state who (of_job job.number) (scheduled_there state job is))

-- ---- the events of jobs

module _ (Law Own : State → Told → Type 0) (controls : Bool) {anywhere : Bool} (law : IsLawBeside Law Own Law controls anywhere) where
  nothing : (state : State) → Law state (quiet state)
  nothing = law.rechecks.nothing

  further : (state : State) (told : Told) (next : State → Told) → Law state told → Law told.state (next told.state) → Law state (followed told next)
  further = law.rechecks.further

  -- a job settles, something happens that leaves the jobs as they are, and the job is over
  ended-law : (state : State) (job : ℕ) (result : Settlement) → may_end state job ≡ true → Law state (resolve_and_finish state job result)
  unfolding resolve_and_finish
  ended-law state job result may =
      further state (settle state job result) (λ settled. finish settled job) (law.settling state job result may)
      (law.finishing (settle state job result).state job (settled_may_finish state job result may))

  drop_registration-law : ((state : State) (registration : ℕ) → Law state (unmap state registration)) → (state : State) (registration : ℕ) → Law state (drop_registration state registration)
  unfolding drop_registration
  drop_registration-law unmapping state registration = grind (arith, nothing, unmapping)

  reject_and_drop-law : ((state : State) (registration : ℕ) → Law state (unmap state registration)) → (state : State) (job registration : ℕ) (why : Fault) → may_end state job ≡ true → Law state (reject_and_drop state job registration why)
  unfolding reject_and_drop
  reject_and_drop-law unmapping state job registration why may =
      let settled = (settle state job (settlement.Fault why)).state in
      let may_now = settled_may_finish state job (settlement.Fault why) may in
      further state _ _ (law.settling state job (settlement.Fault why) may)
      (further settled _ _ (drop_registration-law unmapping settled registration)
      (law.finishing (drop_registration settled registration).state job (rw (drop_jobs settled registration) may_now)))

  -- what holds of a registration that leaves the map anywhere holds of one that leaves it because its job ends
  leaving-law : (everywhere : Bool) → LeavesMap everywhere Law → IsLeavingLaw Law
  leaving-law true unmapping = record {
    unregistering = λ state row registration found may mapped. unmapping state registration.number;
    rejecting = λ state row registration why at. reject_and_drop-law unmapping state row.job.number registration why (fetching_may_end state row registration at);
  }
  leaving-law false unmapping = unmapping

  pub leaving : IsLeavingLaw Law
  leaving = leaving-law anywhere law.unmapping

  unregister_mapped-law : (state : State) (row : JobRow) (found : Registration) → job_row state row.job.number ≡ Some row → may_run state row ≡ true → mapped_registration state row.job.key row.job.scope ≡ Some found → Law state (unregister_mapped state row.job found.number)
  unfolding unregister_mapped
  unregister_mapped-law state row found is may_now_run there =
      let job = row.job in
      let registration = found.number in
      let may = run_may_end state row is may_now_run in
      let left = (unmap state registration).state in
      let settled = (settle left job.number (settlement.Truth true)).state in
      let may_left : may_end left job.number ≡ true = unmap_may_end state registration job.number may in
      let may_now = settled_may_finish left job.number (settlement.Truth true) may_left in
      further state _ _ (leaving.unregistering state row found is may_now_run there)
      (further left _ _ (law.settling left job.number (settlement.Truth true) may_left)
      (further settled _ _ (try_clear-law Law registration (law_of registration law.rechecks) settled (unmapped state registration job.number (settlement.Truth true)))
      (law.finishing (try_clear settled registration).state job.number (rw (try_clear_jobs settled registration) may_now))))

  running : (state : State) (row : JobRow) → job_row state row.job.number ≡ Some row → may_run state row ≡ true → IsRunLaw Law state row.job
  running state row is may = record {
    ending = λ result. ended-law state row.job.number result (run_may_end state row is may);
    mapping = λ none. further state _ _ (law.mapping state row.job none)
        (law.fetching (map_registration state row.job).state row (new_registration (length state.registrations) row.job) (mapped_same state row is) (mapped_may_run state row may) (mapped_new state row.job none));
    fetching = λ found there. law.fetching state row found is may there;
    unregistering = λ found there. unregister_mapped-law state row found is may there;
  }

  pub run-law : (state : State) (number : ℕ) → HoldsIf Law state (run state number)
  run-law = run-by Law running

  -- ---- the fetch of a script

  keep_script-law : (state : State) (job : Job) (registration : ℕ) → may_end state job.number ≡ true → Law state (keep_script state job registration)
  unfolding keep_script
  keep_script-law state job registration may =
      further state (set_mode state registration job.mode) _ (law.moding state registration job.mode)
      (ended-law (set_mode state registration job.mode).state job.number _ (mode_may_end state registration job.number job.mode may))

  fetching : (state : State) (row : JobRow) (registration : ℕ) → IsAt state is_fetching row registration → IsFetchLaw Law state row registration
  fetching state row registration at = record {
    rejecting = λ why. leaving.rejecting state row registration why at;
    keeping = keep_script-law state row.job registration (fetching_may_end state row registration at);
    making = λ script. law.making state row registration script at;
  }

  pub fetched-law : (state : State) (number : ℕ) (line : Option FetchLine) → HoldsIf Law state (fetched state number line)
  fetched-law state number = fetched-by Law state number (λ row registration own at. fetching state row registration at)

  -- ---- the fetches of an addAll

  adding : (state : State) (row : AddAll) → may_settle state row.number ≡ true → IsAddLaw Law state row
  adding state row may = record {
    storing = λ ops pairs new there is. further state _ _ (law.carrying state row.key row.name ops pairs new there is) (law.answering (carry_out state row.key row.name ops new).state row.number settlement.Done false (carried_may_settle state row.key row.name ops new row.number may));
    refusing = λ why. law.answering state row.number _ true may;
  }

  pub added-law : (state : State) (number : ℕ) (lines : List (Option FetchLine)) → HoldsIf Law state (added state number lines)
  added-law state number = added-by Law state number (λ row there unsettled. adding state row (task_may_settle state number row there unsettled))

module _ (Law : State → Told → Type 0) (controls : Bool) {anywhere : Bool} (law : IsLawWhere Law controls anywhere) where
  -- ---- the evaluation of a script

  install-law : (state : State) (row : JobRow) (registration : ℕ) (worker : Worker) → IsAt state is_evaluating row registration → job_worker state row ≡ Some worker → Law state (install state row.job registration worker.number)
  unfolding install
  install-law state row registration worker at made =
      law.rechecks.further state (set_mode state registration row.job.mode) _ (law.moding state registration row.job.mode)
      (law.beginning (set_mode state registration row.job.mode).state row registration worker (mode_at state registration row.job.mode row registration at) (mode_made state registration row.job.mode row worker made))

  pub evaluated-law : (state : State) (number : ℕ) → HoldsIf Law state (evaluated state number)
  evaluated-law = evaluated-by Law law.throwing install-law

  pub installed-law : (state : State) (number : ℕ) → HoldsIf Law state (installed state number)
  installed-law = installed-by Law law.failing law.installing
