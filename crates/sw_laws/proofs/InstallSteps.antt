-- A script that throws, an install that fails and one that succeeds keep a state coherent.
use Rattle.std.proofs.Common.{◌≡◌, ◌∙◌, ℕ, Bool, true, false, not, ◌&&◌, ◌||◌, ◌==◌, List, [], ◌∷◌, map, Option, Some, None, option_map, refl, sym, ap, subst, arith, if◌then◌else◌}
use Rattle.std.specs.List.{list_all}
use Rattle.std.specs.Prelude.{find, is_none, is_some, option_and_then}
use Rattle.std.proofs.lemmas.Bool.Decides.{nat_tests}
use Rattle.sw_data.specs.declared.answers.Settlement.{Settlement}
use Rattle.sw_data.specs.declared.answers.Cause.TheVariants as cause
use Rattle.sw_data.specs.declared.answers.Settlement.TheVariants as settlement
use Rattle.sw_data.specs.declared.rows.JobRow.{JobRow}
use Rattle.sw_data.specs.declared.workers.Slot.TheVariants as slot
use Rattle.sw_data.specs.declared.workers.WorkerState.{WorkerState}
use Rattle.sw_data.specs.declared.workers.WorkerState.TheVariants as worker_state
use Rattle.sw_rules.specs.Installing.{become_waiting, end_handler, fail_install, finish_install, first_counter, job_worker, placed, reject_and_drop, throw}
use Rattle.sw_rules.specs.Jobs.{finish, settle}
use Rattle.sw_rules.specs.Registrations.{become, drop_registration, unmap}
use Rattle.sw_rules.specs.Rows.{changed, in_slot, is_evaluating, is_install, is_job, is_number, is_registration, is_worker, job_row, newest_worker, slot_worker, worker_row}
use Rattle.sw_rules.specs.State.{State, Worker, Handler}
use Rattle.sw_rules.specs.Told.{Told, followed, type_error}
use Rattle.sw_laws.specs.Coherent.{Coherent, has_its_handler, has_its_worker, has_made, is_being_installed, is_parsed, is_settled_phase, same_slot, share_slot}
use Rattle.sw_laws.proofs.AtOnce.{are_apart, install_state, installed_at_once, shift}
use Rattle.sw_laws.proofs.EndSteps.{EndsWith, IsMaker, end-coherent}
use Rattle.sw_laws.proofs.HandlerSteps.{IsEnded, ended_from, ended_in, ended_in_keeps, ends_in, makers-stay}
use Rattle.sw_laws.proofs.JobSteps.{finished, settle-coherent, settled_with}
use Rattle.sw_laws.proofs.Lists.{all_both, by_test, find_changed, find_passes, found_by}
use Rattle.sw_laws.proofs.Moves.{Keeps, all_of_number, tasks-moved}
use Rattle.sw_laws.proofs.Places.{all_as_found, all_at_found, found_numbered, places_apart}
use Rattle.sw_laws.proofs.RegistrationSteps.{plain_keeps, registrations-coherent, unmap-coherent}
use Rattle.sw_laws.proofs.Split.{IsAt, IsInstalled, may_end}

-- ---- the worker of a job

pub made_of : (state : State) (made : Option ℕ) (worker : Worker) → option_and_then (worker_row state) made ≡ Some worker → (made ≡ Some worker.number) × (worker_row state worker.number ≡ Some worker)
made_of state None worker is = absurd cc
made_of state (Some number) worker is =
    let same : worker.number ≡ number = grind (arith, nat_tests, find_passes (is_worker number) state.workers worker is) in
    (ap (λ n. Some n) (sym same), ap (worker_row state) same ∙ is)

-- the worker of a job in a phase is in the state of that phase, and of the job's registration
made_is : (p : Worker → Bool) (state : State) (row : JobRow) (worker : Worker) (registration : ℕ) → Coherent state → row.registration ≡ Some registration → row.worker ≡ Some worker.number → worker_row state worker.number ≡ Some worker → has_made p state.workers row ≡ true
    → (worker.registration == registration && p worker) ≡ true
made_is p state row worker registration sound registered made found has =
    let at = found_numbered (λ (w : Worker). w.number) (λ w. is_number row.registration w.registration && p w) state.workers worker.number worker (places_apart (λ w. w.number) state.workers sound.workers.numbers) found (rw made at has) in
    grind (arith, nat_tests, registered, at)

-- ---- a script that throws

abbrev discarded : ℕ → Worker → Worker
discarded number row = if is_worker number row then record row { state = worker_state.Redundant } else row

discarded_slots : (number : ℕ) (x y : Worker) → share_slot x y ≡ false → share_slot (discarded number x) (discarded number y) ≡ false
discarded_slots number x y fine = grind (arith, nat_tests, fine)

discarded_ends : (number : ℕ) → EndsWith (discarded number) (λ row. (not (row.number == number) || is_parsed row) && has_its_handler row) number
discarded_ends number = record {
  keeps = record { number = λ x. grind arith; registration = λ x. grind arith };
  slots = λ x y a b fine. discarded_slots number x y fine;
  handlers = λ x know is. grind (arith, know, is);
  active = λ x know is. grind (arith, know, is);
  activated = λ x know is. grind (arith, know, is);
  parsed = λ x know other is. grind (arith, other, is);
  installing = λ x know other is. grind (arith, other, is);
  back = λ x know is. grind (arith, know, is);
}

settled_row : (state : State) (job : ℕ) (result : Settlement) (row : JobRow) → job_row state job ≡ Some row → job_row (settle state job result).state job ≡ Some (settled_with job result row)
unfolding settle
settled_row state job result row is =
    find_changed (is_job job) (is_job job) (settled_with job result) (λ x. grind arith) state.jobs ∙ ap (option_map (settled_with job result)) is

module _ (state : State) (row : JobRow) (registration : ℕ) (worker : Worker) (at : IsAt state is_evaluating row registration) (made : job_worker state row ≡ Some worker) (sound : Coherent state) where
  abbrev job : ℕ
  job = row.job.number

  own : (row.worker ≡ Some worker.number) × (worker_row state worker.number ≡ Some worker)
  own = made_of state row.worker worker made

  evaluates : has_made is_parsed state.workers row ≡ true
  evaluates = grind (arith, at.phase, all_at_found (is_job job) (has_its_worker state.workers) state.jobs row at.found sound.work.phases)

  pub parsed_of : (worker.registration == registration && is_parsed worker) ≡ true
  parsed_of = made_is is_parsed state row worker registration sound at.registered own.0 own.1 evaluates

  pub knows_parsed : list_all (λ w. not (w.number == worker.number) || is_parsed w) state.workers ≡ true
  knows_parsed = all_of_number is_parsed state.workers worker.number worker sound.workers.numbers own.1 (grind (arith, parsed_of))

  throws_at : (result : Settlement) (after : State) → Coherent after → after.workers ≡ state.workers → after.tasks ≡ state.tasks → job_row after job ≡ Some (settled_with job result row)
      → Coherent (record after { workers = map (discarded worker.number) after.workers; jobs = map (finished job) after.jobs })
  throws_at result after fine same_workers same_tasks found =
      let now = settled_with job result row in
      let number : now.job.number ≡ job = grind arith in
      let knows : list_all (λ w. (not (w.number == worker.number) || is_parsed w) && has_its_handler w) after.workers ≡ true = rw same_workers (all_both _ _ state.workers knows_parsed sound.workers.handlers) in
      subst (λ n. Coherent (record after { workers = map (discarded worker.number) after.workers; jobs = map (finished n) after.jobs })) number
      (end-coherent after now worker.number (record { found = subst (λ n. job_row after n ≡ Some now) (sym number) found; leads = grind (arith, at.phase); made = grind (arith, own.0) }) (grind (arith, nat_tests)) fine
      (discarded worker.number) _ knows (discarded_ends worker.number)
      (tasks-moved (discarded worker.number) (discarded_ends worker.number).keeps _ after.workers knows after.tasks (λ x a is. grind (arith, is)) fine.tasks))

  kept_end : (result : Settlement) → Coherent (settle state job result).state → Coherent (finish (settle (become state worker.number worker_state.Redundant).state job result).state job).state
  unfolding finish settle become
  kept_end result fine = throws_at result (settle state job result).state fine refl refl (settled_row state job result row at.found)

  dropped_end : (result : Settlement) → Coherent (settle state job result).state → Coherent (finish (unmap (settle (become state worker.number worker_state.Redundant).state job result).state registration).state job).state
  unfolding finish settle become unmap
  dropped_end result fine = throws_at result (unmap (settle state job result).state registration).state (unmap-coherent (settle state job result).state registration fine) refl refl (settled_row state job result row at.found)

  pub throw-coherent : Coherent (throw state job registration worker.number).state
  unfolding throw become reject_and_drop drop_registration followed
  throw-coherent =
      let why = settlement.Fault (type_error cause.Threw) in
      let settled = (settle state job why).state in
      let may : may_end state job ≡ true = grind (arith, at.found, at.phase) in
      let fine = settle-coherent state job why may sound in
      by_test (λ (told : Told). Coherent (finish told.state job).state) (is_none (newest_worker (settle (become state worker.number worker_state.Redundant).state job why).state registration)) _ _
      (λ gone. dropped_end why fine)
      (λ stays. kept_end why fine)

-- ---- an install that fails

failed_slots : (number : ℕ) (x y : Worker) → share_slot x y ≡ false → share_slot (ended_in worker_state.Redundant number x) (ended_in worker_state.Redundant number y) ≡ false
failed_slots number x y fine = grind (arith, nat_tests, fine)

failed_ends : (number : ℕ) → EndsWith (ended_in worker_state.Redundant number) (λ row. (not (row.number == number) || is_being_installed row) && has_its_handler row) number
failed_ends number = record {
  keeps = ended_in_keeps worker_state.Redundant number;
  slots = λ x y a b fine. failed_slots number x y fine;
  handlers = λ x know is. grind (arith, know, is);
  active = λ x know is. grind (arith, know, is);
  activated = λ x know is. grind (arith, know, is);
  parsed = λ x know other is. grind (arith, other, is);
  installing = λ x know other is. grind (arith, other, is);
  back = λ x know is. grind (arith, know, is);
}

-- ---- an install that succeeds

-- a worker of the registration becomes waiting or redundant, and the handler of this one ends
abbrev becomes_waiting : ℕ → ℕ → Worker → Worker
becomes_waiting number registration row =
    if row.registration == registration
    then record row { state = install_state row.state; handler = if row.number == number then None else row.handler }
    else if row.number == number then record row { handler = None } else row

waits_in : (number registration : ℕ) (rows : List Worker) → shift registration install_state (changed (is_worker number) (λ row. record row { handler = None }) rows) ≡ map (becomes_waiting number registration) rows
waits_in number registration [] = refl
waits_in number registration (row ∷ rows) = grind (arith, waits_in number registration rows)

abbrev may_wait : ℕ → ℕ → Worker → Bool
may_wait number registration row =
    (not (row.number == number) || (row.registration == registration && is_being_installed row))
    && (not (row.registration == registration && is_being_installed row) || row.number == number)
    && has_its_handler row

waiting_keeps : (number registration : ℕ) → Keeps (becomes_waiting number registration)
waiting_keeps number registration = record { number = λ x. grind arith; registration = λ x. grind arith }

install_apart : (one other : WorkerState) → same_slot one other ≡ false → same_slot (install_state one) (install_state other) ≡ false
install_apart one other is = grind arith

waiting_slots : (number registration : ℕ) (x y : Worker) → share_slot x y ≡ false → share_slot (becomes_waiting number registration x) (becomes_waiting number registration y) ≡ false
waiting_slots number registration x y fine = grind (arith, nat_tests, fine, install_apart x.state y.state)

waiting_ends : (number registration : ℕ) → EndsWith (becomes_waiting number registration) (may_wait number registration) number
waiting_ends number registration = record {
  keeps = waiting_keeps number registration;
  slots = λ x y a b fine. waiting_slots number registration x y fine;
  handlers = λ x know is. grind (arith, know, is);
  active = λ x know is. grind (arith, know, is);
  activated = λ x know is. grind (arith, know, is);
  parsed = λ x know other is. grind (arith, other, is);
  installing = λ x know other is. grind (arith, know, other, is);
  back = λ x know is. grind (arith, know, is);
}

module _ (state : State) (row : JobRow) (registration : ℕ) (worker : Worker) (handler : Handler) (is : IsInstalled state row registration worker handler) (sound : Coherent state) where
  abbrev of_job : ℕ
  of_job = row.job.number

  its : (row.worker ≡ Some worker.number) × (worker_row state worker.number ≡ Some worker)
  its = made_of state row.worker worker is.made

  installs : has_made is_being_installed state.workers row ≡ true
  installs = grind (arith, is.at.phase, all_at_found (is_job of_job) (has_its_worker state.workers) state.jobs row is.at.found sound.work.phases)

  pub installing_of : (worker.registration == registration && is_being_installed worker) ≡ true
  installing_of = made_is is_being_installed state row worker registration sound is.at.registered its.0 its.1 installs

  settled : is_some row.settled ≡ true
  settled = grind (arith, is.at.phase, all_at_found (is_job of_job) (λ x. not (is_settled_phase x.phase) || is_some x.settled) state.jobs row is.at.found sound.jobs.settled)

  maker : (after : State) → job_row after of_job ≡ Some row → IsMaker after row worker.number
  maker after found = record { found = found; leads = grind (arith, is.at.phase); made = its.0 }

  ended : IsEnded state worker handler
  ended = (ended_from state is_install worker handler its.1 is.ended).1

  fails_at : (after : State) → Coherent after → after.workers ≡ state.workers → after.tasks ≡ state.tasks → job_row after of_job ≡ Some row
      → Coherent (record after { workers = changed (is_worker worker.number) (λ w. record w { state = worker_state.Redundant }) (changed (is_worker worker.number) (λ w. record w { handler = None }) after.workers); jobs = map (finished of_job) after.jobs })
  fails_at after fine same_workers same_tasks found =
      let known = λ (w : Worker). (not (w.number == worker.number) || is_being_installed w) && has_its_handler w in
      let knows : list_all known after.workers ≡ true = rw same_workers (all_both _ _ state.workers (all_of_number is_being_installed state.workers worker.number worker sound.workers.numbers its.1 (grind (arith, installing_of))) sound.workers.handlers) in
      rw (ends_in worker_state.Redundant worker.number after.workers)
      (end-coherent after row worker.number (maker after found) settled fine
      (ended_in worker_state.Redundant worker.number) known knows (failed_ends worker.number)
      (makers-stay (ended_in worker_state.Redundant worker.number) (ended_in_keeps worker_state.Redundant worker.number) worker.number (λ x other runs. grind (arith, other, runs)) after.workers after.tasks (rw same_tasks ended.settled) fine.tasks))

  kept_fail : Coherent (finish (become (end_handler state worker.number).state worker.number worker_state.Redundant).state of_job).state
  unfolding finish become end_handler
  kept_fail = fails_at state sound refl refl is.at.found

  dropped_fail : Coherent (finish (unmap (become (end_handler state worker.number).state worker.number worker_state.Redundant).state registration).state of_job).state
  unfolding finish become end_handler unmap
  dropped_fail = fails_at (unmap state registration).state (unmap-coherent state registration sound) refl refl is.at.found

  pub fail_install-coherent : Coherent (fail_install state row registration worker.number).state
  unfolding fail_install followed
  fail_install-coherent =
      by_test (λ (told : Told). Coherent (finish told.state of_job).state) (is_none row.remembered) _ _ (λ none. dropped_fail) (λ some_worker. kept_fail)

  knows_waiting : list_all (may_wait worker.number registration) state.workers ≡ true
  knows_waiting =
      let p = λ (w : Worker). w.registration == registration && is_being_installed w in
      let found : find p state.workers ≡ Some worker = found_by share_slot (is_worker worker.number) p state.workers worker sound.workers.slots its.1 installing_of (λ y here. grind (arith, nat_tests, here, installing_of)) in
      all_both _ _ state.workers
      (all_both _ _ state.workers
      (all_of_number p state.workers worker.number worker sound.workers.numbers its.1 installing_of)
      (all_as_found share_slot p (λ w. w.number == worker.number) (λ x y one other. grind (arith, nat_tests, one, other)) state.workers worker sound.workers.slots found (grind (arith, nat_tests))))
      sound.workers.handlers

  pub in_slot_installing : slot_worker state slot.Installing registration ≡ Some worker
  in_slot_installing =
      found_by share_slot (is_worker worker.number) (λ w. w.registration == registration && in_slot slot.Installing w.state) state.workers worker sound.workers.slots its.1 (grind (arith, installing_of)) (λ y here. grind (arith, nat_tests, here, installing_of))

  -- what becomes of the workers of the registration
  pub waits : let one = (end_handler state worker.number).state in (become_waiting one registration worker).state ≡ record one {
    registrations = changed (is_registration registration) (placed (first_counter one.registrations)) one.registrations;
    workers = shift registration install_state one.workers;
  }
  waits = installed_at_once state registration worker (are_apart state.registrations state.workers sound.workers) in_slot_installing

  pub finish_install-coherent : Coherent (finish_install state of_job registration worker).state
  unfolding finish_install end_handler finish followed
  finish_install-coherent =
      let f = becomes_waiting worker.number registration in
      let placed_rows = registrations-coherent _ (plain_keeps (is_registration registration) (placed (first_counter state.registrations)) (λ x. refl) (λ x. refl) (λ x. refl) (λ x mapped. mapped)) state sound in
      let after : State = record state { registrations = changed (is_registration registration) (placed (first_counter state.registrations)) state.registrations } in
      subst (λ s. Coherent (finish s of_job).state) (sym waits)
      (rw (waits_in worker.number registration state.workers)
      (end-coherent after row worker.number (maker after is.at.found) settled placed_rows
      f (may_wait worker.number registration) knows_waiting (waiting_ends worker.number registration)
      (makers-stay f (waiting_keeps worker.number registration) worker.number (λ x other runs. grind (arith, other, runs)) state.workers state.tasks ended.settled sound.tasks)))
