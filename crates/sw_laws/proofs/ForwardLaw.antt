-- Each event keeps the values of promises, and leaves each worker's state, moves it to the next one, or makes it redundant.
use Rattle.std.proofs.Common.{◌≡◌, ◌∙◌, inl, inr, ℕ, Bool, true, false, not, ◌&&◌, ◌||◌, ◌==◌, List, map, filter, Option, Some, None, IfSome, refl, sym, ap, subst, true≢false, arith, if◌then◌else◌}
use Rattle.std.specs.Prelude.{find, is_none}
use Rattle.std.specs.Option.{option_map_or}
use Rattle.std.proofs.lemmas.Bool.Decides.{nat_tests}
use Rattle.sw_data.specs.declared.answers.Settlement.{Settlement}
use Rattle.sw_data.specs.declared.answers.Cause.TheVariants as cause
use Rattle.sw_data.specs.declared.answers.Settlement.TheVariants as settlement
use Rattle.sw_data.specs.declared.events.Event.{Event}
use Rattle.sw_data.specs.declared.events.Who.{Who}
use Rattle.sw_data.specs.declared.events.Who.TheVariants as who
use Rattle.sw_data.specs.declared.rows.Job.{Job}
use Rattle.sw_data.specs.declared.rows.JobRow.{JobRow}
use Rattle.sw_data.specs.declared.workers.Mode.{Mode}
use Rattle.sw_data.specs.declared.workers.WorkerState.{WorkerState}
use Rattle.sw_data.specs.declared.workers.WorkerState.TheVariants as worker_state
use Rattle.sw_rules.specs.Activating.{become_activated, finish_activate}
use Rattle.sw_rules.specs.Caching.{add_cache, add_task, carry_out, drop_cache, settle_task}
use Rattle.sw_rules.specs.Forgetting.{forget_key, is_mapped_of}
use Rattle.sw_rules.specs.Calls.{note_call}
use Rattle.sw_rules.specs.Clients.{add_client, add_event, claim_clients, leave, remove_client, remove_event, take_control}
use Rattle.sw_rules.specs.Installing.{become_waiting, begin_install, end_handler, ended_handler, fail_install, finish_install, install, job_worker, make_worker, reject_and_drop, remember, tell_update, throw}
use Rattle.sw_rules.specs.Jobs.{finish, gets_value, promise, schedule, settle}
use Rattle.sw_rules.specs.Preloading.{set_preload}
use Rattle.sw_rules.specs.Registering.{fetch_script}
use Rattle.sw_rules.specs.Registrations.{activate, become, chosen, clear, drop_registration, left_by, map_registration, recheck, set_mode, unmap}
use Rattle.sw_rules.specs.Rows.{changed, has_worker, is_activating, is_active, is_evaluating, is_install, is_job, is_task, is_worker, newest_worker, worker_row}
use Rattle.sw_rules.specs.State.{State, Worker, AddAll, Awaited, Handler}
use Rattle.sw_rules.specs.Step.{state_after, step}
use Rattle.sw_rules.specs.Told.{Outcome, Told, followed, keep, quiet, type_error}
use Rattle.sw_laws.specs.Coherent.{Coherent, is_parsed}
use Rattle.sw_laws.specs.Laws.{GoesOnTo}
use Rattle.sw_laws.proofs.ActivateSteps.{is_chosen}
use Rattle.sw_laws.proofs.AtOnce.{activated_at_once, are_apart, begun_at_once, clear_state, cleared_at_once, install_state, installing, promote}
use Rattle.sw_laws.proofs.BeginSteps.{parsed_rows}
use Rattle.sw_laws.proofs.ClaimSteps.{Beside, claims-law, rechecks_coherently, unload-beside}
use Rattle.sw_laws.proofs.CoherentLaw.{coherent_law}
use Rattle.sw_laws.proofs.Events.{activated-by, step-law-beside}
use Rattle.sw_laws.proofs.Forward.{EndsActivating, KeepJobs, KeepTasks, Move, Rechecked, ended_goes, moved_both, rechecked_both, rechecked_goes, values_changed, values_pushed, workers_changed, workers_pushed, workers_stand}
use Rattle.sw_laws.proofs.Forgotten.{all_forgotten, cleared, is_numbered}
use Rattle.sw_laws.proofs.HandlerSteps.{activated_from, activating_rows, ended_from, ended_in, ended_in_keeps, ends_in}
use Rattle.sw_laws.proofs.HeldLaw.{keeps_if}
use Rattle.sw_laws.proofs.InstallSteps.{waits}
use Rattle.sw_laws.proofs.JobEvents.{evaluated-by, installed-by, mode_at, mode_made}
use Rattle.sw_laws.proofs.Lists.{all_true, by_test, find_passes}
use Rattle.sw_laws.proofs.RegistrationSteps.{paid-coherent}
use Rattle.sw_laws.proofs.Split.{IsAt, IsInstalled, IsLawBeside, IsMoveLaw, IsRecheckLaw, law_of, recheck-law}

-- ---- what a step leaves of values and states

-- the promises of jobs and addAlls keep their values
pub record KeepPromises (old_jobs new_jobs : List JobRow) (old_tasks new_tasks : List AddAll) : Type 0 where
  pub jobs : KeepJobs old_jobs new_jobs
  pub tasks : KeepTasks old_tasks new_tasks

pub record GoesBy (Moves : WorkerState → WorkerState → Type 0) (old new : State) : Type 0 where
  pub values : KeepPromises old.jobs new.jobs old.tasks new.tasks
  pub workers : Move Moves old.workers new.workers

-- no worker moves but as a recheck moves it
abbrev Stays : State → State → Type 0
Stays old new = GoesBy Rechecked old new

-- a change of some values leaves the workers
same_workers : (state : State) → Move Rechecked state.workers state.workers
same_workers state = workers_stand Rechecked (λ s. inl refl) state.workers

same_values : (state : State) → KeepPromises state.jobs state.jobs state.tasks state.tasks
same_values state = record { jobs = λ job result is. is; tasks = λ task result is. is }

-- a change of jobs, or of addAlls, that keeps their values
by_jobs : (state : State) (jobs : List JobRow) → KeepJobs state.jobs jobs → KeepPromises state.jobs jobs state.tasks state.tasks
by_jobs state jobs keeps = record { jobs = keeps; tasks = λ task result is. is }

by_tasks : (state : State) (tasks : List AddAll) → KeepTasks state.tasks tasks → KeepPromises state.jobs state.jobs state.tasks tasks
by_tasks state tasks keeps = record { jobs = λ job result is. is; tasks = keeps }

stays : (state : State) → Stays state state
stays state = record { values = same_values state; workers = same_workers state }

both-by : (First Second Both : WorkerState → WorkerState → Type 0) → ((a b c : WorkerState) → First a b → Second b c → Both a c) → (one two three : State) → GoesBy First one two → GoesBy Second two three → GoesBy Both one three
both-by First Second Both joins one two three first second = record {
  values = record {
    jobs = λ job result is. second.values.jobs job result (first.values.jobs job result is);
    tasks = λ task result is. second.values.tasks task result (first.values.tasks task result is);
  };
  workers = moved_both First Second Both joins one.workers two.workers three.workers first.workers second.workers;
}

both : (one two three : State) → Stays one two → Stays two three → Stays one three
both = both-by Rechecked Rechecked Rechecked rechecked_both

-- a change of some workers
some_move : (Moves : WorkerState → WorkerState → Type 0) → ((s : WorkerState) → Moves s s) → (test : Worker → Bool) (g : Worker → Worker) → ((x : Worker) → (g x).number ≡ x.number) → ((x : Worker) → (g x).registration ≡ x.registration) → ((x : Worker) → Moves x.state (g x).state) → (workers : List Worker) → Move Moves workers (changed test g workers)
some_move Moves same test g number registration moves workers =
    workers_changed Moves _ (keeps_if test g number registration) (λ x. true) workers (all_true workers) (λ x know. by_test (λ (w : Worker). Moves x.state w.state) (test x) _ x (λ is. moves x) (λ other. same x.state))

some_go : (test : Worker → Bool) (g : Worker → Worker) → ((x : Worker) → (g x).number ≡ x.number) → ((x : Worker) → (g x).registration ≡ x.registration) → ((x : Worker) → Rechecked x.state (g x).state) → (workers : List Worker) → Move Rechecked workers (changed test g workers)
some_go = some_move Rechecked (λ s. inl refl)

abbrev at_state : WorkerState → Worker → Worker
at_state state x = record x { state = state }

promoted_moves : (state : WorkerState) (x : Worker) → Rechecked state (promote (at_state state x)).state
promoted_moves worker_state.Parsed x = inl refl
promoted_moves worker_state.Installing x = inl refl
promoted_moves worker_state.Installed x = inr (inr (refl, refl))
promoted_moves worker_state.Activating x = inr (inl refl)
promoted_moves worker_state.Activated x = inr (inl refl)
promoted_moves worker_state.Redundant x = inl refl

promote_number : (state : WorkerState) (x : Worker) → (promote (at_state state x)).number ≡ x.number
promote_number state x = grind arith

promote_registration : (state : WorkerState) (x : Worker) → (promote (at_state state x)).registration ≡ x.registration
promote_registration state x = grind arith

clear_moves : (state : WorkerState) → Rechecked state (clear_state state)
clear_moves worker_state.Parsed = inl refl
clear_moves worker_state.Installing = inr (inl refl)
clear_moves worker_state.Installed = inr (inl refl)
clear_moves worker_state.Activating = inr (inl refl)
clear_moves worker_state.Activated = inr (inl refl)
clear_moves worker_state.Redundant = inl refl

install_moves : (state : WorkerState) → GoesOnTo state (install_state state)
install_moves worker_state.Parsed = inl refl
install_moves worker_state.Installing = inr (inl refl)
install_moves worker_state.Installed = inr (inr refl)
install_moves worker_state.Activating = inl refl
install_moves worker_state.Activated = inl refl
install_moves worker_state.Redundant = inl refl

-- ---- rechecks and claims

abbrev Goes : State → Told → Type 0
Goes state told = Stays state told.state

-- of a state that is coherent
abbrev GoesForward : State → Told → Type 0
GoesForward = Beside Goes

activate_goes : (state : State) (registration worker : ℕ) → chosen state registration ≡ Some worker → Coherent state → Goes state (activate state registration worker)
activate_goes state registration worker is sound =
    let picked = is_chosen state registration worker is sound in
    subst (Stays state) (sym (activated_at_once state registration worker picked.waiting (are_apart state.registrations state.workers sound.workers) picked.found picked.number))
    (record { values = same_values state; workers = some_go (λ row. row.registration == registration) promote (λ x. promote_number x.state x) (λ x. promote_registration x.state x) (λ x. promoted_moves x.state x) state.workers })

clear_goes : (state : State) (registration : ℕ) → Coherent state → Goes state (clear state registration)
clear_goes state registration sound =
    subst (Stays state) (sym (cleared_at_once state registration (are_apart state.registrations state.workers sound.workers)))
    (record { values = same_values state; workers = some_go (λ row. row.registration == registration) (λ row. record row { state = clear_state row.state }) (λ x. refl) (λ x. refl) (λ x. clear_moves x.state) state.workers })

rechecks_go : IsRecheckLaw GoesForward
unfolding followed
rechecks_go = record {
  nothing = λ state sound. (sound, stays state);
  further = λ state told next one other sound. let first = one sound in let second = other first.0 in (second.0, both state told.state (next told.state).state first.1 second.1);
  activating = λ state registration worker is sound. (rechecks_coherently.activating state registration worker is sound, activate_goes state registration worker is sound);
  clearing = λ state registration gone unused calm sound. (rechecks_coherently.clearing state registration gone unused calm sound, clear_goes state registration sound);
}

left_goes : (state : State) (client : ℕ) → Goes state (quiet (left_by client state))
left_goes state client = record { values = same_values state; workers = same_workers state }

control_goes : (state : State) (worker client : ℕ) → Goes state (take_control state worker client)
unfolding take_control
control_goes state worker client = record { values = same_values state; workers = same_workers state }

leave_goes : (state : State) (client : ℕ) → Coherent state → Goes state (leave state client)
unfolding leave followed remove_client
leave_goes state client sound = let left = (unload-beside Goes rechecks_go left_goes control_goes state client sound).1 in record { values = left.values; workers = left.workers }

claims_go : (numbers : List ℕ) (state : State) (worker registration : ℕ) → has_worker (λ row. row.registration == registration && is_active row.state) state.workers worker ≡ true → Coherent state → Goes state (claim_clients state worker registration numbers)
claims_go = claims-law Goes rechecks_go left_goes control_goes

-- ---- each least step

-- a change of some jobs, which keeps the values
some_values : (test : JobRow → Bool) (g : JobRow → JobRow) → ((x : JobRow) → (g x).job ≡ x.job) → ((x : JobRow) → (g x).settled ≡ x.settled) → (jobs : List JobRow) → KeepJobs jobs (changed test g jobs)
some_values test g job settled jobs =
    values_changed _ _ _ (λ x. by_test (λ (r : JobRow). r.job.number ≡ x.job.number) (test x) _ x (λ is. ap (λ (j : Job). j.number) (job x)) (λ other. refl)) jobs
    (λ n x result found is. by_test (λ (r : JobRow). r.settled ≡ Some result) (test x) _ x (λ here. settled x ∙ is) (λ other. is))

-- the values that a settle gives
given_values : (job : ℕ) (result : Settlement) (jobs : List JobRow) → KeepJobs jobs (changed (gets_value job) (λ row. record row { settled = Some result }) jobs)
given_values job result jobs =
    values_changed _ _ _ (λ x. by_test (λ (r : JobRow). r.job.number ≡ x.job.number) (gets_value job x) _ x (λ is. refl) (λ other. refl)) jobs (λ n x value found is. grind (arith, is))

-- the value that an addAll gets which has not settled
answered_values : (task : ℕ) (result : Settlement) (tasks : List AddAll) → option_map_or (λ row. is_none row.settled) (find (is_task task) tasks) false ≡ true → KeepTasks tasks (changed (is_task task) (λ row. record row { settled = Some result }) tasks)
answered_values task result tasks may =
    values_changed _ _ _ (λ x. by_test (λ (r : AddAll). r.number ≡ x.number) (is_task task x) _ x (λ is. refl) (λ other. refl)) tasks
    (λ n x value found is. by_test (λ (r : AddAll). r.settled ≡ Some value) (is_task task x) _ x
    (λ here.
    let own : n ≡ task = grind (arith, nat_tests, here, find_passes (λ (row : AddAll). row.number == n) tasks x found) in
    let one : find (is_task task) tasks ≡ Some x = ap (λ m. find (is_task m) tasks) (sym own) ∙ found in
    absurd (true≢false (sym may ∙ grind (arith, one, is))))
    (λ other. is))

settle_goes : (state : State) (job : ℕ) (result : Settlement) → Stays state (settle state job result).state
unfolding settle
settle_goes state job result = record { values = by_jobs state _ (given_values job result state.jobs); workers = same_workers state }

finish_goes : (state : State) (job : ℕ) → Stays state (finish state job).state
unfolding finish
finish_goes state job = record { values = by_jobs state _ (some_values (is_job job) _ (λ x. refl) (λ x. refl) state.jobs); workers = same_workers state }

discard_goes : (state : State) (worker : ℕ) → Stays state (become state worker worker_state.Redundant).state
unfolding become
discard_goes state worker = record { values = same_values state; workers = some_go (is_worker worker) _ (λ x. refl) (λ x. refl) (λ x. inr (inl refl)) state.workers }

end_goes : (state : State) (worker : ℕ) → Stays state (end_handler state worker).state
unfolding end_handler
end_goes state worker = record { values = same_values state; workers = some_go (is_worker worker) _ (λ x. refl) (λ x. refl) (λ x. inl refl) state.workers }

drop_goes : (state : State) (registration : ℕ) → Stays state (drop_registration state registration).state
unfolding drop_registration unmap
drop_goes state registration = by_test (λ (told : Told). Stays state told.state) (is_none (newest_worker state registration)) _ _ (λ gone. record { values = same_values state; workers = same_workers state }) (λ there. stays state)

promise_goes : (state : State) (maker : Who) (awaited : Awaited) → Stays state (promise state maker awaited).state
unfolding promise
promise_goes state who.Host awaited = stays state
promise_goes state (who.Lane lane at) awaited = record { values = same_values state; workers = same_workers state }
promise_goes state (who.Handler worker in_phase number) awaited = stays state

throw_goes : (state : State) (job registration worker : ℕ) → Stays state (throw state job registration worker).state
unfolding throw reject_and_drop followed
throw_goes state job registration worker =
    let one = (become state worker worker_state.Redundant).state in
    let two = (settle one job (settlement.Fault (type_error cause.Threw))).state in
    let three = (drop_registration two registration).state in
    both state one (finish three job).state (discard_goes state worker) (both one two (finish three job).state (settle_goes one job _) (both two three (finish three job).state (drop_goes two registration) (finish_goes three job)))

fail_goes : (state : State) (row : JobRow) (registration worker : ℕ) → Stays state (fail_install state row registration worker).state
unfolding fail_install followed unmap
fail_goes state row registration worker =
    let one = (end_handler state worker).state in
    let two = (become one worker worker_state.Redundant).state in
    let three = if is_none row.remembered then unmap two registration else quiet two in
    both state one (finish three.state row.job.number).state (end_goes state worker) (both one two (finish three.state row.job.number).state (discard_goes one worker)
    (both two three.state (finish three.state row.job.number).state (by_test (λ (told : Told). Stays two told.state) (is_none row.remembered) _ _ (λ gone. record { values = same_values two; workers = same_workers two }) (λ there. stays two)) (finish_goes three.state row.job.number)))

forget_goes : (state : State) (key : List ℕ) → Coherent state → Stays state (forget_key state key).state
unfolding forget_key
forget_goes state key sound =
    let gone = filter (is_mapped_of key) state.registrations in
    let after = subst (Stays state) (sym (all_forgotten state gone (are_apart state.registrations state.workers sound.workers))) (record { values = same_values state; workers = some_go (λ w. is_numbered gone w.registration) cleared (λ x. refl) (λ x. refl) (λ x. clear_moves x.state) state.workers }) in
    record { values = after.values; workers = after.workers }

-- the law of the steps that move no worker on
forward_law : IsLawBeside GoesForward (λ state told. Unit {0}) GoesForward true true
unfolding followed schedule map_registration unmap set_mode set_preload fetch_script make_worker add_client add_event remove_event add_cache drop_cache carry_out add_task settle_task note_call
forward_law = record {
  rechecks = rechecks_go;
  scheduling = λ state job is sound. (coherent_law.scheduling state job is sound, record { values = by_jobs state _ (values_pushed _ _ state.jobs _); workers = same_workers state });
  promising = λ state maker awaited there sound. (coherent_law.promising state maker awaited there sound, promise_goes state maker awaited);
  settling = λ state job result may sound. (coherent_law.settling state job result may sound, settle_goes state job result);
  finishing = λ state job may sound. (coherent_law.finishing state job may sound, finish_goes state job);
  mapping = λ state job free sound. (coherent_law.mapping state job free sound, record { values = same_values state; workers = same_workers state });
  unmapping = λ state registration sound. (coherent_law.unmapping state registration sound, record { values = same_values state; workers = same_workers state });
  moding = λ state registration mode sound. (coherent_law.moding state registration mode sound, record { values = same_values state; workers = same_workers state });
  preloading = λ state registration on text sound. (coherent_law.preloading state registration on text sound, record { values = same_values state; workers = same_workers state });
  fetching = λ state row registration found may mapped sound. (coherent_law.fetching state row registration found may mapped sound, record { values = by_jobs state _ (some_values (is_job row.job.number) _ (λ x. refl) (λ x. refl) state.jobs); workers = same_workers state });
  making = λ state row registration fetched at sound. (coherent_law.making state row registration fetched at sound, record { values = by_jobs state _ (some_values (is_job row.job.number) _ (λ x. refl) (λ x. refl) state.jobs); workers = workers_pushed Rechecked (λ s. inl refl) state.workers _ });
  throwing = λ state row registration worker at made sound. (coherent_law.throwing state row registration worker at made sound, throw_goes state row.job.number registration worker.number);
  beginning = λ state row registration worker at made. tt;
  failing = λ state row registration worker handler is sound. (coherent_law.failing state row registration worker handler is sound, fail_goes state row registration worker.number);
  installing = λ state row registration worker handler is. tt;
  paying = λ state registration told owed holds sound. let after = holds (paid-coherent state registration sound) in (after.0, record { values = after.1.values; workers = after.1.workers });
  activated = λ state worker handler next found ended rest. tt;
  opening = λ may state number key url free sound. (coherent_law.opening may state number key url free sound, record { values = same_values state; workers = same_workers state });
  closing = λ state number sound. (coherent_law.closing state number sound, leave_goes state number sound);
  flagging = λ state worker sound. (coherent_law.flagging state worker sound, record { values = same_values state; workers = some_go (is_worker worker) _ (λ x. refl) (λ x. refl) (λ x. inl refl) state.workers });
  claiming = λ may state worker active sound. (coherent_law.claiming may state worker active sound, claims_go (map (λ client. client.number) state.clients) state worker.number worker.registration active sound);
  adding = λ state client number row worker there controls ready free sound. (coherent_law.adding state client number row worker there controls ready free sound, record { values = same_values state; workers = same_workers state });
  ending = λ state number sound. (coherent_law.ending state number sound, record { values = same_values state; workers = same_workers state });
  caching = λ state key name free sound. (coherent_law.caching state key name free sound, record { values = same_values state; workers = same_workers state });
  dropping = λ state key name sound. (coherent_law.dropping state key name sound, record { values = same_values state; workers = same_workers state });
  carrying = λ state key name ops pairs new there is sound. (coherent_law.carrying state key name ops pairs new there is sound, record { values = same_values state; workers = same_workers state });
  forgetting = λ state key free sound. (coherent_law.forgetting state key free sound, forget_goes state key sound);
  awaiting = λ state maker key name requests runs sound. (coherent_law.awaiting state maker key name requests runs sound, record { values = by_tasks state _ (values_pushed _ _ state.tasks _); workers = same_workers state });
  answering = λ state number result faulted may sound. (coherent_law.answering state number result faulted may sound, record { values = by_tasks state _ (answered_values number result state.tasks may); workers = some_go _ _ (λ x. refl) (λ x. refl) (λ x. inl refl) state.workers });
  noting = λ state worker faulted sound. (coherent_law.noting state worker faulted sound, record { values = same_values state; workers = some_go (is_worker worker) _ (λ x. refl) (λ x. refl) (λ x. inl refl) state.workers });
}

-- ---- what moves a worker on

abbrev GoesOn : State → State → Type 0
GoesOn old new = GoesBy GoesOnTo old new

-- the state of a worker as it was
abbrev Unmoved : WorkerState → WorkerState → Type 0
Unmoved old new = new ≡ old

behind : (one two three : State) → GoesBy Unmoved one two → GoesOn two three → GoesOn one three
behind = both-by Unmoved GoesOnTo GoesOnTo (λ a b c same. subst (λ s. GoesOnTo s c) same)

before : (one two three : State) → GoesOn one two → GoesBy Unmoved two three → GoesOn one three
before = both-by GoesOnTo Unmoved GoesOnTo (λ a b c goes same. subst (λ s. GoesOnTo a s) (sym same) goes)

end_unmoved : (state : State) (worker : ℕ) → GoesBy Unmoved state (end_handler state worker).state
unfolding end_handler
end_unmoved state worker = record { values = same_values state; workers = some_move Unmoved (λ s. refl) (is_worker worker) _ (λ x. refl) (λ x. refl) (λ x. refl) state.workers }

finish_unmoved : (state : State) (job : ℕ) → GoesBy Unmoved state (finish state job).state
unfolding finish
finish_unmoved state job = record { values = by_jobs state _ (some_values (is_job job) _ (λ x. refl) (λ x. refl) state.jobs); workers = workers_stand Unmoved (λ s. refl) state.workers }

mode_unmoved : (state : State) (registration : ℕ) (mode : Mode) → GoesBy Unmoved state (set_mode state registration mode).state
unfolding set_mode
mode_unmoved state registration mode = record { values = same_values state; workers = workers_stand Unmoved (λ s. refl) state.workers }

wait_goes : (state : State) (row : JobRow) (registration : ℕ) (worker : Worker) (handler : Handler) → IsInstalled state row registration worker handler → Coherent state
    → let one = (end_handler state worker.number).state in GoesOn one (become_waiting one registration worker).state
wait_goes state row registration worker handler is sound =
    let one = (end_handler state worker.number).state in
    subst (GoesOn one) (sym (waits state row registration worker handler is sound))
    (record { values = same_values one; workers = some_move GoesOnTo (λ s. inl refl) (λ row. row.registration == registration) _ (λ x. refl) (λ x. refl) (λ x. install_moves x.state) one.workers })

installed_goes : (state : State) (row : JobRow) (registration : ℕ) (worker : Worker) (handler : Handler) → IsInstalled state row registration worker handler → Coherent state → GoesOn state (finish_install state row.job.number registration worker).state
unfolding finish_install followed
installed_goes state row registration worker handler is sound =
    let job = row.job.number in
    let one = (end_handler state worker.number).state in
    let two = (become_waiting one registration worker).state in
    behind state one (finish two job).state (end_unmoved state worker.number) (before one two (finish two job).state (wait_goes state row registration worker handler is sound) (finish_unmoved two job))

activating_ends : (state : WorkerState) (x : Worker) → is_activating (at_state state x) ≡ true → EndsActivating state worker_state.Activated
activating_ends worker_state.Parsed x is = absurd cc
activating_ends worker_state.Installing x is = absurd cc
activating_ends worker_state.Installed x is = absurd cc
activating_ends worker_state.Activating x is = inr (refl, refl)
activating_ends worker_state.Activated x is = absurd cc
activating_ends worker_state.Redundant x is = absurd cc

parsed_begins : (state : WorkerState) (x : Worker) → is_parsed (at_state state x) ≡ true → GoesOnTo state worker_state.Installing
parsed_begins worker_state.Parsed x is = inr (inl refl)
parsed_begins worker_state.Installing x is = absurd cc
parsed_begins worker_state.Installed x is = absurd cc
parsed_begins worker_state.Activating x is = absurd cc
parsed_begins worker_state.Activated x is = absurd cc
parsed_begins worker_state.Redundant x is = absurd cc

activated_goes : (state : State) (worker : Worker) (handler : Handler) → worker_row state worker.number ≡ Some worker → ended_handler state (λ in_phase. not (is_install in_phase)) worker ≡ Some handler → Coherent state
    → GoesBy EndsActivating state (become_activated (end_handler state worker.number).state worker.registration worker.number).state
unfolding become_activated followed keep become end_handler
activated_goes state worker handler found ended sound =
    let is = ended_from state (λ in_phase. not (is_install in_phase)) worker handler found ended in
    let rows = activating_rows state worker handler is.1 (grind (arith, is.0)) sound in
    record {
      values = same_values state;
      workers = rw (ends_in worker_state.Activated worker.number state.workers)
          (workers_changed EndsActivating (ended_in worker_state.Activated worker.number) (ended_in_keeps worker_state.Activated worker.number) (λ row. not (row.number == worker.number) || is_activating row) state.workers rows
          (λ x know. by_test (λ (w : Worker). EndsActivating x.state w.state) (x.number == worker.number) _ x (λ here. activating_ends x.state x (grind (arith, know, here))) (λ other. inl refl)));
    }

-- the end of an activate handler, and the recheck that follows it
ending_goes : (state : State) (worker : Worker) (handler : Handler) → worker_row state worker.number ≡ Some worker → ended_handler state (λ in_phase. not (is_install in_phase)) worker ≡ Some handler → Coherent state
    → GoesOn state (finish_activate state worker.registration worker.number).state
unfolding finish_activate followed
ending_goes state worker handler found ended sound =
    let middle = (become_activated (end_handler state worker.number).state worker.registration worker.number).state in
    both-by EndsActivating Rechecked GoesOnTo ended_goes state middle (recheck middle worker.registration).state (activated_goes state worker handler found ended sound) (recheck-law GoesForward worker.registration (law_of worker.registration rechecks_go) middle (activated_from state worker handler found ended sound)).1

begin_goes : (state : State) (row : JobRow) (registration : ℕ) (worker : Worker) → IsAt state is_evaluating row registration → job_worker state row ≡ Some worker → Coherent state
    → GoesOn state (followed (begin_install state row.job.number registration worker.number) (λ begun. followed (settle begun row.job.number (settlement.Registration registration)) (λ settled. tell_update settled registration))).state
unfolding followed settle tell_update remember
begin_goes state row registration worker at made sound =
    subst (λ s. GoesOn state (tell_update (settle s row.job.number (settlement.Registration registration)).state registration).state) (sym (begun_at_once state row.job.number registration worker.number)) (record {
      values = by_jobs state _ (λ job result is. given_values row.job.number (settlement.Registration registration) (changed (is_job row.job.number) _ state.jobs) job result (some_values (is_job row.job.number) _ (λ x. refl) (λ x. refl) state.jobs job result is));
      workers = workers_changed GoesOnTo _ (keeps_if (is_worker worker.number) installing (λ x. refl) (λ x. refl)) (λ w. not (w.number == worker.number) || (is_parsed w && w.registration == registration)) state.workers (parsed_rows state row registration worker at made sound)
          (λ x know. by_test (λ (w : Worker). GoesOnTo x.state w.state) (is_worker worker.number x) _ x (λ here. parsed_begins x.state x (grind (arith, know, here))) (λ other. inl refl));
    })

install_goes : (state : State) (row : JobRow) (registration : ℕ) (worker : Worker) → IsAt state is_evaluating row registration → job_worker state row ≡ Some worker → Coherent state
    → GoesOn state (install state row.job registration worker.number).state
unfolding install followed set_mode
install_goes state row registration worker at made sound =
    let moded = (set_mode state registration row.job.mode).state in
    behind state moded _ (mode_unmoved state registration row.job.mode)
    (begin_goes moded row registration worker (mode_at state registration row.job.mode row registration at) (mode_made state registration row.job.mode row worker made) (coherent_law.moding state registration row.job.mode sound))

-- what moves a worker on, of a state that is coherent
abbrev MovesOn : State → Told → Type 0
MovesOn state told = Coherent state → GoesOn state told.state

stays_goes : (old new : State) → Stays old new → GoesOn old new
stays_goes old new was = record {
  values = was.values;
  workers = λ number row is. let moved = was.workers number row is in record { now = moved.now; found = moved.found; registration = moved.registration; state = rechecked_goes row.state moved.now.state moved.state };
}

move_law : IsMoveLaw MovesOn
move_law = record {
  evaluating = evaluated-by MovesOn (λ state row registration worker at made sound. stays_goes state _ (throw_goes state row.job.number registration worker.number)) (λ state row registration worker at made sound. install_goes state row registration worker at made sound);
  installing = installed-by MovesOn (λ state row registration worker handler is sound. stays_goes state _ (fail_goes state row registration worker.number)) (λ state row registration worker handler is sound. installed_goes state row registration worker handler is sound);
  activating = activated-by MovesOn (λ state worker handler found ended sound. ending_goes state worker handler found ended sound);
}

goes_after : (state : State) (o : Option Outcome) → IfSome o (λ outcome. MovesOn state outcome.told) → Coherent state → GoesOn state (option_map_or (λ outcome. outcome.told.state) o state)
goes_after state None law sound = stays_goes state state (stays state)
goes_after state (Some outcome) law sound = law sound

pub step_goes : (state : State) (happened : Event) → Coherent state → GoesOn state (state_after state happened)
step_goes state happened sound =
    goes_after state (step state happened) (step-law-beside GoesForward _ true forward_law MovesOn (λ before told law fine. stays_goes before told.state (law fine).1) move_law state happened (λ may. refl)) sound
