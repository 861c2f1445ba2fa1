-- An event that neither opens a client nor claims leaves what each client holds.
use Rattle.std.proofs.Common.{◌≡◌, ℕ, Bool, false, List, filter, Option, refl, subst, sym, if◌then◌else◌}
use Rattle.std.specs.Prelude.{is_none}
use Rattle.sw_data.specs.declared.events.Who.{Who}
use Rattle.sw_data.specs.declared.events.Who.TheVariants as who
use Rattle.sw_data.specs.declared.rows.JobRow.{JobRow}
use Rattle.sw_data.specs.declared.rows.ClientRow.{ClientRow}
use Rattle.sw_data.specs.declared.workers.Slot.TheVariants as slot
use Rattle.sw_data.specs.declared.workers.Slot.{Slot}
use Rattle.sw_data.specs.declared.workers.WorkerState.TheVariants as worker_state
use Rattle.sw_data.specs.declared.workers.WorkerState.{WorkerState}
use Rattle.sw_rules.specs.Activating.{become_activated}
use Rattle.sw_rules.specs.Caching.{add_cache, add_task, carry_out, drop_cache, settle_task}
use Rattle.sw_rules.specs.Forgetting.{forget_key, is_mapped_of}
use Rattle.sw_rules.specs.Calls.{note_call}
use Rattle.sw_rules.specs.Clients.{add_event, remove_event}
use Rattle.sw_rules.specs.Installing.{become_waiting, begin_install, end_handler, fail_install, finish_install, make_worker, owe_try_activate, reject_and_drop, remember, tell_update, throw}
use Rattle.sw_rules.specs.Jobs.{finish, promise, schedule, settle}
use Rattle.sw_rules.specs.Preloading.{set_preload}
use Rattle.sw_rules.specs.Registering.{fetch_script}
use Rattle.sw_rules.specs.Registrations.{become, drop_registration, map_registration, retire, set_mode, unmap}
use Rattle.sw_rules.specs.Rows.{changed, is_worker, slot_worker}
use Rattle.sw_rules.specs.State.{State, Worker, Awaited}
use Rattle.sw_rules.specs.Told.{Told, followed, keep}
use Rattle.sw_laws.proofs.AtOnce.{are_apart, begun_at_once, installing}
use Rattle.sw_laws.proofs.CoherentLaw.{coherent_law}
use Rattle.sw_laws.proofs.Forgotten.{all_forgotten, cleared, is_numbered}
use Rattle.sw_laws.proofs.Held.{Holds, HoldsBut, holds-moved, leave_holds, pushed_holds, rechecks_hold}
use Rattle.sw_laws.proofs.HandlerSteps.{activated_from}
use Rattle.sw_laws.proofs.Lists.{by_option, by_test}
use Rattle.sw_laws.proofs.Moves.{Keeps}
use Rattle.sw_laws.proofs.RegistrationSteps.{paid-coherent}
use Rattle.sw_laws.proofs.Split.{IsLaw}
use Rattle.sw_laws.specs.Coherent.{Coherent}

abbrev pub nobody : ℕ → Bool
nobody number = false

pub keeps_if : (test : Worker → Bool) (g : Worker → Worker) → ((x : Worker) → (g x).number ≡ x.number) → ((x : Worker) → (g x).registration ≡ x.registration) → Keeps (λ row. if test row then g row else row)
keeps_if test g number registration = record {
  number = λ x. by_test (λ (w : Worker). w.number ≡ x.number) (test x) _ x (λ is. number x) (λ other. refl);
  registration = λ x. by_test (λ (w : Worker). w.registration ≡ x.registration) (test x) _ x (λ is. registration x) (λ other. refl);
}

-- a change of some workers leaves what clients hold
some_moved : (given : ℕ → Option ℕ) (test : Worker → Bool) (g : Worker → Worker) → ((x : Worker) → (g x).number ≡ x.number) → ((x : Worker) → (g x).registration ≡ x.registration) → (workers : List Worker) (clients : List ClientRow) → HoldsBut nobody given workers clients → HoldsBut nobody given (changed test g workers) clients
some_moved given test g number registration workers clients holds = holds-moved nobody given _ (keeps_if test g number registration) workers clients holds

promise_same : (state : State) (maker : Who) (awaited : Awaited) (given : ℕ → Option ℕ) → HoldsBut nobody given state.workers state.clients → HoldsBut nobody given (promise state maker awaited).state.workers (promise state maker awaited).state.clients
unfolding promise
promise_same state who.Host awaited given holds = holds
promise_same state (who.Lane lane at) awaited given holds = holds
promise_same state (who.Handler worker in_phase number) awaited given holds = holds

became_holds : (state : State) (worker : ℕ) (to : WorkerState) (given : ℕ → Option ℕ) → HoldsBut nobody given state.workers state.clients → HoldsBut nobody given (become state worker to).state.workers (become state worker to).state.clients
unfolding become
became_holds state worker to given holds = some_moved given (is_worker worker) _ (λ x. refl) (λ x. refl) state.workers state.clients holds

retired_holds : (state : State) (place : Slot) (registration : ℕ) (given : ℕ → Option ℕ) → HoldsBut nobody given state.workers state.clients → HoldsBut nobody given (retire state place registration).state.workers (retire state place registration).state.clients
unfolding retire
retired_holds state place registration given holds =
    by_option (λ (told : Told). HoldsBut nobody given told.state.workers told.state.clients) (slot_worker state place registration) _ _ (λ none. holds) (λ old is. became_holds state old.number worker_state.Redundant given holds)

ended_holds : (state : State) (worker : ℕ) (given : ℕ → Option ℕ) → HoldsBut nobody given state.workers state.clients → HoldsBut nobody given (end_handler state worker).state.workers (end_handler state worker).state.clients
unfolding end_handler
ended_holds state worker given holds = some_moved given (is_worker worker) _ (λ x. refl) (λ x. refl) state.workers state.clients holds

throw_holds : (state : State) (job registration worker : ℕ) (given : ℕ → Option ℕ) → HoldsBut nobody given state.workers state.clients → HoldsBut nobody given (throw state job registration worker).state.workers (throw state job registration worker).state.clients
unfolding throw reject_and_drop drop_registration followed finish unmap settle
throw_holds state job registration worker given holds =
    by_test (λ (told : Told). HoldsBut nobody given (finish told.state job).state.workers (finish told.state job).state.clients) _ _ _
    (λ gone. became_holds state worker worker_state.Redundant given holds) (λ stays. became_holds state worker worker_state.Redundant given holds)

fail_holds : (state : State) (row : JobRow) (registration worker : ℕ) (given : ℕ → Option ℕ) → HoldsBut nobody given state.workers state.clients → HoldsBut nobody given (fail_install state row registration worker).state.workers (fail_install state row registration worker).state.clients
unfolding fail_install followed finish unmap
fail_holds state row registration worker given holds =
    let now = became_holds (end_handler state worker).state worker worker_state.Redundant given (ended_holds state worker given holds) in
    by_test (λ (told : Told). HoldsBut nobody given (finish told.state row.job.number).state.workers (finish told.state row.job.number).state.clients) (is_none row.remembered) _ _ (λ none. now) (λ some_worker. now)

install_holds : (state : State) (job registration : ℕ) (worker : Worker) (given : ℕ → Option ℕ) → HoldsBut nobody given state.workers state.clients → HoldsBut nobody given (finish_install state job registration worker).state.workers (finish_install state job registration worker).state.clients
unfolding finish_install become_waiting owe_try_activate followed finish
install_holds state job registration worker given holds =
    let owed = (owe_try_activate (end_handler state worker.number).state registration worker).state in
    became_holds (retire owed slot.Waiting registration).state worker.number worker_state.Installed given (retired_holds owed slot.Waiting registration given (ended_holds state worker.number given holds))

activated_holds : (state : State) (registration worker : ℕ) (given : ℕ → Option ℕ) → HoldsBut nobody given state.workers state.clients → let after = (become_activated (end_handler state worker).state registration worker).state in HoldsBut nobody given after.workers after.clients
unfolding become_activated followed keep
activated_holds state registration worker given holds = became_holds (end_handler state worker).state worker worker_state.Activated given (ended_holds state worker given holds)

forget_holds : (state : State) (key : List ℕ) (given : ℕ → Option ℕ) → Coherent state → HoldsBut nobody given state.workers state.clients → HoldsBut nobody given (forget_key state key).state.workers (forget_key state key).state.clients
unfolding forget_key
forget_holds state key given sound holds =
    let gone = filter (is_mapped_of key) state.registrations in
    subst (λ (s : State). HoldsBut nobody given s.workers s.clients) (sym (all_forgotten state gone (are_apart state.registrations state.workers sound.workers)))
    (some_moved given (λ w. is_numbered gone w.registration) cleared (λ x. refl) (λ x. refl) state.workers state.clients holds)

begun_holds : (state : State) (job registration worker : ℕ) (given : ℕ → Option ℕ) → HoldsBut nobody given state.workers state.clients → HoldsBut nobody given (begin_install state job registration worker).state.workers (begin_install state job registration worker).state.clients
begun_holds state job registration worker given holds =
    subst (λ (s : State). HoldsBut nobody given s.workers s.clients) (sym (begun_at_once state job registration worker)) (some_moved given (is_worker worker) installing (λ x. refl) (λ x. refl) state.workers state.clients holds)

pub held_law : IsLaw (Holds nobody) false
unfolding followed schedule settle finish map_registration unmap set_mode set_preload fetch_script make_worker remember tell_update add_event remove_event add_cache drop_cache carry_out add_task settle_task note_call
held_law = record {
  rechecks = rechecks_hold nobody;
  scheduling = λ state job is sound. (coherent_law.scheduling state job is sound, λ given holds. holds);
  promising = λ state maker awaited there sound. (coherent_law.promising state maker awaited there sound, promise_same state maker awaited);
  settling = λ state job result may sound. (coherent_law.settling state job result may sound, λ given holds. holds);
  finishing = λ state job may sound. (coherent_law.finishing state job may sound, λ given holds. holds);
  mapping = λ state job free sound. (coherent_law.mapping state job free sound, λ given holds. holds);
  unmapping = λ state registration sound. (coherent_law.unmapping state registration sound, λ given holds. holds);
  moding = λ state registration mode sound. (coherent_law.moding state registration mode sound, λ given holds. holds);
  preloading = λ state registration on text sound. (coherent_law.preloading state registration on text sound, λ given holds. holds);
  fetching = λ state row registration found may mapped sound. (coherent_law.fetching state row registration found may mapped sound, λ given holds. holds);
  making = λ state row registration fetched at sound. (coherent_law.making state row registration fetched at sound, λ given holds. pushed_holds nobody given state.workers _ state.clients sound.clients.controllers holds);
  throwing = λ state row registration worker at made sound. (coherent_law.throwing state row registration worker at made sound, throw_holds state row.job.number registration worker.number);
  beginning = λ state row registration worker at made sound. (coherent_law.beginning state row registration worker at made sound, begun_holds state row.job.number registration worker.number);
  failing = λ state row registration worker handler is sound. (coherent_law.failing state row registration worker handler is sound, fail_holds state row registration worker.number);
  installing = λ state row registration worker handler is sound. (coherent_law.installing state row registration worker handler is sound, install_holds state row.job.number registration worker);
  paying = λ state registration told owed holds sound. holds (paid-coherent state registration sound);
  activated = λ state worker handler next found ended rest sound.
      let after = rest (become_activated (end_handler state worker.number).state worker.registration worker.number).state (activated_from state worker handler found ended sound) in
      (after.0, λ given holds. after.1 given (activated_holds state worker.registration worker.number given holds));
  opening = λ may. absurd cc;
  closing = λ state number. leave_holds nobody number state;
  flagging = λ state worker sound. (coherent_law.flagging state worker sound, λ given holds. some_moved given (is_worker worker) _ (λ x. refl) (λ x. refl) state.workers state.clients holds);
  claiming = λ may. absurd cc;
  adding = λ state client number row worker there controls ready free sound. (coherent_law.adding state client number row worker there controls ready free sound, λ given holds. holds);
  ending = λ state number sound. (coherent_law.ending state number sound, λ given holds. holds);
  caching = λ state key name free sound. (coherent_law.caching state key name free sound, λ given holds. holds);
  dropping = λ state key name sound. (coherent_law.dropping state key name sound, λ given holds. holds);
  carrying = λ state key name ops pairs new there is sound. (coherent_law.carrying state key name ops pairs new there is sound, λ given holds. holds);
  forgetting = λ state key free sound. (coherent_law.forgetting state key free sound, λ given. forget_holds state key given sound);
  awaiting = λ state maker key name requests runs sound. (coherent_law.awaiting state maker key name requests runs sound, λ given holds. holds);
  answering = λ state number result faulted may sound. (coherent_law.answering state number result faulted may sound, λ given holds. some_moved given _ _ (λ x. refl) (λ x. refl) state.workers state.clients holds);
  noting = λ state worker faulted sound. (coherent_law.noting state worker faulted sound, λ given holds. some_moved given (is_worker worker) _ (λ x. refl) (λ x. refl) state.workers state.clients holds);
}
