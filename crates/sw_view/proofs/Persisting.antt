-- Registrations keep their keys and scopes in each step, and so a notice names the same ones behind further entries.
use Rattle.std.proofs.Common.{◌≡◌, ℕ, Bool, true, false, ◌&&◌, ◌==◌, List, [], ◌∷◌, ◌++◌, map, length, IfSome, refl, sym, ap, subst, arith, if◌then◌else◌}
use Rattle.std.specs.Prelude.{bytes_eq, filter, is_none}
use Rattle.std.specs.List.{list_any}
use Rattle.std.specs.Option.{option_map_or}
use Rattle.std.proofs.lemmas.List.Folds.{list_any-append}
use Rattle.sw_data.specs.declared.answers.Cause.TheVariants as cause
use Rattle.sw_data.specs.declared.answers.Fault.{Fault}
use Rattle.sw_data.specs.declared.answers.Settlement.TheVariants as settlement
use Rattle.sw_data.specs.declared.events.Event.{Event}
use Rattle.sw_data.specs.declared.events.Who.{Who}
use Rattle.sw_data.specs.declared.events.Who.TheVariants as who
use Rattle.sw_data.specs.declared.rows.JobRow.{JobRow}
use Rattle.sw_data.specs.declared.workers.WorkerState.TheVariants as worker_state
use Rattle.sw_rules.specs.Activating.{become_activated, paid}
use Rattle.sw_rules.specs.Caching.{add_cache, add_task, carry_out, drop_cache, settle_task}
use Rattle.sw_rules.specs.Forgetting.{forget_key, forget_registrations, is_mapped_of}
use Rattle.sw_rules.specs.Calls.{note_call}
use Rattle.sw_rules.specs.Clients.{add_client, add_event, claim_client, claim_clients, claims, leave, remove_client, remove_event, take_control}
use Rattle.sw_rules.specs.Installing.{become_waiting, begin_install, end_handler, fail_install, finish_install, first_counter, make_worker, placed, reject_and_drop, remember, tell_update, throw}
use Rattle.sw_rules.specs.Jobs.{finish, promise, schedule, settle}
use Rattle.sw_rules.specs.Preloading.{set_preload}
use Rattle.sw_rules.specs.Registering.{fetch_script}
use Rattle.sw_rules.specs.Registrations.{become, clear, drop_registration, map_registration, new_registration, set_mode, start_handler, unload, unmap}
use Rattle.sw_rules.specs.Rows.{changed, client_row, is_registration, newest_worker}
use Rattle.sw_rules.specs.State.{State, Registration, Worker, Awaited}
use Rattle.sw_rules.specs.Told.{Told, followed, keep, quiet, type_error}
use Rattle.sw_rules.specs.Step.{step}
use Rattle.sw_laws.proofs.AtOnce.{activate_leaves, clear_only, waiting_leaves}
use Rattle.sw_laws.proofs.Events.{step-law}
use Rattle.sw_laws.proofs.Lists.{any_changed, by_test}
use Rattle.sw_laws.proofs.Split.{IsLaw, IsRecheckLaw, unload-law}

-- a row of this number has this key and scope
abbrev pub has_row : List ℕ → List ℕ → List Registration → ℕ → Bool
has_row key scope rows number = list_any (λ row. row.number == number && (bytes_eq row.key key && bytes_eq row.scope scope)) rows

-- each number keeps its key and scope
abbrev pub Stay : List Registration → List Registration → Type 0
Stay old new = (key scope : List ℕ) (number : ℕ) → has_row key scope old number ≡ true → has_row key scope new number ≡ true

stand : (rows : List Registration) → Stay rows rows
stand rows key scope number is = is

stand_as : (old new : List Registration) → new ≡ old → Stay old new
stand_as old new same = subst (Stay old) (sym same) (stand old)

both : (one two three : List Registration) → Stay one two → Stay two three → Stay one three
both one two three first second key scope number is = second key scope number (first key scope number is)

-- a row keeps its number, its key and its scope
record IsNamedAlike (old new : Registration) : Type 0 where
  number : new.number ≡ old.number
  key : new.key ≡ old.key
  scope : new.scope ≡ old.scope

some_changed : (test : Registration → Bool) (g : Registration → Registration) → ((x : Registration) → IsNamedAlike x (g x)) → (rows : List Registration) → Stay rows (changed test g rows)
some_changed test g alike rows key scope number is =
    any_changed (λ (row : Registration). row.number == number && (bytes_eq row.key key && bytes_eq row.scope scope)) _ _
    (λ x here. by_test (λ (row : Registration). (row.number == number && (bytes_eq row.key key && bytes_eq row.scope scope)) ≡ true) (test x) _ x
    (λ passes. let same = alike x in rw (same.number, same.key, same.scope) here) (λ other. here)) rows is

one_more : (rows : List Registration) (new : Registration) → Stay rows (rows ++ new ∷ [])
one_more rows new key scope number is =
    grind (arith, is, list_any-append (λ (row : Registration). row.number == number && (bytes_eq row.key key && bytes_eq row.scope scope)) rows (new ∷ []))

-- ---- each part of a step

abbrev Stays : State → Told → Type 0
Stays state told = Stay state.registrations told.state.registrations

further : (state : State) (told : Told) (next : State → Told) → Stays state told → Stays told.state (next told.state) → Stays state (followed told next)
unfolding followed
further state told next = both state.registrations told.state.registrations (next told.state).state.registrations

clear_stays : (state : State) (registration : ℕ) → Stays state (clear state registration)
clear_stays state registration = stand_as state.registrations _ (ap (λ (s : State). s.registrations) (clear_only state registration).rest)

rechecks_stay : IsRecheckLaw Stays
rechecks_stay = record {
  nothing = λ state. stand state.registrations;
  further = further;
  activating = λ state registration worker is. stand_as state.registrations _ (ap (λ (s : State). s.registrations) (activate_leaves state registration worker));
  clearing = λ state registration gone unused calm. clear_stays state registration;
}

unload_stays : (state : State) (client : ℕ) → Stays state (unload state client)
unload_stays = unload-law Stays rechecks_stay (λ state client. stand state.registrations)

leave_stays : (state : State) (client : ℕ) → Stays state (leave state client)
unfolding leave remove_client
leave_stays state client =
    let unloaded = unload state client in
    further state unloaded _ (unload_stays state client) (stand unloaded.state.registrations)

claim_stays : (state : State) (worker registration number : ℕ) → Stays state (claim_client state worker registration number)
unfolding claim_client take_control
claim_stays state worker registration number =
    let unloaded = unload state number in
    by_test (Stays state) (option_map_or (claims state worker registration) (client_row state number) false) _ _
    (λ claimed. further state unloaded _ (unload_stays state number) (stand unloaded.state.registrations))
    (λ stays. stand state.registrations)

claims_stay : (numbers : List ℕ) (state : State) (worker registration : ℕ) → Stays state (claim_clients state worker registration numbers)
unfolding claim_clients
claims_stay [] state worker registration = stand state.registrations
claims_stay (number ∷ numbers) state worker registration =
    let told = claim_client state worker registration number in
    further state told _ (claim_stays state worker registration number) (claims_stay numbers told.state worker registration)

promise_stays : (state : State) (maker : Who) (awaited : Awaited) → Stays state (promise state maker awaited)
unfolding promise
promise_stays state who.Host awaited = stand state.registrations
promise_stays state (who.Lane lane at) awaited = stand state.registrations
promise_stays state (who.Handler worker in_phase number) awaited = stand state.registrations

unmap_stays : (state : State) (registration : ℕ) → Stays state (unmap state registration)
unfolding unmap
unmap_stays state registration = some_changed (is_registration registration) (λ row. record row { mapped = false }) (λ x. record { number = refl; key = refl; scope = refl }) state.registrations

drop_stays : (state : State) (registration : ℕ) → Stays state (drop_registration state registration)
unfolding drop_registration
drop_stays state registration = by_test (Stays state) (is_none (newest_worker state registration)) _ _ (λ gone. unmap_stays state registration) (λ there. stand state.registrations)

reject_stays : (state : State) (job registration : ℕ) (why : Fault) → Stays state (reject_and_drop state job registration why)
unfolding reject_and_drop settle finish
reject_stays state job registration why =
    let settled = settle state job (settlement.Fault why) in
    let dropped = drop_registration settled.state registration in
    further state settled _ (stand state.registrations)
    (further settled.state dropped _ (drop_stays settled.state registration) (stand dropped.state.registrations))

throw_stays : (state : State) (job registration worker : ℕ) → Stays state (throw state job registration worker)
unfolding throw become
throw_stays state job registration worker =
    let discarded = become state worker worker_state.Redundant in
    further state discarded _ (stand state.registrations) (reject_stays discarded.state job registration (type_error cause.Threw))

fail_stays : (state : State) (row : JobRow) (registration worker : ℕ) → Stays state (fail_install state row registration worker)
unfolding fail_install end_handler become finish
fail_stays state row registration worker =
    let ended = end_handler state worker in
    let discarded = become ended.state worker worker_state.Redundant in
    let gone = if is_none row.remembered then unmap discarded.state registration else quiet discarded.state in
    further state ended _ (stand state.registrations)
    (further ended.state discarded _ (stand state.registrations)
    (further discarded.state gone _
    (by_test (Stays discarded.state) (is_none row.remembered) _ _ (λ none. unmap_stays discarded.state registration) (λ there. stand state.registrations))
    (stand gone.state.registrations)))

install_stays : (state : State) (job registration : ℕ) (worker : Worker) → Stays state (finish_install state job registration worker)
unfolding finish_install end_handler finish
install_stays state job registration worker =
    let ended = end_handler state worker.number in
    let waiting = become_waiting ended.state registration worker in
    further state ended _ (stand state.registrations)
    (further ended.state waiting _
    (subst (Stay state.registrations) (sym (ap (λ (s : State). s.registrations) (waiting_leaves ended.state registration worker)))
    (some_changed (is_registration registration) (placed (first_counter state.registrations)) (λ x. record { number = refl; key = refl; scope = refl }) state.registrations))
    (stand waiting.state.registrations))

forgets_stay : (rows : List Registration) (state : State) → Stays state (forget_registrations state rows)
unfolding forget_registrations
forgets_stay [] state = stand state.registrations
forgets_stay (row ∷ rows) state =
    let unmapped = unmap state row.number in
    let cleared = clear unmapped.state row.number in
    further state unmapped _ (unmap_stays state row.number)
    (further unmapped.state cleared _ (clear_stays unmapped.state row.number) (forgets_stay rows cleared.state))

stay_law : IsLaw Stays true
unfolding followed schedule settle finish map_registration set_mode set_preload fetch_script make_worker begin_install remember become start_handler tell_update end_handler become_activated keep add_client add_event remove_event add_cache drop_cache carry_out forget_key add_task settle_task note_call
stay_law = record {
  rechecks = rechecks_stay;
  scheduling = λ state job is. stand state.registrations;
  promising = λ state maker awaited there. promise_stays state maker awaited;
  settling = λ state job result may. stand state.registrations;
  finishing = λ state job may. stand state.registrations;
  mapping = λ state job free. one_more state.registrations (new_registration (length state.registrations) job);
  unmapping = unmap_stays;
  moding = λ state registration mode. some_changed (is_registration registration) (λ row. record row { mode = mode }) (λ x. record { number = refl; key = refl; scope = refl }) state.registrations;
  preloading = λ state registration on text. some_changed (is_registration registration) (λ row. record row { preload = on; preload_value = text }) (λ x. record { number = refl; key = refl; scope = refl }) state.registrations;
  fetching = λ state row registration found may mapped. stand state.registrations;
  making = λ state row registration fetched at. stand state.registrations;
  throwing = λ state row registration worker at made. throw_stays state row.job.number registration worker.number;
  beginning = λ state row registration worker at made. stand state.registrations;
  failing = λ state row registration worker handler is. fail_stays state row registration worker.number;
  installing = λ state row registration worker handler is. install_stays state row.job.number registration worker;
  paying = λ state registration told owed holds.
      both state.registrations (paid registration state).registrations told.state.registrations
      (some_changed (is_registration registration) (λ row. record row { owed = false }) (λ x. record { number = refl; key = refl; scope = refl }) state.registrations) holds;
  activated = λ state worker handler next found ended rest.
      let after = (become_activated (end_handler state worker.number).state worker.registration worker.number).state in
      both state.registrations state.registrations (next after).state.registrations (stand state.registrations) (rest after);
  opening = λ may state number key url free. stand state.registrations;
  closing = λ state number. leave_stays state number;
  flagging = λ state worker. stand state.registrations;
  claiming = λ may state worker active. claims_stay (map (λ client. client.number) state.clients) state worker.number worker.registration;
  adding = λ state client number row worker there controls ready free. stand state.registrations;
  ending = λ state number. stand state.registrations;
  caching = λ state key name free. stand state.registrations;
  dropping = λ state key name. stand state.registrations;
  carrying = λ state key name ops pairs new there is. stand state.registrations;
  forgetting = λ state key free. forgets_stay (filter (is_mapped_of key) state.registrations) state;
  awaiting = λ state maker key name requests runs. stand state.registrations;
  answering = λ state number result faulted may. stand state.registrations;
  noting = λ state worker faulted. stand state.registrations;
}

-- ---- each step

pub step_stays : (state : State) (happened : Event) → IfSome (step state happened) (λ outcome. Stays state outcome.told)
step_stays state happened = step-law Stays true stay_law state happened (λ may. refl)
