-- The split over the other events, and over all of them.
use Rattle.std.proofs.Common.{◌≡◌, ◌∙◌, ℕ, Bool, true, false, not, ◌&&◌, ◌==◌, List, [], ◌∷◌, length, Option, Some, None, Result, Ok, Err, IfSome, refl, ap, arith}
use Rattle.std.specs.Prelude.{find, option_and_then, is_none, is_some}
use Rattle.std.proofs.lemmas.Bool.Decides.{nat_tests}
use Rattle.sw_data.specs.declared.answers.Answer.{Answer}
use Rattle.sw_data.specs.declared.answers.Answer.TheVariants as answer
use Rattle.sw_data.specs.declared.answers.Fault.{Fault}
use Rattle.sw_data.specs.declared.events.Event.{Event}
use Rattle.sw_data.specs.declared.events.Event.TheVariants as event
use Rattle.sw_data.specs.declared.events.Who.{Who}
use Rattle.sw_data.specs.declared.events.Who.TheVariants as who
use Rattle.sw_data.specs.declared.exchange.Op.{Op}
use Rattle.sw_data.specs.declared.exchange.Op.TheVariants as op
use Rattle.sw_data.specs.declared.exchange.Options.{Options}
use Rattle.sw_data.specs.declared.exchange.Request.{Request}
use Rattle.sw_data.specs.declared.recordings.CacheAddAll.{CacheAddAll}
use Rattle.sw_data.specs.declared.recordings.CacheBatch.{CacheBatch}
use Rattle.sw_data.specs.declared.recordings.CacheDelete.{CacheDelete}
use Rattle.sw_data.specs.declared.recordings.CacheMatch.{CacheMatch}
use Rattle.sw_data.specs.declared.recordings.CachePut.{CachePut}
use Rattle.sw_data.specs.declared.recordings.CacheQuery.{CacheQuery}
use Rattle.sw_data.specs.declared.recordings.Call.{Call}
use Rattle.sw_data.specs.declared.recordings.Call.TheVariants as call
use Rattle.sw_data.specs.declared.recordings.ClientScope.{ClientScope}
use Rattle.sw_data.specs.declared.recordings.Place.{Place}
use Rattle.sw_data.specs.declared.recordings.Registering.{Registering}
use Rattle.sw_data.specs.declared.rows.ClientRow.{ClientRow}
use Rattle.sw_data.specs.declared.workers.Phase.{Phase}
use Rattle.sw_data.specs.declared.workers.Phase.TheVariants as phase
use Rattle.sw_data.specs.declared.workers.Slot.{Slot}
use Rattle.sw_data.specs.Addresses.{address_of, resolved, same_origin}
use Rattle.sw_data.specs.Events.{is_lane, who_of}
use Rattle.sw_data.specs.Keys.{key_of}
use Rattle.sw_rules.specs.Activating.{activated, finish_activate, is_owed, paid, pay, tryactivate}
use Rattle.sw_rules.specs.Batch.{BatchFault, batch}
use Rattle.sw_rules.specs.Caching.{add_all, add_all_at, add_task, batch_fault, batch_ops, batch_parsed, delete_cache, delete_request, fetchable_all, match_request, open_cache, pairs_of, parsed_ops, place_key, put_response, query_cache, query_places, run_batch, single_fault, start_task, with_cache_pairs, with_key, with_url}
use Rattle.sw_rules.specs.Forgetting.{forget, is_busy}
use Rattle.sw_rules.specs.Calls.{called, is_next_call, make_call, noted, own_registration, update_own}
use Rattle.sw_rules.specs.Clients.{await, begin, begin_on, claim_of, close, end, end_event, get_registration, get_registrations, open_at, open_client, ready, ready_registration, remove_event, skip_waiting, with_named, with_slot}
use Rattle.sw_rules.specs.Installing.{ended_handler}
use Rattle.sw_rules.specs.Jobs.{promised_value}
use Rattle.sw_rules.specs.Matching.{Pair, first_match}
use Rattle.sw_rules.specs.Preloading.{preload_set}
use Rattle.sw_rules.specs.Registering.{register, soft_update, soft_update_named, unregister, update, update_named, with_client}
use Rattle.sw_rules.specs.Rows.{active_worker_number, client_row, event_row, is_active, is_install, is_activating, is_worker, maker_worker, mapped_registration, named_scope, newest_worker, registration_of, registration_row, slot_worker, worker_row}
use Rattle.sw_rules.specs.State.{State, Registration, Worker, Handler, of_task}
use Rattle.sw_rules.specs.Step.{case_of, has_its_maker, step}
use Rattle.sw_rules.specs.Told.{Told, Outcome, followed, quiet}
use Rattle.sw_laws.specs.Coherent.{is_running, is_there}
use Rattle.sw_laws.proofs.JobEvents.{added-law, evaluated-law, fetched-law, installed-law, rejected-law, run-law, scheduled_by-law}
use Rattle.sw_laws.proofs.Lists.{bound_holds, by_option, by_result, by_test, find_any, find_passes, length_pushed, mapped_holds}
use Rattle.sw_laws.proofs.Split.{GetsPreload, IsHostLaw, IsLawBeside, IsLawWhere, IsMoveLaw, law_of, recheck-law, try_activate-law}

worker_by_own : (state : State) (number : ℕ) (worker : Worker) → worker_row state number ≡ Some worker → worker_row state worker.number ≡ Some worker
worker_by_own state number worker is =
    let same : worker.number ≡ number = grind (arith, nat_tests, find_passes (is_worker number) state.workers worker is) in
    ap (worker_row state) same ∙ is

task_there : (state : State) (maker : Who) (key name : List ℕ) (requests : List Request) → let after = (add_task state maker key name requests).state in is_there after.jobs after.tasks (of_task (length state.tasks)) ≡ true
unfolding add_task
task_there state maker key name requests = grind (arith, nat_tests, length_pushed)

-- a handler whose next call this is runs
next_runs : (state : State) (number : ℕ) (row : Worker) (in_phase : Phase) (at : ℕ) (asked : Call) → worker_row state number ≡ Some row → is_next_call state row in_phase at asked ≡ true → is_running state.workers (Some number) ≡ true
next_runs state number row in_phase at asked found next =
    let own = worker_by_own state number row found in
    find_any (is_worker number) _ state.workers row found (grind (arith, nat_tests, own, next, find_passes (is_worker number) state.workers row found))

-- a call claims
abbrev pub is_claim : Call → Bool
is_claim call.Claim = true
is_claim _ = false

-- an event may give a client a controller that is not one of its registration's workers
abbrev pub gives_control : Event → Bool
gives_control (event.Open maker client url partition) = true
gives_control (event.Claim maker of place) = true
gives_control (event.Call maker asked) = is_claim asked
gives_control _ = false

module _ (Law : State → Told → Type 0) where
  -- what holds of an event holds of it as a whole
  whole-holds : (Whole : State → Told → Type 0) → ((state : State) (told : Told) → Law state told → Whole state told) → (state : State) (o : Option Outcome) → IfSome o (λ outcome. Law state outcome.told) → IfSome o (λ outcome. Whole state outcome.told)
  whole-holds Whole whole state None holds = tt
  whole-holds Whole whole state (Some outcome) holds = whole state outcome.told holds

  -- the end of an activate handler, and what follows it
  pub activated-by : ((state : State) (worker : Worker) (handler : Handler) → worker_row state worker.number ≡ Some worker → ended_handler state (λ in_phase. not (is_install in_phase)) worker ≡ Some handler → Law state (finish_activate state worker.registration worker.number))
      → (state : State) (number : ℕ) → IfSome (activated state number) (λ outcome. Law state outcome.told)
  activated-by ending state number =
      bound_holds (λ outcome. Law state outcome.told) _ (worker_row state number) (λ worker found.
      mapped_holds (λ outcome. Law state outcome.told) _ (ended_handler state (λ in_phase. not (is_install in_phase)) worker) (λ handler ended.
      ending state worker handler (worker_by_own state number worker found) ended))

module _ (Law Own Ends : State → Told → Type 0) (controls : Bool) {anywhere : Bool} (law : IsLawBeside Law Own Ends controls anywhere) where
  nothing : (state : State) → Law state (quiet state)
  nothing = law.rechecks.nothing

  further : (state : State) (told : Told) (next : State → Told) → Law state told → Law told.state (next told.state) → Law state (followed told next)
  further = law.rechecks.further

  abbrev pub Holds : State → Outcome → Type 0
  Holds state outcome = Law state outcome.told

  abbrev pub HoldsIf : State → Option Outcome → Type 0
  HoldsIf state outcome = IfSome outcome (Holds state)

  with_client-law : (state : State) (number : ℕ) (act : ClientRow → Outcome) → ((client : ClientRow) → client_row state number ≡ Some client → Holds state (act client)) → Holds state (with_client state number act)
  with_client-law state number act acts =
      by_option (Holds state) (client_row state number) _ _ (λ none. nothing state) acts

  -- ---- actions that make jobs

  register-law : (state : State) (maker : Who) (asked : Registering) → Holds state (register state maker asked)
  register-law state maker asked =
      with_client-law state asked.client _ (λ client there. grind (arith, rejected-law Law Own Ends controls law, scheduled_by-law Law Own Ends controls law))

  update_named-law : (state : State) (maker : Who) (found : Option Registration) (referrer : List ℕ) → Holds state (update_named state maker found referrer)
  update_named-law state maker None referrer = rejected-law Law Own Ends controls law state maker _
  update_named-law state maker (Some row) referrer =
      by_option (Holds state) (newest_worker state row.number) _ _ (λ none. rejected-law Law Own Ends controls law state maker _)
      (λ newest there. scheduled_by-law Law Own Ends controls law state maker _ refl)

  update-law : (state : State) (maker : Who) (of : ClientScope) → Holds state (update state maker of)
  update-law state maker of =
      with_client-law state of.client _ (λ client there.
      by_option (Holds state) (named_scope client of.scope) _ _ (λ none. rejected-law Law Own Ends controls law state maker _)
      (λ scope named. update_named-law state maker (mapped_registration state client.key scope) client.url))

  soft_update_named-law : (state : State) (found : Option Registration) → Holds state (soft_update_named state found)
  soft_update_named-law state None = nothing state
  soft_update_named-law state (Some row) =
      by_option (Holds state) (newest_worker state row.number) _ _ (λ none. nothing state)
      (λ newest there. law.scheduling state _ refl)

  soft_update-law : (state : State) (of : ClientScope) → Holds state (soft_update state of)
  soft_update-law state of =
      with_client-law state of.client _ (λ client there.
      by_option (Holds state) (named_scope client of.scope) _ _ (λ none. nothing state)
      (λ scope named. soft_update_named-law state (mapped_registration state client.key scope)))

  unregister-law : (state : State) (maker : Who) (of : ClientScope) → Holds state (unregister state maker of)
  unregister-law state maker of =
      with_client-law state of.client _ (λ client there.
      by_option (Holds state) (named_scope client of.scope) _ _ (λ none. rejected-law Law Own Ends controls law state maker _)
      (λ scope named. scheduled_by-law Law Own Ends controls law state maker _ refl))

  -- ---- clients

  open_at-law : controls ≡ true → (state : State) (number : ℕ) (url : List ℕ) (key : Option (List ℕ)) → is_some (client_row state number) ≡ false → Holds state (open_at state number url key)
  open_at-law may state number url None free = nothing state
  open_at-law may state number url (Some key) free = law.opening may state number key url free

  open_client-law : controls ≡ true → (state : State) (number : ℕ) (text : List ℕ) (partition : Option (List ℕ)) → Holds state (open_client state number text partition)
  open_client-law may state number text partition =
      by_test (Holds state) (is_some (client_row state number)) _ _ (λ used. nothing state)
      (λ free. by_option (Holds state) (address_of text) _ _ (λ none. nothing state)
      (λ url there. open_at-law may state number _ (key_of text partition) free))

  close-law : (state : State) (number : ℕ) → Holds state (close state number)
  close-law state number = with_client-law state number _ (λ client there. law.closing state number)

  await-law : (state : State) (maker : Who) (of : ℕ) → HoldsIf state (await state maker of)
  await-law state (who.Lane lane at) of = mapped_holds (Holds state) _ (promised_value state lane of) (λ result there. nothing state)
  await-law state who.Host of = tt
  await-law state (who.Handler worker in_phase number) of = tt

  ready-law : (state : State) (number : ℕ) → HoldsIf state (ready state number)
  ready-law state number =
      by_option (HoldsIf state) (client_row state number) _ _ (λ none. nothing state)
      (λ client there. mapped_holds (Holds state) _ (ready_registration state client) (λ registration found. nothing state))

  get_registration-law : (state : State) (number : ℕ) (text : List ℕ) → Holds state (get_registration state number text)
  get_registration-law state number text =
      with_client-law state number _ (λ client there.
      by_option (Holds state) (resolved text client.url) _ _ (λ none. nothing state)
      (λ url parsed. by_test (Holds state) (same_origin url client.url) _ _ (λ same. nothing state) (λ other. nothing state)))

  get_registrations-law : (state : State) (number : ℕ) → Holds state (get_registrations state number)
  get_registrations-law state number = with_client-law state number _ (λ client there. nothing state)

  with_named-law : (state : State) (of : ClientScope) (act : Registration → Outcome) → ((row : Registration) → Holds state (act row)) → Holds state (with_named state of act)
  with_named-law state of act acts =
      with_client-law state of.client _ (λ client there.
      by_option (Holds state) (named_scope client of.scope) _ _ (λ none. nothing state)
      (λ scope named. by_option (Holds state) (mapped_registration state client.key scope) _ _ (λ none. nothing state) (λ row found. acts row)))

  with_slot-law : (state : State) (of : ClientScope) (place : Slot) (act : Worker → Outcome) → ((registration : ℕ) (worker : Worker) → slot_worker state place registration ≡ Some worker → Holds state (act worker)) → Holds state (with_slot state of place act)
  with_slot-law state of place act acts =
      with_named-law state of _ (λ row.
      by_option (Holds state) (slot_worker state place row.number) _ _ (λ none. nothing state) (λ worker found. acts row.number worker found))

  skip_waiting-law : (state : State) (registration worker : ℕ) → Law state (skip_waiting state registration worker)
  unfolding skip_waiting
  skip_waiting-law state registration worker =
      further state _ _ (law.flagging state worker) (try_activate-law Law registration (law_of registration law.rechecks) _)

  -- a worker that was found claims
  claim_of-law : controls ≡ true → (state : State) (test : Worker → Bool) (worker : Worker) → find test state.workers ≡ Some worker → Holds state (claim_of state worker)
  claim_of-law may state test worker found =
      by_test (Holds state) (is_active worker.state) _ _
      (λ active. law.claiming may state worker (find_any test (λ row. row.number == worker.number && (row.registration == worker.registration && is_active row.state)) state.workers worker found (grind (arith, nat_tests, active))))
      (λ inactive. nothing state)

  begin_on-law : (state : State) (client number : ℕ) (row : ClientRow) (found : Option Worker) → client_row state client ≡ Some row → option_and_then (worker_row state) row.controller ≡ found → HoldsIf state (begin_on state number found)
  begin_on-law state client number row None there is = nothing state
  begin_on-law state client number row (Some worker) there is =
      by_test (HoldsIf state) (is_activating worker) _ _ (λ activating. tt)
      (λ ready. by_test (HoldsIf state) (is_some (event_row state number)) _ _ (λ used. nothing state)
      (λ free. law.adding state client number row worker there is ready free))

  begin-law : (state : State) (client number : ℕ) → HoldsIf state (begin state client number)
  begin-law state client number =
      by_option (HoldsIf state) (client_row state client) _ _ (λ none. nothing state)
      (λ row there. begin_on-law state client number row (option_and_then (worker_row state) row.controller) there refl)

  end_event-law : (state : State) (number registration : ℕ) → Law state (end_event state number registration)
  unfolding end_event
  end_event-law state number registration =
      further state (remove_event state number) _ (law.ending state number) (recheck-law Law registration (law_of registration law.rechecks) (remove_event state number).state)

  end-law : (state : State) (number : ℕ) → Holds state (end state number)
  end-law state number =
      by_option (Holds state) (event_row state number) _ _ (λ none. nothing state)
      (λ row there. by_option (Holds state) (registration_of state row.worker) _ _ (λ none. law.ending state number)
      (λ registration of. end_event-law state number registration))

  -- ---- activation

  tryactivate-law : (state : State) (registration : ℕ) → HoldsIf state (tryactivate state registration)
  unfolding pay
  tryactivate-law state registration =
      by_test (HoldsIf state) (is_owed state registration) _ _
      (λ owed. law.paying state registration _ owed (try_activate-law Law registration (law_of registration law.rechecks) (paid registration state)))
      (λ none. tt)

  -- ---- caches

  with_key-law : (state : State) (place : Place) (act : List ℕ → Outcome) → ((key : List ℕ) → Holds state (act key)) → Holds state (with_key state place act)
  with_key-law state place act acts = by_result (Holds state) (place_key place) _ _ (λ key is. acts key) (λ why is. nothing state)

  with_url-law : (state : State) (base text : List ℕ) (act : List ℕ → Outcome) → ((url : List ℕ) → Holds state (act url)) → Holds state (with_url state base text act)
  with_url-law state base text act acts = by_option (Holds state) (resolved text base) _ _ (λ none. nothing state) (λ url is. acts url)

  with_cache_pairs-law : (state : State) (key name : List ℕ) (act : List Pair → Outcome) → ((pairs : List Pair) → pairs_of key name state.caches ≡ Some pairs → Holds state (act pairs)) → Holds state (with_cache_pairs state key name act)
  with_cache_pairs-law state key name act acts =
      by_option (Holds state) (pairs_of key name state.caches) _ _ (λ none. nothing state) acts

  open_cache-law : (state : State) (name key : List ℕ) → Holds state (open_cache state name key)
  open_cache-law state name key =
      by_test (Holds state) (is_some (pairs_of key name state.caches)) _ _ (λ there. nothing state) (λ none. law.caching state key name none)

  delete_cache-law : (state : State) (name key : List ℕ) → Holds state (delete_cache state name key)
  delete_cache-law state name key =
      by_test (Holds state) (is_some (pairs_of key name state.caches)) _ _ (λ there. law.dropping state key name) (λ none. nothing state)

  match_request-law : (state : State) (base : List ℕ) (asked : CacheMatch) (key : List ℕ) → Holds state (match_request state base asked key)
  match_request-law state base asked key = with_url-law state base asked.request.url _ (λ url. nothing state)

  query_places-law : (state : State) (base : List ℕ) (request : Option Request) (options : Options) (pairs : List Pair) → Holds state (query_places state base request options pairs)
  query_places-law state base None options pairs = nothing state
  query_places-law state base (Some request) options pairs = with_url-law state base request.url _ (λ url. nothing state)

  query_cache-law : (state : State) (base : List ℕ) (asked : CacheQuery) (key : List ℕ) → Holds state (query_cache state base asked key)
  query_cache-law state base asked key =
      with_cache_pairs-law state key asked.name _ (λ pairs is. query_places-law state base asked.request asked.options pairs)

  run_batch-law : (state : State) (key name : List ℕ) (ops : List Op) (reply : Answer) (fault_of : BatchFault → Fault) (pairs : List Pair) → pairs_of key name state.caches ≡ Some pairs → Holds state (run_batch state key name ops reply fault_of pairs)
  run_batch-law state key name ops reply fault_of pairs there =
      by_result (Holds state) (batch pairs ops) _ _ (λ new is. law.carrying state key name ops pairs new there is) (λ why is. nothing state)

  put_response-law : (state : State) (base : List ℕ) (put : CachePut) (key : List ℕ) → Holds state (put_response state base put key)
  put_response-law state base put key =
      with_cache_pairs-law state key put.name _ (λ pairs there.
      with_url-law state base put.request.url _ (λ url.
      run_batch-law state key put.name (op.Put (record put.request { url = url }) put.response ∷ []) answer.Ok single_fault pairs there))

  delete_request-law : (state : State) (base : List ℕ) (asked : CacheDelete) (key : List ℕ) → Holds state (delete_request state base asked key)
  delete_request-law state base asked key =
      with_cache_pairs-law state key asked.name _ (λ pairs there.
      with_url-law state base asked.request.url _ (λ url.
      let request = record asked.request { url = url } in
      run_batch-law state key asked.name (op.Delete request asked.options ∷ []) (answer.Truth (is_some (first_match pairs request asked.options))) single_fault pairs there))

  batch_parsed-law : (state : State) (key name : List ℕ) (parsed : Result (List Op) (List Op)) (pairs : List Pair) → pairs_of key name state.caches ≡ Some pairs → Holds state (batch_parsed state key name parsed pairs)
  batch_parsed-law state key name (Ok ops) pairs there = run_batch-law state key name ops answer.Ok batch_fault pairs there
  batch_parsed-law state key name (Err before) pairs there = nothing state

  batch_ops-law : (state : State) (base : List ℕ) (asked : CacheBatch) (key : List ℕ) → Holds state (batch_ops state base asked key)
  batch_ops-law state base asked key =
      with_cache_pairs-law state key asked.name _ (λ pairs there. batch_parsed-law state key asked.name (parsed_ops base asked.operations) pairs there)

  -- ---- addAll

  start_task-law : (state : State) (maker : Who) (key name : List ℕ) (requests : List Request) → is_running state.workers (maker_worker maker) ≡ true → Holds state (start_task state maker key name requests)
  start_task-law state maker key name requests runs =
      further state (add_task state maker key name requests) _ (law.awaiting state maker key name requests runs)
      (law.promising (add_task state maker key name requests).state maker (of_task (length state.tasks)) (task_there state maker key name requests))

  add_all-law : (state : State) (maker : Who) (base : List ℕ) (asked : CacheAddAll) (key : List ℕ) → is_running state.workers (maker_worker maker) ≡ true → Holds state (add_all state maker base asked key)
  add_all-law state maker base asked key runs =
      by_test (Holds state) (is_none (pairs_of key asked.name state.caches)) _ _ (λ gone. rejected-law Law Own Ends controls law state maker _)
      (λ there. by_result (Holds state) (fetchable_all base asked.requests) _ _ (λ requests is. start_task-law state maker key asked.name requests runs) (λ why is. rejected-law Law Own Ends controls law state maker _))

  lane_runs : (state : State) (maker : Who) → is_lane maker ≡ true → is_running state.workers (maker_worker maker) ≡ true
  lane_runs state who.Host is = absurd cc
  lane_runs state (who.Lane lane at) is = refl
  lane_runs state (who.Handler worker in_phase number) is = absurd cc

  add_all_at-law : (state : State) (maker : Who) (place : Place) (asked : CacheAddAll) → is_lane maker ≡ true → Holds state (add_all_at state maker place asked)
  add_all_at-law state maker place asked is =
      by_result (Holds state) (place_key place) _ _ (λ key there. add_all-law state maker place.at asked key (lane_runs state maker is)) (λ why none. rejected-law Law Own Ends controls law state maker why)

  forget-law : (state : State) (key : List ℕ) → Holds state (forget state key)
  forget-law state key = by_test (Holds state) (is_busy state key) _ _ (λ busy. nothing state) (λ free. law.forgetting state key free)

  -- ---- navigation preload

  preloading-law : (everywhere : Bool) → GetsPreload everywhere Law → GetsPreload false Law
  preloading-law true preloading = λ state registration on text active. preloading state registration on text
  preloading-law false preloading = preloading

  preload_set-law : (state : State) (row : Registration) (on : Bool) (text : List ℕ) → Holds state (preload_set state row on text)
  preload_set-law state row on text =
      by_test (Holds state) (is_some (active_worker_number state row.number)) _ _ (λ there. preloading-law anywhere law.preloading state row.number on text there) (λ none. nothing state)

  -- ---- calls

  update_own-law : (state : State) (maker : Who) (worker : Worker) (in_phase : Phase) → Holds state (update_own state maker worker in_phase)
  update_own-law state maker worker phase.Install = nothing state
  update_own-law state maker worker phase.Activate = update_named-law state maker (own_registration state worker) worker.script

  called-law : (state : State) (number : ℕ) (at : ℕ) (worker : Worker) (in_phase : Phase) (key : List ℕ) (asked : Call) → worker_row state number ≡ Some worker → is_running state.workers (Some number) ≡ true → (is_claim asked ≡ true → controls ≡ true) → Holds state (called state (who.Handler number in_phase at) worker in_phase key asked)
  called-law state number at worker in_phase key call.SkipWaiting found runs may = skip_waiting-law state worker.registration worker.number
  called-law state number at worker in_phase key call.Claim found runs may = claim_of-law (may refl) state (is_worker number) worker found
  called-law state number at worker in_phase key call.Update found runs may = update_own-law state (who.Handler number in_phase at) worker in_phase
  called-law state number at worker in_phase key (call.CacheOpen name) found runs may = open_cache-law state name key
  called-law state number at worker in_phase key (call.CacheDelete name) found runs may = delete_cache-law state name key
  called-law state number at worker in_phase key (call.Put put) found runs may = put_response-law state worker.script put key
  called-law state number at worker in_phase key (call.Delete asked) found runs may = delete_request-law state worker.script asked key
  called-law state number at worker in_phase key (call.Batch asked) found runs may = batch_ops-law state worker.script asked key
  called-law state number at worker in_phase key (call.AddAll asked) found runs may = add_all-law state (who.Handler number in_phase at) worker.script asked key runs

  noted-law : (state : State) (outcome : Outcome) (worker : ℕ) → Holds state outcome → Holds state (noted outcome worker)
  noted-law state outcome worker holds = further state outcome.told _ holds (law.noting outcome.told.state worker _)

  make_call-law : (state : State) (maker : Who) (asked : Call) → (is_claim asked ≡ true → controls ≡ true) → HoldsIf state (make_call state maker asked)
  make_call-law state who.Host asked may = tt
  make_call-law state (who.Lane lane at) asked may = tt
  make_call-law state (who.Handler number in_phase at) asked may =
      bound_holds (Holds state) _ (worker_row state number) (λ row found.
      by_test (HoldsIf state) (is_next_call state row in_phase at asked) _ _
      (λ next. mapped_holds (Holds state) _ (registration_row state row.registration) (λ registration there.
      noted-law state _ row.number (called-law state number at row in_phase registration.key asked found (next_runs state number row in_phase at asked found next) may)))
      (λ other. tt))

  -- ---- the step

  -- a law of whole events that are allowed, where it follows of the other and holds of the events of the host that move
  -- something on
  module _ (Allowed : Event → Type 0) (Whole : State → Told → Type 0) (whole : (state : State) (told : Told) → Law state told → Whole state told) (host : IsHostLaw Allowed Whole) (state : State) where
    case-law : (happened : Event) → has_its_maker happened ≡ true → (gives_control happened ≡ true → controls ≡ true) → Allowed happened → IfSome (case_of state happened) (λ outcome. Whole state outcome.told)
    unfolding who_of
    case-law (event.Open maker client url partition) is may allowed = whole state _ (open_client-law (may refl) state client url partition)
    case-law (event.Close maker client) is may allowed = whole state _ (close-law state client)
    case-law (event.Register maker asked) is may allowed = whole state _ (register-law state maker asked)
    case-law (event.Update maker of) is may allowed = whole state _ (update-law state maker of)
    case-law (event.SoftUpdate maker of) is may allowed = whole state _ (soft_update-law state of)
    case-law (event.Unregister maker of) is may allowed = whole state _ (unregister-law state maker of)
    case-law (event.Await maker of) is may allowed = whole-holds Law Whole whole state _ (await-law state maker of)
    case-law (event.Ready maker client) is may allowed = whole-holds Law Whole whole state _ (ready-law state client)
    case-law (event.Registration maker client url) is may allowed = whole state _ (get_registration-law state client url)
    case-law (event.Registrations maker client) is may allowed = whole state _ (get_registrations-law state client)
    case-law (event.SkipWaiting maker of place) is may allowed = whole state _ (with_slot-law state of place _ (λ registration worker found. skip_waiting-law state worker.registration worker.number))
    case-law (event.Claim maker of place) is may allowed = whole state _ (with_slot-law state of place _ (λ registration worker found. claim_of-law (may refl) state _ worker found))
    case-law (event.Begin maker client number) is may allowed = whole-holds Law Whole whole state _ (begin-law state client number)
    case-law (event.End maker number) is may allowed = whole state _ (end-law state number)
    case-law (event.CacheOpen maker place name) is may allowed = whole state _ (with_key-law state place _ (open_cache-law state name))
    case-law (event.CacheHas maker place name) is may allowed = whole state _ (with_key-law state place _ (λ key. nothing state))
    case-law (event.CacheDelete maker place name) is may allowed = whole state _ (with_key-law state place _ (delete_cache-law state name))
    case-law (event.CacheKeys maker place) is may allowed = whole state _ (with_key-law state place _ (λ key. nothing state))
    case-law (event.Forget maker place) is may allowed = whole state _ (with_key-law state place _ (forget-law state))
    case-law (event.Match maker place asked) is may allowed = whole state _ (with_key-law state place _ (match_request-law state place.at asked))
    case-law (event.MatchAll maker place asked) is may allowed = whole state _ (with_key-law state place _ (query_cache-law state place.at asked))
    case-law (event.Keys maker place asked) is may allowed = whole state _ (with_key-law state place _ (query_cache-law state place.at asked))
    case-law (event.Put maker place put) is may allowed = whole state _ (with_key-law state place _ (put_response-law state place.at put))
    case-law (event.Delete maker place asked) is may allowed = whole state _ (with_key-law state place _ (delete_request-law state place.at asked))
    case-law (event.Batch maker place asked) is may allowed = whole state _ (with_key-law state place _ (batch_ops-law state place.at asked))
    case-law (event.AddAll maker place asked) is may allowed = whole state _ (add_all_at-law state maker place asked is)
    case-law (event.PreloadEnable maker of) is may allowed = whole state _ (with_named-law state of _ (λ row. preload_set-law state row true row.preload_value))
    case-law (event.PreloadDisable maker of) is may allowed = whole state _ (with_named-law state of _ (λ row. preload_set-law state row false row.preload_value))
    case-law (event.PreloadValue maker of text) is may allowed = whole state _ (with_named-law state of _ (λ row. preload_set-law state row row.preload text))
    case-law (event.PreloadState maker of) is may allowed = whole state _ (with_named-law state of _ (λ row. nothing state))
    case-law (event.Call maker asked) is may allowed = whole-holds Law Whole whole state _ (make_call-law state maker asked may)
    case-law (event.Run maker job) is may allowed = host.running state job
    case-law (event.Fetched maker job line) is may allowed = host.fetching state maker job line allowed
    case-law (event.Evaluated maker job) is may allowed = host.moves.evaluating state job
    case-law (event.Installed maker job) is may allowed = host.moves.installing state job
    case-law (event.TryActivate maker registration) is may allowed = whole-holds Law Whole whole state _ (tryactivate-law state registration)
    case-law (event.Activated maker worker) is may allowed = host.moves.activating state worker
    case-law (event.Added maker task lines) is may allowed = host.adding state maker task lines allowed
    case-law (event.Restarted maker) is may allowed = tt

    pub step-law-by : (happened : Event) → (gives_control happened ≡ true → controls ≡ true) → Allowed happened → IfSome (step state happened) (λ outcome. Whole state outcome.told)
    unfolding step
    step-law-by happened may allowed =
        by_test (λ (o : Option Outcome). IfSome o (λ outcome. Whole state outcome.told)) (has_its_maker happened) _ _ (λ is. case-law happened is may allowed) (λ other. tt)

module _ (Law Own : State → Told → Type 0) (controls : Bool) {anywhere : Bool} (law : IsLawBeside Law Own Law controls anywhere) where
  -- a law of whole events, where it follows of the other and holds of the events that move a worker on
  pub step-law-beside : (Whole : State → Told → Type 0) → ((state : State) (told : Told) → Law state told → Whole state told) → IsMoveLaw Whole → (state : State) (happened : Event) → (gives_control happened ≡ true → controls ≡ true) → IfSome (step state happened) (λ outcome. Whole state outcome.told)
  step-law-beside Whole whole moving state happened may =
      step-law-by Law Own Law controls law (λ any. Unit {0}) Whole whole (record {
        moves = moving;
        running = λ before job. whole-holds Law Whole whole before _ (run-law Law Own controls law before job);
        fetching = λ before maker job line allowed. whole-holds Law Whole whole before _ (fetched-law Law Own controls law before job line);
        adding = λ before maker task lines allowed. whole-holds Law Whole whole before _ (added-law Law Own controls law before task lines);
      }) state happened may tt

module _ (Law : State → Told → Type 0) (controls : Bool) {anywhere : Bool} (law : IsLawWhere Law controls anywhere) where
  activated-law : (state : State) (worker : Worker) (handler : Handler) → worker_row state worker.number ≡ Some worker → ended_handler state (λ in_phase. not (is_install in_phase)) worker ≡ Some handler → Law state (finish_activate state worker.registration worker.number)
  unfolding finish_activate
  activated-law state worker handler found ended =
      law.activated state worker handler _ found ended (recheck-law Law worker.registration (law_of worker.registration law.rechecks))

  pub step-law : (state : State) (happened : Event) → (gives_control happened ≡ true → controls ≡ true) → IfSome (step state happened) (λ outcome. Law state outcome.told)
  step-law = step-law-beside Law Law controls law Law (λ state told holds. holds) (record {
    evaluating = evaluated-law Law controls law;
    installing = installed-law Law controls law;
    activating = activated-by Law activated-law;
  })
