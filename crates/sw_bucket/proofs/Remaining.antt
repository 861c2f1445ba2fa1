-- A client that is open after an event was open before it, under the same key, unless the event opens it.
use Rattle.std.proofs.Common.{◌≡◌, ◌∙◌, ℕ, Bool, true, false, ◌==◌, List, [], ◌∷◌, ◌++◌, Option, Some, None, IfSome, option_map, refl, sym, ap, subst, arith, if◌then◌else◌}
use Rattle.std.specs.Option.{option_map_or}
use Rattle.std.specs.Prelude.{filter, find, is_none, is_some}
use Rattle.std.proofs.lemmas.Bool.Decides.{nat_tests}
use Rattle.sw_data.specs.declared.events.Event.{Event}
use Rattle.sw_data.specs.declared.events.Event.TheVariants as event
use Rattle.sw_data.specs.declared.events.Who.{Who}
use Rattle.sw_data.specs.declared.events.Who.TheVariants as who
use Rattle.sw_data.specs.declared.recordings.Call.TheVariants as call
use Rattle.sw_data.specs.declared.recordings.ClientScope.{ClientScope}
use Rattle.sw_data.specs.declared.rows.ClientRow.{ClientRow}
use Rattle.sw_data.specs.declared.rows.JobRow.{JobRow}
use Rattle.sw_data.specs.declared.workers.Slot.{Slot}
use Rattle.sw_data.specs.declared.workers.Slot.TheVariants as slot
use Rattle.sw_data.specs.Addresses.{address_of}
use Rattle.sw_data.specs.Events.{is_handler, is_lane, who_of}
use Rattle.sw_data.specs.Keys.{key_of}
use Rattle.sw_rules.specs.Activating.{become_activated}
use Rattle.sw_rules.specs.Caching.{add_cache, add_task, carry_out, drop_cache, settle_task}
use Rattle.sw_rules.specs.Forgetting.{forget_key, is_mapped_of}
use Rattle.sw_rules.specs.Calls.{is_next_call, make_call, note_call, noted}
use Rattle.sw_rules.specs.Clients.{add_client, add_event, claim_client, claim_clients, claim_of, claims, leave, open_at, open_client, remove_client, remove_event, take_control, with_slot}
use Rattle.sw_rules.specs.Installing.{begin_install, end_handler, fail_install, finish_install, make_worker, reject_and_drop, remember, tell_update, throw}
use Rattle.sw_rules.specs.Jobs.{finish, promise, schedule, settle}
use Rattle.sw_rules.specs.Preloading.{set_preload}
use Rattle.sw_rules.specs.Registering.{fetch_script}
use Rattle.sw_rules.specs.Registrations.{activate, become, controlled_by, drop_registration, map_registration, retire, set_mode, start_handler, take_over, unload, unmap}
use Rattle.sw_rules.specs.Rows.{changed, client_row, is_active, is_client, mapped_registration, named_scope, registration_row, slot_worker, without, worker_row}
use Rattle.sw_rules.specs.State.{State, Worker, Awaited}
use Rattle.sw_rules.specs.Step.{state_after, step}
use Rattle.sw_rules.specs.Told.{Told, Outcome, followed, keep}
use Rattle.sw_laws.proofs.AtOnce.{clear_only, retire_only, waiting_leaves}
use Rattle.sw_laws.proofs.Events.{gives_control, step-law}
use Rattle.sw_laws.proofs.Forgotten.{forgotten_leaves}
use Rattle.sw_laws.proofs.Lists.{bound_holds, by_option, by_test, mapped_holds}
use Rattle.sw_laws.proofs.Split.{IsLaw, IsRecheckLaw, unload-law}

-- ---- lists of clients

abbrev pub key_in : List ClientRow → ℕ → Option (List ℕ)
key_in clients number = option_map (λ row. row.key) (find (is_client number) clients)

-- each client of the new list is in the old one, under the same key
abbrev pub Remain : List ClientRow → List ClientRow → Type 0
Remain old new = (number : ℕ) (key : List ℕ) → key_in new number ≡ Some key → key_in old number ≡ Some key

changed_keys : (test : ClientRow → Bool) (g : ClientRow → ClientRow) → ((x : ClientRow) → (g x).number ≡ x.number) → ((x : ClientRow) → (g x).key ≡ x.key) → (clients : List ClientRow) (number : ℕ) → key_in (changed test g clients) number ≡ key_in clients number
changed_keys test g numbers keys [] number = refl
changed_keys test g numbers keys (c ∷ cs) number = grind (arith, numbers c, keys c, changed_keys test g numbers keys cs number)

-- a change of clients that leaves their numbers and their keys
remain_changed : (test : ClientRow → Bool) (g : ClientRow → ClientRow) → ((x : ClientRow) → (g x).number ≡ x.number) → ((x : ClientRow) → (g x).key ≡ x.key) → (clients : List ClientRow) → Remain clients (changed test g clients)
remain_changed test g numbers keys clients number key is = sym (changed_keys test g numbers keys clients number) ∙ is

without_none : (gone : ℕ) (clients : List ClientRow) → find (is_client gone) (without (is_client gone) clients) ≡ None
without_none gone [] = refl
without_none gone (c ∷ cs) = grind (arith, without_none gone cs)

without_other : (gone number : ℕ) → (number == gone) ≡ false → (clients : List ClientRow) → find (is_client number) (without (is_client gone) clients) ≡ find (is_client number) clients
without_other gone number other [] = refl
without_other gone number other (c ∷ cs) = grind (arith, nat_tests, other, without_other gone number other cs)

remain_without : (gone : ℕ) (clients : List ClientRow) → Remain clients (without (is_client gone) clients)
remain_without gone clients number key is = by (number == gone) refl
  where
    by : (b : Bool) → (number == gone) ≡ b → key_in clients number ≡ Some key
    by true here =
        let same : number ≡ gone = grind (arith, nat_tests, here) in
        let none : key_in (without (is_client gone) clients) number ≡ None =
        subst (λ n. key_in (without (is_client gone) clients) n ≡ None) (sym same) (ap (option_map (λ (row : ClientRow). row.key)) (without_none gone clients)) in
        absurd (cc (none, is))
    by false other = sym (ap (option_map (λ (row : ClientRow). row.key)) (without_other gone number other clients)) ∙ is

-- ---- steps

abbrev pub Law : State → Told → Type 0
Law state told = Remain state.clients told.state.clients

-- where the clients are as they were
same_remain : (old new : List ClientRow) → new ≡ old → Remain old new
same_remain old new same number key is = sym (ap (λ (clients : List ClientRow). key_in clients number) same) ∙ is

rechecks : IsRecheckLaw Law
unfolding followed activate keep become take_over start_handler
rechecks = record {
  nothing = λ state number key is. is;
  further = λ state told next one other number key is. one number key (other number key is);
  activating = λ state registration worker chosen number key is.
      let retired = retire state slot.Active registration in
      same_remain state.clients retired.state.clients (ap (λ (s : State). s.clients) (retire_only state slot.Active registration).rest) number key
      (remain_changed _ (controlled_by worker) (λ x. refl) (λ x. refl) retired.state.clients number key is);
  clearing = λ state registration gone unused calm. same_remain state.clients _ (ap (λ (s : State). s.clients) (clear_only state registration).rest);
}

unload_remains : (state : State) (client : ℕ) → Law state (unload state client)
unload_remains = unload-law Law rechecks (λ state client. remain_changed (is_client client) _ (λ x. refl) (λ x. refl) state.clients)

leave_remains : (state : State) (client : ℕ) → Law state (leave state client)
unfolding leave remove_client followed
leave_remains state client number key is =
    unload_remains state client number key (remain_without client (unload state client).state.clients number key is)

promise_remains : (state : State) (maker : Who) (awaited : Awaited) → Law state (promise state maker awaited)
unfolding promise
promise_remains state who.Host awaited number key is = is
promise_remains state (who.Lane lane at) awaited number key is = is
promise_remains state (who.Handler worker in_phase at) awaited number key is = is

throw_remains : (state : State) (job registration worker : ℕ) → Law state (throw state job registration worker)
unfolding throw reject_and_drop drop_registration followed finish unmap settle become
throw_remains state job registration worker =
    by_test (λ (told : Told). Remain state.clients (finish told.state job).state.clients) _ _ _ (λ gone number key is. is) (λ stays number key is. is)

fail_remains : (state : State) (row : JobRow) (registration worker : ℕ) → Law state (fail_install state row registration worker)
unfolding fail_install followed finish unmap become end_handler
fail_remains state row registration worker =
    by_test (λ (told : Told). Remain state.clients (finish told.state row.job.number).state.clients) (is_none row.remembered) _ _ (λ none number key is. is) (λ there number key is. is)

pub remain_law : IsLaw Law false
unfolding followed schedule settle finish map_registration unmap set_mode set_preload fetch_script make_worker begin_install remember become start_handler tell_update end_handler finish_install become_activated keep add_event remove_event add_cache drop_cache carry_out forget_key add_task settle_task note_call
remain_law = record {
  rechecks = rechecks;
  scheduling = λ state job numbered number key is. is;
  promising = λ state maker awaited there. promise_remains state maker awaited;
  settling = λ state job result may number key is. is;
  finishing = λ state job may number key is. is;
  mapping = λ state job free number key is. is;
  unmapping = λ state registration number key is. is;
  moding = λ state registration mode number key is. is;
  preloading = λ state registration on text number key is. is;
  fetching = λ state row registration found may mapped number key is. is;
  making = λ state row registration fetched at number key is. is;
  throwing = λ state row registration worker at made. throw_remains state row.job.number registration worker.number;
  beginning = λ state row registration worker at made number key is. is;
  failing = λ state row registration worker handler ends. fail_remains state row registration worker.number;
  installing = λ state row registration worker handler ends. same_remain state.clients _ (ap (λ (s : State). s.clients) (waiting_leaves (end_handler state worker.number).state registration worker));
  paying = λ state registration told owed holds. holds;
  activated = λ state worker handler next found ended rest number key is.
      rest (become_activated (end_handler state worker.number).state worker.registration worker.number).state number key is;
  opening = λ may. absurd cc;
  closing = leave_remains;
  flagging = λ state worker number key is. is;
  claiming = λ may. absurd cc;
  adding = λ state client event row worker there controls ready free number key is. is;
  ending = λ state event number key is. is;
  caching = λ state place name free number key is. is;
  dropping = λ state place name number key is. is;
  carrying = λ state place name ops pairs new there is_new number key is. is;
  forgetting = λ state place free. same_remain state.clients _ (ap (λ (s : State). s.clients) (forgotten_leaves state (filter (is_mapped_of place) state.registrations)));
  awaiting = λ state maker place name requests runs number key is. is;
  answering = λ state task result faulted may number key is. is;
  noting = λ state worker faulted number key is. is;
}

-- ---- claim

claim_remains : (state : State) (worker registration client : ℕ) → Law state (claim_client state worker registration client)
unfolding claim_client take_control followed
claim_remains state worker registration client =
    by_test (Law state) (option_map_or (claims state worker registration) (client_row state client) false) _ _
    (λ claimed number key is. unload_remains state client number key
    (remain_changed (is_client client) (controlled_by worker) (λ x. refl) (λ x. refl) (unload state client).state.clients number key is))
    (λ left number key is. is)

claims_remain : (numbers : List ℕ) (state : State) (worker registration : ℕ) → Law state (claim_clients state worker registration numbers)
unfolding claim_clients followed
claims_remain [] state worker registration number key is = is
claims_remain (client ∷ clients) state worker registration number key is =
    claim_remains state worker registration client number key
    (claims_remain clients (claim_client state worker registration client).state worker registration number key is)

abbrev Holds : State → Outcome → Type 0
Holds state outcome = Law state outcome.told

claimed_remain : (state : State) (worker : Worker) → Holds state (claim_of state worker)
claimed_remain state worker =
    by_test (Holds state) (is_active worker.state) _ _ (λ active. claims_remain _ state worker.number worker.registration) (λ inactive number key is. is)

slot_remains : (state : State) (of : ClientScope) (place : Slot) → Holds state (with_slot state of place (claim_of state))
slot_remains state of place =
    by_option (Holds state) (client_row state of.client) _ _ (λ none number key is. is) (λ client there.
    by_option (Holds state) (named_scope client of.scope) _ _ (λ none number key is. is) (λ scope named.
    by_option (Holds state) (mapped_registration state client.key scope) _ _ (λ none number key is. is) (λ row found.
    by_option (Holds state) (slot_worker state place row.number) _ _ (λ none number key is. is) (λ worker there. claimed_remain state worker))))

noted_remains : (state : State) (outcome : Outcome) (worker : ℕ) → Holds state outcome → Holds state (noted outcome worker)
unfolding followed note_call
noted_remains state outcome worker holds number key is = holds number key is

call_remains : (state : State) (maker : Who) → IfSome (if is_handler maker then make_call state maker call.Claim else None) (Holds state)
call_remains state who.Host = tt
call_remains state (who.Lane lane at) = tt
call_remains state (who.Handler worker in_phase at) =
    bound_holds (Holds state) _ (worker_row state worker) (λ row found.
    by_test (λ (o : Option Outcome). IfSome o (Holds state)) (is_next_call state row in_phase at call.Claim) _ _
    (λ next. mapped_holds (Holds state) _ (registration_row state row.registration) (λ registration there.
    noted_remains state _ row.number (claimed_remain state row)))
    (λ other. tt))

-- ---- open

-- the clients of an opening are those before it, but for the one that it opens
abbrev RemainBut : ℕ → List ClientRow → List ClientRow → Type 0
RemainBut opened old new = (number : ℕ) (key : List ℕ) → (opened == number) ≡ false → key_in new number ≡ Some key → key_in old number ≡ Some key

pushed_other : (new : ClientRow) (number : ℕ) → (new.number == number) ≡ false → (clients : List ClientRow) → find (is_client number) (clients ++ new ∷ []) ≡ find (is_client number) clients
pushed_other new number other [] = grind (arith, nat_tests, other)
pushed_other new number other (c ∷ cs) = grind (arith, pushed_other new number other cs)

opening_remains : (state : State) (client : ℕ) (text : List ℕ) (partition : Option (List ℕ)) → RemainBut client state.clients (open_client state client text partition).told.state.clients
unfolding add_client
opening_remains state client text partition =
    by_test At (is_some (client_row state client)) _ _ (λ used number key other is. is)
    (λ free. by_option At (address_of text) _ _ (λ none number key other is. is) (λ url there. opened _ (key_of text partition)))
  where
    At : Outcome → Type 0
    At outcome = RemainBut client state.clients outcome.told.state.clients

    opened : (url : List ℕ) (key : Option (List ℕ)) → At (open_at state client url key)
    opened url None number key other is = is
    opened url (Some own) number key other is = sym (ap (option_map (λ (row : ClientRow). row.key)) (pushed_other _ number other state.clients)) ∙ is

-- ---- events

after_remains : (state : State) (o : Option Outcome) → IfSome o (Holds state) → Remain state.clients (option_map_or (λ (outcome : Outcome). outcome.told.state) o state).clients
after_remains state None holds number key is = is
after_remains state (Some outcome) holds number key is = holds number key is

others_remain : (state : State) (happened : Event) → gives_control happened ≡ false → Remain state.clients (state_after state happened).clients
others_remain state happened other =
    after_remains state (step state happened) (step-law Law false remain_law state happened (λ is. sym other ∙ is))

-- the event opens this client
abbrev pub is_opening : Event → ℕ → Bool
is_opening (event.Open maker client url partition) number = client == number
is_opening _ number = false

-- what a lane made
laned : (state : State) (P : State → Type 0) (maker : Who) (outcome : Outcome) → P state → P outcome.told.state
    → P (option_map_or (λ (o : Outcome). o.told.state) (if is_lane maker then Some outcome else None) state)
laned state P who.Host outcome before now = before
laned state P (who.Lane lane at) outcome before now = now
laned state P (who.Handler worker in_phase at) outcome before now = before

pub events_remain : (state : State) (happened : Event) (number : ℕ) (key : List ℕ) → is_opening happened number ≡ false
    → key_in (state_after state happened).clients number ≡ Some key → key_in state.clients number ≡ Some key
unfolding step who_of
events_remain state (event.Open maker client url partition) number key other =
    laned state (λ (s : State). key_in s.clients number ≡ Some key → key_in state.clients number ≡ Some key) maker (open_client state client url partition)
    (λ same. same) (opening_remains state client url partition number key other)
events_remain state (event.Claim maker of place) number key other =
    laned state (λ (s : State). key_in s.clients number ≡ Some key → key_in state.clients number ≡ Some key) maker (with_slot state of place (claim_of state))
    (λ same. same) (slot_remains state of place number key)
events_remain state (event.Call maker call.Claim) number key other =
    after_remains state (if is_handler maker then make_call state maker call.Claim else None) (call_remains state maker) number key
events_remain state (event.Call maker asked) number key other = others_remain state (event.Call maker asked) refl number key
events_remain state happened number key other = others_remain state happened refl number key
