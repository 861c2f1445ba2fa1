-- A client that isn't open is open after an event only where an `open` has added it; and a `close` leaves it closed.
use Rattle.std.proofs.Common.{◌≡◌, ◌∙◌, ℕ, Bool, true, false, ◌==◌, List, [], ◌∷◌, ◌++◌, map, Option, Some, None, IfSome, refl, sym, ap, subst, arith, if◌then◌else◌}
use Rattle.std.specs.Prelude.{filter, find, is_some}
use Rattle.std.specs.Option.{option_map_or}
use Rattle.std.proofs.lemmas.Bool.Decides.{nat_tests}
use Rattle.sw_data.specs.declared.answers.Answer.{Answer}
use Rattle.sw_data.specs.declared.answers.Fault.{Fault}
use Rattle.sw_data.specs.declared.answers.Notice.{Notice}
use Rattle.sw_data.specs.declared.answers.Settlement.TheVariants as settlement
use Rattle.sw_data.specs.declared.events.Event.{Event}
use Rattle.sw_data.specs.declared.events.Event.TheVariants as event
use Rattle.sw_data.specs.declared.events.Who.{Who}
use Rattle.sw_data.specs.declared.events.Who.TheVariants as who
use Rattle.sw_data.specs.declared.recordings.Call.TheVariants as call
use Rattle.sw_data.specs.declared.recordings.ClientScope.{ClientScope}
use Rattle.sw_data.specs.declared.rows.ClientRow.{ClientRow}
use Rattle.sw_data.specs.declared.rows.JobRow.{JobRow}
use Rattle.sw_data.specs.declared.storage.Change.{Change}
use Rattle.sw_data.specs.declared.workers.Phase.{Phase}
use Rattle.sw_data.specs.declared.workers.Slot.{Slot}
use Rattle.sw_data.specs.declared.workers.Slot.TheVariants as slot
use Rattle.sw_data.specs.declared.workers.WorkerState.TheVariants as worker_state
use Rattle.sw_data.specs.Addresses.{address_of}
use Rattle.sw_data.specs.Events.{who_of}
use Rattle.sw_data.specs.Keys.{key_of}
use Rattle.sw_laws.proofs.AtOnce.{clear_only, retire_only, waiting_leaves}
use Rattle.sw_laws.proofs.Events.{gives_control, step-law}
use Rattle.sw_laws.proofs.Forgotten.{forgotten_leaves}
use Rattle.sw_laws.proofs.Lists.{bound_holds, by_option, by_test, mapped_holds}
use Rattle.sw_laws.proofs.Split.{IsLaw, IsRecheckLaw, unload-law}
use Rattle.sw_roster.specs.Members.{has_closed, has_opened, opened}
use Rattle.sw_rules.specs.Activating.{become_activated, worker_or_none}
use Rattle.sw_rules.specs.Caching.{add_cache, add_task, carry_out, drop_cache, settle_task}
use Rattle.sw_rules.specs.Forgetting.{forget_key, is_mapped_of}
use Rattle.sw_rules.specs.Calls.{is_next_call, make_call, note_call, noted}
use Rattle.sw_rules.specs.Clients.{add_client, add_event, claim_client, claim_clients, claim_of, claims, close, leave, new_client, open_at, open_client, opening_controller, remove_client, remove_event, take_control, with_slot}
use Rattle.sw_rules.specs.Installing.{become_waiting, begin_install, end_handler, fail_install, finish_install, make_worker, reject_and_drop, remember, tell_update, throw}
use Rattle.sw_rules.specs.Jobs.{finish, promise, schedule, settle}
use Rattle.sw_rules.specs.Preloading.{set_preload}
use Rattle.sw_rules.specs.Registering.{fetch_script}
use Rattle.sw_rules.specs.Registrations.{activate, become, controlled_by, drop_registration, map_registration, retire, set_mode, start_handler, take_over, unload, unmap}
use Rattle.sw_rules.specs.Rows.{changed, client_row, is_active, is_client, is_number, mapped_registration, named_scope, newest_worker, registration_row, slot_worker, without, worker_row}
use Rattle.sw_rules.specs.State.{State, Worker, Awaited}
use Rattle.sw_rules.specs.Step.{Step, step}
use Rattle.sw_rules.specs.Told.{Told, Outcome, followed, keep, quiet}
use Rattle.std.specs.Prelude.{is_none}

-- ---- clients that aren't there

abbrev IsOut : ℕ → List ClientRow → Type 0
IsOut n rows = find (is_client n) rows ≡ None

changed_out : (n : ℕ) (test : ClientRow → Bool) (g : ClientRow → ClientRow) → ((c : ClientRow) → (g c).number ≡ c.number) → (rows : List ClientRow) → IsOut n rows → IsOut n (changed test g rows)
changed_out n test g same [] out = refl
changed_out n test g same (row ∷ rows) out = grind (arith, nat_tests, same row, changed_out n test g same rows)

less_out : (n : ℕ) (test : ClientRow → Bool) (rows : List ClientRow) → IsOut n rows → IsOut n (without test rows)
less_out n test [] out = refl
less_out n test (row ∷ rows) out = grind (arith, nat_tests, less_out n test rows)

more_out : (n : ℕ) (rows : List ClientRow) (new : ClientRow) → (new.number == n) ≡ false → IsOut n rows → IsOut n (rows ++ new ∷ [])
more_out n [] new other out = grind (arith, other)
more_out n (row ∷ rows) new other out = grind (arith, nat_tests, other, more_out n rows new other)

gone_out : (n : ℕ) (rows : List ClientRow) → IsOut n (without (is_client n) rows)
gone_out n [] = refl
gone_out n (row ∷ rows) = grind (arith, nat_tests, gone_out n rows)

-- ---- each part of a step

-- who isn't there doesn't come
abbrev Keeps : State → Told → Type 0
Keeps state told = (n : ℕ) → IsOut n state.clients → IsOut n told.state.clients

further : (state : State) (told : Told) (next : State → Told) → Keeps state told → Keeps told.state (next told.state) → Keeps state (followed told next)
unfolding followed
further state told next one other n out = other n (one n out)

-- where the clients are as they were
same_out : (old new : List ClientRow) → new ≡ old → (n : ℕ) → IsOut n old → IsOut n new
same_out old new same n out = subst (IsOut n) (sym same) out

rechecks_keep : IsRecheckLaw Keeps
unfolding activate followed keep become take_over start_handler
rechecks_keep = record {
  nothing = λ state n out. out;
  further = further;
  activating = λ state registration worker is n out.
      let retired = retire state slot.Active registration in
      changed_out n _ (controlled_by worker) (λ c. refl) retired.state.clients (same_out state.clients retired.state.clients (ap (λ (s : State). s.clients) (retire_only state slot.Active registration).rest) n out);
  clearing = λ state registration gone unused calm. same_out state.clients _ (ap (λ (s : State). s.clients) (clear_only state registration).rest);
}

unload_keeps : (state : State) (client : ℕ) → Keeps state (unload state client)
unload_keeps = unload-law Keeps rechecks_keep (λ state client n out. changed_out n (is_client client) (λ row. record row { controller = None }) (λ c. refl) state.clients out)

leave_keeps : (state : State) (client : ℕ) → Keeps state (leave state client)
unfolding leave remove_client
leave_keeps state client =
    let unloaded = unload state client in
    further state unloaded _ (unload_keeps state client) (λ n out. less_out n (is_client client) unloaded.state.clients out)

claim_keeps : (state : State) (worker registration number : ℕ) → Keeps state (claim_client state worker registration number)
unfolding claim_client take_control
claim_keeps state worker registration number =
    let unloaded = unload state number in
    by_test (Keeps state) (option_map_or (claims state worker registration) (client_row state number) false) _ _
    (λ claimed. further state unloaded _ (unload_keeps state number) (λ n out. changed_out n (is_client number) (controlled_by worker) (λ c. refl) unloaded.state.clients out))
    (λ stays n out. out)

claims_keep : (numbers : List ℕ) (state : State) (worker registration : ℕ) → Keeps state (claim_clients state worker registration numbers)
unfolding claim_clients
claims_keep [] state worker registration = λ n out. out
claims_keep (number ∷ numbers) state worker registration =
    let told = claim_client state worker registration number in
    further state told _ (claim_keeps state worker registration number) (claims_keep numbers told.state worker registration)

promise_keeps : (state : State) (maker : Who) (awaited : Awaited) → Keeps state (promise state maker awaited)
unfolding promise
promise_keeps state who.Host awaited = λ n out. out
promise_keeps state (who.Lane lane at) awaited = λ n out. out
promise_keeps state (who.Handler worker in_phase number) awaited = λ n out. out

drop_keeps : (state : State) (registration : ℕ) → Keeps state (drop_registration state registration)
unfolding drop_registration unmap
drop_keeps state registration = by_test (Keeps state) (is_none (newest_worker state registration)) _ _ (λ gone n out. out) (λ there n out. out)

reject_keeps : (state : State) (job registration : ℕ) (why : Fault) → Keeps state (reject_and_drop state job registration why)
unfolding reject_and_drop settle finish
reject_keeps state job registration why =
    let settled = settle state job (settlement.Fault why) in
    let dropped = drop_registration settled.state registration in
    further state settled _ (λ n out. out) (further settled.state dropped _ (drop_keeps settled.state registration) (λ n out. out))

throw_keeps : (state : State) (job registration worker : ℕ) → Keeps state (throw state job registration worker)
unfolding throw become
throw_keeps state job registration worker =
    let discarded = become state worker worker_state.Redundant in
    further state discarded _ (λ n out. out) (reject_keeps discarded.state job registration _)

fail_keeps : (state : State) (row : JobRow) (registration worker : ℕ) → Keeps state (fail_install state row registration worker)
unfolding fail_install end_handler become finish unmap
fail_keeps state row registration worker =
    let ended = end_handler state worker in
    let discarded = become ended.state worker worker_state.Redundant in
    let gone = if is_none row.remembered then unmap discarded.state registration else quiet discarded.state in
    further state ended _ (λ n out. out)
    (further ended.state discarded _ (λ n out. out)
    (further discarded.state gone _
    (by_test (Keeps discarded.state) (is_none row.remembered) _ _ (λ none n out. out) (λ there n out. out))
    (λ n out. out)))

install_keeps : (state : State) (job registration : ℕ) (worker : Worker) → Keeps state (finish_install state job registration worker)
unfolding finish_install end_handler finish
install_keeps state job registration worker =
    let ended = end_handler state worker.number in
    let waiting = become_waiting ended.state registration worker in
    further state ended _ (λ n out. out)
    (further ended.state waiting _ (same_out state.clients waiting.state.clients (ap (λ (s : State). s.clients) (waiting_leaves ended.state registration worker))) (λ n out. out))

keep_law : IsLaw Keeps false
unfolding followed schedule settle finish map_registration unmap set_mode set_preload fetch_script make_worker begin_install remember become start_handler tell_update end_handler become_activated keep add_event remove_event add_cache drop_cache carry_out forget_key add_task settle_task note_call
keep_law = record {
  rechecks = rechecks_keep;
  scheduling = λ state job is n out. out;
  promising = λ state maker awaited there. promise_keeps state maker awaited;
  settling = λ state job result may n out. out;
  finishing = λ state job may n out. out;
  mapping = λ state job free n out. out;
  unmapping = λ state registration n out. out;
  moding = λ state registration mode n out. out;
  preloading = λ state registration on text n out. out;
  fetching = λ state row registration found may mapped n out. out;
  making = λ state row registration fetched at n out. out;
  throwing = λ state row registration worker at made. throw_keeps state row.job.number registration worker.number;
  beginning = λ state row registration worker at made n out. out;
  failing = λ state row registration worker handler is. fail_keeps state row registration worker.number;
  installing = λ state row registration worker handler is. install_keeps state row.job.number registration worker;
  paying = λ state registration told owed holds n out. holds n out;
  activated = λ state worker handler next found ended rest n out. rest (become_activated (end_handler state worker.number).state worker.registration worker.number).state n out;
  opening = λ may. absurd cc;
  closing = λ state number. leave_keeps state number;
  flagging = λ state worker n out. out;
  claiming = λ may. absurd cc;
  adding = λ state client number row worker there controls ready free n out. out;
  ending = λ state number n out. out;
  caching = λ state key name free n out. out;
  dropping = λ state key name n out. out;
  carrying = λ state key name ops pairs new there is n out. out;
  forgetting = λ state key free. same_out state.clients _ (ap (λ (s : State). s.clients) (forgotten_leaves state (filter (is_mapped_of key) state.registrations)));
  awaiting = λ state maker key name requests runs n out. out;
  answering = λ state number result faulted may n out. out;
  noting = λ state worker faulted n out. out;
}

-- ---- claims

abbrev HoldsIf : State → Option Outcome → Type 0
HoldsIf state o = IfSome o (λ outcome. Keeps state outcome.told)

claim_of_keeps : (state : State) (worker : Worker) → Keeps state (claim_of state worker).told
claim_of_keeps state worker =
    by_test (λ (outcome : Outcome). Keeps state outcome.told) (is_active worker.state) _ _
    (λ active. claims_keep (map (λ client. client.number) state.clients) state worker.number worker.registration)
    (λ inactive n out. out)

slot_keeps : (state : State) (of : ClientScope) (place : Slot) → Keeps state (with_slot state of place (claim_of state)).told
slot_keeps state of place =
    by_option (λ (outcome : Outcome). Keeps state outcome.told) (client_row state of.client) _ _ (λ none n out. out)
    (λ client there. by_option (λ (outcome : Outcome). Keeps state outcome.told) (named_scope client of.scope) _ _ (λ none n out. out)
    (λ scope named. by_option (λ (outcome : Outcome). Keeps state outcome.told) (mapped_registration state client.key scope) _ _ (λ none n out. out)
    (λ row found. by_option (λ (outcome : Outcome). Keeps state outcome.told) (slot_worker state place row.number) _ _ (λ none n out. out)
    (λ worker here. claim_of_keeps state worker))))

noted_keeps : (state : State) (worker : Worker) → Keeps state (noted (claim_of state worker) worker.number).told
unfolding note_call
noted_keeps state worker = further state (claim_of state worker).told _ (claim_of_keeps state worker) (λ n out. out)

call_keeps : (state : State) (number : ℕ) (in_phase : Phase) (at : ℕ) → HoldsIf state (make_call state (who.Handler number in_phase at) call.Claim)
call_keeps state number in_phase at =
    bound_holds (λ outcome. Keeps state outcome.told) _ (worker_row state number) (λ row found.
    by_test (HoldsIf state) (is_next_call state row in_phase at call.Claim) _ _
    (λ next. mapped_holds (λ outcome. Keeps state outcome.told) _ (registration_row state row.registration) (λ registration there. noted_keeps state row))
    (λ other. tt))

-- ---- open

-- what an `open` comes to: who isn't there comes only where it is added, and is answered so
abbrev OpenKeeps : State → ℕ → Outcome → Type 0
OpenKeeps state number outcome =
    (n : ℕ) → is_number (if has_opened outcome.answer then Some number else None) n ≡ false → IsOut n state.clients → IsOut n outcome.told.state.clients

answers_so : (controller : Option ℕ) → has_opened (worker_or_none controller) ≡ true
answers_so None = refl
answers_so (Some worker) = refl

open_at_keeps : (state : State) (number : ℕ) (url : List ℕ) (key : Option (List ℕ)) → OpenKeeps state number (open_at state number url key)
unfolding add_client
open_at_keeps state number url None n other out = out
open_at_keeps state number url (Some key) n other out =
    let apart : (number == n) ≡ false = sym (ap (λ (b : Bool). is_number (if b then Some number else None) n) (answers_so (opening_controller state key url))) ∙ other in
    more_out n state.clients (new_client state number key url) apart out

open_keeps : (state : State) (number : ℕ) (text : List ℕ) (partition : Option (List ℕ)) → OpenKeeps state number (open_client state number text partition)
open_keeps state number text partition =
    by_test (OpenKeeps state number) (is_some (client_row state number)) _ _ (λ used n other out. out)
    (λ free. by_option (OpenKeeps state number) (address_of text) _ _ (λ none n other out. out) (λ url there. open_at_keeps state number _ (key_of text partition)))

-- ---- each event

-- what an event comes to is what its step says
same_outcome : (outcome other : Outcome) → Some outcome ≡ Some other → outcome ≡ other
same_outcome outcome other is = cc

module _ (state new : State) (reply : Answer) (notices : List Notice) (n : ℕ) where
  by_kept : (o : Option Outcome) (changes : List Change) → HoldsIf state o → o ≡ Some (record { answer = reply; told = record { state = new; notices = notices; changes = changes } }) → IsOut n state.clients → IsOut n new.clients
  by_kept None changes keeps is out = absurd cc
  by_kept (Some outcome) changes keeps is out =
      subst (λ (o : Outcome). IsOut n o.told.state.clients) (same_outcome outcome _ is) (keeps n out)

  by_opened : (number : ℕ) (outcome : Outcome) (changes : List Change) → OpenKeeps state number outcome → Some outcome ≡ Some (record { answer = reply; told = record { state = new; notices = notices; changes = changes } })
      → is_number (if has_opened reply then Some number else None) n ≡ false → IsOut n state.clients → IsOut n new.clients
  by_opened number outcome changes keeps is other out =
      let same = same_outcome outcome _ is in
      subst (λ (o : Outcome). IsOut n o.told.state.clients) same
      (keeps n (ap (λ (o : Outcome). is_number (if has_opened o.answer then Some number else None) n) same ∙ other) out)

  by_other : (happened : Event) → gives_control happened ≡ false → Step state happened reply notices new → IsOut n state.clients → IsOut n new.clients
  by_other happened free stepped = by_kept (step state happened) stepped.0 (step-law Keeps false keep_law state happened (λ is. sym free ∙ is)) stepped.1

-- who isn't there comes by an `open` that adds it alone
pub only_opens : (state new : State) (happened : Event) (reply : Answer) (notices : List Notice) (n : ℕ) → Step state happened reply notices new → is_number (opened happened reply) n ≡ false → IsOut n state.clients → IsOut n new.clients
unfolding step who_of
only_opens state new (event.Open who.Host client url partition) reply notices n stepped other out = absurd cc
only_opens state new (event.Open (who.Lane lane at) client url partition) reply notices n stepped other out =
    by_opened state new reply notices n client (open_client state client url partition) stepped.0 (open_keeps state client url partition) stepped.1 other out
only_opens state new (event.Open (who.Handler worker in_phase at) client url partition) reply notices n stepped other out = absurd cc
only_opens state new (event.Claim who.Host of place) reply notices n stepped other out = absurd cc
only_opens state new (event.Claim (who.Lane lane at) of place) reply notices n stepped other out =
    by_kept state new reply notices n (Some (with_slot state of place (claim_of state))) stepped.0 (slot_keeps state of place) stepped.1 out
only_opens state new (event.Claim (who.Handler worker in_phase at) of place) reply notices n stepped other out = absurd cc
only_opens state new (event.Call who.Host asked) reply notices n stepped other out = absurd cc
only_opens state new (event.Call (who.Lane lane at) asked) reply notices n stepped other out = absurd cc
only_opens state new (event.Call (who.Handler worker in_phase at) call.Claim) reply notices n stepped other out =
    by_kept state new reply notices n (make_call state (who.Handler worker in_phase at) call.Claim) stepped.0 (call_keeps state worker in_phase at) stepped.1 out
only_opens state new (event.Call (who.Handler worker in_phase at) asked) reply notices n stepped other out =
    by_other state new reply notices n (event.Call (who.Handler worker in_phase at) asked) refl stepped out
only_opens state new happened reply notices n stepped other out = by_other state new reply notices n happened refl stepped out

-- ---- close

leaves_out : (state : State) (number : ℕ) → IsOut number (leave state number).state.clients
unfolding leave remove_client followed
leaves_out state number = gone_out number (unload state number).state.clients

abbrev CloseLeaves : ℕ → Outcome → Type 0
CloseLeaves number outcome = has_closed outcome.answer ≡ true → IsOut number outcome.told.state.clients

close_leaves : (state : State) (number : ℕ) → CloseLeaves number (close state number)
close_leaves state number =
    by_option (CloseLeaves number) (client_row state number) _ _ (λ none is. absurd cc) (λ client there is. leaves_out state number)

-- a `close` that is answered ok leaves its client closed
pub close_closes : (state new : State) (maker : Who) (client : ℕ) (reply : Answer) (notices : List Notice) → Step state (event.Close maker client) reply notices new → has_closed reply ≡ true → IsOut client new.clients
unfolding step who_of
close_closes state new who.Host client reply notices stepped is = absurd cc
close_closes state new (who.Lane lane at) client reply notices stepped is =
    let same = same_outcome (close state client) _ stepped.1 in
    subst (λ (o : Outcome). IsOut client o.told.state.clients) same (close_leaves state client (ap (λ (o : Outcome). has_closed o.answer) same ∙ is))
close_closes state new (who.Handler worker in_phase at) client reply notices stepped is = absurd cc
