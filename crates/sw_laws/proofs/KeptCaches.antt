-- The changes of each event make the caches of the state after it of those before it.
use Rattle.std.proofs.Common.{◌≡◌, ◌∙◌, ℕ, Bool, true, false, not, List, [], ◌∷◌, ◌++◌, map, filter, Option, Some, None, Ok, refl, sym, ap, subst, true≢false, arith, if◌then◌else◌}
use Rattle.std.specs.List.{list_any}
use Rattle.std.specs.Prelude.{bytes_eq, is_none, is_some}
use Rattle.std.specs.Option.{option_map_or}
use Rattle.std.proofs.lemmas.List.{append-nil}
use Rattle.std.proofs.lemmas.List.Sums.{fold-append}
use Rattle.sw_data.specs.declared.answers.Cause.TheVariants as cause
use Rattle.sw_data.specs.declared.answers.Settlement.TheVariants as settlement
use Rattle.sw_data.specs.declared.answers.Settlement.{Settlement}
use Rattle.sw_data.specs.declared.events.Who.{Who}
use Rattle.sw_data.specs.declared.events.Who.TheVariants as who
use Rattle.sw_data.specs.declared.exchange.Op.{Op}
use Rattle.sw_data.specs.declared.rows.JobRow.{JobRow}
use Rattle.sw_data.specs.declared.storage.Change.{Change}
use Rattle.sw_data.specs.declared.storage.Change.TheVariants as change
use Rattle.sw_data.specs.declared.storage.Kept.{Kept}
use Rattle.sw_data.specs.declared.storage.KeptCache.{KeptCache}
use Rattle.sw_data.specs.declared.workers.Mode.{Mode}
use Rattle.sw_data.specs.declared.workers.WorkerState.TheVariants as worker_state
use Rattle.sw_data.specs.declared.workers.WorkerState.{WorkerState}
use Rattle.sw_rules.specs.Activating.{become_activated}
use Rattle.sw_rules.specs.Batch.{batch}
use Rattle.sw_rules.specs.Caching.{add_cache, add_task, carry_out, drop_cache, pairs_of, settle_task, with_pairs}
use Rattle.sw_rules.specs.Forgetting.{forget_key, is_mapped_of}
use Rattle.sw_rules.specs.Calls.{note_call}
use Rattle.sw_rules.specs.Clients.{add_client, add_event, claim_client, claim_clients, claims, leave, remove_client, remove_event, take_control}
use Rattle.sw_rules.specs.Installing.{become_waiting, begin_install, end_handler, fail_install, finish_install, kept_worker, make_worker, owe_try_activate, reject_and_drop, remember, tell_update, throw}
use Rattle.sw_rules.specs.Jobs.{finish, promise, schedule, settle}
use Rattle.sw_rules.specs.Matching.{Pair}
use Rattle.sw_rules.specs.Preloading.{has_preload, set_preload}
use Rattle.sw_rules.specs.Registering.{fetch_script}
use Rattle.sw_rules.specs.Registrations.{become, drop_registration, has_mode, map_registration, set_mode, start_handler, unload, unmap}
use Rattle.sw_rules.specs.Rows.{client_row, newest_worker, registration_row}
use Rattle.sw_rules.specs.State.{State, Registration, Worker, Awaited}
use Rattle.sw_rules.specs.Storage.{applied, is_cache, kept_after, with_batch}
use Rattle.sw_rules.specs.Told.{Told, followed, is_kept, keep, kept_change, quiet, type_error}
use Rattle.sw_laws.proofs.AtOnce.{activate_changes, activate_leaves, clear_only, waiting_changes, waiting_leaves}
use Rattle.sw_laws.proofs.Forgotten.{forgotten_leaves}
use Rattle.sw_laws.proofs.Lists.{by_test}
use Rattle.sw_laws.proofs.Split.{IsLaw, IsRecheckLaw, unload-law}

abbrev pub KeepsCaches : State → Told → Type 0
KeepsCaches state told = (kept : Kept) → kept.caches ≡ state.caches → (kept_after kept told.changes).caches ≡ told.state.caches

further : (state : State) (told : Told) (next : State → Told) → KeepsCaches state told → KeepsCaches told.state (next told.state) → KeepsCaches state (followed told next)
unfolding followed
further state told next one other kept is =
    ap (λ (k : Kept). k.caches) (fold-append applied kept told.changes (next told.state).changes) ∙ other (kept_after kept told.changes) (one kept is)

-- a change of a registration leaves the caches
found_quiet : (state : State) (found : Option Registration) (change_of : Registration → Change) → ((row : Registration) (kept : Kept) → (applied kept (change_of row)).caches ≡ kept.caches) → (kept : Kept)
    → (kept_after kept (option_map_or (λ (row : Registration). if is_kept state row then change_of row ∷ [] else []) found [])).caches ≡ kept.caches
found_quiet state None change_of leaves kept = refl
found_quiet state (Some row) change_of leaves kept =
    by_test (λ (changes : List Change). (kept_after kept changes).caches ≡ kept.caches) (is_kept state row) _ _ (λ here. leaves row kept) (λ other. refl)

change_quiet : (state : State) (number : ℕ) (change_of : Registration → Change) → ((row : Registration) (kept : Kept) → (applied kept (change_of row)).caches ≡ kept.caches) → (kept : Kept) → (kept_after kept (kept_change state number change_of)).caches ≡ kept.caches
change_quiet state number change_of leaves kept = found_quiet state (registration_row state number) change_of leaves kept

waiting_quiet : (found : Option Registration) (change_of : Registration → Change) → ((row : Registration) (kept : Kept) → (applied kept (change_of row)).caches ≡ kept.caches) → (kept : Kept) → (kept_after kept (option_map_or (λ (row : Registration). change_of row ∷ []) found [])).caches ≡ kept.caches
waiting_quiet None change_of leaves kept = refl
waiting_quiet (Some row) change_of leaves kept = leaves row kept

-- ---- caches

batch_same : (key name : List ℕ) (ops : List Op) (pairs new : List Pair) (rows : List KeptCache) → pairs_of key name rows ≡ Some pairs → batch pairs ops ≡ Ok new → with_batch key name ops rows ≡ with_pairs key name new rows
batch_same key name ops pairs new [] there is = refl
batch_same key name ops pairs new (row ∷ rows) there is = grind (arith, there, is, batch_same key name ops pairs new rows)

pairs_same : (key name : List ℕ) (pairs : List Pair) (rows : List KeptCache) → pairs_of key name rows ≡ Some pairs → with_pairs key name pairs rows ≡ rows
pairs_same key name pairs [] there = refl
pairs_same key name pairs (row ∷ rows) there = grind (arith, there, pairs_same key name pairs rows)

none_cached : (key name : List ℕ) (rows : List KeptCache) → is_some (pairs_of key name rows) ≡ false → list_any (is_cache key name) rows ≡ false
none_cached key name [] none = refl
none_cached key name (row ∷ rows) none = grind (arith, none, none_cached key name rows)

nothing_done : (pairs new : List Pair) → batch pairs [] ≡ Ok new → pairs ≡ new
nothing_done pairs new is = let same : pairs ++ [] ≡ new = cc in sym (append-nil pairs) ∙ same

carried : (state : State) (key name : List ℕ) (ops : List Op) (pairs new : List Pair) → pairs_of key name state.caches ≡ Some pairs → batch pairs ops ≡ Ok new → KeepsCaches state (carry_out state key name ops new)
unfolding carry_out
carried state key name [] pairs new there is kept same = same ∙ sym (subst (λ (p : List Pair). with_pairs key name p state.caches ≡ state.caches) (nothing_done pairs new is) (pairs_same key name pairs state.caches there))
carried state key name (op ∷ ops) pairs new there is kept same = ap (with_batch key name (op ∷ ops)) same ∙ batch_same key name (op ∷ ops) pairs new state.caches there is

-- ---- helpers

rechecks_cache : IsRecheckLaw KeepsCaches
rechecks_cache = record {
  nothing = λ state kept is. is;
  further = further;
  activating = λ state registration worker is kept same.
      ap (λ changes. (kept_after kept changes).caches) (activate_changes state registration worker)
      ∙ (change_quiet state registration (λ row. change.Active row.key row.scope) (λ row k. refl) kept ∙ (same ∙ sym (ap (λ (s : State). s.caches) (activate_leaves state registration worker))));
  clearing = λ state registration gone unused calm kept same. let only = clear_only state registration in ap (λ changes. (kept_after kept changes).caches) only.changes ∙ (same ∙ sym (ap (λ (s : State). s.caches) only.rest));
}

unmap_caches : (state : State) (registration : ℕ) → KeepsCaches state (unmap state registration)
unfolding unmap
unmap_caches state registration kept same = change_quiet state registration (λ row. change.Gone row.key row.scope) (λ row k. refl) kept ∙ same

mode_caches : (state : State) (registration : ℕ) (mode : Mode) → KeepsCaches state (set_mode state registration mode)
unfolding set_mode
mode_caches state registration mode kept same =
    by_test (λ (changes : List Change). (kept_after kept changes).caches ≡ state.caches) (has_mode state registration mode) _ _ (λ has. same) (λ other. change_quiet state registration (λ row. change.Mode row.key row.scope mode) (λ row k. refl) kept ∙ same)

preload_caches : (state : State) (registration : ℕ) (on : Bool) (text : List ℕ) → KeepsCaches state (set_preload state registration on text)
unfolding set_preload
preload_caches state registration on text kept same =
    by_test (λ (changes : List Change). (kept_after kept changes).caches ≡ state.caches) (option_map_or (has_preload on text) (registration_row state registration) true) _ _ (λ has. same) (λ other. change_quiet state registration (λ row. change.Preload row.key row.scope on text) (λ row k. refl) kept ∙ same)

drop_caches : (state : State) (registration : ℕ) → KeepsCaches state (drop_registration state registration)
unfolding drop_registration
drop_caches state registration = by_test (KeepsCaches state) (is_none (newest_worker state registration)) _ _ (λ none. unmap_caches state registration) (λ there kept same. same)

promise_caches : (state : State) (maker : Who) (awaited : Awaited) → KeepsCaches state (promise state maker awaited)
unfolding promise
promise_caches state who.Host awaited kept same = same
promise_caches state (who.Lane lane at) awaited kept same = same
promise_caches state (who.Handler worker in_phase number) awaited kept same = same

unload_caches : (state : State) (client : ℕ) → KeepsCaches state (unload state client)
unload_caches state client = unload-law KeepsCaches rechecks_cache (λ before number kept same. same) state client

settle_caches : (state : State) (job : ℕ) (result : Settlement) → KeepsCaches state (settle state job result)
unfolding settle
settle_caches state job result kept same = same

finish_caches : (state : State) (job : ℕ) → KeepsCaches state (finish state job)
unfolding finish
finish_caches state job kept same = same

become_caches : (state : State) (worker : ℕ) (to : WorkerState) → KeepsCaches state (become state worker to)
unfolding become
become_caches state worker to kept same = same

end_caches : (state : State) (worker : ℕ) → KeepsCaches state (end_handler state worker)
unfolding end_handler
end_caches state worker kept same = same

control_caches : (state : State) (worker client : ℕ) → KeepsCaches state (take_control state worker client)
unfolding take_control
control_caches state worker client kept same = same

remove_caches : (state : State) (client : ℕ) → KeepsCaches state (remove_client state client)
unfolding remove_client
remove_caches state client kept same = same

wait_caches : (state : State) (registration : ℕ) (worker : Worker) → KeepsCaches state (become_waiting state registration worker)
unfolding owe_try_activate
wait_caches state registration worker kept same =
    ap (λ changes. (kept_after kept changes).caches) (waiting_changes state registration worker)
    ∙ (waiting_quiet (registration_row state registration) (λ row. change.Waiting row.key row.scope row.mode (kept_worker worker)) (λ row k. refl) kept ∙ (same ∙ sym (ap (λ (s : State). s.caches) (waiting_leaves state registration worker))))

active_caches : (state : State) (registration worker : ℕ) → KeepsCaches state (become_activated state registration worker)
unfolding become_activated keep
active_caches state registration worker =
    let change_of = λ (row : Registration). change.Activated row.key row.scope in
    further state (keep state registration change_of) _ (λ kept same. change_quiet state registration change_of (λ row k. refl) kept ∙ same) (become_caches state worker worker_state.Activated)

throw_caches : (state : State) (job registration worker : ℕ) → KeepsCaches state (throw state job registration worker)
unfolding throw reject_and_drop
throw_caches state job registration worker =
    let one = (become state worker worker_state.Redundant).state in
    let two = (settle one job (settlement.Fault (type_error cause.Threw))).state in
    further state (become state worker worker_state.Redundant) _ (become_caches state worker worker_state.Redundant) (further one _ _ (settle_caches one job _) (further two _ _ (drop_caches two registration) (finish_caches (drop_registration two registration).state job)))

fail_caches : (state : State) (row : JobRow) (registration worker : ℕ) → KeepsCaches state (fail_install state row registration worker)
unfolding fail_install
fail_caches state row registration worker =
    let one = (end_handler state worker).state in
    let two = (become one worker worker_state.Redundant).state in
    let three = if is_none row.remembered then unmap two registration else quiet two in
    further state (end_handler state worker) _ (end_caches state worker) (further one (become one worker worker_state.Redundant) _ (become_caches one worker worker_state.Redundant)
    (further two three _ (by_test (KeepsCaches two) (is_none row.remembered) _ _ (λ none. unmap_caches two registration) (λ there kept same. same)) (finish_caches three.state row.job.number)))

install_caches : (state : State) (job registration : ℕ) (worker : Worker) → KeepsCaches state (finish_install state job registration worker)
unfolding finish_install
install_caches state job registration worker =
    let one = (end_handler state worker.number).state in
    further state (end_handler state worker.number) _ (end_caches state worker.number) (further one (become_waiting one registration worker) _ (wait_caches one registration worker) (finish_caches (become_waiting one registration worker).state job))

leave_caches : (state : State) (client : ℕ) → KeepsCaches state (leave state client)
unfolding leave
leave_caches state client = further state (unload state client) _ (unload_caches state client) (remove_caches (unload state client).state client)

claims_cache : (numbers : List ℕ) (state : State) (worker registration : ℕ) → KeepsCaches state (claim_clients state worker registration numbers)
unfolding claim_clients claim_client
claims_cache [] state worker registration = λ kept same. same
claims_cache (number ∷ numbers) state worker registration =
    further state (claim_client state worker registration number) (λ after. claim_clients after worker registration numbers)
    (by_test (KeepsCaches state) (option_map_or (claims state worker registration) (client_row state number) false) _ _
    (λ claims_it. further state (unload state number) (λ left. take_control left worker number) (unload_caches state number) (control_caches (unload state number).state worker number)) (λ none kept same. same))
    (claims_cache numbers (claim_client state worker registration number).state worker registration)

-- ---- each least step

pub cache_law : IsLaw KeepsCaches true
unfolding followed schedule map_registration fetch_script make_worker begin_install remember become start_handler settle tell_update add_client add_event remove_event add_cache drop_cache add_task settle_task forget_key note_call
cache_law = record {
  rechecks = rechecks_cache;
  scheduling = λ state job is kept same. same;
  promising = λ state maker awaited there. promise_caches state maker awaited;
  settling = λ state job result may. settle_caches state job result;
  finishing = λ state job may. finish_caches state job;
  mapping = λ state job free kept same. same;
  unmapping = λ state registration. unmap_caches state registration;
  moding = λ state registration mode. mode_caches state registration mode;
  preloading = λ state registration on text. preload_caches state registration on text;
  fetching = λ state row registration found may mapped kept same. same;
  making = λ state row registration fetched at kept same. same;
  throwing = λ state row registration worker at made. throw_caches state row.job.number registration worker.number;
  beginning = λ state row registration worker at made kept same. same;
  failing = λ state row registration worker handler is. fail_caches state row registration worker.number;
  installing = λ state row registration worker handler is. install_caches state row.job.number registration worker;
  paying = λ state registration told owed holds kept same. holds kept same;
  activated = λ state worker handler next found ended rest.
      let one = (end_handler state worker.number).state in
      further state (end_handler state worker.number) (λ ended. followed (become_activated ended worker.registration worker.number) next) (end_caches state worker.number)
      (further one (become_activated one worker.registration worker.number) next (active_caches one worker.registration worker.number) (rest (become_activated one worker.registration worker.number).state));
  opening = λ may state number key url free kept same. same;
  closing = λ state number. leave_caches state number;
  flagging = λ state worker kept same. same;
  claiming = λ may state worker active. claims_cache (map (λ client. client.number) state.clients) state worker.number worker.registration;
  adding = λ state client number row worker there controls ready free kept same. same;
  ending = λ state number kept same. same;
  caching = λ state key name free kept same.
      by_test (λ (k : Kept). k.caches ≡ state.caches ++ record { key = key; name = name; pairs = [] } ∷ []) (list_any (is_cache key name) kept.caches) _ _
      (λ there. absurd (true≢false (sym there ∙ (ap (list_any (is_cache key name)) same ∙ none_cached key name state.caches free))))
      (λ none. ap (λ (rows : List KeptCache). rows ++ record { key = key; name = name; pairs = [] } ∷ []) same);
  dropping = λ state key name kept same. ap (filter (λ row. not (is_cache key name row))) same;
  carrying = λ state key name ops pairs new there is. carried state key name ops pairs new there is;
  forgetting = λ state key free kept same. ap (filter (λ row. not (bytes_eq row.key key))) (same ∙ sym (ap (λ (s : State). s.caches) (forgotten_leaves state (filter (is_mapped_of key) state.registrations))));
  awaiting = λ state maker key name requests runs kept same. same;
  answering = λ state number result faulted may kept same. same;
  noting = λ state worker faulted kept same. same;
}
