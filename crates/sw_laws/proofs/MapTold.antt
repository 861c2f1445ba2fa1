-- Where a step moves what a key and a scope map to, a notice of it names a registration of theirs.
use Rattle.std.proofs.Common.{◌≡◌, ◌∙◌, ℕ, Bool, true, false, not, ◌&&◌, ◌||◌, ◌==◌, List, [], ◌∷◌, ◌++◌, map, filter, length, Option, Some, None, IfSome, option_map, refl, sym, ap, subst, true≢false, arith, if◌then◌else◌}
use Rattle.std.specs.List.{list_all, list_any}
use Rattle.std.specs.Prelude.{bytes_eq, find, is_none}
use Rattle.std.specs.Option.{option_map_or, option_or}
use Rattle.std.proofs.lemmas.Bool.Decides.{nat_tests}
use Rattle.std.proofs.lemmas.List.Folds.{find-append, list_any-append}
use Rattle.sw_data.specs.declared.answers.Cause.TheVariants as cause
use Rattle.sw_data.specs.declared.answers.Fault.{Fault}
use Rattle.sw_data.specs.declared.answers.Notice.{Notice}
use Rattle.sw_data.specs.declared.answers.Notice.TheVariants as notice
use Rattle.sw_data.specs.declared.answers.Settlement.TheVariants as settlement
use Rattle.sw_data.specs.declared.events.Who.{Who}
use Rattle.sw_data.specs.declared.events.Who.TheVariants as who
use Rattle.sw_data.specs.declared.rows.Job.{Job}
use Rattle.sw_data.specs.declared.rows.JobRow.{JobRow}
use Rattle.sw_data.specs.declared.workers.WorkerState.TheVariants as worker_state
use Rattle.sw_rules.specs.Activating.{become_activated, paid}
use Rattle.sw_rules.specs.Caching.{add_cache, add_task, carry_out, drop_cache, settle_task}
use Rattle.sw_rules.specs.Forgetting.{forget_key, forget_registrations, is_mapped_of}
use Rattle.sw_rules.specs.Calls.{note_call}
use Rattle.sw_rules.specs.Clients.{add_client, add_event, claim_client, claim_clients, claims, leave, remove_client, remove_event, take_control}
use Rattle.sw_rules.specs.Installing.{become_waiting, begin_install, end_handler, fail_install, finish_install, first_counter, make_worker, placed, reject_and_drop, remember, tell_update, throw}
use Rattle.sw_rules.specs.Jobs.{finish, promise, schedule, settle}
use Rattle.sw_rules.specs.Preloading.{set_preload}
use Rattle.sw_rules.specs.Registering.{fetch_script}
use Rattle.sw_rules.specs.Registrations.{activate, become, clear, drop_registration, map_registration, new_registration, set_mode, start_handler, unload, unmap}
use Rattle.sw_rules.specs.Rows.{changed, client_row, is_mapped_to, is_registration, newest_worker}
use Rattle.sw_rules.specs.State.{State, Registration, Worker, Awaited}
use Rattle.sw_rules.specs.Told.{Outcome, Told, followed, keep, quiet, type_error}
use Rattle.sw_laws.specs.Coherent.{Coherent}
use Rattle.sw_laws.specs.Laws.{TellsItsMap, has_key_and_scope, tells_move}
use Rattle.sw_laws.proofs.AtOnce.{activate_leaves, clear_only, waiting_leaves}
use Rattle.sw_laws.proofs.CoherentLaw.{step-coherent}
use Rattle.sw_laws.proofs.Events.{step-law}
use Rattle.sw_laws.proofs.Forgotten.{left}
use Rattle.sw_laws.proofs.Lists.{all_not, all_weaker, any_changed, any_weaker, by_test, by_truth, find_changed, not_true}
use Rattle.sw_laws.proofs.Places.{found_any, found_numbered, places_apart}
use Rattle.sw_laws.proofs.Split.{IsLaw, IsRecheckLaw, unload-law}

-- ---- rows and notices of a key and a scope

module _ (key scope : List ℕ) where
  abbrev is_theirs : Registration → Bool
  is_theirs row = bytes_eq row.key key && bytes_eq row.scope scope

  -- a row of this number has them
  abbrev has_them : List Registration → ℕ → Bool
  has_them rows number = list_any (λ row. row.number == number && is_theirs row) rows

  -- a notice names a row that has them
  abbrev names_them : List Registration → Notice → Bool
  names_them rows (notice.Mapped number) = has_them rows number
  names_them rows (notice.Unmapped number) = has_them rows number
  names_them rows _ = false

  -- the number of the row that they map to
  abbrev number_in : List Registration → Option ℕ
  number_in rows = option_map (λ row. row.number) (find (is_mapped_to key scope) rows)

-- each number keeps its key and scope, and what none of these notices names maps to what it did
record Tell (old new : List Registration) (notices : List Notice) : Type 0 where
  rows : (key scope : List ℕ) (number : ℕ) → has_them key scope old number ≡ true → has_them key scope new number ≡ true
  stays : (key scope : List ℕ) → list_any (names_them key scope new) notices ≡ false → number_in key scope new ≡ number_in key scope old

stand : (rows : List Registration) (notices : List Notice) → Tell rows rows notices
stand rows notices = record { rows = λ key scope number is. is; stays = λ key scope none. refl }

none_before : (a b : Bool) → (a || b) ≡ false → a ≡ false
none_before a b none = grind (arith, none)

none_behind : (a b : Bool) → (a || b) ≡ false → b ≡ false
none_behind a b none = grind (arith, none)

-- none passes, and so none passes a stronger test
none_weaker : {X : Type 0} (p q : X → Bool) → ((x : X) → p x ≡ true → q x ≡ true) → (xs : List X) → list_any q xs ≡ false → list_any p xs ≡ false
none_weaker p q goes xs none = not_true (λ is. true≢false (sym (any_weaker p q goes xs is) ∙ none))

still_names : (key scope : List ℕ) (old new : List Registration) → ((number : ℕ) → has_them key scope old number ≡ true → has_them key scope new number ≡ true) → (told : Notice) → names_them key scope old told ≡ true → names_them key scope new told ≡ true
still_names key scope old new goes (notice.Mapped number) is = goes number is
still_names key scope old new goes (notice.Unmapped number) is = goes number is
still_names key scope old new goes _ is = absurd cc

both : (one two three : List Registration) (first second : List Notice) → Tell one two first → Tell two three second → Tell one three (first ++ second)
both one two three first second a b = record {
  rows = λ key scope number is. b.rows key scope number (a.rows key scope number is);
  stays = λ key scope none.
      let parts = sym (list_any-append (names_them key scope three) first second) ∙ none in
      b.stays key scope (none_behind _ _ parts)
      ∙ a.stays key scope (none_weaker _ _ (still_names key scope two three (b.rows key scope)) first (none_before _ _ parts));
}

-- ---- changes that move nothing

-- a row is as it was but for what no key and scope tell of
record IsAsBefore (old new : Registration) : Type 0 where
  number : new.number ≡ old.number
  key : new.key ≡ old.key
  scope : new.scope ≡ old.scope
  mapped : new.mapped ≡ old.mapped

same_number : (f : Registration → Registration) → ((x : Registration) → (f x).number ≡ x.number) → (found : Option Registration) → option_map (λ (row : Registration). row.number) (option_map f found) ≡ option_map (λ (row : Registration). row.number) found
same_number f same None = refl
same_number f same (Some row) = ap (λ n. Some n) (same row)

plain : (f : Registration → Registration) → ((x : Registration) → IsAsBefore x (f x)) → (rows : List Registration) (notices : List Notice) → Tell rows (map f rows) notices
plain f as_before rows notices = record {
  rows = λ key scope number is. any_changed (λ (row : Registration). row.number == number && is_theirs key scope row) _ f (λ x here. let same = as_before x in rw (same.number, same.key, same.scope) here) rows is;
  stays = λ key scope none.
      ap (option_map (λ (row : Registration). row.number)) (find_changed (is_mapped_to key scope) (is_mapped_to key scope) f (λ x. let same = as_before x in rw (same.mapped, same.key, same.scope) refl) rows)
      ∙ same_number f (λ x. (as_before x).number) (find (is_mapped_to key scope) rows);
}

some_plain : (test : Registration → Bool) (g : Registration → Registration) → ((x : Registration) → IsAsBefore x (g x)) → (rows : List Registration) (notices : List Notice) → Tell rows (changed test g rows) notices
some_plain test g as_before rows notices =
    plain (λ row. if test row then g row else row) (λ x. by_test (IsAsBefore x) (test x) _ x (λ here. as_before x) (λ other. record { number = refl; key = refl; scope = refl; mapped = refl })) rows notices

-- ---- rows that leave the map

left_rows : (test : Registration → Bool) (rows : List Registration) (key scope : List ℕ) (number : ℕ) → has_them key scope rows number ≡ true → has_them key scope (changed test left rows) number ≡ true
left_rows test rows key scope number is =
    any_changed (λ (row : Registration). row.number == number && is_theirs key scope row) _ _ (λ x here. by_test (λ (row : Registration). (row.number == number && is_theirs key scope row) ≡ true) (test x) _ x (λ gone. here) (λ other. here)) rows is

-- none of those that leave has them
left_found : (test : Registration → Bool) (rows : List Registration) (key scope : List ℕ) → list_all (λ row. not (test row) || not (is_theirs key scope row)) rows ≡ true → find (is_mapped_to key scope) (changed test left rows) ≡ find (is_mapped_to key scope) rows
left_found test [] key scope others = refl
left_found test (row ∷ rows) key scope others =
    by_truth (test row)
    (λ gone. grind (arith, gone, others, left_found test rows key scope))
    (λ stays. grind (arith, stays, others, left_found test rows key scope))

one_left : (registration : ℕ) (rows : List Registration) → Tell rows (changed (is_registration registration) left rows) (notice.Unmapped registration ∷ [])
one_left registration rows = record {
  rows = left_rows (is_registration registration) rows;
  stays = λ key scope none.
      let gone : has_them key scope rows registration ≡ false = not_true (λ is. true≢false (sym (left_rows (is_registration registration) rows key scope registration is) ∙ none_before _ _ none)) in
      ap (option_map (λ (row : Registration). row.number)) (left_found (is_registration registration) rows key scope
      (all_weaker (λ (row : Registration). not (row.number == registration && is_theirs key scope row)) _ (λ row is. grind (arith, is)) rows (all_not (λ (row : Registration). row.number == registration && is_theirs key scope row) rows gone)));
}

-- ---- a row that gets into the map

nothing_more : {X : Type 0} (found : Option X) → option_or found None ≡ found
nothing_more None = refl
nothing_more (Some row) = refl

one_more : (rows : List Registration) (job : Job) → Tell rows (rows ++ new_registration (length rows) job ∷ []) (notice.Mapped (length rows) ∷ [])
one_more rows job =
    let new = new_registration (length rows) job in
    record {
      rows = λ key scope number is. grind (arith, is, list_any-append (λ (row : Registration). row.number == number && is_theirs key scope row) rows (new ∷ []));
      stays = λ key scope none.
          let other : is_theirs key scope new ≡ false = grind (arith, nat_tests, none, list_any-append (λ (row : Registration). row.number == length rows && is_theirs key scope row) rows (new ∷ [])) in
          let found : find (is_mapped_to key scope) (new ∷ []) ≡ None = grind (arith, other) in
          ap (option_map (λ (row : Registration). row.number)) (find-append (is_mapped_to key scope) rows (new ∷ []) ∙ ap (option_or (find (is_mapped_to key scope) rows)) found ∙ nothing_more (find (is_mapped_to key scope) rows));
    }

-- ---- each part of a step

abbrev Tells : State → Told → Type 0
Tells state told = Tell state.registrations told.state.registrations told.notices

further : (state : State) (told : Told) (next : State → Told) → Tells state told → Tells told.state (next told.state) → Tells state (followed told next)
unfolding followed
further state told next = both state.registrations told.state.registrations (next told.state).state.registrations told.notices (next told.state).notices

stands : (state : State) (told : Told) → told.state.registrations ≡ state.registrations → Tells state told
stands state told same = subst (λ rows. Tell state.registrations rows told.notices) (sym same) (stand state.registrations told.notices)

rechecks_tell : IsRecheckLaw Tells
rechecks_tell = record {
  nothing = λ state. stand state.registrations [];
  further = further;
  activating = λ state registration worker is. stands state (activate state registration worker) (ap (λ (s : State). s.registrations) (activate_leaves state registration worker));
  clearing = λ state registration gone unused calm. stands state (clear state registration) (ap (λ (s : State). s.registrations) (clear_only state registration).rest);
}

unload_tells : (state : State) (client : ℕ) → Tells state (unload state client)
unload_tells = unload-law Tells rechecks_tell (λ state client. stand state.registrations [])

leave_tells : (state : State) (client : ℕ) → Tells state (leave state client)
unfolding leave remove_client
leave_tells state client =
    let unloaded = unload state client in
    further state unloaded _ (unload_tells state client) (stand unloaded.state.registrations [])

claim_tells : (state : State) (worker registration number : ℕ) → Tells state (claim_client state worker registration number)
unfolding claim_client take_control
claim_tells state worker registration number =
    let unloaded = unload state number in
    by_test (Tells state) (option_map_or (claims state worker registration) (client_row state number) false) _ _
    (λ claimed. further state unloaded _ (unload_tells state number) (stand unloaded.state.registrations _))
    (λ stays. stand state.registrations [])

claims_tell : (numbers : List ℕ) (state : State) (worker registration : ℕ) → Tells state (claim_clients state worker registration numbers)
unfolding claim_clients
claims_tell [] state worker registration = stand state.registrations []
claims_tell (number ∷ numbers) state worker registration =
    let told = claim_client state worker registration number in
    further state told _ (claim_tells state worker registration number) (claims_tell numbers told.state worker registration)

promise_tells : (state : State) (maker : Who) (awaited : Awaited) → Tells state (promise state maker awaited)
unfolding promise
promise_tells state who.Host awaited = stand state.registrations []
promise_tells state (who.Lane lane at) awaited = stand state.registrations []
promise_tells state (who.Handler worker in_phase number) awaited = stand state.registrations []

unmap_tells : (state : State) (registration : ℕ) → Tells state (unmap state registration)
unfolding unmap
unmap_tells state registration = one_left registration state.registrations

drop_tells : (state : State) (registration : ℕ) → Tells state (drop_registration state registration)
unfolding drop_registration
drop_tells state registration = by_test (Tells state) (is_none (newest_worker state registration)) _ _ (λ gone. unmap_tells state registration) (λ there. stand state.registrations [])

reject_tells : (state : State) (job registration : ℕ) (why : Fault) → Tells state (reject_and_drop state job registration why)
unfolding reject_and_drop settle finish
reject_tells state job registration why =
    let settled = settle state job (settlement.Fault why) in
    let dropped = drop_registration settled.state registration in
    further state settled _ (stand state.registrations _)
    (further settled.state dropped _ (drop_tells settled.state registration) (stand dropped.state.registrations []))

throw_tells : (state : State) (job registration worker : ℕ) → Tells state (throw state job registration worker)
unfolding throw become
throw_tells state job registration worker =
    let discarded = become state worker worker_state.Redundant in
    further state discarded _ (stand state.registrations _) (reject_tells discarded.state job registration (type_error cause.Threw))

fail_tells : (state : State) (row : JobRow) (registration worker : ℕ) → Tells state (fail_install state row registration worker)
unfolding fail_install end_handler become finish
fail_tells state row registration worker =
    let ended = end_handler state worker in
    let discarded = become ended.state worker worker_state.Redundant in
    let gone = if is_none row.remembered then unmap discarded.state registration else quiet discarded.state in
    further state ended _ (stand state.registrations _)
    (further ended.state discarded _ (stand state.registrations _)
    (further discarded.state gone _
    (by_test (Tells discarded.state) (is_none row.remembered) _ _ (λ none. unmap_tells discarded.state registration) (λ there. stand state.registrations []))
    (stand gone.state.registrations [])))

install_tells : (state : State) (job registration : ℕ) (worker : Worker) → Tells state (finish_install state job registration worker)
unfolding finish_install end_handler finish
install_tells state job registration worker =
    let ended = end_handler state worker.number in
    let waiting = become_waiting ended.state registration worker in
    further state ended _ (stand state.registrations _)
    (further ended.state waiting _
    (subst (λ rows. Tell state.registrations rows waiting.notices) (sym (ap (λ (s : State). s.registrations) (waiting_leaves ended.state registration worker)))
    (some_plain (is_registration registration) (placed (first_counter state.registrations)) (λ x. record { number = refl; key = refl; scope = refl; mapped = refl }) state.registrations _))
    (stand waiting.state.registrations []))

forget_tells : (rows : List Registration) (state : State) → Tells state (forget_registrations state rows)
unfolding forget_registrations
forget_tells [] state = stand state.registrations []
forget_tells (row ∷ rows) state =
    let unmapped = unmap state row.number in
    let cleared = clear unmapped.state row.number in
    further state unmapped _ (unmap_tells state row.number)
    (further unmapped.state cleared _ (stands unmapped.state cleared (ap (λ (s : State). s.registrations) (clear_only unmapped.state row.number).rest)) (forget_tells rows cleared.state))

tell_law : IsLaw Tells true
unfolding followed schedule settle finish map_registration set_mode set_preload fetch_script make_worker begin_install remember become start_handler tell_update end_handler become_activated keep add_client add_event remove_event add_cache drop_cache carry_out forget_key add_task settle_task note_call
tell_law = record {
  rechecks = rechecks_tell;
  scheduling = λ state job is. stand state.registrations _;
  promising = λ state maker awaited there. promise_tells state maker awaited;
  settling = λ state job result may. stand state.registrations _;
  finishing = λ state job may. stand state.registrations _;
  mapping = λ state job free. one_more state.registrations job;
  unmapping = unmap_tells;
  moding = λ state registration mode. some_plain (is_registration registration) (λ row. record row { mode = mode }) (λ x. record { number = refl; key = refl; scope = refl; mapped = refl }) state.registrations _;
  preloading = λ state registration on text. some_plain (is_registration registration) (λ row. record row { preload = on; preload_value = text }) (λ x. record { number = refl; key = refl; scope = refl; mapped = refl }) state.registrations _;
  fetching = λ state row registration found may mapped. stand state.registrations _;
  making = λ state row registration fetched at. stand state.registrations _;
  throwing = λ state row registration worker at made. throw_tells state row.job.number registration worker.number;
  beginning = λ state row registration worker at made. stand state.registrations _;
  failing = λ state row registration worker handler is. fail_tells state row registration worker.number;
  installing = λ state row registration worker handler is. install_tells state row.job.number registration worker;
  paying = λ state registration told owed holds.
      both state.registrations (paid registration state).registrations told.state.registrations [] told.notices
      (some_plain (is_registration registration) (λ row. record row { owed = false }) (λ x. record { number = refl; key = refl; scope = refl; mapped = refl }) state.registrations []) holds;
  activated = λ state worker handler next found ended rest.
      let after = (become_activated (end_handler state worker.number).state worker.registration worker.number).state in
      both state.registrations state.registrations (next after).state.registrations (notice.Worker worker.number worker_state.Activated ∷ []) (next after).notices (stand state.registrations _) (rest after);
  opening = λ may state number key url free. stand state.registrations _;
  closing = λ state number. leave_tells state number;
  flagging = λ state worker. stand state.registrations _;
  claiming = λ may state worker active. claims_tell (map (λ client. client.number) state.clients) state worker.number worker.registration;
  adding = λ state client number row worker there controls ready free. stand state.registrations _;
  ending = λ state number. stand state.registrations _;
  caching = λ state key name free. stand state.registrations _;
  dropping = λ state key name. stand state.registrations _;
  carrying = λ state key name ops pairs new there is. stand state.registrations _;
  forgetting = λ state key free. let told = forget_tells (filter (is_mapped_of key) state.registrations) state in record { rows = told.rows; stays = told.stays };
  awaiting = λ state maker key name requests runs. stand state.registrations _;
  answering = λ state number result faulted may. stand state.registrations _;
  noting = λ state worker faulted. stand state.registrations _;
}

-- ---- each step

-- of a coherent state, a row of a number that has them is the one that is found by it
found_theirs : (state : State) (key scope : List ℕ) (number : ℕ) → Coherent state → has_them key scope state.registrations number ≡ true → has_key_and_scope state key scope number ≡ true
found_theirs state key scope number sound is =
    let there = found_any (is_registration number) state.registrations (any_weaker (λ (row : Registration). row.number == number && is_theirs key scope row) _ (λ row here. grind (arith, here)) state.registrations is) in
    let theirs = found_numbered (λ (row : Registration). row.number) (is_theirs key scope) state.registrations number there.0 (places_apart (λ (row : Registration). row.number) state.registrations sound.registrations.numbers) there.1 is in
    ap (λ (found : Option Registration). option_map_or (is_theirs key scope) found false) there.1 ∙ theirs

names_found : (state : State) (key scope : List ℕ) → Coherent state → (told : Notice) → names_them key scope state.registrations told ≡ true → tells_move state key scope told ≡ true
names_found state key scope sound (notice.Mapped number) is = found_theirs state key scope number sound is
names_found state key scope sound (notice.Unmapped number) is = found_theirs state key scope number sound is
names_found state key scope sound _ is = absurd cc

pub tells_its_map : TellsItsMap
tells_its_map = record {
  stays = λ old new happened reply notices key scope sound is none.
      let told = subst (λ (o : Option Outcome). IfSome o (λ outcome. Tells old outcome.told)) is.1 (step-law Tells true tell_law old happened (λ may. refl)) in
      let sound_new = subst Coherent (ap (λ (o : Option Outcome). option_map_or (λ outcome. outcome.told.state) o old) is.1) (step-coherent old happened sound) in
      told.stays key scope (none_weaker _ _ (names_found new key scope sound_new) notices none);
}
