-- In every legal history each controller is null or the active worker that matching or claiming gave.
use Rattle.std.proofs.Common.{◌≡◌, ◌∙◌, ◌⊎◌, inl, inr, ℕ, Bool, true, false, ◌&&◌, ◌||◌, ◌==◌, List, [], ◌∷◌, ◌++◌, map, filter, Option, Some, None, option_map, refl, sym, ap, subst, true≢false, arith, if◌then◌else◌}
use Rattle.std.specs.List.{list_all, list_any}
use Rattle.std.specs.Prelude.{All, find, option_and_then}
use Rattle.std.specs.Option.{option_map_or}
use Rattle.std.proofs.lemmas.Bool.{and_parts}
use Rattle.std.proofs.lemmas.Bool.Decides.{nat_tests}
use Rattle.std.proofs.lemmas.List.Elements.{All-cons, All-nil}
use Rattle.std.proofs.lemmas.List.Folds.{list_any-append}
use Rattle.sw_data.specs.declared.answers.Notice.{Notice}
use Rattle.sw_data.specs.declared.answers.Notice.TheVariants as notice
use Rattle.sw_data.specs.declared.rows.ClientRow.{ClientRow}
use Rattle.sw_data.specs.declared.workers.Slot.TheVariants as slot
use Rattle.sw_data.specs.declared.workers.Slot.{Slot}
use Rattle.sw_data.specs.declared.workers.WorkerState.TheVariants as worker_state
use Rattle.sw_data.specs.declared.workers.WorkerState.{WorkerState}
use Rattle.sw_rules.specs.Clients.{claim_client, claim_clients, claims, take_control}
use Rattle.sw_rules.specs.History.{ControlledIn, HasGiven, IsSomeWorker, tells_change}
use Rattle.sw_rules.specs.Registrations.{activate, become, chosen, clear, controlled_by, left_by, recheck, release, retire, start_handler, take_over, try_activate, try_clear, unload, used_registration}
use Rattle.sw_rules.specs.Rows.{active_worker_number, changed, client_row, has_pending_worker, has_worker, in_slot, is_active, is_client, is_mapped, is_used, is_worker, slot_worker, uses}
use Rattle.sw_rules.specs.State.{State, Worker}
use Rattle.sw_rules.specs.Told.{Told, followed, keep, quiet}
use Rattle.sw_laws.specs.Coherent.{Coherent, is_controlled, share_slot}
use Rattle.sw_laws.proofs.AtOnce.{used_same}
use Rattle.sw_laws.proofs.ClaimSteps.{claimed_one, claims_may, unload-coherent, unloaded}
use Rattle.sw_laws.proofs.Held.{HoldsBut, held, or_is, owner_found, owner_of, unload_holds}
use Rattle.sw_laws.proofs.HeldLaw.{nobody}
use Rattle.sw_laws.proofs.Lists.{any_weaker, by_option, by_test, find_passes, found_by}
use Rattle.sw_laws.proofs.Places.{found_numbered, not_there, places_apart}

-- ---- what a client holds is what it was given

holds_active : (state : State) (number registration : ℕ) (found : Option Worker) → Coherent state → find (is_worker number) state.workers ≡ found → option_map (λ (row : Worker). row.registration) found ≡ Some registration → has_worker (λ row. is_active row.state) state.workers number ≡ true
    → IsSomeWorker (active_worker_number state registration) (Some number)
holds_active state number registration None sound is owner active = absurd cc
holds_active state number registration (Some row) sound is owner active =
    let of : row.registration ≡ registration = cc in
    let here : is_active row.state ≡ true = found_numbered (λ (w : Worker). w.number) (λ w. is_active w.state) state.workers number row (places_apart (λ w. w.number) state.workers sound.workers.numbers) is active in
    let same : row.number ≡ number = grind (arith, nat_tests, find_passes (is_worker number) state.workers row is) in
    let found : slot_worker state slot.Active registration ≡ Some row =
    found_by share_slot (is_worker number) (λ w. w.registration == registration && in_slot slot.Active w.state) state.workers row sound.workers.slots is (grind (arith, nat_tests, of, here)) (λ y passes. grind (arith, nat_tests, of, here, passes)) in
    rw found (ap (λ (n : ℕ). Some n) (sym same))

none_owned : (workers : List Worker) (number : ℕ) (found : Option Worker) → find (is_worker number) workers ≡ found → option_map (λ (row : Worker). row.registration) found ≡ None → has_worker (λ row. is_active row.state) workers number ≡ true → ⊥
none_owned workers number None is owner active = not_there (λ (w : Worker). w.number) (λ w. is_active w.state) workers number is active
none_owned workers number (Some row) is owner active = absurd cc

given_by_owner : (state : State) (client : ClientRow) (number : ℕ) (owner : Option ℕ) → owner_of state.workers number ≡ owner → Coherent state → client.controller ≡ Some number → has_worker (λ row. is_active row.state) state.workers number ≡ true → HasGiven state client owner
given_by_owner state client number None is sound here active = absurd (none_owned state.workers number (find (is_worker number) state.workers) refl is active)
given_by_owner state client number (Some registration) is sound here active = rw here (holds_active state number registration (find (is_worker number) state.workers) sound refl is active)

has_given : (state : State) (client : ClientRow) (controller : Option ℕ) → Coherent state → client.controller ≡ controller → is_controlled state.workers client ≡ true → HasGiven state client (held state.workers client)
has_given state client None sound is fine = rw is refl
has_given state client (Some number) sound is fine =
    let active : has_worker (λ row. is_active row.state) state.workers number ≡ true = rw is at fine in
    subst (λ (o : Option ℕ). HasGiven state client (option_and_then (owner_of state.workers) o)) (sym is) (given_by_owner state client number (owner_of state.workers number) refl sound is active)

pub held_is : (given : ℕ → Option ℕ) (workers : List Worker) (c : ClientRow) → (nobody c.number ≡ true) ⊎ (held workers c ≡ given c.number) → held workers c ≡ given c.number
held_is given workers c (inl never) = absurd cc
held_is given workers c (inr same) = same

controls_all : (state : State) (given : ℕ → Option ℕ) (clients : List ClientRow) → Coherent state → list_all (is_controlled state.workers) clients ≡ true → HoldsBut nobody given state.workers clients → All (λ client. HasGiven state client (given client.number)) clients
controls_all state given [] sound fine holds = All-nil (λ client. HasGiven state client (given client.number))
controls_all state given (c ∷ cs) sound fine holds =
    let parts = and_parts (is_controlled state.workers c) (list_all (is_controlled state.workers) cs) fine in
    All-cons (λ client. HasGiven state client (given client.number)) c cs (subst (λ (o : Option ℕ). HasGiven state c o) (held_is given state.workers c holds.0) (has_given state c c.controller sound refl parts.0)) (controls_all state given cs sound parts.1 holds.1)

pub controlled_in : (state : State) (given : ℕ → Option ℕ) → Coherent state → HoldsBut nobody given state.workers state.clients → ControlledIn state given
controlled_in state given sound holds = controls_all state given state.clients sound sound.clients.controllers holds

-- ---- a claim tells of each client that it claims, and of no other

none_used : (test : ClientRow → Bool) (f : ClientRow → Notice) (clients : List ClientRow) → list_any test clients ≡ false → map f (filter test clients) ≡ []
none_used test f [] none = refl
none_used test f (c ∷ cs) none = grind (arith, none, none_used test f cs)

abbrev tells_nothing : Told → Type 0
tells_nothing told = (client : ℕ) → list_any (tells_change client) told.notices ≡ false

append_quiet : (client : ℕ) (one other : List Notice) → list_any (tells_change client) one ≡ false → list_any (tells_change client) other ≡ false → list_any (tells_change client) (one ++ other) ≡ false
append_quiet client one other is was = grind (arith, is, was, list_any-append (tells_change client) one other)

unused_after : (registration : ℕ) (f : Worker → Worker) → ((x : Worker) → (f x).number ≡ x.number) → ((x : Worker) → (f x).registration ≡ x.registration) → (workers : List Worker) (clients : List ClientRow) → list_any (uses workers registration) clients ≡ false → list_any (uses (map f workers) registration) clients ≡ false
unused_after registration f number owner workers [] none = refl
unused_after registration f number owner workers (c ∷ cs) none = grind (arith, none, used_same registration f number owner workers c, unused_after registration f number owner workers cs)

unused_become : (state : State) (worker registration : ℕ) (to : WorkerState) → is_used state registration ≡ false → is_used (become state worker to).state registration ≡ false
unfolding become
unused_become state worker registration to unused = unused_after registration (λ row. if is_worker worker row then record row { state = to } else row) (λ row. grind arith) (λ row. grind arith) state.workers state.clients unused

unused_retire : (state : State) (place : Slot) (registration : ℕ) → is_used state registration ≡ false → is_used (retire state place registration).state registration ≡ false
unfolding retire
unused_retire state place registration unused =
    by_option (λ (told : Told). is_used told.state registration ≡ false) (slot_worker state place registration) _ _ (λ none. unused) (λ old is. unused_become state old.number registration worker_state.Redundant unused)

unused_clear : (state : State) (registration : ℕ) → is_used state registration ≡ false → is_used (clear state registration).state registration ≡ false
unfolding clear followed
unused_clear state registration unused =
    let one = (retire state slot.Installing registration).state in
    let two = (retire one slot.Waiting registration).state in
    unused_retire two slot.Active registration (unused_retire one slot.Waiting registration (unused_retire state slot.Installing registration unused))

become_quiet : (state : State) (worker : ℕ) (to : WorkerState) → tells_nothing (become state worker to)
unfolding become
become_quiet state worker to client = refl

retire_quiet : (state : State) (place : Slot) (registration : ℕ) → tells_nothing (retire state place registration)
unfolding retire
retire_quiet state place registration = by_option tells_nothing (slot_worker state place registration) _ _ (λ none client. refl) (λ old is. become_quiet state old.number worker_state.Redundant)

clear_quiet : (state : State) (registration : ℕ) → tells_nothing (clear state registration)
unfolding clear followed
clear_quiet state registration client =
    let one = retire state slot.Installing registration in
    let two = retire one.state slot.Waiting registration in
    let three = retire two.state slot.Active registration in
    append_quiet client one.notices (two.notices ++ three.notices) (retire_quiet state slot.Installing registration client)
    (append_quiet client two.notices three.notices (retire_quiet one.state slot.Waiting registration client) (retire_quiet two.state slot.Active registration client))

-- a registration that no client uses
activate_quiet : (state : State) (registration worker : ℕ) → is_used state registration ≡ false → tells_nothing (activate state registration worker)
unfolding activate followed keep take_over start_handler
activate_quiet state registration worker unused client =
    let retired = retire state slot.Active registration in
    let activating = become retired.state worker worker_state.Activating in
    rw (none_used (uses activating.state.workers registration) (λ row. notice.ControllerChange row.number) activating.state.clients (unused_become retired.state worker registration worker_state.Activating (unused_retire state slot.Active registration unused)))
    (append_quiet client retired.notices (activating.notices ++ []) (retire_quiet state slot.Active registration client)
    (append_quiet client activating.notices [] (become_quiet retired.state worker worker_state.Activating client) refl))

try_activate_quiet : (state : State) (registration : ℕ) → is_used state registration ≡ false → tells_nothing (try_activate state registration)
unfolding try_activate
try_activate_quiet state registration unused = by_option tells_nothing (chosen state registration) _ _ (λ none client. refl) (λ worker is. activate_quiet state registration worker unused)

recheck_quiet : (state : State) (registration : ℕ) → is_used state registration ≡ false → tells_nothing (recheck state registration)
unfolding recheck try_clear followed
recheck_quiet state registration unused =
    by_test (λ (told : Told). (client : ℕ) → list_any (tells_change client) (told.notices ++ (try_activate told.state registration).notices) ≡ false) (is_mapped state registration) _ _
    (λ mapped client. try_activate_quiet state registration unused client)
    (λ gone. by_test (λ (told : Told). (client : ℕ) → list_any (tells_change client) (told.notices ++ (try_activate told.state registration).notices) ≡ false) (is_used state registration || has_pending_worker state registration) _ _
    (λ busy client. try_activate_quiet state registration unused client)
    (λ idle client. append_quiet client (clear state registration).notices (try_activate (clear state registration).state registration).notices (clear_quiet state registration client) (try_activate_quiet (clear state registration).state registration (unused_clear state registration unused) client)))

release_quiet : (state : State) (registration : ℕ) → tells_nothing (release state registration)
unfolding release
release_quiet state registration = by_test tells_nothing (is_used state registration) _ _ (λ used client. refl) (λ unused. recheck_quiet state registration unused)

unload_quiet : (state : State) (number : ℕ) → tells_nothing (unload state number)
unfolding unload followed
unload_quiet state number = by_option tells_nothing (used_registration state number) _ _ (λ none client. refl) (λ registration is. release_quiet (left_by number state) registration)

-- ---- one client is claimed

-- what each client was given after these notices of a claim
abbrev pub given_after : List Notice → ℕ → (ℕ → Option ℕ) → ℕ → Option ℕ
given_after notices registration given client = if list_any (tells_change client) notices then Some registration else given client

told_given : (notices : List Notice) (registration : ℕ) (given : ℕ → Option ℕ) (client : ℕ) → list_any (tells_change client) notices ≡ true → given_after notices registration given client ≡ Some registration
told_given notices registration given client is = rw is refl

untold_given : (notices : List Notice) (registration : ℕ) (given : ℕ → Option ℕ) (client : ℕ) → list_any (tells_change client) notices ≡ false → given_after notices registration given client ≡ given client
untold_given notices registration given client is = rw is refl

both_given : (registration : ℕ) (one other : List Notice) (given : ℕ → Option ℕ) (client : ℕ) → given_after (one ++ other) registration given client ≡ given_after other registration (given_after one registration given) client
both_given registration one other given client = grind (arith, list_any-append (tells_change client) one other)

number_apart : (number other : ℕ) → (other == number) ≡ false → (number == other) ≡ false
number_apart number other is = grind (arith, nat_tests, is)

kept_given : (number : ℕ) (given : ℕ → Option ℕ) (notices : List Notice) (registration : ℕ) (workers : List Worker) (c : ClientRow) → is_client number c ≡ false → list_any (tells_change c.number) notices ≡ (number == c.number)
    → (or_is nobody number c.number ≡ true) ⊎ (held workers c ≡ given c.number) → held workers c ≡ given_after notices registration given c.number
kept_given number given notices registration workers c other tells (inl free) = absurd (true≢false (sym free ∙ other))
kept_given number given notices registration workers c other tells (inr same) = same ∙ sym (untold_given notices registration given c.number (tells ∙ number_apart number c.number other))

-- the claimed client holds the worker's registration, and the others what they had
taken_holds : (registration worker number : ℕ) (given : ℕ → Option ℕ) (notices : List Notice) (workers : List Worker) (clients : List ClientRow) → owner_of workers worker ≡ Some registration
    → ((client : ℕ) → list_any (tells_change client) notices ≡ (number == client))
    → HoldsBut (or_is nobody number) given workers clients → HoldsBut nobody (given_after notices registration given) workers (changed (is_client number) (controlled_by worker) clients)
taken_holds registration worker number given notices workers [] owner tells holds = tt
taken_holds registration worker number given notices workers (c ∷ cs) owner tells holds = (
  inr (by_test (λ (row : ClientRow). held workers row ≡ given_after notices registration given row.number) (is_client number c) _ c
      (λ is. owner ∙ sym (told_given notices registration given c.number (tells c.number ∙ grind (arith, nat_tests, is))))
      (λ other. kept_given number given notices registration workers c other (tells c.number) holds.0)),
  taken_holds registration worker number given notices workers cs owner tells holds.1,
)

-- a claim of one client leaves each client what it has told
abbrev Gives : ℕ → State → Told → Type 0
Gives registration state told = (given : ℕ → Option ℕ) → HoldsBut nobody given state.workers state.clients → HoldsBut nobody (given_after told.notices registration given) told.state.workers told.state.clients

claim_tells : (state : State) (worker number client : ℕ) → list_any (tells_change client) ((unload state number).notices ++ (take_control (unload state number).state worker number).notices) ≡ (number == client)
unfolding take_control
claim_tells state worker number client = grind (arith, unload_quiet state number client, list_any-append (tells_change client) (unload state number).notices (notice.ControllerChange number ∷ []))

worker_owner : (state : State) (worker registration : ℕ) → Coherent state → has_worker (λ row. row.registration == registration && is_active row.state) state.workers worker ≡ true → owner_of state.workers worker ≡ Some registration
worker_owner state worker registration sound active =
    owner_found state.workers registration worker (find (is_worker worker) state.workers) (places_apart (λ w. w.number) state.workers sound.workers.numbers) refl
    (any_weaker (λ row. row.number == worker && (row.registration == registration && is_active row.state)) _ (λ row here. grind (arith, here)) state.workers active)

taken_gives : (state : State) (worker registration number : ℕ) (client : ClientRow) → client_row state number ≡ Some client → claims state worker registration client ≡ true
    → has_worker (λ row. row.registration == registration && is_active row.state) state.workers worker ≡ true → Coherent state → Gives registration state (followed (unload state number) (λ left. take_control left worker number))
unfolding followed take_control
taken_gives state worker registration number client there claims_it active sound given holds =
    let may = unloaded state worker registration number client there claims_it sound (claims_may state worker registration number client there claims_it active sound) in
    let left = (unload state number).state in
    taken_holds registration worker number given ((unload state number).notices ++ notice.ControllerChange number ∷ []) left.workers left.clients
    (worker_owner left worker registration (unload-coherent state number sound) may.active) (claim_tells state worker number) (unload_holds nobody number given state sound holds)

one_gives : (state : State) (worker registration number : ℕ) (found : Option ClientRow) → client_row state number ≡ found → has_worker (λ row. row.registration == registration && is_active row.state) state.workers worker ≡ true → Coherent state
    → Gives registration state (if option_map_or (claims state worker registration) found false then followed (unload state number) (λ left. take_control left worker number) else quiet state)
one_gives state worker registration number None is active sound = λ given holds. holds
one_gives state worker registration number (Some client) is active sound =
    by_test (Gives registration state) (claims state worker registration client) _ _ (λ claims_it. taken_gives state worker registration number client is claims_it active sound) (λ none_claimed given holds. holds)

-- ---- all clients are claimed

gives_both : (registration : ℕ) (one other : List Notice) (given : ℕ → Option ℕ) (workers : List Worker) (clients : List ClientRow) → HoldsBut nobody (given_after other registration (given_after one registration given)) workers clients → HoldsBut nobody (given_after (one ++ other) registration given) workers clients
gives_both registration one other given workers [] holds = tt
gives_both registration one other given workers (c ∷ cs) holds =
    (inr (held_is (given_after other registration (given_after one registration given)) workers c holds.0 ∙ sym (both_given registration one other given c.number)), gives_both registration one other given workers cs holds.1)

pub claims_give : (numbers : List ℕ) (state : State) (worker registration : ℕ) → has_worker (λ row. row.registration == registration && is_active row.state) state.workers worker ≡ true → Coherent state → Gives registration state (claim_clients state worker registration numbers)
unfolding claim_clients claim_client followed
claims_give [] state worker registration active sound given holds = holds
claims_give (number ∷ numbers) state worker registration active sound given holds =
    let one = claimed_one state worker registration number (client_row state number) refl active sound in
    let first = one_gives state worker registration number (client_row state number) refl active sound given holds in
    let told = claim_client state worker registration number in
    let rest = claim_clients told.state worker registration numbers in
    gives_both registration told.notices rest.notices given rest.state.workers rest.state.clients
    (claims_give numbers told.state worker registration one.active one.coherent (given_after told.notices registration given) first)
