-- Claim keeps a state coherent: the worker that claims stays active while other clients' registrations are rechecked.
use Rattle.std.proofs.Common.{◌≡◌, ◌∙◌, ℕ, Bool, true, false, not, ◌&&◌, ◌||◌, ◌==◌, List, [], ◌∷◌, Option, Some, None, option_map, refl, sym, ap, arith, if◌then◌else◌, subst}
use Rattle.std.specs.List.{list_all, list_any}
use Rattle.std.specs.Prelude.{bytes_eq, option_and_then}
use Rattle.std.specs.Option.{option_map_or}
use Rattle.std.proofs.lemmas.Bool.{and_from, and_parts}
use Rattle.std.proofs.lemmas.Bool.Decides.{nat_tests}
use Rattle.sw_data.specs.declared.rows.ClientRow.{ClientRow}
use Rattle.sw_rules.specs.Clients.{claim_client, claim_clients, claims, leave, take_control}
use Rattle.sw_rules.specs.Registrations.{activate, clear, left_by, unload, used_registration}
use Rattle.sw_rules.specs.Rows.{client_row, has_worker, is_active, is_client, is_number, is_worker, matched_registration_number, registration_of, uses, worker_row}
use Rattle.sw_rules.specs.State.{State, Registration, Worker}
use Rattle.sw_rules.specs.Told.{Told, followed, quiet}
use Rattle.sw_laws.specs.Coherent.{Coherent, is_controlled, is_of_key, is_secured, same_client, share_slot}
use Rattle.sw_laws.proofs.ActivateSteps.{IsChosen, activate-coherent, is_chosen}
use Rattle.sw_laws.proofs.AtOnce.{activated_at_once, are_apart, cleared_at_once}
use Rattle.sw_laws.proofs.Lists.{all_both, all_changed, any_changed, any_weaker, apart_changed, by_option, by_test, find_any, find_passes, found_same, not_true}
use Rattle.sw_laws.proofs.Places.{all_as_found, all_at_found, found_any, found_numbered, places_apart}
use Rattle.sw_laws.proofs.RowSteps.{left_by-coherent, matched_key, remove_client-coherent}
use Rattle.sw_laws.proofs.Split.{IsRecheckLaw, IsRecheckLawOf, release-law, unload-law}
use Rattle.sw_laws.proofs.WorkerSteps.{clear-coherent}

-- ---- the leaving of a registration

abbrev pub StaysCoherent : State → Told → Type 0
StaysCoherent state told = Coherent state → Coherent told.state

pub rechecks_coherently : IsRecheckLaw StaysCoherent
unfolding followed
rechecks_coherently = record {
  nothing = λ state sound. sound;
  further = λ state told next one other sound. other (one sound);
  activating = λ state registration worker is sound. activate-coherent state registration worker (is_chosen state registration worker is sound) sound;
  clearing = λ state registration gone unused calm sound. clear-coherent state registration unused calm sound;
}

pub unload-coherent : (state : State) (client : ℕ) → Coherent state → Coherent (unload state client).state
unload-coherent state client = unload-law StaysCoherent rechecks_coherently (λ before number sound. left_by-coherent before number sound) state client

pub leave-coherent : (state : State) (client : ℕ) → Coherent state → Coherent (leave state client).state
unfolding leave followed
leave-coherent state client sound = remove_client-coherent (unload state client).state client (unload-coherent state client sound)

-- ---- the worker that claims

-- a client of this number may have the worker as its controller
abbrev may_have : State → ℕ → ℕ → ClientRow → Bool
may_have state registration number client =
    not (is_client number client) || (client.secure && list_any (λ row. row.number == registration && bytes_eq row.key client.key) state.registrations)

pub record MayClaim (registration worker number : ℕ) (state : State) : Type 0 where
  pub active : has_worker (λ row. row.registration == registration && is_active row.state) state.workers worker ≡ true
  pub client : list_all (may_have state registration number) state.clients ≡ true

-- what another registration does leaves the worker and the client's place
module _ (registration worker number other : ℕ) (differ : (other == registration) ≡ false) where
  abbrev Stays : State → Told → Type 0
  Stays state told = Coherent state → Coherent told.state × (MayClaim registration worker number state → MayClaim registration worker number told.state)

  activated : (state : State) (picked : ℕ) → IsChosen state other picked → Coherent state → MayClaim registration worker number state → MayClaim registration worker number (activate state other picked).state
  activated state picked is sound may =
      subst (MayClaim registration worker number) (sym (activated_at_once state other picked is.waiting (are_apart state.registrations state.workers sound.workers) is.found is.number)) (record {
        active = any_changed (λ row. row.number == worker && (row.registration == registration && is_active row.state)) _ _ (λ row here. grind (arith, nat_tests, here, differ)) state.workers may.active;
        client = all_changed _ _ _ (λ client here. by_test (λ c. may_have state registration number c ≡ true) (uses state.workers other client) _ client (λ used. here) (λ unused. here)) state.clients may.client;
      })

  cleared : (state : State) → Coherent state → MayClaim registration worker number state → MayClaim registration worker number (clear state other).state
  cleared state sound may =
      subst (MayClaim registration worker number) (sym (cleared_at_once state other (are_apart state.registrations state.workers sound.workers))) (record {
        active = any_changed (λ row. row.number == worker && (row.registration == registration && is_active row.state)) _ _ (λ row here. grind (arith, nat_tests, here, differ)) state.workers may.active;
        client = may.client;
      })

  stays_law : IsRecheckLawOf other Stays
  unfolding followed
  stays_law = record {
    nothing = λ state sound. (sound, λ may. may);
    further = λ state told next one rest sound. let first = one sound in let second = rest first.0 in (second.0, λ may. second.1 (first.1 may));
    activating = λ state picked is sound. (rechecks_coherently.activating state other picked is sound, activated state picked (is_chosen state other picked is sound) sound);
    clearing = λ state gone unused calm sound. (rechecks_coherently.clearing state other gone unused calm sound, cleared state sound);
  }

left_may : (registration worker number client : ℕ) (state : State) → MayClaim registration worker number state → MayClaim registration worker number (left_by client state)
left_may registration worker number client state may = record {
  active = may.active;
  client = all_changed _ _ _ (λ row here. by_test (λ c. may_have state registration number c ≡ true) (is_client client row) _ row (λ is. here) (λ other. here)) state.clients may.client;
}

slots_symmetric : (x y : Worker) → share_slot x y ≡ share_slot y x
slots_symmetric x y = grind (arith, nat_tests)

number_clash : (n m : ℕ) → (n == m) ≡ false → n ≡ m → ⊥
number_clash n m other same = grind (arith, nat_tests, other, same)

-- two active workers of one registration are one
active_one : (state : State) (registration one other : ℕ) → Coherent state → has_worker (λ row. row.registration == registration && is_active row.state) state.workers one ≡ true → has_worker (λ row. row.registration == registration && is_active row.state) state.workers other ≡ true → one ≡ other
active_one state registration one other sound is was =
    let p = λ (n : ℕ) (row : Worker). row.number == n && (row.registration == registration && is_active row.state) in
    let x = found_any (p one) state.workers is in
    let y = found_any (p other) state.workers was in
    let px = find_passes (p one) state.workers x.0 x.1 in
    let py = find_passes (p other) state.workers y.0 y.1 in
    let same : x.0 ≡ y.0 = found_same share_slot slots_symmetric (p one) (p other) state.workers x.0 y.0 sound.workers.slots x.1 y.1 (grind (arith, nat_tests, px, py)) in
    let first : x.0.number ≡ one = grind (arith, nat_tests, px) in
    let second : y.0.number ≡ other = grind (arith, nat_tests, py) in
    sym first ∙ (ap (λ (w : Worker). w.number) same ∙ second)

-- the registration that a client leaves isn't that of the worker which claims it
module _ (state : State) (worker registration : ℕ) (sound : Coherent state) where
  active_of : (n other : ℕ) → (other == registration) ≡ true → (found : Option Worker) → worker_row state n ≡ found → has_worker (λ row. is_active row.state) state.workers n ≡ true → option_map (λ (row : Worker). row.registration) found ≡ Some other
      → has_worker (λ row. row.registration == registration && is_active row.state) state.workers n ≡ true
  active_of n other same None is active got = absurd cc
  active_of n other same (Some row) is active got =
      let here = found_numbered (λ (w : Worker). w.number) (λ w. is_active w.state) state.workers n row (places_apart (λ w. w.number) state.workers sound.workers.numbers) is active in
      let of : row.registration ≡ other = cc in
      find_any (is_worker n) (λ w. w.number == n && (w.registration == registration && is_active w.state)) state.workers row is (grind (arith, nat_tests, find_passes (is_worker n) state.workers row is, here, of, same))

  left_by_worker : (controller : Option ℕ) (other : ℕ) → option_map_or (has_worker (λ row. is_active row.state) state.workers) controller true ≡ true → is_number controller worker ≡ false → option_and_then (registration_of state) controller ≡ Some other
      → has_worker (λ row. row.registration == registration && is_active row.state) state.workers worker ≡ true → (other == registration) ≡ false
  left_by_worker None other active free is claims_it = absurd cc
  left_by_worker (Some n) other active free is claims_it = not_true (λ same. number_clash n worker free (active_one state registration n worker sound (active_of n other same (worker_row state n) refl active is) claims_it))

-- ---- one client

controls_active : (registration worker : ℕ) (workers : List Worker) → has_worker (λ row. row.registration == registration && is_active row.state) workers worker ≡ true → has_worker (λ row. is_active row.state) workers worker ≡ true
controls_active registration worker workers is = any_weaker (λ row. row.number == worker && (row.registration == registration && is_active row.state)) _ (λ row here. grind (arith, here)) workers is

has_place : (here secure keyed : Bool) → here ≡ true → (not here || (secure && keyed)) ≡ true → (secure ≡ true) × (keyed ≡ true)
has_place here secure keyed is may = (grind (arith, is, may), grind (arith, is, may))

controls_key : (state : State) (registration worker number : ℕ) (client : ClientRow) → is_client number client ≡ true → may_have state registration number client ≡ true → has_worker (λ row. row.registration == registration && is_active row.state) state.workers worker ≡ true
    → (client.secure && has_worker (is_of_key state.registrations client.key) state.workers worker) ≡ true
controls_key state registration worker number client here may active =
    let parts = has_place (is_client number client) client.secure _ here may in
    and_from _ _ parts.0 (any_weaker (λ row. row.number == worker && (row.registration == registration && is_active row.state)) _
    (λ row is. grind (arith, nat_tests, is, parts.1, λ (e : row.registration ≡ registration). ap (λ n. list_any (λ (found : Registration). found.number == n && bytes_eq found.key client.key) state.registrations) e)) state.workers active)

number_is : (o : Option ℕ) (n : ℕ) → is_number o n ≡ true → o ≡ Some n
number_is None n is = absurd cc
number_is (Some m) n is = ap (λ k. Some k) (grind (arith, nat_tests, is))

control-coherent : (registration worker number : ℕ) (state : State) → MayClaim registration worker number state → Coherent state → Coherent (take_control state worker number).state
unfolding take_control
control-coherent registration worker number state may sound = record {
  registrations = sound.registrations;
  workers = sound.workers;
  jobs = sound.jobs;
  work = sound.work;
  tasks = sound.tasks;
  clients = record {
    numbers = apart_changed same_client _ (λ x y fine. grind (arith, fine)) state.clients sound.clients.numbers;
    controllers = all_changed _ _ _ (λ client is. by_test (λ c. is_controlled state.workers c ≡ true) (is_client number client) _ client (λ here. controls_active registration worker state.workers may.active) (λ other. is)) state.clients sound.clients.controllers;
    keys = all_changed _ _ _ (λ client is. let parts = and_parts _ _ is in by_test (λ c. is_secured state.registrations state.workers c ≡ true) (is_client number client) _ client
        (λ here. controls_key state registration worker number client here parts.1 may.active) (λ other. parts.0)) state.clients (all_both _ _ state.clients sound.clients.keys may.client);
  };
  events = sound.events;
  caches = sound.caches;
  promises = sound.promises;
}

-- what is known where a client is claimed
pub claims_may : (state : State) (worker registration number : ℕ) (client : ClientRow) → client_row state number ≡ Some client → claims state worker registration client ≡ true
    → has_worker (λ row. row.registration == registration && is_active row.state) state.workers worker ≡ true → Coherent state → MayClaim registration worker number state
claims_may state worker registration number client there is active sound = record {
  active = active;
  client =
      all_as_found same_client (is_client number) (λ c. c.secure && list_any (λ row. row.number == registration && bytes_eq row.key c.key) state.registrations) (λ x y one other. grind (arith, nat_tests, one, other)) state.clients client sound.clients.numbers there
      (and_from _ _ (grind (arith, is)) (matched_key state client.key client.url registration (number_is (matched_registration_number state client.key client.url) registration (grind (arith, is)))));
}

pub unloaded : (state : State) (worker registration number : ℕ) (client : ClientRow) → client_row state number ≡ Some client → claims state worker registration client ≡ true
    → Coherent state → MayClaim registration worker number state → MayClaim registration worker number (unload state number).state
unfolding unload followed
unloaded state worker registration number client there claims_it sound may =
    by_option (λ (told : Told). MayClaim registration worker number told.state) (used_registration state number) _ _ (λ none. may)
    (λ other is.
    let controller : option_and_then (registration_of state) client.controller ≡ Some other = rw there at is in
    let differ = left_by_worker state worker registration sound client.controller other (all_at_found (is_client number) (is_controlled state.workers) state.clients client there sound.clients.controllers) (grind (arith, claims_it)) controller may.active in
    (release-law (Stays registration worker number other differ) other (stays_law registration worker number other differ) (left_by number state) (left_by-coherent state number sound)).1 (left_may registration worker number number state may))

-- the worker stays active while one client is claimed
pub record IsClaimed (registration worker : ℕ) (told : Told) : Type 0 where
  pub coherent : Coherent told.state
  pub active : has_worker (λ row. row.registration == registration && is_active row.state) told.state.workers worker ≡ true

pub controlled_after : (registration worker number : ℕ) (state : State) → MayClaim registration worker number state → Coherent state → IsClaimed registration worker (take_control state worker number)
unfolding take_control
controlled_after registration worker number state may sound = record { coherent = control-coherent registration worker number state may sound; active = may.active }

taken : (state : State) (worker registration number : ℕ) (client : ClientRow) → client_row state number ≡ Some client → claims state worker registration client ≡ true
    → has_worker (λ row. row.registration == registration && is_active row.state) state.workers worker ≡ true → Coherent state
    → IsClaimed registration worker (followed (unload state number) (λ left. take_control left worker number))
unfolding followed
taken state worker registration number client there claims_it active sound =
    let may = claims_may state worker registration number client there claims_it active sound in
    let left = unloaded state worker registration number client there claims_it sound may in
    let fine = unload-coherent state number sound in
    let after = controlled_after registration worker number (unload state number).state left fine in
    record { coherent = after.coherent; active = after.active }

pub claimed_one : (state : State) (worker registration number : ℕ) (found : Option ClientRow) → client_row state number ≡ found → has_worker (λ row. row.registration == registration && is_active row.state) state.workers worker ≡ true → Coherent state
    → IsClaimed registration worker (if option_map_or (claims state worker registration) found false then followed (unload state number) (λ left. take_control left worker number) else quiet state)
claimed_one state worker registration number None is active sound = record { coherent = sound; active = active }
claimed_one state worker registration number (Some client) is active sound =
    by_test (IsClaimed registration worker) (claims state worker registration client) _ _
    (λ claims_it. taken state worker registration number client is claims_it active sound)
    (λ none_claimed. record { coherent = sound; active = active })

-- ---- all clients

claimed : (numbers : List ℕ) (state : State) (worker registration : ℕ) → has_worker (λ row. row.registration == registration && is_active row.state) state.workers worker ≡ true → Coherent state → IsClaimed registration worker (claim_clients state worker registration numbers)
unfolding claim_clients claim_client followed
claimed [] state worker registration active sound = record { coherent = sound; active = active }
claimed (number ∷ numbers) state worker registration active sound =
    let one = claimed_one state worker registration number (client_row state number) refl active sound in
    let others = claimed numbers (claim_client state worker registration number).state worker registration one.active one.coherent in
    record { coherent = others.coherent; active = others.active }

pub claim-coherent : (state : State) (worker : Worker) (numbers : List ℕ) → has_worker (λ row. row.registration == worker.registration && is_active row.state) state.workers worker.number ≡ true → Coherent state → Coherent (claim_clients state worker.number worker.registration numbers).state
claim-coherent state worker numbers active sound = (claimed numbers state worker.number worker.registration active sound).coherent

-- ---- a law of a claim

-- a state stays coherent, and the law holds
abbrev pub Beside : (State → Told → Type 0) → State → Told → Type 0
Beside Law state told = Coherent state → Coherent told.state × Law state told

-- of a coherent state, a law that holds where a registration is rechecked, where a client leaves one and where a client
-- gets a controller holds of a claim
module _ (Law : State → Told → Type 0) (law : IsRecheckLaw (Beside Law)) (leaving : (state : State) (client : ℕ) → Law state (quiet (left_by client state))) (controlling : (state : State) (worker client : ℕ) → Law state (take_control state worker client)) where
  pub unload-beside : (state : State) (client : ℕ) → Beside Law state (unload state client)
  unload-beside state client = unload-law (Beside Law) law (λ before number sound. (left_by-coherent before number sound, leaving before number)) state client

  claim-law : (state : State) (worker registration number : ℕ) → has_worker (λ row. row.registration == registration && is_active row.state) state.workers worker ≡ true → Coherent state → Law state (claim_client state worker registration number)
  unfolding claim_client followed
  claim-law state worker registration number active sound =
      by_test (λ (told : Told). Coherent told.state → Law state told) (option_map_or (claims state worker registration) (client_row state number) false) _ _
      (λ claims_it fine. (law.further state (unload state number) (λ left. take_control left worker number) (unload-beside state number) (λ left. (fine, controlling (unload state number).state worker number)) sound).1)
      (λ none_claimed fine. (law.nothing state sound).1)
      (claimed_one state worker registration number (client_row state number) refl active sound).coherent

  claim-one : (state : State) (worker registration number : ℕ) → has_worker (λ row. row.registration == registration && is_active row.state) state.workers worker ≡ true → Coherent state → IsClaimed registration worker (claim_client state worker registration number)
  unfolding claim_client
  claim-one state worker registration number active sound = claimed_one state worker registration number (client_row state number) refl active sound

  pub claims-law : (numbers : List ℕ) (state : State) (worker registration : ℕ) → has_worker (λ row. row.registration == registration && is_active row.state) state.workers worker ≡ true → Coherent state → Law state (claim_clients state worker registration numbers)
  unfolding claim_clients
  claims-law [] state worker registration active sound = (law.nothing state sound).1
  claims-law (number ∷ numbers) state worker registration active sound =
      let told = claim_client state worker registration number in
      let one = claim-one state worker registration number active sound in
      (law.further state told _ (λ fine. (one.coherent, claim-law state worker registration number active sound))
      (λ fine. ((claimed numbers told.state worker registration one.active one.coherent).coherent, claims-law numbers told.state worker registration one.active one.coherent)) sound).1
