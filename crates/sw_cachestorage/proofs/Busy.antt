-- Handlers and fetch events of a key are those of the workers of its registrations.
use Rattle.std.proofs.Common.{◌≡◌, ◌∙◌, ◌+◌, ◌&&◌, ◌||◌, ◌==◌, ℕ, Bool, true, false, List, [], ◌∷◌, map, drop, bytes_eq, is_some, Option, Some, None, option_map, option_and_then, refl, sym, ap, arith}
use Rattle.std.specs.Prelude.{find}
use Rattle.std.specs.List.{list_any, range_with_len}
use Rattle.std.specs.Option.{option_map_or}
use Rattle.std.specs.Cmp.Lexicographic.{bytes_decides}
use Rattle.std.proofs.lemmas.Bool.{and_parts}
use Rattle.std.proofs.lemmas.Bool.Decides.{nat_tests}
use Rattle.std.proofs.lemmas.List.{length-map}
use Rattle.sw_cachestorage.proofs.Walks.{HasKeyAt, ahead, at_one, own_number}
use Rattle.sw_cachestorage.specs.Forgetting.{has_pending_of}
use Rattle.sw_data.specs.declared.rows.RegistrationRow.{RegistrationRow}
use Rattle.sw_rules.specs.Forgetting.{is_worker_of_key}
use Rattle.sw_rules.specs.Rows.{has_pending_worker, is_registration, is_worker}
use Rattle.sw_rules.specs.State.{State, FetchEvent, Registration, Worker}
use Rattle.sw_state.specs.Hosted.{Hosted, IsJoined, rest_of, shown_of, state_of}
use Rattle.sw_tables.proofs.Pending.{any_here, none_pending, pending_worker}
use Rattle.sw_tables.proofs.Rows.{find_passes, found_at, found_number}
use Rattle.sw_tables.specs.Lent.{shown_worker}
use Rattle.sw_tables.specs.Linked.{ArePlaces}
use Rattle.sw_tables.specs.Shifts.{IsQuiet}

any_find : {X : Type 0} (test : X → Bool) (xs : List X) → list_any test xs ≡ true → (x : X) × (find test xs ≡ Some x)
any_find test [] is = absurd cc
any_find {X = X} test (x ∷ xs) is = by (test x) refl (any_find test xs)
  where
    by : (b : Bool) → test x ≡ b → (list_any test xs ≡ true → (y : X) × (find test xs ≡ Some y)) → (y : X) × (find test (x ∷ xs) ≡ Some y)
    by true passes rest = (x, cc (passes))
    by false fails rest = let later = rest (grind (arith, fails, is)) in let same = later.1 in (later.0, grind (arith, fails, same))

same_tests : (a b : Bool) → (a ≡ true → b ≡ true) → (b ≡ true → a ≡ true) → a ≡ b
same_tests true b to from = sym (to refl)
same_tests false true to from = from refl
same_tests false false to from = refl

bytes_back : (x y : List ℕ) → bytes_eq x y ≡ true → bytes_eq y x ≡ true
bytes_back x y is = (bytes_decides y x).1 (sym ((bytes_decides x y).0 is))

pub places_shown : {X Y : Type 0} (number : X → ℕ) (other : Y → ℕ) (shown : X → Y) → ((x : X) → other (shown x) ≡ number x) → (xs : List X) → ArePlaces number xs → ArePlaces other (map shown xs)
places_shown number other shown same xs are = numbers xs ∙ (are ∙ ap (range_with_len 0) (sym (length-map xs shown)))
  where
    numbers : (ys : List _) → map other (map shown ys) ≡ map number ys
    numbers [] = refl
    numbers (y ∷ ys) = let first = same y in let rest = numbers ys in cc (first, rest)

module _ (state : State) (key : List ℕ) (of_workers : ArePlaces (λ (w : Worker). w.number) state.workers) (of_registrations : ArePlaces (λ (r : Registration). r.number) state.registrations) where
  abbrev runs : Worker → Bool
  runs row = is_some row.handler && is_worker_of_key state key row.number

  abbrev on_key : FetchEvent → Bool
  on_key row = is_worker_of_key state key row.worker

  abbrev pends : Registration → Bool
  pends row = bytes_eq row.key key && has_pending_worker state row.number

  abbrev pends_in : ℕ → Worker → Bool
  pends_in registration row = row.registration == registration && (is_some row.handler || list_any (λ event. event.worker == row.number) state.fetch_events)

  record Owner (number : ℕ) : Type 0 where
    worker : Worker
    registration : Registration
    of_worker : find (is_worker number) state.workers ≡ Some worker
    of_registration : find (is_registration worker.registration) state.registrations ≡ Some registration
    has_key : bytes_eq registration.key key ≡ true

  owner : (number : ℕ) → is_worker_of_key state key number ≡ true → Owner number
  owner number is = by (find (is_worker number) state.workers) refl is
    where
      with_row : (w : Worker) (r : Option Registration) → find (is_worker number) state.workers ≡ Some w → find (is_registration w.registration) state.registrations ≡ r
          → option_map_or (bytes_eq key) (option_map (λ row. row.key) r) false ≡ true → Owner number
      with_row w None there none is = absurd cc
      with_row w (Some r) there found is = record {
        worker = w;
        registration = r;
        of_worker = there;
        of_registration = found;
        has_key = bytes_back key r.key is;
      }

      by : (w : Option Worker) → find (is_worker number) state.workers ≡ w
          → option_map_or (bytes_eq key) (option_map (λ row. row.key) (option_and_then (λ n. find (is_registration n) state.registrations) (option_map (λ row. row.registration) w))) false ≡ true
          → Owner number
      by None none is = absurd cc
      by (Some w) there is = with_row w (find (is_registration w.registration) state.registrations) there refl is

  owned : (number : ℕ) (w : Worker) (r : Registration) → find (is_worker number) state.workers ≡ Some w → find (is_registration w.registration) state.registrations ≡ Some r → bytes_eq r.key key ≡ true
      → is_worker_of_key state key number ≡ true
  owned number w r there found own = let back = bytes_back r.key key own in cc (there, found, back)

  -- a worker of the key on which something is pending makes its registration pending
  pending_by : (p : Worker → Bool) (w : Worker) (r : Registration) → find p state.workers ≡ Some w → find (is_registration w.registration) state.registrations ≡ Some r → bytes_eq r.key key ≡ true
      → (is_some w.handler || list_any (λ event. event.worker == w.number) state.fetch_events) ≡ true → list_any pends state.registrations ≡ true
  pending_by p w r there found own pending =
      let number = found_number (λ r. r.number) w.registration state.registrations r found in
      let same : (w.registration == r.number) ≡ true = grind (arith, nat_tests, number) in
      let any : has_pending_worker state r.number ≡ true = any_here p (pends_in r.number) state.workers w there (cc (same, pending)) in
      any_here (is_registration w.registration) pends state.registrations r found (cc (own, any))

  by_handler : list_any runs state.workers ≡ true → list_any pends state.registrations ≡ true
  by_handler is =
      let found = any_find runs state.workers is in
      let w = found.0 in
      let parts = and_parts (is_some w.handler) (is_worker_of_key state key w.number) (find_passes runs state.workers w found.1) in
      let at = found_at (λ w. w.number) runs state.workers w of_workers found.1 in
      let own = owner w.number parts.1 in
      let one : own.worker ≡ w = (let there = own.of_worker in cc (at, there)) in
      let running = parts.0 in
      pending_by (is_worker w.number) own.worker own.registration own.of_worker own.of_registration own.has_key (cc (one, running))

  by_event : list_any on_key state.fetch_events ≡ true → list_any pends state.registrations ≡ true
  by_event is =
      let found = any_find on_key state.fetch_events is in
      let e = found.0 in
      let own = owner e.worker (find_passes on_key state.fetch_events e found.1) in
      let number = found_number (λ w. w.number) e.worker state.workers own.worker own.of_worker in
      let same : (e.worker == own.worker.number) ≡ true = grind (arith, nat_tests, number) in
      let any = any_here on_key (λ event. event.worker == own.worker.number) state.fetch_events e found.1 same in
      pending_by (is_worker e.worker) own.worker own.registration own.of_worker own.of_registration own.has_key (later (is_some own.worker.handler) _ any)
    where
      later : (a b : Bool) → b ≡ true → (a || b) ≡ true
      later true b is = refl
      later false b is = is

  back : list_any pends state.registrations ≡ true → (list_any runs state.workers || list_any on_key state.fetch_events) ≡ true
  back is = by (is_some w.handler) refl
    where
      found : (r : Registration) × (find pends state.registrations ≡ Some r)
      found = any_find pends state.registrations is

      r : Registration
      r = found.0

      parts : (bytes_eq r.key key ≡ true) × (has_pending_worker state r.number ≡ true)
      parts = and_parts (bytes_eq r.key key) (has_pending_worker state r.number) (find_passes pends state.registrations r found.1)

      worker : (w : Worker) × (find (pends_in r.number) state.workers ≡ Some w)
      worker = any_find (pends_in r.number) state.workers parts.1

      w : Worker
      w = worker.0

      pending : ((w.registration == r.number) ≡ true) × ((is_some w.handler || list_any (λ event. event.worker == w.number) state.fetch_events) ≡ true)
      pending = and_parts (w.registration == r.number) (is_some w.handler || list_any (λ event. event.worker == w.number) state.fetch_events) (find_passes (pends_in r.number) state.workers w worker.1)

      at_r : find (is_registration w.registration) state.registrations ≡ Some r
      at_r =
          let same : w.registration ≡ r.number = (let is_it = pending.0 in grind (arith, nat_tests, is_it)) in
          ap (λ n. find (is_registration n) state.registrations) same ∙ found_at (λ r. r.number) pends state.registrations r of_registrations found.1

      at_w : find (is_worker w.number) state.workers ≡ Some w
      at_w = found_at (λ w. w.number) (pends_in r.number) state.workers w of_workers worker.1

      own : is_worker_of_key state key w.number ≡ true
      own = owned w.number w r at_w at_r parts.0

      by_or : (a b : Bool) → a ≡ true → (a || b) ≡ true
      by_or true b is = refl
      by_or false b is = absurd cc

      or_else : (a b : Bool) → b ≡ true → (a || b) ≡ true
      or_else true b is = refl
      or_else false b is = is

      by : (b : Bool) → is_some w.handler ≡ b → (list_any runs state.workers || list_any on_key state.fetch_events) ≡ true
      by true running = by_or (list_any runs state.workers) _ (any_here (pends_in r.number) runs state.workers w worker.1 (cc (running, own)))
      by false idle =
          let any : list_any (λ event. event.worker == w.number) state.fetch_events ≡ true = (let both = pending.1 in grind (arith, idle, both)) in
          let event = any_find (λ event. event.worker == w.number) state.fetch_events any in
          let here = find_passes (λ event. event.worker == w.number) state.fetch_events event.0 event.1 in
          let same : w.number ≡ event.0.worker = grind (arith, nat_tests, here) in
          or_else (list_any runs state.workers) _
          (any_here (λ event. event.worker == w.number) on_key state.fetch_events event.0 event.1 (ap (λ n. is_worker_of_key state key n) (sym same) ∙ own))

  pub pending_of_key : (list_any runs state.workers || list_any on_key state.fetch_events) ≡ list_any pends state.registrations
  pending_of_key = same_tests _ _ (forth (list_any runs state.workers) (list_any on_key state.fetch_events) by_handler by_event) back
    where
      forth : (a b : Bool) → (a ≡ true → list_any pends state.registrations ≡ true) → (b ≡ true → list_any pends state.registrations ≡ true) → (a || b) ≡ true → list_any pends state.registrations ≡ true
      forth true b first second is = first refl
      forth false b first second is = second is

-- what is pending on the registrations of a key is pending on the workers of the key
abbrev pub Either : Hosted → List ℕ → Type 0
Either host key =
    has_pending_of key (state_of host)
    ≡ (list_any (λ row. is_some row.handler && is_worker_of_key (state_of host) key row.number) (state_of host).workers
    || list_any (λ row. is_worker_of_key (state_of host) key row.worker) (state_of host).fetch_events)

-- workers and registrations of a host are numbered by their places
module _ (host : Hosted) (joined : IsJoined host) where
  pub workers_places : ArePlaces (λ (w : Worker). w.number) (state_of host).workers
  workers_places =
      places_shown (λ row. row.number) (λ (w : Worker). w.number) shown_worker (λ row. refl) host.workers.rows joined.linked.slots.worker_places

  pub registrations_places : ArePlaces (λ (r : Registration). r.number) (state_of host).registrations
  registrations_places =
      places_shown (λ row. row.number) (λ (r : Registration). r.number) (shown_of host) (λ row. refl) host.registrations.rows joined.linked.slots.registration_places

  -- so handlers and fetch events of a key are those of the workers of its registrations
  pub pending_on : (key : List ℕ) → Either host key
  pending_on key = sym (pending_of_key (state_of host) key workers_places registrations_places)

  -- a registration that has no pending worker is quiet
  pub quiet_one : (number : ℕ) → has_pending_worker (state_of host) number ≡ false → IsQuiet number host.workers host.registrations
  quiet_one number none =
      none_pending host.workers host.registrations joined.linked.slots number
      (pending_worker host.workers host.registrations joined.linked.slots number host.scopes host.clients (rest_of host) ∙ none)

-- ---- a walk over the registrations of a key

module _ (key : List ℕ) (host : Hosted) where
  -- a worker of a registration of the key is pending
  abbrev pub pends_of : Registration → Bool
  pends_of row = bytes_eq row.key key && has_pending_worker (state_of host) row.number

  pub pends_skips : (row : Registration) (rows : List Registration) → bytes_eq row.key key ≡ false → list_any pends_of (row ∷ rows) ≡ list_any pends_of rows
  pends_skips row rows other = ap (λ (b : Bool). (b && has_pending_worker (state_of host) row.number) || list_any pends_of rows) other

  -- a worker of the registration where the walk stands is pending, or one of those behind it
  pub pends_left : (at : Option ℕ) (n : ℕ) → ArePlaces (λ (row : RegistrationRow). row.number) host.registrations.rows → (stands : HasKeyAt key host.registrations.rows n) → at ≡ Some n
      → list_any pends_of (ahead host at) ≡ (has_pending_worker (state_of host) n || list_any pends_of (drop (n + 1) (state_of host).registrations))
  pends_left at n are stands is =
      ap (list_any pends_of) (at_one key host at n stands is)
      ∙ (λ i. (stands.own i && has_pending_worker (state_of host) (own_number key host.registrations.rows n stands are i)) || list_any pends_of (drop (n + 1) (state_of host).registrations))
