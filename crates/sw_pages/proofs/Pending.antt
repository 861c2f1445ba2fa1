-- Fetch events: the active worker on which one begins, and the worker of one that is pending.
use Rattle.std.proofs.Common.{◌≡◌, ◌∙◌, ◌&&◌, ◌==◌, ℕ, Bool, true, false, not, List, [], ◌∷◌, Option, Some, None, is_some, option_map, option_and_then, All, subst, if◌then◌else◌, refl, ap, sym, arith}
use Rattle.std.specs.Prelude.{find}
use Rattle.std.proofs.lemmas.List.Elements.{All-head, All-tail}
use Rattle.std.proofs.lemmas.List.{length-map}
use Rattle.std.proofs.lemmas.Simd.{map-map}
use Rattle.std.specs.List.{list_all, list_any, range_with_len}
use Rattle.std.specs.Option.{option_map_or}
use Rattle.sw_data.specs.declared.answers.Answer.TheVariants as answer
use Rattle.sw_data.specs.declared.rows.ClientRow.{ClientRow}
use Rattle.sw_data.specs.declared.rows.WorkerRow.{WorkerRow}
use Rattle.sw_data.specs.declared.workers.WorkerState.{WorkerState}
use Rattle.sw_data.specs.declared.workers.WorkerState.TheVariants as worker_state
use Rattle.sw_laws.specs.Coherent.{Coherent, is_controlled}
use Rattle.sw_rules.specs.Clients.{add_event, begin, begin_on, end, end_event, remove_event}
use Rattle.sw_rules.specs.Rows as rules
use Rattle.sw_rules.specs.Rows.{client_row, event_row, is_active, is_client, worker_row}
use Rattle.sw_rules.specs.State.{State, FetchEvent, Worker}
use Rattle.sw_rules.specs.Told.{Outcome, answered}
use Rattle.sw_state.proofs.Same.{same_joined, same_refl}
use Rattle.sw_state.specs.Hosted.{Hosted, IsJoined, SameRows, state_of}
use Rattle.sw_tables.proofs.Lookups.{worker_shown}
use Rattle.sw_tables.proofs.Moves.{there}
use Rattle.sw_tables.proofs.Rows.{any_at, any_map, found_number}
use Rattle.sw_tables.specs.Lent.{shown_worker}
use Rattle.sw_tables.specs.Linked.{registration_of}
use Rattle.sw_worker.specs.Table as workers
use Rattle.sw_worker.specs.Table.{event_at, has_worker, is_activated, is_event, is_pending, worker_at}

-- ---- controllers

found_passes : {X : Type 0} (test p : X → Bool) (xs : List X) (x : X) → list_all p xs ≡ true → Some x ≡ find test xs → p x ≡ true
found_passes test p [] x all is = absurd cc
found_passes test p (y ∷ ys) x all is = grind (arith, found_passes test p ys x)

-- the controller of a client is active
pub controller_active : (host : Hosted) (n w : ℕ) (row : ClientRow) → Coherent (state_of host)
    → Some row ≡ client_row (state_of host) n → row.controller ≡ Some w → has_worker (λ row. is_active row.state) w host.workers.rows ≡ true
controller_active host n w row sound here is =
    let are = sym (map-map (λ (row : Worker). row.number) shown_worker host.workers.rows) ∙ (sound.workers.numbers ∙ ap (range_with_len 0) (length-map host.workers.rows shown_worker)) in
    let active = found_passes (is_client n) (is_controlled (state_of host).workers) (state_of host).clients row sound.clients.controllers here in
    sym (any_at (λ row. row.number) (λ row. is_active row.state) w host.workers.rows are)
    ∙ sym (any_map (λ (row : Worker). row.number == w && is_active row.state) shown_worker host.workers.rows)
    ∙ sym (ap (λ o. option_map_or (rules.has_worker (λ row. is_active row.state) (state_of host).workers) o true) is)
    ∙ active

-- ---- a fetch event that begins

abbrev is_activated_state : WorkerState → Bool
is_activated_state state = elim state [ worker_state.Activated ↦ true | _ ↦ false ]

abbrev is_activating_state : WorkerState → Bool
is_activating_state state = elim state [ worker_state.Activating ↦ true | _ ↦ false ]

-- an active worker is activating or activated
either : (state : WorkerState) → is_active state ≡ true → is_activating_state state ≡ not (is_activated_state state)
either worker_state.Activating is = refl
either worker_state.Activated is = refl
either worker_state.Parsed is = absurd cc
either worker_state.Installing is = absurd cc
either worker_state.Installed is = absurd cc
either worker_state.Redundant is = absurd cc

any_found : {X : Type 0} (test : X → Bool) (xs : List X) → is_some (find test xs) ≡ list_any test xs
any_found test [] = refl
any_found test (x ∷ xs) = grind (arith, any_found test xs)

abbrev chosen : State → ℕ → Bool → Bool → ℕ → Option Outcome
chosen state event activating pending worker =
    if activating then None
    else if pending then Some (answered state answer.InUse)
    else Some (record { answer = answer.Worker worker; told = add_event state event worker })

-- what a fetch event comes to, by what is found of its worker and its number
pub begins : (host : Hosted) (worker event : ℕ) → has_worker (λ row. is_active row.state) worker host.workers.rows ≡ true
    → (activated pending : Bool) → has_worker is_activated worker host.workers.rows ≡ activated → is_pending event host.workers.events ≡ pending
    → chosen (state_of host) event (not activated) pending worker ≡ begin_on (state_of host) event (worker_row (state_of host) worker)
begins host worker event active activated pending is_it there_is =
    let state = state_of host in
    let found = there (λ row. is_active row.state) (worker_at worker host.workers.rows) active in
    let own = found_number (λ row. row.number) worker host.workers.rows found.0 found.1 in
    let shown : worker_row state worker ≡ Some (shown_worker found.0) = worker_shown worker host.workers.rows ∙ ap (option_map shown_worker) found.1 in
    let known : is_activated_state found.0.state ≡ activated = sym (ap (λ o. option_map_or is_activated o false) found.1) ∙ is_it in
    let first : is_activating_state found.0.state ≡ not activated = either found.0.state found.2 ∙ ap not known in
    let second : is_some (event_row state event) ≡ pending = any_found (is_event event) host.workers.events ∙ there_is in
    sym
    (ap (begin_on state event) shown
    ∙ ap (λ a. chosen state event a (is_some (event_row state event)) found.0.number) first
    ∙ ap (λ b. chosen state event (not activated) b found.0.number) second
    ∙ ap (chosen state event (not activated) pending) own)

-- more room for fetch events leaves the rows
pub roomy : (host : Hosted) (more : workers.Table) → more ≡ record host.workers { spare_events = more.spare_events } → SameRows host (record host { workers = more })
roomy host more is =
    let kept = same_refl host in
    record {
      scopes = kept.scopes;
      jobs = kept.jobs;
      workers = ap (λ (table : workers.Table). table.rows) is;
      events = ap (λ (table : workers.Table). table.events) is;
      registrations = kept.registrations;
      clients = kept.clients;
      known = kept.known;
      caches = kept.caches;
      preloads = kept.preloads;
      promises = kept.promises;
      tasks = kept.tasks;
      draws = kept.draws;
    }

pub stays_joined : (host : Hosted) (more : workers.Table) → more ≡ record host.workers { spare_events = more.spare_events } → IsJoined host → IsJoined (record host { workers = more })
stays_joined host more is = same_joined host (record host { workers = more }) (roomy host more is)

abbrev by_client : State → ℕ → Option ClientRow → Option Outcome
by_client state event o =
    elim o [
      | None ↦ Some (answered state answer.NoClient)
      | Some row ↦ begin_on state event (option_and_then (worker_row state) row.controller)
    ]

-- a fetch event of a client that has a controller
pub begin_here : (state : State) (n event worker : ℕ) (row : ClientRow) → Some row ≡ client_row state n → row.controller ≡ Some worker → begin_on state event (worker_row state worker) ≡ begin state n event
begin_here state n event worker row here is =
    sym (ap (λ o. begin_on state event (option_and_then (worker_row state) o)) is) ∙ ap (by_client state event) here

-- ---- a fetch event that ends

-- the worker of a fetch event that is pending
pub event_there : (worker : ℕ) (o : Option FetchEvent) → Some worker ≡ option_map (λ found. found.worker) o → (event : FetchEvent) × (o ≡ Some event) × (event.worker ≡ worker)
event_there worker None is = absurd cc
event_there worker (Some event) is = (event, refl, cc is)

found_of : {X : Type 0} (P : X → Type 0) (test : X → Bool) (xs : List X) (x : X) → All P xs → find test xs ≡ Some x → P x
found_of P test [] x each is = absurd cc
found_of P test (y ∷ ys) x each is = by (found_of P test ys x (All-tail P y ys each)) (test y) refl
  where
    by : (find test ys ≡ Some x → P x) → (b : Bool) → test y ≡ b → P x
    by later true passes = let same : y ≡ x = grind (arith, is, passes) in subst P same (All-head P y ys each)
    by later false fails = later (grind (arith, is, fails))

-- it is there
pub worker_there : (of_workers : workers.Table) (n : ℕ) (event : FetchEvent) → All (λ event. has_worker is_activated event.worker of_workers.rows ≡ true) of_workers.events → event_at n of_workers.events ≡ Some event
    → None ≡ registration_of of_workers.rows event.worker → ⊥
worker_there of_workers n event pending is gone =
    let stands = found_of (λ event. has_worker is_activated event.worker of_workers.rows ≡ true) (is_event n) of_workers.events event pending is in
    let found = there is_activated (worker_at event.worker of_workers.rows) stands in
    let some : None ≡ Some found.0.registration = gone ∙ ap (option_map (λ row. row.registration)) found.1 in
    absurd cc

-- the registration of a worker is the state's
registration_shown : (host : Hosted) (w : ℕ) → rules.registration_of (state_of host) w ≡ registration_of host.workers.rows w
registration_shown host w = ap (option_map (λ row. row.registration)) (worker_shown w host.workers.rows) ∙ plain (worker_at w host.workers.rows)
  where
    plain : (o : Option WorkerRow) → option_map (λ row. row.registration) (option_map shown_worker o) ≡ option_map (λ row. row.registration) o
    plain None = refl
    plain (Some x) = refl

abbrev by_registration : State → ℕ → Option ℕ → Outcome
by_registration state n o =
    elim o [
      | None ↦ record { answer = answer.Ok; told = remove_event state n }
      | Some registration ↦ record { answer = answer.Ok; told = end_event state n registration }
    ]

abbrev by_event : State → ℕ → Option FetchEvent → Outcome
by_event state n o =
    elim o [
      | None ↦ answered state answer.NoEvent
      | Some row ↦ by_registration state n (rules.registration_of state row.worker)
    ]

-- a fetch event that is pending ends
pub end_here : (host : Hosted) (n worker registration : ℕ)
    → Some worker ≡ option_map (λ found. found.worker) (event_at n host.workers.events) → Some registration ≡ registration_of host.workers.rows worker
    → end (state_of host) n ≡ record { answer = answer.Ok; told = end_event (state_of host) n registration }
end_here host n worker registration there_is own =
    let found = event_there worker (event_at n host.workers.events) there_is in
    ap (by_event (state_of host) n) found.1
    ∙ ap (by_registration (state_of host) n)
    (registration_shown host found.0.worker ∙ ap (registration_of host.workers.rows) found.2 ∙ sym own)
