-- What is done to the tables of a host is done to its state.
use Rattle.std.proofs.Common.{◌≡◌, ◌∙◌, ℕ, Bool, true, false, ◌==◌, ◌<◌, List, [], ◌∷◌, ◌++◌, Option, Some, None, option_map, option_and_then, refl, sym, ap, subst, arith}
use Rattle.std.specs.Prelude.{length, nat_lt}
use Rattle.std.specs.Option.{option_map_or, IfSome}
use Rattle.std.proofs.lemmas.List.Elements.{All-push, All-weaker}
use Rattle.sw_client.specs.Table as clients
use Rattle.sw_data.specs.declared.answers.Answer.TheVariants as answer
use Rattle.sw_data.specs.declared.rows.HandlerRow.{HandlerRow}
use Rattle.sw_data.specs.declared.rows.WorkerRow.{WorkerRow}
use Rattle.sw_data.specs.declared.workers.Phase.{Phase}
use Rattle.sw_data.specs.declared.workers.Phase.TheVariants as phase
use Rattle.sw_queue.specs.Tables as queues
use Rattle.sw_reg.specs.Table as registrations
use Rattle.sw_rules.specs.Clients as rules
use Rattle.sw_rules.specs.Noticing.{Did, NoticeList}
use Rattle.sw_rules.specs.Rows.{event_row, is_active, worker_row}
use Rattle.sw_rules.specs.Rows as rows
use Rattle.sw_rules.specs.State.{State, Worker, FetchEvent, Promise}
use Rattle.sw_rules.specs.Told.{Told, followed, quiet}
use Rattle.sw_scope.specs.Scopes.{Scopes}
use Rattle.sw_tables.proofs.Chain.{did_then, did_quietly}
use Rattle.sw_tables.proofs.Lookups.{worker_shown}
use Rattle.sw_tables.proofs.Rows.{find_passes}
use Rattle.sw_tables.specs.Lent.{lent, shown_worker}
use Rattle.sw_tables.specs.Linked.{IsNoted, registration_of}
use Rattle.sw_worker.specs.Table as workers
use Rattle.sw_worker.specs.Table.{event_at, worker_at}
use Rattle.sw_ledgers.specs.Promised as promises
use Rattle.sw_state.specs.Hosted.{Hosted, IsJoined, rest_of, state_of}
use Rattle.sw_work.specs.Plans as plans
use Rattle.sw_work.specs.declared.plan.Then.{Then}
use Rattle.sw_work.specs.declared.plan.Then.TheVariants as then

-- ---- the five tables that an event is lent

-- own: a host with these tables of the lifecycle
abbrev pub with_tables : Hosted → Scopes → workers.Table → registrations.Table → clients.Table → queues.Table → Hosted
with_tables host scopes of_workers of_registrations of_clients of_jobs = record host {
  scopes = scopes;
  workers = of_workers;
  registrations = of_registrations;
  clients = of_clients;
  queues = of_jobs;
}

-- an event that leaves the queues
pub with_same_jobs : (host : Hosted) (scopes : Scopes) (of_workers : workers.Table) (of_registrations : registrations.Table) (of_clients : clients.Table) (of_jobs : queues.Table)
    → of_jobs ≡ host.queues → (told : Told) (before after : NoticeList)
    → Did told before after (lent scopes of_workers of_registrations of_clients (rest_of host))
    → Did told before after (state_of (with_tables host scopes of_workers of_registrations of_clients of_jobs))
with_same_jobs host scopes of_workers of_registrations of_clients of_jobs same told before after did =
    subst (λ (jobs : queues.Table). Did told before after (state_of (with_tables host scopes of_workers of_registrations of_clients jobs))) (sym same) did

-- ---- workers

number_of : (number : ℕ) (found : List WorkerRow) (row : WorkerRow) → worker_at number found ≡ Some row → row.number ≡ number
number_of number found row is =
    let passes = find_passes (λ (other : WorkerRow). other.number == number) found row is in
    grind (arith, Rattle.std.proofs.lemmas.Bool.Decides.nat_tests, passes)

-- what is said of the row of a worker of a registration
pub of_owned : (host : Hosted) (worker registration : ℕ) → registration_of host.workers.rows worker ≡ Some registration
    → (P : ℕ → ℕ → Type 0) → IfSome (worker_row (state_of host) worker) (λ row. P row.registration row.number) → P registration worker
of_owned host worker registration owner P said = by (worker_at worker host.workers.rows) refl owner (subst (λ o. IfSome o (λ row. P row.registration row.number)) (worker_shown worker host.workers.rows) said)
  where
    by : (found : Option WorkerRow) → worker_at worker host.workers.rows ≡ found → option_map (λ row. row.registration) found ≡ Some registration
        → IfSome (option_map shown_worker found) (λ row. P row.registration row.number) → P registration worker
    by (Some row) is own said =
        let same : row.registration ≡ registration = cc own in
        subst (λ n. P registration n) (number_of worker host.workers.rows row is) (subst (λ r. P r row.number) same said)
    by None is own said = absurd cc

-- the same of a worker that claims for its registration
pub of_claimant : (host : Hosted) (worker registration : ℕ)
    → option_map {U = ℕ × Bool} (λ row. (row.registration, is_active row.state)) (worker_at worker host.workers.rows) ≡ Some (registration, true)
    → (P : ℕ → ℕ → Bool → Type 0) → IfSome (worker_row (state_of host) worker) (λ row. P row.registration row.number (is_active row.state)) → P registration worker true
of_claimant host worker registration claims P said =
    by (worker_at worker host.workers.rows) refl claims (subst (λ o. IfSome o (λ row. P row.registration row.number (is_active row.state))) (worker_shown worker host.workers.rows) said)
  where
    by : (found : Option WorkerRow) → worker_at worker host.workers.rows ≡ found
        → option_map {U = ℕ × Bool} (λ row. (row.registration, is_active row.state)) found ≡ Some (registration, true)
        → IfSome (option_map shown_worker found) (λ row. P row.registration row.number (is_active row.state)) → P registration worker true
    by (Some row) is own said =
        let pair : (row.registration, is_active row.state) ≡ (registration, true) = cc own in
        subst (λ (p : ℕ × Bool). P p.0 worker p.1) pair (subst (λ n. P row.registration n (is_active row.state)) (number_of worker host.workers.rows row is) said)
    by None is own said = absurd cc

-- the registration of a worker is what its row says
pub owner_is : (host : Hosted) (worker : ℕ) → rows.registration_of (state_of host) worker ≡ registration_of host.workers.rows worker
owner_is host worker = ap (option_map (λ (row : Worker). row.registration)) (worker_shown worker host.workers.rows) ∙ by (worker_at worker host.workers.rows)
  where
    by : (found : Option WorkerRow) → option_map (λ (row : Worker). row.registration) (option_map shown_worker found) ≡ option_map (λ row. row.registration) found
    by None = refl
    by (Some row) = refl

-- the end of a fetch event of a worker of a registration
pub ends : (host : Hosted) (event registration : ℕ)
    → option_and_then (λ (row : FetchEvent). registration_of host.workers.rows row.worker) (event_at event host.workers.events) ≡ Some registration
    → rules.end (state_of host) event ≡ record { answer = answer.Ok; told = rules.end_event (state_of host) event registration }
ends host event registration fits = by (event_at event host.workers.events) refl fits
  where
    by : (found : Option FetchEvent) → event_row (state_of host) event ≡ found
        → option_and_then (λ (row : FetchEvent). registration_of host.workers.rows row.worker) found ≡ Some registration
        → rules.end (state_of host) event ≡ record { answer = answer.Ok; told = rules.end_event (state_of host) event registration }
    by (Some row) is own = let owner = owner_is host row.worker ∙ own in cc (is, owner)
    by None is own = absurd cc

-- ---- calls

calls_are : (in_phase : Phase) (row : WorkerRow) → Rattle.sw_worker.specs.Table.calls_of in_phase row.handlers ≡ Rattle.sw_rules.specs.Installing.calls_of (shown_worker row) in_phase
calls_are phase.Install row = refl
calls_are phase.Activate row = refl

-- the handler of a worker that is shown has calls left
abbrev left_of : Worker → Bool
left_of row = option_map_or (λ handler. nat_lt handler.made (length (Rattle.sw_rules.specs.Installing.calls_of row handler.phase))) row.handler false

-- a handler has calls left where its row says so
pub left_in : (host : Hosted) (worker : ℕ) → plans.has_calls_left worker (state_of host) ≡ true → workers.has_worker workers.has_calls_left worker host.workers.rows ≡ true
left_in host worker left =
    by (worker_at worker host.workers.rows) (subst (λ o. option_map_or left_of o false ≡ true) (worker_shown worker host.workers.rows) left)
  where
    inner : (row : WorkerRow) (found : Option HandlerRow) → row.handler ≡ found → left_of (shown_worker row) ≡ true → workers.has_calls_left row ≡ true
    inner row (Some handler) is left = let calls = calls_are handler.phase row in cc (is, calls, left)
    inner row None is left = absurd (cc (is, left))

    by : (found : Option WorkerRow) → option_map_or left_of (option_map shown_worker found) false ≡ true → option_map_or workers.has_calls_left found false ≡ true
    by (Some row) left = inner row row.handler refl left
    by None left = absurd cc

-- ---- what follows

pub promise_follows : (told : Told) (row : Promise) (before after : NoticeList) (one two : State) → Did told before after one → two ≡ plans.with_promise row one
    → Did (followed told (λ left. quiet (plans.with_promise row left))) before after two
promise_follows told row before after one two did is =
    did_then told (λ left. quiet (plans.with_promise row left)) before after after one two did
    (did_quietly (quiet (plans.with_promise row one)) after two refl is)

pub call_follows : (told : Told) (worker : ℕ) (fault : Bool) (before after : NoticeList) (one two : State) → Did told before after one
    → two ≡ (Rattle.sw_rules.specs.Calls.note_call one worker fault).state
    → Did (followed told (λ left. Rattle.sw_rules.specs.Calls.note_call left worker fault)) before after two
unfolding Rattle.sw_rules.specs.Calls.note_call
call_follows told worker fault before after one two did is =
    did_then told (λ left. Rattle.sw_rules.specs.Calls.note_call left worker fault) before after after one two did
    (did_quietly (Rattle.sw_rules.specs.Calls.note_call one worker fault) after two refl is)

-- ---- fetch events

module _ (host : Hosted) (table : workers.Table) (event : FetchEvent) (spare : ℕ)
    (put : table ≡ record host.workers { events = host.workers.events ++ event ∷ []; spare_events = spare }) where
  abbrev begun : workers.Table
  begun = record host.workers { events = host.workers.events ++ event ∷ []; spare_events = spare }

  -- a fetch event has begun
  pub event_added : state_of (record host { workers = table }) ≡ (rules.add_event (state_of host) event.number event.worker).state
  unfolding rules.add_event
  event_added = ap (λ (ws : workers.Table). state_of (record host { workers = ws })) put

  joined_begun : workers.has_worker workers.is_activated event.worker host.workers.rows ≡ true → IsJoined host → IsJoined (record host { workers = begun })
  joined_begun active joined = record {
    linked = record {
      slots = record {
        worker_places = joined.linked.slots.worker_places;
        registration_places = joined.linked.slots.registration_places;
        rows = joined.linked.slots.rows;
        filled = joined.linked.slots.filled;
        events = All-push (λ (e : FetchEvent). workers.has_worker workers.is_activated e.worker host.workers.rows ≡ true) host.workers.events event joined.linked.slots.events active;
      };
      mapped = joined.linked.mapped;
      noted =
          All-weaker (IsNoted host.workers) (IsNoted begun) (λ row noted. record { registration = noted.registration; controller = noted.controller })
          host.clients.rows joined.linked.noted;
      known = joined.linked.known;
    };
    counts = joined.counts;
  }

  pub event_joined : workers.has_worker workers.is_activated event.worker host.workers.rows ≡ true → IsJoined host → IsJoined (record host { workers = table })
  event_joined active joined = subst (λ (ws : workers.Table). IsJoined (record host { workers = ws })) (sym put) (joined_begun active joined)

-- what may follow in the state behind an act may follow in the host behind it
pub then_later : (next : Then) (told now : State) (old new : Hosted) → now ≡ told → new.promises ≡ old.promises
    → plans.FitsThen next told old → plans.FitsThen next now new
then_later then.Nothing told now old new is same fits = fits
then_later (then.Promise row) told now old new is same fits = subst (λ (p : promises.Table). 0 < p.spare) (sym same) fits
then_later (then.Called worker fault) told now old new is same fits =
    subst (λ (s : State). plans.has_calls_left worker s ≡ true) (sym is) fits
