-- Fetch events that are pending, and their end.
use Rattle.std.proofs.Common.{◌≡◌, ℕ, Bool, true, false, not, List, [], ◌∷◌, All, Option, Some, None, option_map, option_and_then, refl, subst, if◌then◌else◌}
use Rattle.std.specs.Prelude.{find, IfSome}
use Rattle.std.specs.Option.{option_map_or}
use Rattle.std.proofs.lemmas.List.Elements.{All-filter, All-head, All-tail}
use Rattle.sw_client.specs.Table as clients
use Rattle.sw_data.specs.declared.rows.WorkerRow.{WorkerRow}
use Rattle.sw_reg.specs.Table as registrations
use Rattle.sw_rules.specs.Rows.{without}
use Rattle.sw_rules.specs.State.{FetchEvent}
use Rattle.sw_scope.specs.Scopes.{Scopes}
use Rattle.sw_tables.specs.Linked.{HasSlots, Linked, registration_of}
use Rattle.sw_worker.specs.Table as workers
use Rattle.sw_worker.specs.Table.{event_at, has_worker, is_activated, is_event, worker_at}

abbrev is_live : workers.Table → FetchEvent → Type 0
is_live of event = has_worker is_activated event.worker of.rows ≡ true

-- own: a table of workers without a fetch event
abbrev pub less : ℕ → ℕ → workers.Table → workers.Table
less event spare of = record of { events = without (is_event event) of.events; spare_events = spare }

pub slots_less : (event spare : ℕ) (of_workers : workers.Table) (of : registrations.Table) → HasSlots of_workers of → HasSlots (less event spare of_workers) of
slots_less event spare of_workers of has = record {
  worker_places = has.worker_places;
  registration_places = has.registration_places;
  rows = has.rows;
  filled = has.filled;
  events =
      All-filter (λ row. not (is_event event row)) (is_live of_workers) of_workers.events has.events;
}

pub linked_less : (event spare : ℕ) (of_workers : workers.Table) (of : registrations.Table) (scopes : Scopes) (of_clients : clients.Table)
    → Linked scopes of_workers of of_clients → Linked scopes (less event spare of_workers) of of_clients
linked_less event spare of_workers of scopes of_clients linked = record {
  slots = slots_less event spare of_workers of linked.slots;
  mapped = linked.mapped;
  noted = λ k d below. let one = linked.noted k d below in record { registration = one.registration; controller = one.controller };
  known = linked.known;
}

live_from : (of : workers.Table) (event : ℕ) (found : FetchEvent) (events : List FetchEvent) → All (is_live of) events
    → find (is_event event) events ≡ Some found → is_live of found
live_from of event found [] all is = absurd cc
live_from of event found (e ∷ events) all is =
    by (is_event event e) is (live_from of event found events (All-tail (is_live of) e events all))
  where
    by : (b : Bool) → (if b then Some e else find (is_event event) events) ≡ Some found
        → (find (is_event event) events ≡ Some found → is_live of found) → is_live of found
    by true same later = let own : e ≡ found = cc (same) in subst (is_live of) own (All-head (is_live of) e events all)
    by false rest later = later rest

-- the registration of the worker on which an event is pending
abbrev pub owner_of : workers.Table → Option FetchEvent → Option ℕ
owner_of of found = option_and_then (λ pending. registration_of of.rows pending.worker) found

-- a fetch event is pending on a worker that is there
pub none_pending : (of_workers : workers.Table) (of : registrations.Table) → HasSlots of_workers of → (event : ℕ)
    → owner_of of_workers (event_at event of_workers.events) ≡ None → event_at event of_workers.events ≡ None
none_pending of_workers of has event none = by (event_at event of_workers.events) refl none
  where
    gone : (found : FetchEvent) (o : Option WorkerRow) → option_map_or is_activated o false ≡ true → option_map (λ row. row.registration) o ≡ None → ⊥
    gone found None live none = absurd cc
    gone found (Some row) live none = absurd cc

    by : (o : Option FetchEvent) → event_at event of_workers.events ≡ o → owner_of of_workers o ≡ None → o ≡ None
    by None is none = refl
    by (Some found) is none =
        absurd (gone found (worker_at found.worker of_workers.rows)
        (live_from of_workers event found of_workers.events has.events is) none)

pub some_pending : (of_workers : workers.Table) (event registration : ℕ) → owner_of of_workers (event_at event of_workers.events) ≡ Some registration
    → (found : FetchEvent) × (event_at event of_workers.events ≡ Some found) × (registration_of of_workers.rows found.worker ≡ Some registration)
some_pending of_workers event registration is = by (event_at event of_workers.events) refl is
  where
    by : (o : Option FetchEvent) → event_at event of_workers.events ≡ o → owner_of of_workers o ≡ Some registration
        → (found : FetchEvent) × (event_at event of_workers.events ≡ Some found) × (registration_of of_workers.rows found.worker ≡ Some registration)
    by None here owned = absurd cc
    by (Some found) here owned = (found, here, owned)

-- so much room for the registration of a pending event's worker
pub room_for : (of_workers : workers.Table) (event registration : ℕ) (holds : ℕ → Type 0) → owner_of of_workers (event_at event of_workers.events) ≡ Some registration
    → IfSome (event_at event of_workers.events) (λ pending. IfSome (worker_at pending.worker of_workers.rows) (λ row. holds row.registration))
    → holds registration
room_for of_workers event registration holds is room = by (event_at event of_workers.events) is room
  where
    own : (o : Option WorkerRow) → option_map (λ row. row.registration) o ≡ Some registration → IfSome o (λ row. holds row.registration) → holds registration
    own None owned all = absurd cc
    own (Some row) owned all = let same : row.registration ≡ registration = cc (owned) in subst holds same all

    by : (o : Option FetchEvent) → owner_of of_workers o ≡ Some registration
        → IfSome o (λ pending. IfSome (worker_at pending.worker of_workers.rows) (λ row. holds row.registration)) → holds registration
    by None owned all = absurd cc
    by (Some found) owned all = own (worker_at found.worker of_workers.rows) owned all
