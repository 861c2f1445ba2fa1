-- What links the tables: the slots of a registration are those that the states of its workers give, the map holds
-- registrations of its scopes, and a client's registration is that of its controller.
use Rattle.std.specs.Prelude.{◌≡◌, ◌≤◌, ℕ, Bool, true, false, ◌&&◌, ◌==◌, List, All, length, map, bytes_eq, is_some, Option, Some, option_map, option_and_then}
use Rattle.std.specs.List.{range_with_len}
use Rattle.sw_client.specs.declared.OpenClient.{OpenClient}
use Rattle.sw_client.specs.Table as clients
use Rattle.sw_data.specs.declared.rows.WorkerRow.{WorkerRow}
use Rattle.sw_data.specs.declared.workers.Slot.{Slot}
use Rattle.sw_data.specs.declared.workers.WorkerState.{WorkerState}
use Rattle.sw_data.specs.declared.workers.WorkerState.TheVariants as worker_state
use Rattle.sw_reg.specs.Table as registrations
use Rattle.sw_reg.specs.Table.{has_registration, slot_of}
use Rattle.sw_rules.specs.Rows.{in_slot}
use Rattle.sw_scope.specs.Scopes.{Scopes, maps}
use Rattle.sw_worker.specs.Table as workers
use Rattle.sw_worker.specs.Table.{has_worker, is_activated, worker_at}

-- own: each row's number is its place
abbrev pub ArePlaces : {X : Type 0} → (X → ℕ) → List X → Type 0
ArePlaces number rows = map number rows ≡ range_with_len 0 (length rows)

-- a handler runs in this state
abbrev pub runs_handler : WorkerState → Bool
runs_handler worker_state.Installing = true
runs_handler worker_state.Activating = true
runs_handler _ = false

-- own: what a worker's row tells of it: its registration is there, it stands in the slot that its state names, and a
-- handler of it runs only while it installs or activates
pub record StandsRight (of : registrations.Table) (number : ℕ) (row : WorkerRow) : Type 0 where
  pub owner : registrations.is_there row.registration of.rows ≡ true
  pub slots : (place : Slot) → in_slot place row.state ≡ true → slot_of place row.registration of.rows ≡ Some number
  pub handler : is_some row.handler ≡ true → runs_handler row.state ≡ true

-- own: slots and states of workers agree, and fetch events are pending on activated workers alone
pub record HasSlots (of_workers : workers.Table) (of_registrations : registrations.Table) : Type 0 where
  pub worker_places : ArePlaces (λ row. row.number) of_workers.rows
  pub registration_places : ArePlaces (λ row. row.number) of_registrations.rows
  pub rows : (number : ℕ) (row : WorkerRow) → worker_at number of_workers.rows ≡ Some row → StandsRight of_registrations number row
  pub filled : (place : Slot) (registration number : ℕ) → slot_of place registration of_registrations.rows ≡ Some number
      → has_worker (λ row. row.registration == registration && in_slot place row.state) number of_workers.rows ≡ true
  pub events : All (λ event. has_worker is_activated event.worker of_workers.rows ≡ true) of_workers.events

-- own: what the map has under a key and a scope is a registration of these
abbrev pub HasScopes : Scopes → registrations.Table → Type 0
HasScopes scopes of =
    (key scope : List ℕ) (number : ℕ) → maps scopes key scope ≡ Some number
    → has_registration (λ row. bytes_eq row.key key && bytes_eq row.scope scope) number of.rows ≡ true

-- the registration of a worker, if any
abbrev pub registration_of : List WorkerRow → ℕ → Option ℕ
registration_of rows number = option_map (λ row. row.registration) (worker_at number rows)

-- own: what the table of clients notes of a client is the registration of its controller, which is there
pub record IsNoted (of : workers.Table) (row : OpenClient) : Type 0 where
  pub registration : row.registration ≡ option_and_then (registration_of of.rows) row.client.controller
  pub controller : is_some row.client.controller ≡ is_some row.registration

-- own: the tables belong together
pub record Linked (scopes : Scopes) (of_workers : workers.Table) (of_registrations : registrations.Table) (of_clients : clients.Table) : Type 0 where
  pub slots : HasSlots of_workers of_registrations
  pub mapped : HasScopes scopes of_registrations
  pub noted : All (IsNoted of_workers) of_clients.rows
  pub known : length of_registrations.rows ≤ of_clients.known
