-- The tables of a host as one state.
use Rattle.std.specs.Prelude.{◌≡◌, ◌≤◌, ◌<◌, ℕ, List, Some, length}
use Rattle.sw_caches.specs.Tables as caches
use Rattle.sw_client.specs.Table as clients
use Rattle.sw_ledgers.specs.Drawn as draws
use Rattle.sw_ledgers.specs.Preloaded as preloads
use Rattle.sw_ledgers.specs.Preloaded.{preload_of, preload_value_of}
use Rattle.sw_ledgers.specs.Promised as promises
use Rattle.sw_ledgers.specs.Tasks as tasks
use Rattle.sw_queue.specs.Tables as queues
use Rattle.sw_reg.specs.Table as registrations
use Rattle.sw_data.specs.declared.rows.RegistrationRow.{RegistrationRow}
use Rattle.sw_rules.specs.State.{State, Registration}
use Rattle.sw_scope.specs.Scopes.{Scopes, maps}
use Rattle.sw_tables.specs.Happened.{CountsTasks}
use Rattle.sw_tables.specs.Lent.{Rest, lent, shown_registration}
use Rattle.sw_tables.specs.Linked.{Linked, registration_of}
use Rattle.sw_worker.specs.Table as workers

-- own: the tables of a host
pub record Hosted : Type 0 where
  pub scopes : Scopes
  pub queues : queues.Table
  pub workers : workers.Table
  pub registrations : registrations.Table
  pub clients : clients.Table
  pub caches : caches.Table
  pub preloads : preloads.Table
  pub promises : promises.Table
  pub tasks : tasks.Table
  pub draws : draws.Table

-- what stands in no table of the lifecycle
abbrev pub rest_of : Hosted → Rest
rest_of host = record {
  jobs = host.queues.rows;
  preload = preload_of host.preloads.rows;
  preload_value = preload_value_of host.preloads.rows;
  promises = host.promises.rows;
  tasks = host.tasks.rows;
  caches = host.caches.rows;
  draws = host.draws.rows;
}

-- own: the state whose rows stand in these tables
abbrev pub state_of : Hosted → State
state_of host = lent host.scopes host.workers host.registrations host.clients (rest_of host)

-- a row of a registration as the state has it
abbrev pub shown_of : Hosted → RegistrationRow → Registration
shown_of host = shown_registration host.scopes (rest_of host)

-- own: a worker stands before its registration, which is there
pub record IsOwned (host : Hosted) (found : ℕ × ℕ) : Type 0 where
  pub owner : registration_of host.workers.rows found.0 ≡ Some found.1
  pub known : found.1 < length host.registrations.rows

-- own: the tables belong together, and each handler counts its addAlls
pub record IsJoined (host : Hosted) : Type 0 where
  pub linked : Linked host.scopes host.workers host.registrations host.clients
  pub counts : CountsTasks host.workers host.tasks.rows

-- own: the rows are the same, and only the room for more differs
pub record SameRows (old new : Hosted) : Type 0 where
  pub scopes : (key scope : List ℕ) → maps new.scopes key scope ≡ maps old.scopes key scope
  pub jobs : new.queues.rows ≡ old.queues.rows
  pub workers : new.workers.rows ≡ old.workers.rows
  pub events : new.workers.events ≡ old.workers.events
  pub registrations : new.registrations.rows ≡ old.registrations.rows
  pub clients : new.clients.rows ≡ old.clients.rows
  pub known : old.clients.known ≤ new.clients.known
  pub caches : new.caches.rows ≡ old.caches.rows
  pub preloads : new.preloads.rows ≡ old.preloads.rows
  pub promises : new.promises.rows ≡ old.promises.rows
  pub tasks : new.tasks.rows ≡ old.tasks.rows
  pub draws : new.draws.rows ≡ old.draws.rows
