-- The tables of the lifecycle as the rows of a state.
use Rattle.std.specs.Prelude.{ℕ, Bool, List, map, option_map}
use Rattle.sw_data.specs.declared.rows.HandlerRow.{HandlerRow}
use Rattle.sw_data.specs.declared.rows.JobRow.{JobRow}
use Rattle.sw_data.specs.declared.rows.RegistrationRow.{RegistrationRow}
use Rattle.sw_data.specs.declared.rows.WorkerRow.{WorkerRow}
use Rattle.sw_data.specs.declared.storage.KeptCache.{KeptCache}
use Rattle.sw_client.specs.Table as clients
use Rattle.sw_reg.specs.Table as registrations
use Rattle.sw_rules.specs.Rows.{is_number}
use Rattle.sw_rules.specs.State.{State, Registration, Worker, Handler, Promise, AddAll, Draws}
use Rattle.sw_scope.specs.Scopes.{Scopes, maps}
use Rattle.sw_worker.specs.Table as workers

-- own: what of a state stands in no table that is lent: the jobs, and what the core keeps itself. Each registration has
-- the flag and the value of its navigation preload
pub record Rest : Type 0 where
  pub jobs : List JobRow
  pub preload : ℕ → Bool
  pub preload_value : ℕ → List ℕ
  pub promises : List Promise
  pub tasks : List AddAll
  pub caches : List KeptCache
  pub draws : List Draws

-- a registration is mapped where the map has it under its key and scope
abbrev pub shown_registration : Scopes → Rest → RegistrationRow → Registration
shown_registration scopes rest row = record {
  number = row.number;
  key = row.key;
  scope = row.scope;
  mode = row.mode;
  mapped = is_number (maps scopes row.key row.scope) row.number;
  first = row.first;
  owed = row.owed;
  preload = rest.preload row.number;
  preload_value = rest.preload_value row.number;
}

abbrev pub shown_handler : HandlerRow → Handler
shown_handler row = record { phase = row.phase; made = row.made; faulted = row.faulted }

abbrev pub shown_worker : WorkerRow → Worker
shown_worker row = record {
  number = row.number;
  registration = row.registration;
  script = row.script;
  kind = row.kind;
  body = row.body;
  state = row.state;
  skip_waiting = row.skip_waiting;
  fetch = row.fetch;
  handlers = row.handlers;
  handler = option_map shown_handler row.handler;
}

-- own: the state whose rows stand in these tables
abbrev pub lent : Scopes → workers.Table → registrations.Table → clients.Table → Rest → State
lent scopes of_workers of_registrations of_clients rest = record {
  registrations = map (shown_registration scopes rest) of_registrations.rows;
  workers = map shown_worker of_workers.rows;
  clients = clients.clients_of of_clients;
  jobs = rest.jobs;
  promises = rest.promises;
  tasks = rest.tasks;
  fetch_events = of_workers.events;
  caches = rest.caches;
  draws = rest.draws;
}
