-- A host that has only more room is the same state, and is joined as before.
use Rattle.std.proofs.Common.{◌≡◌, ◌∙◌, ℕ, ◌≤◌, List, [], ◌∷◌, All, map, Option, refl, sym, ap, subst, arith}
use Rattle.std.proofs.lemmas.List.Elements.{All-weaker}
use Rattle.sw_client.specs.declared.OpenClient.{OpenClient}
use Rattle.sw_client.specs.Table as clients
use Rattle.sw_data.specs.declared.rows.JobRow.{JobRow}
use Rattle.sw_data.specs.declared.rows.RegistrationRow.{RegistrationRow}
use Rattle.sw_data.specs.declared.rows.WorkerRow.{WorkerRow}
use Rattle.sw_data.specs.declared.storage.KeptCache.{KeptCache}
use Rattle.sw_ledgers.specs.Preloaded.{PreloadRow, preload_of, preload_value_of}
use Rattle.sw_reg.specs.Table as registrations
use Rattle.sw_rules.specs.Rows.{is_number}
use Rattle.sw_rules.specs.State.{State, Registration, FetchEvent, Promise, AddAll, Draws}
use Rattle.sw_scope.specs.Scopes.{Scopes, maps}
use Rattle.sw_tables.specs.Lent.{Rest, shown_registration, shown_worker}
use Rattle.sw_tables.specs.Linked.{HasSlots, IsNoted, Linked}
use Rattle.sw_state.specs.Hosted.{Hosted, IsJoined, SameRows, rest_of, state_of}
use Rattle.sw_worker.specs.Table as workers

-- the rows of a host, without the room for more
record Bare : Type 0 where
  jobs : List JobRow
  workers : List WorkerRow
  events : List FetchEvent
  registrations : List RegistrationRow
  clients : List OpenClient
  caches : List KeptCache
  preloads : List PreloadRow
  promises : List Promise
  tasks : List AddAll
  draws : List Draws

bare : Hosted → Bare
bare host = record {
  jobs = host.queues.rows;
  workers = host.workers.rows;
  events = host.workers.events;
  registrations = host.registrations.rows;
  clients = host.clients.rows;
  caches = host.caches.rows;
  preloads = host.preloads.rows;
  promises = host.promises.rows;
  tasks = host.tasks.rows;
  draws = host.draws.rows;
}

same_bare : (old new : Hosted) → SameRows old new → bare new ≡ bare old
unfolding bare
same_bare old new same =
    ap (λ (rows : List JobRow). record (bare new) { jobs = rows }) same.jobs
    ∙ ap (λ (rows : List WorkerRow). record (bare new) { jobs = old.queues.rows; workers = rows }) same.workers
    ∙ ap (λ (rows : List FetchEvent). record (bare new) { jobs = old.queues.rows; workers = old.workers.rows; events = rows }) same.events
    ∙ ap (λ (rows : List RegistrationRow). record (bare old) { registrations = rows; clients = new.clients.rows; caches = new.caches.rows; preloads = new.preloads.rows; promises = new.promises.rows; tasks = new.tasks.rows; draws = new.draws.rows }) same.registrations
    ∙ ap (λ (rows : List OpenClient). record (bare old) { clients = rows; caches = new.caches.rows; preloads = new.preloads.rows; promises = new.promises.rows; tasks = new.tasks.rows; draws = new.draws.rows }) same.clients
    ∙ ap (λ (rows : List KeptCache). record (bare old) { caches = rows; preloads = new.preloads.rows; promises = new.promises.rows; tasks = new.tasks.rows; draws = new.draws.rows }) same.caches
    ∙ ap (λ (rows : List PreloadRow). record (bare old) { preloads = rows; promises = new.promises.rows; tasks = new.tasks.rows; draws = new.draws.rows }) same.preloads
    ∙ ap (λ (rows : List Promise). record (bare old) { promises = rows; tasks = new.tasks.rows; draws = new.draws.rows }) same.promises
    ∙ ap (λ (rows : List AddAll). record (bare old) { tasks = rows; draws = new.draws.rows }) same.tasks
    ∙ ap (λ (rows : List Draws). record (bare old) { draws = rows }) same.draws

-- the rest of the state by the rows
bare_rest : Bare → Rest
bare_rest rows = record {
  jobs = rows.jobs;
  preload = preload_of rows.preloads;
  preload_value = preload_value_of rows.preloads;
  promises = rows.promises;
  tasks = rows.tasks;
  caches = rows.caches;
  draws = rows.draws;
}

-- the state by the rows, with the mapped registrations given
bare_state : List Registration → Bare → State
bare_state registrations rows = record {
  registrations = registrations;
  workers = map shown_worker rows.workers;
  clients = map (λ row. row.client) rows.clients;
  jobs = rows.jobs;
  promises = rows.promises;
  tasks = rows.tasks;
  fetch_events = rows.events;
  caches = rows.caches;
  draws = rows.draws;
}

-- registrations are shown alike where the maps agree
pub same_shown : (old new : Scopes) (rest : Rest) → ((key scope : List ℕ) → maps new key scope ≡ maps old key scope)
    → (rows : List RegistrationRow) → map (shown_registration new rest) rows ≡ map (shown_registration old rest) rows
same_shown old new rest same [] = refl
same_shown old new rest same (row ∷ rows) =
    ap (λ (found : Option ℕ). record (shown_registration old rest row) { mapped = is_number found row.number } ∷ map (shown_registration new rest) rows) (same row.key row.scope)
    ∙ ap (λ (shown : List Registration). shown_registration old rest row ∷ shown) (same_shown old new rest same rows)

pub same_state : (old new : Hosted) → SameRows old new → state_of new ≡ state_of old
unfolding bare_state bare_rest bare
same_state old new same =
    let rows = same_bare old new same in
    ap (λ (shown : List Registration). record (state_of new) { registrations = shown }) (same_shown old.scopes new.scopes (rest_of new) same.scopes new.registrations.rows)
    ∙ ap (λ (b : Bare). bare_state (map (shown_registration old.scopes (bare_rest b)) b.registrations) b) rows

-- links need the rows alone, not the room for more
module _ (of_workers : workers.Table) (of_registrations : registrations.Table) (of_clients : clients.Table) (rows events spare many room : ℕ) where
  abbrev workers_too : workers.Table
  workers_too = record of_workers { spare_rows = rows; spare_events = events }

  abbrev registrations_too : registrations.Table
  registrations_too = record of_registrations { spare = spare }

  abbrev clients_too : clients.Table
  clients_too = record of_clients { known = many; spare = room }

  slots_too : HasSlots of_workers of_registrations → HasSlots workers_too registrations_too
  slots_too has = record {
    worker_places = has.worker_places;
    registration_places = has.registration_places;
    rows = λ number row is.
        let stands = has.rows number row is in
        record { owner = stands.owner; slots = stands.slots; handler = stands.handler };
    filled = has.filled;
    events = has.events;
  }

  noted_too : (opened : List OpenClient) → All (IsNoted of_workers) opened → All (IsNoted workers_too) opened
  noted_too opened all =
      All-weaker (IsNoted of_workers) (IsNoted workers_too) (λ row noted. record { registration = noted.registration; controller = noted.controller }) opened all

  linked_too : (old new : Scopes) → ((key scope : List ℕ) → maps new key scope ≡ maps old key scope) → of_clients.known ≤ many
      → Linked old of_workers of_registrations of_clients → Linked new workers_too registrations_too clients_too
  linked_too old new same more linked = record {
    slots = slots_too linked.slots;
    mapped = λ key scope number is. linked.mapped key scope number (sym (same key scope) ∙ is);
    noted = noted_too of_clients.rows linked.noted;
    known = omega (arith, linked.known, more);
  }

-- and so do the counts of addAlls
abbrev joined_rows : Hosted → Bare → Type 0
joined_rows host rows = IsJoined (record host {
  queues = record host.queues { rows = rows.jobs };
  workers = record host.workers { rows = rows.workers; events = rows.events };
  registrations = record host.registrations { rows = rows.registrations };
  clients = record host.clients { rows = rows.clients };
  tasks = record host.tasks { rows = rows.tasks };
})

pub same_joined : (old new : Hosted) → SameRows old new → IsJoined old → IsJoined new
unfolding bare
same_joined old new same joined =
    subst (joined_rows new) (sym (same_bare old new same)) (record {
      linked =
          linked_too old.workers old.registrations old.clients new.workers.spare_rows new.workers.spare_events new.registrations.spare
          new.clients.known new.clients.spare old.scopes new.scopes same.scopes same.known joined.linked;
      counts = joined.counts;
    })

pub same_refl : (host : Hosted) → SameRows host host
same_refl host = record {
  scopes = λ key scope. refl;
  jobs = refl;
  workers = refl;
  events = refl;
  registrations = refl;
  clients = refl;
  known = omega arith;
  caches = refl;
  preloads = refl;
  promises = refl;
  tasks = refl;
  draws = refl;
}
