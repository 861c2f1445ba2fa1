-- A host without rows is joined.
use Rattle.std.proofs.Common.{◌≡◌, ℕ, List, [], Option, Some, None, refl, sym, subst, arith}
use Rattle.std.proofs.lemmas.List.Elements.{All-nil}
use Rattle.sw_client.specs.declared.OpenClient.{OpenClient}
use Rattle.sw_data.specs.declared.rows.RegistrationRow.{RegistrationRow}
use Rattle.sw_data.specs.declared.rows.WorkerRow.{WorkerRow}
use Rattle.sw_rules.specs.State.{AddAll, FetchEvent}
use Rattle.sw_scope.specs.Scopes.{maps}
use Rattle.sw_state.specs.Hosted.{Hosted, IsJoined}

-- a host with these rows
abbrev with_rows : Hosted → List WorkerRow → List FetchEvent → List RegistrationRow → List OpenClient → List AddAll → Hosted
with_rows host of_workers events of_registrations of_clients tasks = record host {
  workers = record host.workers { rows = of_workers; events = events };
  registrations = record host.registrations { rows = of_registrations };
  clients = record host.clients { rows = of_clients };
  tasks = record host.tasks { rows = tasks };
}

-- a map that has nothing maps no scope to a number
none_mapped : (found : Option ℕ) (number : ℕ) → found ≡ None → found ≡ Some number → ⊥
none_mapped found number none some = absurd cc

joined_bare : (host : Hosted) → ((key scope : List ℕ) → maps host.scopes key scope ≡ None) → IsJoined (with_rows host [] [] [] [] [])
joined_bare host none = record {
  linked = record {
    slots = record {
      worker_places = refl;
      registration_places = refl;
      rows = λ number row is. absurd cc;
      filled = λ place registration number is. absurd cc;
      events = All-nil _;
    };
    mapped = λ key scope number is. absurd (none_mapped (maps host.scopes key scope) number (none key scope) is);
    noted = All-nil _;
    known = omega arith;
  };
  counts = λ number. refl;
}

pub joined_empty : (host : Hosted) → ((key scope : List ℕ) → maps host.scopes key scope ≡ None) → host.workers.rows ≡ [] → host.workers.events ≡ []
    → host.registrations.rows ≡ [] → host.clients.rows ≡ [] → host.tasks.rows ≡ [] → IsJoined host
joined_empty host none of_workers events of_registrations of_clients tasks =
    subst (λ (rows : List AddAll). IsJoined (with_rows host host.workers.rows host.workers.events host.registrations.rows host.clients.rows rows)) (sym tasks)
    (subst (λ (rows : List OpenClient). IsJoined (with_rows host host.workers.rows host.workers.events host.registrations.rows rows [])) (sym of_clients)
    (subst (λ (rows : List RegistrationRow). IsJoined (with_rows host host.workers.rows host.workers.events rows [] [])) (sym of_registrations)
    (subst (λ (rows : List FetchEvent). IsJoined (with_rows host host.workers.rows rows [] [] [])) (sym events)
    (subst (λ (rows : List WorkerRow). IsJoined (with_rows host rows [] [] [] [])) (sym of_workers) (joined_bare host none)))))
