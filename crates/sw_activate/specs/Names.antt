-- What stays where slots, states and controllers change.
use Rattle.std.specs.Prelude.{◌≡◌, ℕ, List, map}
use Rattle.sw_client.specs.Table as clients
use Rattle.sw_client.specs.Table.{clients_of}
use Rattle.sw_data.specs.declared.rows.WorkerRow.{WorkerRow}
use Rattle.sw_reg.specs.Table as registrations
use Rattle.sw_worker.specs.Table as workers

-- own: a worker's number, and that of its registration
abbrev pub numbers : WorkerRow → ℕ × ℕ
numbers row = (row.number, row.registration)

-- own: the same registrations, workers and clients are there, and each worker is one of the same registration
pub record KeepNames (old_workers : workers.Table) (old_registrations : registrations.Table) (old_clients : clients.Table)
    (new_workers : workers.Table) (new_registrations : registrations.Table) (new_clients : clients.Table) : Type 0 where
  pub registrations : map (λ row. row.number) new_registrations.rows ≡ map (λ row. row.number) old_registrations.rows
  pub workers : map numbers new_workers.rows ≡ map numbers old_workers.rows
  pub clients : map (λ row. row.number) (clients_of new_clients) ≡ map (λ row. row.number) (clients_of old_clients)

-- own: the numbers of the clients, in order of opening
abbrev pub numbers_of : clients.Table → List ℕ
numbers_of of = map (λ row. row.number) (clients_of of)
