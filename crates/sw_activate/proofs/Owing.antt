-- Which registrations are owed a Try Activate.
use Rattle.std.proofs.Common.{◌≡◌, ◌∙◌, ◌==◌, ◌&&◌, ℕ, false}
use Rattle.std.specs.Option.{option_map_or}
use Rattle.sw_client.specs.Table as clients
use Rattle.sw_data.specs.declared.rows.RegistrationRow.{RegistrationRow}
use Rattle.sw_reg.specs.Table as registrations
use Rattle.sw_reg.specs.Table.{registration_at}
use Rattle.sw_rules.specs.Activating.{is_owed}
use Rattle.sw_rules.specs.State.{Registration}
use Rattle.sw_scope.specs.Scopes.{Scopes}
use Rattle.sw_tables.proofs.Rows.{any_at, any_map}
use Rattle.sw_tables.specs.Lent.{Rest, lent, shown_registration}
use Rattle.sw_tables.specs.Linked.{ArePlaces}
use Rattle.sw_worker.specs.Table as workers

pub owed_shown : (registration : ℕ) (of : registrations.Table) → ArePlaces (λ row. row.number) of.rows
    → (scopes : Scopes) (of_workers : workers.Table) (of_clients : clients.Table) (rest : Rest)
    → is_owed (lent scopes of_workers of of_clients rest) registration ≡ option_map_or (λ row. row.owed) (registration_at registration of.rows) false
owed_shown registration of are scopes of_workers of_clients rest =
    any_map (λ (row : Registration). row.number == registration && row.owed) (shown_registration scopes rest) of.rows
    ∙ any_at (λ (row : RegistrationRow). row.number) (λ row. row.owed) registration of.rows are
