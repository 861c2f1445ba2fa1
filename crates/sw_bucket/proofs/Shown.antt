-- The rows of registrations and workers, as the state shows them.
use Rattle.std.proofs.Common.{◌≡◌, ◌∙◌, ℕ, List, map, Option, Some, None, option_map, refl, ap}
use Rattle.std.specs.Prelude.{find}
use Rattle.sw_data.specs.declared.rows.RegistrationRow.{RegistrationRow}
use Rattle.sw_data.specs.declared.rows.WorkerRow.{WorkerRow}
use Rattle.sw_reg.specs.Table.{registration_at}
use Rattle.sw_rules.specs.Rows as rules
use Rattle.sw_rules.specs.State.{Registration, Worker}
use Rattle.sw_scope.specs.Scopes.{Scopes}
use Rattle.sw_tables.proofs.Rows.{find_map}
use Rattle.sw_tables.specs.Lent.{Rest, shown_registration, shown_worker}
use Rattle.sw_worker.specs.Table.{worker_at}

shown : {X Y Z : Type 0} (f : Y → Z) (g : X → Z) (show : X → Y) → ((x : X) → f (show x) ≡ g x) → (found : Option X) → option_map f (option_map show found) ≡ option_map g found
shown f g show same None = refl
shown f g show same (Some x) = ap (λ z. Some z) (same x)

-- the key of a registration is that of its row
pub registration_shown : (number : ℕ) (scopes : Scopes) (rest : Rest) (rows : List RegistrationRow)
    → option_map (λ (row : Registration). row.key) (find (rules.is_registration number) (map (shown_registration scopes rest) rows))
    ≡ option_map (λ (row : RegistrationRow). row.key) (registration_at number rows)
registration_shown number scopes rest rows =
    ap (option_map (λ (row : Registration). row.key)) (find_map (rules.is_registration number) (shown_registration scopes rest) rows)
    ∙ shown (λ (row : Registration). row.key) (λ (row : RegistrationRow). row.key) (shown_registration scopes rest) (λ row. refl) (registration_at number rows)

-- the registration of a worker is that of its row
pub owner_shown : (number : ℕ) (rows : List WorkerRow)
    → option_map (λ (row : Worker). row.registration) (find (rules.is_worker number) (map shown_worker rows))
    ≡ option_map (λ (row : WorkerRow). row.registration) (worker_at number rows)
owner_shown number rows =
    ap (option_map (λ (row : Worker). row.registration)) (find_map (rules.is_worker number) shown_worker rows)
    ∙ shown (λ (row : Worker). row.registration) (λ (row : WorkerRow). row.registration) shown_worker (λ row. refl) (worker_at number rows)
