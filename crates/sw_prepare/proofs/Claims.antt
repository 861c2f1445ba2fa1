-- The worker that claims, and the durable changes of its claim.
use Rattle.std.proofs.Common.{◌≡◌, ◌∙◌, ℕ, Bool, true, List, Option, Some, None, option_map, refl, ap, subst}
use Rattle.std.specs.List.{flat_map}
use Rattle.std.specs.Prelude.{IfSome}
use Rattle.sw_activate.proofs.Claimants.{told_by}
use Rattle.sw_activate.specs.Claiming.{activation_change}
use Rattle.sw_activate.specs.Names.{numbers_of}
use Rattle.sw_client.specs.Table as clients
use Rattle.sw_data.specs.declared.rows.WorkerRow.{WorkerRow}
use Rattle.sw_reg.specs.Table as registrations
use Rattle.sw_rules.specs.Clients.{claim_clients, claim_of}
use Rattle.sw_rules.specs.Rows.{is_active, is_worker, worker_row}
use Rattle.sw_rules.specs.State.{State, Worker}
use Rattle.sw_rules.specs.Told.{Told}
use Rattle.sw_scope.specs.Scopes.{Scopes}
use Rattle.sw_tables.proofs.Rows.{find_map}
use Rattle.sw_tables.specs.Lent.{Rest, lent, shown_worker}
use Rattle.sw_worker.specs.Table as workers
use Rattle.sw_worker.specs.Table.{worker_at}

abbrev claimant : List WorkerRow → ℕ → Option (ℕ × Bool)
claimant rows worker = option_map {U = ℕ × Bool} (λ row. (row.registration, is_active row.state)) (worker_at worker rows)

-- own: an active worker of a registration is there
record IsClaimant (rows : List WorkerRow) (worker registration : ℕ) : Type 0 where
  row : WorkerRow
  there : worker_at worker rows ≡ Some row
  owner : row.registration ≡ registration
  active : is_active row.state ≡ true

is_claimant : (rows : List WorkerRow) (worker registration : ℕ) → claimant rows worker ≡ Some (registration, true) → IsClaimant rows worker registration
is_claimant rows worker registration is = by (worker_at worker rows) refl is
  where
    by : (o : Option WorkerRow) → worker_at worker rows ≡ o → option_map {U = ℕ × Bool} (λ row. (row.registration, is_active row.state)) o ≡ Some (registration, true) → IsClaimant rows worker registration
    by None here is = absurd cc
    by (Some row) here is =
        let pair : (row.registration, is_active row.state) ≡ (registration, true) = cc is in record {
          row = row;
          there = here;
          owner = ap (λ (p : ℕ × Bool). p.0) pair;
          active = ap (λ (p : ℕ × Bool). p.1) pair;
        }

pub changes_told : (scopes : Scopes) (of_workers : workers.Table) (of : registrations.Table) (of_clients : clients.Table) (rest : Rest) (worker registration : ℕ)
    → claimant of_workers.rows worker ≡ Some (registration, true) → (numbers : List ℕ)
    → IfSome (worker_row (lent scopes of_workers of of_clients rest) worker) (λ row. flat_map (activation_change (lent scopes of_workers of of_clients rest)) numbers
    ≡ (claim_of (lent scopes of_workers of of_clients rest) row).told.changes)
    → flat_map (activation_change (lent scopes of_workers of of_clients rest)) numbers
    ≡ (claim_clients (lent scopes of_workers of of_clients rest) worker registration (numbers_of of_clients)).changes
changes_told scopes of_workers of of_clients rest worker registration is numbers told =
    let found = is_claimant of_workers.rows worker registration is in
    let state : State = lent scopes of_workers of of_clients rest in
    let all = flat_map (activation_change state) numbers in
    let at_row : all ≡ (claim_of state (shown_worker found.row)).told.changes =
    subst (λ (o : Option Worker). IfSome o (λ row. all ≡ (claim_of state row).told.changes))
    (find_map (is_worker worker) shown_worker of_workers.rows ∙ ap (option_map shown_worker) found.there) told in
    at_row
    ∙ (ap (λ (t : Told). t.changes) (told_by scopes of_workers of of_clients rest worker found.row found.there true found.active)
    ∙ ap (λ (n : ℕ). (claim_clients state worker n (numbers_of of_clients)).changes) found.owner)
