-- What is found of a worker in a slot.
use Rattle.std.proofs.Common.{◌≡◌, ◌∙◌, ℕ, Bool, true, Option, Some, None, option_map, ap}
use Rattle.sw_data.specs.declared.rows.WorkerRow.{WorkerRow}
use Rattle.sw_rules.specs.Rows.{is_active}
use Rattle.sw_rules.specs.State.{Worker}
use Rattle.sw_tables.specs.Lent.{shown_worker}

-- what is shown of a worker's row tells its registration
pub owner_shown : (found : Option WorkerRow) (row : WorkerRow) → option_map shown_worker found ≡ Some (shown_worker row)
    → option_map (λ other. other.registration) found ≡ Some row.registration
owner_shown (Some other) row is = let same : shown_worker other ≡ shown_worker row = cc is in ap (λ (w : Worker). Some w.registration) same
owner_shown None row is = absurd cc

-- and whether it is active
pub active_shown : (found : Option WorkerRow) (row : WorkerRow) → option_map shown_worker found ≡ Some (shown_worker row) → is_active row.state ≡ true
    → option_map {U = ℕ × Bool} (λ other. (other.registration, is_active other.state)) found ≡ Some (row.registration, true)
active_shown (Some other) row is active =
    let same : shown_worker other ≡ shown_worker row = cc is in
    ap (λ (w : Worker). Some (w.registration, is_active w.state)) same ∙ ap (λ b. Some (row.registration, b)) active
active_shown None row is active = absurd cc
