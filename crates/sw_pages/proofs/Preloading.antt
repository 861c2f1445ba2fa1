-- Whether a registration has an active worker, and what is set where it has one.
use Rattle.std.proofs.Common.{◌≡◌, Bool, List, ℕ, Option, Some, None, Bor, is_some, option_map, option_copied, refl, ap, if◌then◌else◌}
use Rattle.sw_data.specs.declared.answers.Answer.TheVariants as answer
use Rattle.sw_data.specs.declared.answers.Fault.TheVariants as fault
use Rattle.sw_data.specs.declared.answers.StateCause.TheVariants as state_cause
use Rattle.sw_data.specs.declared.rows.WorkerRow.{WorkerRow}
use Rattle.sw_rules.specs.Preloading.{preload_set, set_preload}
use Rattle.sw_rules.specs.Rows.{active_worker_number}
use Rattle.sw_rules.specs.State.{State, Registration}
use Rattle.sw_rules.specs.Told.{Outcome, refused}
use Rattle.sw_tables.specs.Lent.{shown_worker}

-- a worker that is found has a number
pub is_shown : (found : Option (Bor WorkerRow)) → is_some found ≡ is_some (option_map (λ row. row.number) (option_map shown_worker (option_copied found)))
is_shown None = refl
is_shown (Some row) = refl

-- what is set, by whether there is an active worker
abbrev pub by_active : State → Registration → Bool → List ℕ → Bool → Outcome
by_active state row on text active =
    if active then record { answer = answer.Ok; told = set_preload state row.number on text }
    else refused state (fault.InvalidState state_cause.NotActive)

pub set_by : (state : State) (row : Registration) (on : Bool) (text : List ℕ) (active : Bool) → is_some (active_worker_number state row.number) ≡ active
    → preload_set state row on text ≡ by_active state row on text active
set_by state row on text active is = ap (by_active state row on text) is
