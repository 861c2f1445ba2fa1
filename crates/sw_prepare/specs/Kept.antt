-- Registrations that are kept, and the durable changes of an activation.
use Rattle.std.specs.Prelude.{ℕ, Bool, ◌&&◌, ◌||◌, List, [], bytes_eq, is_some, Option, Some, None, option_and_then, if◌then◌else◌}
use Rattle.sw_activate.specs.Claiming.{activation_change}
use Rattle.sw_data.specs.declared.rows.RegistrationRow.{RegistrationRow}
use Rattle.sw_data.specs.declared.storage.Change.{Change}
use Rattle.sw_data.specs.Sameness.{same_truth}
use Rattle.sw_ledgers.specs.Preloaded.{PreloadRow, preload_of, preload_value_of}
use Rattle.sw_reg.specs.Table.{registration_at}
use Rattle.sw_rules.specs.Registrations.{chosen}
use Rattle.sw_rules.specs.Rows.{is_number, registration_row}
use Rattle.sw_rules.specs.State.{State, Registration}
use Rattle.sw_rules.specs.Told.{is_kept}
use Rattle.sw_scope.specs.Scopes.{Scopes, maps}

-- the registration of a number, where it is kept (own)
abbrev pub kept_registration : State → ℕ → Option Registration
kept_registration state number =
    option_and_then (λ row. if is_kept state row then Some row else None) (registration_row state number)

-- the durable changes of a Try Activate (own)
abbrev pub activation_changes : State → ℕ → List Change
activation_changes state registration =
    if is_some (chosen state registration) then activation_change state registration else []

-- a row of the table is kept: the map has it under its key and scope, and it has a waiting or an active worker (own)
abbrev pub is_kept_row : Scopes → RegistrationRow → Bool
is_kept_row scopes row =
    is_number (maps scopes row.key row.scope) row.number && (is_some row.waiting || is_some row.active)

-- the row of a registration in the table, where it is kept (own)
abbrev pub kept_at : Scopes → List RegistrationRow → ℕ → Option RegistrationRow
kept_at scopes rows number =
    option_and_then (λ row. if is_kept_row scopes row then Some row else None) (registration_at number rows)

-- the key and the scope of a registration (own)
abbrev pub names_of : RegistrationRow → List ℕ × List ℕ
names_of row = (row.key, row.scope)

-- the row, unless it passes (own)
abbrev pub unless : (RegistrationRow → Bool) → Option RegistrationRow → Option RegistrationRow
unless test found = option_and_then (λ row. if test row then None else Some row) found

-- a registration has this preload flag and value, by the table of preloads (own)
abbrev pub has_preload_row : List PreloadRow → Bool → List ℕ → RegistrationRow → Bool
has_preload_row preloads on text row =
    same_truth (preload_of preloads row.number) on && bytes_eq (preload_value_of preloads row.number) text
