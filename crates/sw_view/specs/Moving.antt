-- The moves of entries (own).
use Rattle.std.specs.Prelude.{ℕ, ◌&&◌, List, [], ◌∷◌, flat_map, bytes_eq, Option, Some, None, option_and_then, if◌then◌else◌}
use Rattle.std.specs.Option.{option_map_or}
use Rattle.sw_data.specs.declared.answers.Notice.{Notice}
use Rattle.sw_data.specs.declared.answers.Notice.TheVariants as notice
use Rattle.sw_data.specs.declared.histories.Entry.{Entry}
use Rattle.sw_data.specs.declared.rows.RegistrationRow.{RegistrationRow}
use Rattle.sw_reg.specs.Table.{registration_at}
use Rattle.sw_scope.specs.Scopes.{Scopes, maps}
use Rattle.sw_view.specs.Found.{Found}
use Rattle.sw_view.specs.declared.moves.Move.{Move}
use Rattle.sw_view.specs.declared.moves.Move.TheVariants.{Remove, Set}

-- the registration that a notice tells to have got into the map, or to have left it
abbrev pub moved_by : Notice → Option ℕ
moved_by (notice.Mapped number) = Some number
moved_by (notice.Unmapped number) = Some number
moved_by _ = None

-- the registration that the map has under a key and a scope, if it is there, and of them
abbrev pub mapped_in : Scopes → List RegistrationRow → Found
mapped_in scopes rows key scope =
    option_and_then (λ number.
    option_and_then (λ row. if bytes_eq row.key key && bytes_eq row.scope scope then Some number else None) (registration_at number rows))
    (maps scopes key scope)

-- the move of a key and a scope to what they map to
abbrev pub move_to : List ℕ → List ℕ → Option ℕ → Move
move_to key scope None = Remove key scope
move_to key scope (Some registration) = Set key scope registration

-- that of the key and the scope of a row
abbrev pub row_move : Found → RegistrationRow → Move
row_move found row = move_to row.key row.scope (found row.key row.scope)

-- that of the registration that a notice tells of, if it is there
abbrev pub moves_by : Found → List RegistrationRow → Notice → List Move
moves_by found rows told =
    option_map_or (λ row. row_move found row ∷ []) (option_and_then (λ number. registration_at number rows) (moved_by told)) []

-- those of the notices of these entries
abbrev pub moves_told : Found → List RegistrationRow → List Entry → List Move
moves_told found rows entries = flat_map (λ entry. flat_map (moves_by found rows) entry.notices) entries
