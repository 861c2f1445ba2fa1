-- The registrations that a client is told of.
use Rattle.std.specs.Prelude.{ℕ, Bool, ◌&&◌, List, bytes_eq}
use Rattle.sw_data.specs.declared.rows.RegistrationRow.{RegistrationRow}
use Rattle.sw_rules.specs.Rows.{is_number}
use Rattle.sw_scope.specs.Scopes.{Scopes, maps}

-- own: a registration is mapped, and of this key
abbrev pub is_listed : Scopes → List ℕ → RegistrationRow → Bool
is_listed scopes key row = is_number (maps scopes row.key row.scope) row.number && bytes_eq row.key key
