-- A finished row that a table may take without memory (own).
use Rattle.std.specs.Prelude.{◌≡◌, ◌<◌, length}
use Rattle.sw_data.specs.declared.rows.RegistrationRow.{RegistrationRow}
use Rattle.sw_reg.specs.Table.{Table}

-- the registration's number is the next one of the table, and the table has room for it
pub record FitsRegistration (new : RegistrationRow) (table : Table) : Type 0 where
  pub number : new.number ≡ length table.rows
  pub room : 0 < table.spare
