-- What a table of registrations keeps: numbers that are places, the count of those that have got a waiting worker, and which of them are owed a Try Activate (own).
use Rattle.std.specs.Prelude.{ℕ, ◌≡◌, ◌+◌, ◌<◌, ◌^◌, Bool, List, length, map, None, slice_index_or}
use Rattle.sw_data.specs.declared.rows.RegistrationRow.{RegistrationRow}
use Rattle.sw_reg.specs.Table.{firsts}

abbrev pub ArePlaced : List RegistrationRow → Type 0
ArePlaced rows = (i : ℕ) (d : RegistrationRow) → i < length rows → (slice_index_or rows i d).number ≡ i

-- a new row has no waiting worker yet, and one more registration than its number can be counted
pub record IsNewRow (row : RegistrationRow) : Type 0 where
  pub first : row.first ≡ None
  pub number : row.number + 1 < 2 ^ 32

pub record IsListed (rows : List RegistrationRow) (count : ℕ) (flags : List Bool) : Type 0 where
  pub places : ArePlaced rows
  pub many : length rows < 2 ^ 32
  pub counted : count ≡ firsts rows
  pub owed : map (λ row. row.owed) rows ≡ flags
