-- The bytes of the registrations of each key and of all, as they are counted (own).
use Rattle.std.specs.Prelude.{◌≡◌, ℕ, ◌&&◌, Bool, not, List, bytes_eq, filter, slice_get, Some, if◌then◌else◌}
use Rattle.std.specs.Map.{count_at}
use Rattle.indexmap.specs.IndexMap.{get}
use Rattle.sw_list.specs.Named.{Label, is_at, values, with_value}
use Rattle.sw_sizes.specs.declared.row.Parts.{Parts}
use Rattle.sw_sizes.specs.declared.sums.Sums.{Sums}
use Rattle.sw_sizes.specs.Rows.{Row, bytes_at, parts_bytes, rows_bytes, with_parts}

-- the bytes that stand under a key, none where it stands there not
abbrev pub held : Sums → List ℕ → ℕ
held sums key = count_at (get bytes_eq sums.keys) key

-- bytes at one key alone
abbrev pub at_key : List ℕ → List ℕ → ℕ → ℕ
at_key key other bytes = if bytes_eq key other then bytes else 0

-- the bytes of rows are counted, those of each key and those of all
pub record CountsSizes (rows : List Row) (sums : Sums) : Type 0 where
  pub total : sums.total ≡ rows_bytes rows
  pub held : (key : List ℕ) → held sums key ≡ bytes_at key rows

-- the other label has this key and this scope
abbrev pub is_same : Label → Label → Bool
is_same one other = bytes_eq other.0 one.0 && bytes_eq other.1 one.1

-- the only row of a key and a scope stands at a place
pub record StandsAt (key scope : List ℕ) (rows : List Row) (at : ℕ) : Type 0 where
  pub edits : (parts : Parts) (f : Parts → Parts)
      → slice_get (values rows) at ≡ Some parts → with_value at (f parts) rows ≡ with_parts key scope f rows
  pub bytes : (parts : Parts)
      → slice_get (values rows) at ≡ Some parts → parts_bytes parts ≡ rows_bytes (filter (is_at key scope) rows)

-- no row is of a key and a scope
pub record StandsNowhere (key scope : List ℕ) (rows : List Row) : Type 0 where
  pub edits : (f : Parts → Parts) → with_parts key scope f rows ≡ rows
  pub removal : filter (λ row. not (is_at key scope row)) rows ≡ rows
