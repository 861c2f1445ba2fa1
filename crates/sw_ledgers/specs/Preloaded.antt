-- The table of navigation preloads (own).
use Rattle.std.specs.Prelude.{ℕ, Bool, false, ◌==◌, List, map, find, codes}
use Rattle.std.specs.Option.{option_map_or}
use Rattle.sw_ledgers.specs.declared.preloads.Preload.{Preload}

-- the navigation preload of a registration
pub record PreloadRow : Type 0 where
  pub registration : ℕ
  pub on : Bool
  pub value : List ℕ

-- the navigation preloads, and for how many more there is room
pub record Table : Type 0 where
  pub rows : List PreloadRow
  pub spare : ℕ

abbrev pub row_of : ℕ × Preload → PreloadRow
row_of entry = record { registration = entry.0; on = entry.1.on; value = entry.1.value }

abbrev pub rows_of : List (ℕ × Preload) → List PreloadRow
rows_of entries = map row_of entries

abbrev pub is_preload_of : ℕ → PreloadRow → Bool
is_preload_of registration row = row.registration == registration

-- the navigation preload flag of a registration, which is unset at first (Service Workers, "navigation preload enabled flag")
abbrev pub preload_of : List PreloadRow → ℕ → Bool
preload_of rows registration = option_map_or (λ row. row.on) (find (is_preload_of registration) rows) false

-- the navigation preload header value of a registration, which is `true` at first (Service Workers, "navigation preload header value")
abbrev pub preload_value_of : List PreloadRow → ℕ → List ℕ
preload_value_of rows registration = option_map_or (λ row. row.value) (find (is_preload_of registration) rows) (codes "true")
