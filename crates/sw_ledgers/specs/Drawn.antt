-- The table of drawn fetches (own).
use Rattle.std.specs.Prelude.{ℕ, ◌+◌, ◌<◌, ◌≤◌, ◌^◌, List, [], ◌∷◌, ◌++◌, All, map, find, length, if◌then◌else◌}
use Rattle.std.specs.List.{list_any}
use Rattle.std.specs.Option.{option_map_or}
use Rattle.sw_data.specs.declared.exchange.Request.{Request}
use Rattle.sw_data.specs.Addresses.{without_fragment}
use Rattle.sw_rules.specs.Jobs.{is_draw_of}
use Rattle.sw_rules.specs.Rows.{changed}
use Rattle.sw_rules.specs.State.{Draws}

-- how many fetches of each address were drawn, and for how many more addresses there is room
pub record Table : Type 0 where
  pub rows : List Draws
  pub spare : ℕ

-- the rows of a map from an address, read as bytes, to its number
abbrev pub rows_of : {K : Type 0} → (K → List ℕ) → List (K × ℕ) → List Draws
rows_of bytes entries = map (λ entry. record { address = bytes entry.0; number = entry.1 }) entries

-- how many fetches of an address without fragment were drawn
abbrev pub drawn_of : List Draws → List ℕ → ℕ
drawn_of rows address = option_map_or (λ row. row.number) (find (is_draw_of address) rows) 0

-- one more fetch of an address without fragment is drawn
abbrev pub one_more : List Draws → List ℕ → List Draws
one_more rows address =
    if list_any (is_draw_of address) rows
    then changed (is_draw_of address) (λ row. record row { number = row.number + 1 }) rows
    else rows ++ record { address = address; number = 1 } ∷ []

-- there is room for the address, and one more fetch of it can be counted
pub record FitsDraw (address : List ℕ) (table : Table) : Type 0 where
  pub room : 0 < table.spare
  pub count : drawn_of table.rows address + 1 < 2 ^ 32

-- the addresses of requests, without their fragments
abbrev pub addresses_of : List Request → List (List ℕ)
addresses_of requests = map (λ request. without_fragment request.url) requests

-- there is room for the addresses, and as many more fetches of each of them can be counted
pub record FitsDraws (addresses : List (List ℕ)) (table : Table) : Type 0 where
  pub room : length addresses ≤ table.spare
  pub counts : All (λ address. drawn_of table.rows address + length addresses < 2 ^ 32) addresses
