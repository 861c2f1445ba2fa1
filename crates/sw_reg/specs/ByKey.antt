-- The index of a table's rows by key: the first and the last of each key, and behind each row the next one of its key (own).
use Rattle.std.specs.Prelude.{◌≡◌, ℕ, ◌+◌, ◌-◌, List, [], ◌∷◌, map, min, bytes_eq, cond, slice_set, Bool, Option, None, Some, option_map, vec_capacity, vec_len}
use Rattle.std.specs.List.{position_from}
use Rattle.std.specs.Map.{lookup}
use Rattle.std.specs.Option.{option_map_or, option_or}
use Rattle.indexmap.specs.IndexMap.{spare}
use Rattle.sw_data.specs.declared.rows.RegistrationRow.{RegistrationRow}
use Rattle.sw_reg.specs.declared.by_key.ByKey.{ByKey}
use Rattle.sw_reg.specs.declared.by_key.Ends.{Ends}

-- a row's key is this one
abbrev pub is_key : List ℕ → List ℕ → Bool
is_key key of_row = bytes_eq of_row key

-- the keys of rows, in order
abbrev pub keys_of : List RegistrationRow → List (List ℕ)
keys_of rows = map (λ row. row.key) rows

-- the place of the last item that passes, where the first item has this place
abbrev pub last_from : {X : Type 0} → (X → Bool) → ℕ → List X → Option ℕ
last_from test from [] = None
last_from test from (x ∷ xs) = option_or (last_from test (from + 1) xs) (cond (test x) (Some from) None)

-- behind each key the place of the next equal one, where the first key has this place
abbrev pub links_from : ℕ → List (List ℕ) → List (Option ℕ)
links_from from [] = []
links_from from (key ∷ keys) = position_from (is_key key) (from + 1) keys ∷ links_from (from + 1) keys

-- the first and the last number of a key
abbrev pub ends_of : List ℕ → ByKey → Option Ends
ends_of key by_key = lookup (bytes_eq key) by_key.ends.entries

-- a number behind the last one of a key
abbrev pub with_link : Option Ends → ℕ → List (Option ℕ) → List (Option ℕ)
with_link ends number links = option_map_or (λ ends. slice_set links ends.last (Some number)) ends links

-- own: the index is that of rows with these keys
pub record IsIndex (keys : List (List ℕ)) (by_key : ByKey) : Type 0 where
  pub first : (key : List ℕ) → option_map (λ ends. ends.first) (ends_of key by_key) ≡ position_from (is_key key) 0 keys
  pub last : (key : List ℕ) → option_map (λ ends. ends.last) (ends_of key by_key) ≡ last_from (is_key key) 0 keys
  pub links : by_key.links.items ≡ links_from 0 keys

-- for how many more rows there is room
abbrev pub room : ByKey → ℕ
room by_key = min (spare by_key.ends) (vec_capacity by_key.links - vec_len by_key.links)
