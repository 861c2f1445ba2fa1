-- Which registration each scope of a storage key has, and the longest front of an address that has one (own).
use Rattle.std.specs.Prelude.{ℕ, zero, suc, ◌<◌, Bool, ◌&&◌, ◌==◌, List, [], ◌∷◌, bytes_eq, length, take, find, Option, Some, None, option_map, if◌then◌else◌}
use Rattle.std.specs.List.{list_any}
use Rattle.std.specs.Map.{lookup}
use Rattle.std.specs.Option.{option_map_or, option_or}
use Rattle.sw_rules.specs.Matching.{Scope}

-- ---- what a map of scopes holds

-- the scopes of one key, each before the number of its registration, and for how many more there is room
pub record OwnScopes : Type 0 where
  pub entries : List (List ℕ × ℕ)
  pub room : ℕ

-- the scopes of each key
abbrev pub Scopes : Type 0
Scopes = List (List ℕ × OwnScopes)

-- the scopes of a key, none where the key has none
abbrev pub own_scopes : Scopes → List ℕ → OwnScopes
own_scopes scopes key = option_map_or (λ own. own) (lookup (bytes_eq key) scopes) (record { entries = []; room = 0 })

-- the registration of a key and a scope (Service Workers, "scope to registration map")
abbrev pub maps : Scopes → List ℕ → List ℕ → Option ℕ
maps scopes key scope = lookup (bytes_eq scope) (own_scopes scopes key).entries

-- how many more scopes of a key take no memory
abbrev pub room : Scopes → List ℕ → ℕ
room scopes key = (own_scopes scopes key).room

-- there is room for this row
abbrev pub FitsScope : Scope → Scopes → Type 0
FitsScope row scopes = 0 < room scopes row.key

-- what a key and a scope have once this row is mapped
abbrev pub with_row : Scopes → Scope → List ℕ → List ℕ → Option ℕ
with_row scopes row key scope =
    if bytes_eq row.key key && bytes_eq row.scope scope then Some row.number else maps scopes key scope

-- what a key and a scope have once the given ones map to nothing
abbrev pub without_scope : Scopes → List ℕ → List ℕ → List ℕ → List ℕ → Option ℕ
without_scope scopes gone_key gone_scope key scope =
    if bytes_eq gone_key key && bytes_eq gone_scope scope then None else maps scopes key scope

-- ---- the distinct lengths of the scopes of a key

-- a scope of this length is mapped
abbrev pub has_length : List (List ℕ × ℕ) → ℕ → Bool
has_length entries n = list_any (λ entry. length entry.0 == n) entries

-- the numbers from n down that pass
abbrev pub passing_to : (ℕ → Bool) → ℕ → List ℕ
passing_to test zero = if test zero then zero ∷ [] else []
passing_to test (suc n) = if test (suc n) then suc n ∷ passing_to test n else passing_to test n

-- the lengths of the mapped scopes of a key, none greater than n, the greatest first
abbrev pub lengths_to : Scopes → List ℕ → ℕ → List ℕ
lengths_to scopes key n = passing_to (has_length (own_scopes scopes key).entries) n

-- ---- the longest front

-- the registration of the longest front of the first n bytes that has one
abbrev pub longest_at : (List ℕ → Option ℕ) → List ℕ → ℕ → Option ℕ
longest_at found address zero = found []
longest_at found address (suc n) = option_or (found (take (suc n) address)) (longest_at found address n)

-- the registration of the longest front of an address that has one
abbrev pub longest_front : (List ℕ → Option ℕ) → List ℕ → Option ℕ
longest_front found address = longest_at found address (length address)

-- ---- the same of a list of scopes

-- a scope is that of a key and a text
abbrev pub is_scope : List ℕ → List ℕ → Scope → Bool
is_scope key scope row = bytes_eq row.key key && bytes_eq row.scope scope

-- the number of a key and a scope in a list
abbrev pub number_in : List Scope → List ℕ → List ℕ → Option ℕ
number_in scopes key scope = option_map (λ row. row.number) (find (is_scope key scope) scopes)

-- a row of a list as a scope
abbrev pub as_scope : List ℕ × List ℕ × ℕ → Scope
as_scope row = record { key = row.0; scope = row.1; number = row.2 }

-- how long a scope is, and its number
abbrev pub sized : Scope → ℕ × ℕ
sized scope = (length scope.scope, scope.number)
