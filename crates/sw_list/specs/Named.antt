-- Values under keys and names, as a list of rows beside the row that was made ahead.
use Rattle.std.specs.Prelude.{◌≡◌, ℕ, ◌+◌, ◌<◌, ◌≤◌, ◌^◌, ◌&&◌, Bool, List, [], ◌∷◌, map, length, nat_lt, set, slice_get, bytes_eq, Option, Some, None}
use Rattle.std.specs.Option.{option_map_or}
use Rattle.std.specs.List.{All, AllPairs, list_any}
use Rattle.sw_list.specs.declared.row.Row.{Row}
pub use Rattle.sw_list.specs.Names.{Label}
use Rattle.sw_list.specs.Names.{Keyed, Mark, asks, is_hit, keys_have}

-- what a row that was made means: its key and name
pub record Made : Type 0 where
  pub key : List ℕ
  pub name : List ℕ

-- the mark of a row that was made, which gets this number
abbrev pub made_marks : ℕ → Option Made → List Mark
made_marks next None = []
made_marks next (Some made) = (next, (made.key, made.name)) ∷ []

-- a mark is asked for, and its number is above this one
abbrev pub is_above : ℕ → List ℕ → Option (List ℕ) → Mark → Bool
is_above low key name mark = nat_lt low mark.0 && asks key name mark.1

-- the numbers of the marks rise from 1 and are below the next one, and below it each key and name has the numbers of its marks and no others
pub record Finds (marks : List Mark) (keys : Keyed) (next : ℕ) : Type 0 where
  pub rising : AllPairs (λ left right. left.0 < right.0) marks
  pub bounded : All (λ mark. (0 < mark.0) × (mark.0 < next)) marks
  pub found : (asked : List ℕ) (named : Option (List ℕ)) (n : ℕ) → n < next → keys_have keys asked named n ≡ list_any (is_hit asked named n) marks

-- from the next number on the keys have the marks that were made ahead and no others
abbrev pub HasLate : ℕ → List Mark → Keyed → Type 0
HasLate next ahead keys = (asked : List ℕ) (named : Option (List ℕ)) (n : ℕ) → next ≤ n → keys_have keys asked named n ≡ list_any (is_hit asked named n) ahead

-- below the next number all is as it was
abbrev pub KeepsEarly : ℕ → Keyed → Keyed → Type 0
KeepsEarly next old new = (asked : List ℕ) (named : Option (List ℕ)) (n : ℕ) → n < next → keys_have new asked named n ≡ keys_have old asked named n

-- from the next number on all is as it was
abbrev pub KeepsLate : ℕ → Keyed → Keyed → Type 0
KeepsLate next old new = (asked : List ℕ) (named : Option (List ℕ)) (n : ℕ) → next ≤ n → keys_have new asked named n ≡ keys_have old asked named n

module _ {V : Type 0} where
  -- the row is of this key
  abbrev pub is_of : List ℕ → Label × V → Bool
  is_of key row = bytes_eq row.0.0 key

  -- the row is of this key and name
  abbrev pub is_at : List ℕ → List ℕ → Label × V → Bool
  is_at key name row = bytes_eq row.0.0 key && bytes_eq row.0.1 name

  -- the row is of this key, and where a name is given, of this name
  abbrev pub is_asked : List ℕ → Option (List ℕ) → Label × V → Bool
  is_asked key name row = asks key name row.0

  -- a row as contracts see it: its key and name, and its value
  abbrev pub named_row : Row V → Label × V
  named_row row = ((row.key, row.name), row.value)

  abbrev pub named_rows : List (Row V) → List (Label × V)
  named_rows rows = map named_row rows

  -- the row of an entry, which has a number before it, as contracts see it
  abbrev pub entry_row : ℕ × Row V → Label × V
  entry_row entry = named_row entry.1

  abbrev pub entry_rows : List (ℕ × Row V) → List (Label × V)
  entry_rows entries = map entry_row entries

  -- the number of an entry, under the key and the name of its row
  abbrev pub mark_of : ℕ × Row V → Mark
  mark_of entry = (entry.0, (entry.1.key, entry.1.name))

  abbrev pub marks_of : List (ℕ × Row V) → List Mark
  marks_of entries = map mark_of entries

  -- the values of rows, in order
  abbrev pub values : List (Label × V) → List V
  values rows = map (λ row. row.1) rows

  -- the rows with another value at a place
  abbrev pub with_value : ℕ → V → List (Label × V) → List (Label × V)
  with_value place value rows = option_map_or (λ row. set rows place (row.0, value)) (slice_get rows place) rows

-- rows in order of adding, the row that was made for the next number, and for how many more rows there is room
pub record Listing (V : Type 0) : Type 0 where
  pub rows : List (Label × V)
  pub ahead : Option Made
  pub spare : ℕ

-- a row was made for this listing, and there is room for it
pub record FitsListing {V : Type 0} (new : Made) (listing : Listing V) : Type 0 where
  pub ahead : listing.ahead ≡ Some new
  pub room : 0 < listing.spare
  pub few : length listing.rows + 1 < 2 ^ 32
