-- The recorded network: what the fetch of a drawn number gets.
use Rattle.std.specs.Prelude.{ℕ, ◌-◌, min, List, length, filter, bytes_eq, is_some, Option, Some, None, slice_get, if◌then◌else◌}
use Rattle.sw_data.specs.declared.recordings.FetchLine.{FetchLine}

-- the member of an address that its fetch of this number gets: that of its number, past the last one the last (own)
abbrev pub drawn_from : {L : Type 0} → (L → List ℕ) → List L → List ℕ → ℕ → Option L
drawn_from address_of lines address number =
    let own = filter (λ line. bytes_eq (address_of line) address) lines in
    slice_get own (min number (length own - 1))

-- a line that isn't a network error (own)
abbrev pub answered_line : FetchLine → Option FetchLine
answered_line line = if is_some line.fetched then Some line else None
