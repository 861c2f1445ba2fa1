-- Where the lines of an address stand among all lines (own).
use Rattle.std.specs.Prelude.{ℕ, suc, ◌-◌, min, List, [], ◌∷◌, length, Option, slice_get, bytes_eq, if◌then◌else◌}

-- the places of the lines of an address, the first line having this number
abbrev pub places_from : {L : Type 0} → (L → List ℕ) → ℕ → List L → List ℕ → List ℕ
places_from address_of at [] address = []
places_from address_of at (line ∷ rest) address =
    if bytes_eq (address_of line) address then at ∷ places_from address_of (suc at) rest address
    else places_from address_of (suc at) rest address

-- the place of the line that the fetch of this number gets: that of its number among the lines of its address, past the last one the last
abbrev pub drawn_place : {L : Type 0} → (L → List ℕ) → List L → List ℕ → ℕ → Option ℕ
drawn_place address_of lines address number =
    let own = places_from address_of 0 lines address in
    slice_get own (min number (length own - 1))

-- what an index has for an address
abbrev pub noted : {K V : Type 0} → (K → List ℕ) → (V → List ℕ) → List (K × V) → List ℕ → List ℕ
noted bytes places [] address = []
noted bytes places (entry ∷ entries) address =
    if bytes_eq address (bytes entry.0) then places entry.1 else noted bytes places entries address
