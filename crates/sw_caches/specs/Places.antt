-- The places of the entries that match.
use Rattle.std.specs.Prelude.{ℕ, ◌+◌, ◌&&◌, nat_le, if◌then◌else◌, Bool, List, map, filter, ◌∷◌, []}
use Rattle.std.specs.List.{enumerate_from}

-- the places of the items that pass, rising
abbrev pub places_by : {Y : Type 0} → (Y → Bool) → List Y → List ℕ
places_by test items = map (λ item. item.0) (filter (λ item. test item.1) (enumerate_from 0 items))

module _ {X Y : Type 0} (number : X → ℕ) (item : X → Y) where
  -- the places of the matching entries whose numbers go up to one
  abbrev pub places_up_to : (Y → Bool) → ℕ → ℕ → List X → List ℕ
  places_up_to matches top place [] = []
  places_up_to matches top place (entry ∷ rest) =
      if matches (item entry) && nat_le (number entry) top then place ∷ places_up_to matches top (place + 1) rest
      else places_up_to matches top (place + 1) rest
