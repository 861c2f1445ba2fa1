-- How many of some fetches are of one address (own).
use Rattle.std.specs.Prelude.{ℕ, List, length, filter, bytes_eq}
use Rattle.sw_data.specs.Addresses.{without_fragment}

-- how many of these are of an address without fragment
abbrev pub times : {X : Type 0} → (X → List ℕ) → List ℕ → List X → ℕ
times address_of address made = length (filter (λ own. bytes_eq (without_fragment (address_of own)) address) made)
