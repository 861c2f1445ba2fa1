-- The first of some keys, found one after the other (own).
use Rattle.std.specs.Prelude.{Bool, List, ℕ, Option, if◌then◌else◌}
use Rattle.sw_bucket.specs.Eviction.{first_so_far}

-- the first so far, or the next key where that may go and goes before it
abbrev pub first_to_go : (List ℕ → List ℕ → Bool) → (List ℕ → Bool) → Option (List ℕ) → List ℕ → Option (List ℕ)
first_to_go before may first key = if may key then first_so_far before first key else first
