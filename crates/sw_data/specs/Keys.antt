-- Storage keys.
use Rattle.std.specs.Prelude.{ℕ, ◌==◌, List, ◌++◌, codes, Option, Some, None, option_map}
use Rattle.std.specs.List.{before_first}
use Rattle.sw_data.specs.Addresses.{origin_of}

-- a serialized origin, followed by `^` and the partition where there is one (own)
abbrev pub partitioned : Option (List ℕ) → List ℕ → List ℕ
partitioned None origin = origin
partitioned (Some partition) origin = origin ++ codes "^" ++ partition

-- the storage key of an http or https address and a partition; any other text has none (Storage, "obtain a storage key"; partitions are own)
unfoldable pub key_of : List ℕ → Option (List ℕ) → Option (List ℕ)
key_of address partition = option_map (partitioned partition) (origin_of address)

-- the origin of a key: what stands before its first `^`, or all of it (own)
abbrev pub key_origin : List ℕ → List ℕ
key_origin key = before_first (λ b. b == 94) key
