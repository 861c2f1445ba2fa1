-- The bytes of the caches of each key, as a map has them.
use Rattle.std.specs.Prelude.{ℕ, List, bytes_eq, if◌then◌else◌}
use Rattle.std.specs.Map.{count_at}
use Rattle.indexmap.specs.IndexMap.{get}
use Rattle.sw_caches.specs.declared.sums.Sums.{Sums}

-- the bytes that stand under a key, none where it stands there not
abbrev pub held : Sums → List ℕ → ℕ
held sums key = count_at (get bytes_eq sums.keys) key

-- bytes at one key alone
abbrev pub at_key : List ℕ → List ℕ → ℕ → ℕ
at_key key other bytes = if bytes_eq key other then bytes else 0
