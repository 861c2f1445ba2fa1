-- What caches take of the storage: how many bytes the changes of a checkpoint that make them are spelled in (own).
use Rattle.std.specs.Prelude.{ℕ, ◌+◌, List, sum_by}
use Rattle.sw_data.specs.declared.exchange.Op.TheVariants as op
use Rattle.sw_data.specs.declared.storage.KeptCache.{KeptCache}
use Rattle.sw_data.specs.Sizes.{op_size, text_size}
use Rattle.sw_rules.specs.Caching.{caches_of}
use Rattle.sw_rules.specs.Matching.{Pair}

-- the bytes of the key and the name of a cache
abbrev pub names_size : List ℕ → List ℕ → ℕ
names_size key name = text_size key + text_size name

-- the bytes of the operation that puts a pair
abbrev pub put_size : Pair → ℕ
put_size pair = op_size (op.Put pair.0 pair.1)

-- the bytes of the changes that put pairs, one each, into a cache whose key and name have so many bytes
abbrev pub puts_size : ℕ → List Pair → ℕ
puts_size names pairs = sum_by (λ pair. 5 + names + put_size pair) pairs

-- the bytes of the changes that make a cache of these pairs, whose key and name have so many bytes
abbrev pub made_size : ℕ → List Pair → ℕ
made_size names pairs = 1 + names + puts_size names pairs

-- the bytes of the change that puts a pair into the cache of a key and a name
abbrev pub pair_size : List ℕ → List ℕ → Pair → ℕ
pair_size key name pair = 5 + names_size key name + put_size pair

-- the bytes of a cache: of the change that makes it, and of those that put its pairs
abbrev pub cache_size : KeptCache → ℕ
cache_size row = 1 + names_size row.key row.name + sum_by (pair_size row.key row.name) row.pairs

-- the bytes of caches
abbrev pub bytes_of : List KeptCache → ℕ
bytes_of rows = sum_by cache_size rows

-- the bytes of the caches of a key
abbrev pub key_bytes : List ℕ → List KeptCache → ℕ
key_bytes key rows = bytes_of (caches_of key rows)
