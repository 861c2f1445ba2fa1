-- The caches of all keys, as a list of rows beside what plans need to know of their indexes.
use Rattle.std.specs.Prelude.{◌≡◌, ℕ, ◌+◌, ◌<◌, ◌≤◌, ◌^◌, Bool, true, length, drop, List, [], ◌∷◌, map, filter, set, sum_by, bytes_eq, slice_get, option_map, Option, Some, None, Ok, if◌then◌else◌}
use Rattle.std.specs.Option.{option_map_or}
use Rattle.std.specs.List.{All, range_with_len}
use Rattle.sw_data.specs.declared.exchange.Op.{Op}
use Rattle.sw_data.specs.declared.exchange.Options.{Options}
use Rattle.sw_data.specs.declared.exchange.Request.{Request}
use Rattle.sw_data.specs.declared.storage.KeptCache.{KeptCache}
use Rattle.sw_rules.specs.Matching.{Pair, first_match, query_of}
use Rattle.sw_rules.specs.Batch.{batch}
use Rattle.sw_rules.specs.Caching.{pairs_of, with_pairs}
use Rattle.sw_caches.specs.declared.fault.BatchFault.{BatchFault}
use Rattle.sw_caches.specs.declared.fault.BatchFault.TheVariants as fault
use Rattle.sw_caches.specs.declared.sums.Sums.{Sums}
use Rattle.sw_caches.specs.declared.table.CachePlan.{CachePlan}
use Rattle.sw_list.specs.Named as named
use Rattle.sw_list.specs.Named.{Label, Listing, values}
use Rattle.sw_caches.specs.Bytes.{bytes_of, cache_size, key_bytes, made_size, names_size, puts_size}
use Rattle.sw_caches.specs.Entries.{pairs}
use Rattle.sw_caches.specs.Plans.{FitsCache, Indexed, IsThrown, carried}
use Rattle.sw_caches.specs.Sums.{held}

-- a cache that was just made (Service Workers, CacheStorage, "open()")
abbrev pub empty_cache : List ℕ → List ℕ → KeptCache
empty_cache key name = record { key = key; name = name; pairs = [] }

-- a cache under its key and its name: its pairs, and what their plans need to know
abbrev pub Row : Type 0
Row = Label × Indexed

-- a cache as it is kept
abbrev pub kept_row : Row → KeptCache
kept_row row = record { key = row.0.0; name = row.0.1; pairs = row.1.pairs }

-- the caches in order of creation over all keys, their indexes, how they are found, and for how many more keys there is room
pub record Table : Type 0 where
  pub rows : List KeptCache
  pub indexes : List Indexed
  pub listing : Listing Indexed
  pub spare : ℕ

abbrev pub table : Listing Indexed → ℕ → Table
table listing spare = record { rows = map kept_row listing.rows; indexes = values listing.rows; listing = listing; spare = spare }

-- a cache has the bytes of its key and name
abbrev pub HasNames : Row → Type 0
HasNames row = row.1.names ≡ names_size row.0.0 row.0.1

-- the bytes of caches are counted, those of each key and those of all, which a sum has room for
pub record CountsBytes (rows : List Row) (sums : Sums) : Type 0 where
  pub names : All HasNames rows
  pub few : bytes_of (map kept_row rows) < 2 ^ 64
  pub total : sums.total ≡ bytes_of (map kept_row rows)
  pub held : (key : List ℕ) → held sums key ≡ key_bytes key (map kept_row rows)

-- a cache was made for this table, which has a place in the index for it, and room, also for its bytes
pub record FitsNew (new : KeptCache) (caches : Table) : Type 0 where
  pub row : named.FitsListing (record { key = new.key; name = new.name }) caches.listing
  pub key : 0 < caches.spare
  pub bytes : bytes_of caches.rows + cache_size new < 2 ^ 64

abbrev pub key_and_name : KeptCache → List ℕ × List ℕ
key_and_name row = (row.key, row.name)

-- a row with the pairs that a plan leaves
abbrev pub carried_row : CachePlan → KeptCache → KeptCache
carried_row plan row = record row { pairs = carried plan.change row.pairs }

-- the rows after a plan is carried out
abbrev pub carried_rows : CachePlan → List KeptCache → List KeptCache
carried_rows plan rows =
    option_map_or (λ row. set rows plan.place (carried_row plan row)) (slice_get rows plan.place) rows

-- the bytes of a cache as its plans see it
abbrev pub index_size : Indexed → ℕ
index_size index = made_size index.names index.pairs

-- a plan was made for the cache at its place, and there is room for what it adds, also for its bytes
pub record FitsTable (plan : CachePlan) (indexes : List Indexed) : Type 0 where
  pub index : Indexed
  pub stands : slice_get indexes plan.place ≡ Some index
  pub fits : FitsCache plan.change index
  pub bytes : plan.bytes ≡ puts_size index.names (pairs plan.change.added.items)
  pub room : sum_by index_size indexes + plan.bytes < 2 ^ 64

-- the rows after a batch on the cache of a key and a name, whose pairs are these, where it isn't refused
abbrev pub IsBatchOf : Option (List Pair) → List ℕ → List ℕ → List Op → List KeptCache → List KeptCache → Type 0
IsBatchOf None key name ops old new = ⊥
IsBatchOf (Some pairs) key name ops old new =
    (after : List Pair) × (batch pairs ops ≡ Ok after) × (new ≡ with_pairs key name after old)

abbrev pub IsBatch : List ℕ → List ℕ → List Op → List KeptCache → List KeptCache → Type 0
IsBatch key name ops old new = IsBatchOf (pairs_of key name old) key name ops old new

-- why a batch on the cache whose pairs are these changes nothing
abbrev pub IsRefusedOf : Option (List Pair) → List Op → BatchFault → Type 0
IsRefusedOf None ops why = why ≡ fault.CacheGone
IsRefusedOf (Some pairs) ops why = IsThrown why (batch pairs ops)

abbrev pub IsRefused : List ℕ → List ℕ → List Op → List KeptCache → BatchFault → Type 0
IsRefused key name ops rows why = IsRefusedOf (pairs_of key name rows) ops why

-- the caches of a key, in order of creation
abbrev pub caches_of : List ℕ → List KeptCache → List KeptCache
caches_of key rows = filter (λ row. bytes_eq row.key key) rows

-- the caches from a place on that pass a test
abbrev pub passing_from : (KeptCache → Bool) → ℕ → List Row → List KeptCache
passing_from test from rows = filter test (map kept_row (drop from rows))

-- the caches from a place on that pass a test are this one and those from the next place on
pub record IsNextBy (test : KeptCache → Bool) (from : ℕ) (rows : List Row) (row : KeptCache) (next : ℕ) : Type 0 where
  pub later : from < next
  pub within : next ≤ length rows
  pub few : next < 2 ^ 32
  pub caches : passing_from test from rows ≡ row ∷ passing_from test next rows

-- the caches of a key from a place on
abbrev pub caches_from : List ℕ → ℕ → List Row → List KeptCache
caches_from key from rows = passing_from (λ row. bytes_eq row.key key) from rows

-- the caches of a key from a place on are this one and those from the next place on
abbrev pub IsNextCache : List ℕ → ℕ → List Row → KeptCache → ℕ → Type 0
IsNextCache key from rows row next = IsNextBy (λ row. bytes_eq row.key key) from rows row next

-- the first place that matches in a cache, where it is asked: it has this name, or no name is given
abbrev pub hit_in : Option (List ℕ) → Request → Options → KeptCache → Option ℕ
hit_in name query options row =
    if option_map_or (bytes_eq row.name) name true then option_map (λ item. item.0) (first_match row.pairs query options)
    else None

-- the first cache that has a match, and the first place that matches there; caches count from a number on
abbrev pub hit_from : ℕ → Option (List ℕ) → Request → Options → List KeptCache → Option (ℕ × ℕ)
hit_from at name query options [] = None
hit_from at name query options (row ∷ rest) =
    option_map_or (λ place. Some (at, place)) (hit_in name query options row) (hit_from (at + 1) name query options rest)

-- the places that a query finds, or all places where there is none (Service Workers, Cache, "keys()", "matchAll()")
abbrev pub asked_places : List Pair → Option Request → Options → List ℕ
asked_places pairs None options = range_with_len 0 (length pairs)
asked_places pairs (Some query) options = query_of pairs query options
