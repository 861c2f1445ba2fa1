-- Which caches a look-up asks, and what a match is as an answer.
use Rattle.std.specs.Prelude.{ℕ, ◌&&◌, Bool, true, List, Option, bytes_eq, length}
use Rattle.std.specs.Option.{option_map_or}
use Rattle.sw_data.specs.declared.answers.Answer.{Answer}
use Rattle.sw_data.specs.declared.answers.Answer.TheVariants as answer
use Rattle.sw_data.specs.declared.storage.KeptCache.{KeptCache}
use Rattle.sw_caches.specs.declared.hits.Found.{Found}

-- the answer of a look-up that found this (Service Workers, CacheStorage, "match()")
abbrev pub found_answer : Found → Answer
found_answer found = answer.Hit found.name.now found.place found.response.now.status (length found.response.now.body)

-- the cache is asked: it is of this key, and where a name is given, of this name
abbrev pub is_asked : List ℕ → Option (List ℕ) → KeptCache → Bool
is_asked key name row = bytes_eq row.key key && option_map_or (bytes_eq row.name) name true
