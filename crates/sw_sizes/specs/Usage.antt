-- What kept contents take of the storage (own).
use Rattle.std.specs.Prelude.{ℕ, List, ◌++◌, filter, flat_map, length, map, bytes_eq, sum_by}
use Rattle.sw_data.specs.declared.storage.Kept.{Kept}
use Rattle.sw_data.specs.declared.storage.KeptRegistration.{KeptRegistration}
use Rattle.sw_codec.specs.Spelling.{change_spelling}
use Rattle.sw_rules.specs.Caching.{caches_of}
use Rattle.sw_rules.specs.Durable.{checkpoint_changes, registration_changes}
use Rattle.sw_caches.specs.Changes.{change_size}

-- the registrations of a key
abbrev pub registrations_of : List ℕ → List KeptRegistration → List KeptRegistration
registrations_of key rows = filter (λ row. bytes_eq row.key key) rows

-- what is kept of a key
abbrev pub of_key : List ℕ → Kept → Kept
of_key key kept = record { registrations = registrations_of key kept.registrations; caches = caches_of key kept.caches }

-- the usage: how many bytes the changes of a checkpoint are spelled in
abbrev pub usage : Kept → ℕ
usage kept = length (flat_map change_spelling (checkpoint_changes kept))

-- the usage of a key
abbrev pub usage_of : List ℕ → Kept → ℕ
usage_of key kept = usage (of_key key kept)

-- the keys of a content, that of each registration and each cache
abbrev pub keys_of_kept : Kept → List (List ℕ)
keys_of_kept kept = map (λ row. row.key) kept.registrations ++ map (λ row. row.key) kept.caches

-- how often a key stands among others
abbrev pub occurrences : List ℕ → List (List ℕ) → ℕ
occurrences key keys = length (filter (bytes_eq key) keys)

-- the bytes of a registration: of the changes of a checkpoint that make it
abbrev pub registration_size : KeptRegistration → ℕ
registration_size row = sum_by change_size (registration_changes row)

-- the bytes of registrations
abbrev pub registration_bytes : List KeptRegistration → ℕ
registration_bytes rows = sum_by registration_size rows
