-- Laws of sizes and usage, each proved by the public call of `sw_sizes::laws` that has its name.
use Rattle.std.specs.Prelude.{◌≡◌, ℕ, ◌+◌, ◌==◌, true, List, length, sum_by}
use Rattle.std.specs.List.{list_all}
use Rattle.sw_data.specs.declared.storage.Change.{Change}
use Rattle.sw_data.specs.declared.storage.Kept.{Kept}
use Rattle.sw_codec.specs.Spelling.{change_spelling}
use Rattle.sw_caches.specs.Bytes.{bytes_of}
use Rattle.sw_caches.specs.Changes.{change_size}
use Rattle.sw_sizes.specs.Usage.{keys_of_kept, occurrences, registration_bytes, usage, usage_of}

-- each change is spelled in as many bytes as its size says, and so the usage is the sum of the bytes of the registrations
-- and of the caches
pub record AreSpelledSo : Type 0 where
  pub change : (change : Change) → length (change_spelling change) ≡ change_size change
  pub content : (kept : Kept) → usage kept ≡ registration_bytes kept.registrations + bytes_of kept.caches

-- the usage is the sum of the usages of keys, of which each that has a registration or a cache stands once
abbrev pub IsSumOverKeys : Type 0
IsSumOverKeys =
    (kept : Kept) (keys : List (List ℕ))
    → list_all (λ key. occurrences key keys == 1) (keys_of_kept kept) ≡ true
    → usage kept ≡ sum_by (λ key. usage_of key kept) keys
