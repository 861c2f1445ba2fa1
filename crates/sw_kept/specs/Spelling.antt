-- How a content is spelled as a whole part.
use Rattle.std.specs.Prelude.{◌≡◌, ◌<◌, ◌^◌, [], ◌∷◌, ℕ, List, length, Some}
use Rattle.sw_codec.specs.Spelling.{spelled_all}
use Rattle.sw_data.specs.declared.storage.Change.{Change}
use Rattle.sw_data.specs.declared.storage.Kept.{Kept}
use Rattle.sw_journal.specs.Content.{content}
use Rattle.sw_journal.specs.WholePart.{IsWhole}
use Rattle.sw_kept.specs.Stored.{Keeps, stored_of}
use Rattle.sw_rules.specs.Durable.{checkpoint_changes}

-- own: a payload spells this change alone, and is shorter than 2^32 bytes
pub record SpellsOne (change : Change) (payload : List ℕ) : Type 0 where
  pub spelled_is : spelled_all (change ∷ []) ≡ Some payload
  pub short : length payload < 2 ^ 32

-- own: there is a payload for each change, which spells it
abbrev pub SpellEach : List Change → List (List ℕ) → Type 0
SpellEach [] [] = Unit {0}
SpellEach (change ∷ changes) (payload ∷ payloads) = SpellsOne change payload × SpellEach changes payloads
SpellEach [] (payload ∷ payloads) = ⊥
SpellEach (change ∷ changes) [] = ⊥

-- own: these bytes are a whole part that keeps this content: a record for each change that makes it of nothing
pub record IsContents (kept : Kept) (bytes : List ℕ) : Type 0 where
  pub payloads : List (List ℕ)
  pub each : SpellEach (checkpoint_changes kept) payloads
  pub whole : IsWhole payloads bytes
  pub keeps : stored_of (content bytes) ≡ Keeps kept
