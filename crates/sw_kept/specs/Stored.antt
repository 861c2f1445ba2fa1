-- What an image of a disk keeps.
use Rattle.std.specs.Prelude.{◌≡◌, ℕ, Bool, true, false, List, [], ◌∷◌, Result, Ok, Err}
use Rattle.sw_codec.specs.Reading.{read_changes}
use Rattle.sw_data.specs.declared.storage.Change.{Change}
use Rattle.sw_data.specs.declared.storage.Kept.{Kept}
use Rattle.sw_disk.specs.Image.{Image}
use Rattle.sw_journal.specs.Content.{Content, BadAt, NotFormatted, Records}
use Rattle.sw_rules.specs.Storage.{kept_after, nothing}
use Rattle.sw_twin.specs.Current.{content_of}

-- own: what an image keeps: it isn't formatted; or it is bad at an offset; or it keeps this content
pub data Stored : Type 0 where
  Unformatted : Stored
  Bad : ℕ → Stored
  Keeps : Kept → Stored

-- own: what follows where bytes spell changes, which are carried out on a content; or the offset of their gate
abbrev pub carried : Kept → ℕ → (Kept → Result Kept ℕ) → Result (List Change) ℕ → Result Kept ℕ
carried kept gate next (Ok changes) = next (kept_after kept changes)
carried kept gate next (Err offset) = Err gate

-- own: the content that the changes of these records make of this one, in order; or the offset of the gate of the first record
-- whose payload spells no changes
unfoldable pub made_by : Kept → List (ℕ × List ℕ) → Result Kept ℕ
made_by kept [] = Ok kept
made_by kept (first ∷ rest) = carried kept first.0 (λ after. made_by after rest) (read_changes first.1)

-- own: a payload spells changes, and they were carried out; or it spells none
abbrev pub IsCarried : Bool → Kept → Kept → List ℕ → Type 0
IsCarried true old new payload = (changes : List Change) × (read_changes payload ≡ Ok changes) × (new ≡ kept_after old changes)
IsCarried false old new payload = (offset : ℕ) × (read_changes payload ≡ Err offset)

abbrev pub kept_by : Result Kept ℕ → Stored
kept_by (Ok kept) = Keeps kept
kept_by (Err gate) = Bad gate

-- own: the same of records behind which a part is bad at an offset
abbrev pub bad_by : ℕ → Result Kept ℕ → Stored
bad_by offset (Ok kept) = Bad offset
bad_by offset (Err gate) = Bad gate

abbrev pub stored_of : Content → Stored
stored_of NotFormatted = Unformatted
stored_of (BadAt offset before) = bad_by offset (made_by nothing before)
stored_of (Records records) = kept_by (made_by nothing records)

-- what an image keeps: the content that the changes spelled by the records of its current part make of nothing; a record
-- that spells none is bad before all that follows it
abbrev pub stored : Image → Stored
stored image = stored_of (content_of image)

-- own: an image keeps this content
abbrev pub HasKept : Kept → Image → Type 0
HasKept kept image = stored image ≡ Keeps kept
