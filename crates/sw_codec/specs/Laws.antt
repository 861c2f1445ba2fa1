-- Laws of spelling and reading, each proved by the public call of `sw_codec::laws` that has its name.
use Rattle.std.specs.Prelude.{◌≡◌, ◌≢◌, ℕ, ◌<◌, ◌≤◌, List, [], ◌++◌, length, take, drop, Some, Ok, Err, get_or}
use Rattle.sw_data.specs.declared.exchange.Op.{Op}
use Rattle.sw_data.specs.declared.storage.Change.{Change}
use Rattle.sw_data.specs.Sizes.{op_size}
use Rattle.sw_codec.specs.Spelling.{op_spelling, spelled, spelled_all}
use Rattle.sw_codec.specs.Reading.{read_changes}

-- each member is a byte
abbrev pub AreBytes : List ℕ → Type 0
AreBytes bytes = (at : ℕ) → get_or bytes at 0 < 256

-- where bytes begin with the spellings of two changes, these are one change
abbrev pub BeginsNoOther : Type 0
BeginsNoOther =
    (one other : Change) (front other_front rest other_rest : List ℕ)
    → spelled one ≡ Some front → spelled other ≡ Some other_front → front ++ rest ≡ other_front ++ other_rest
    → (one ≡ other) × (front ≡ other_front) × (rest ≡ other_rest)

-- a change has at most one spelling
abbrev pub HasOneSpelling : Type 0
HasOneSpelling =
    (change : Change) (one other : List ℕ) → spelled change ≡ Some one → spelled change ≡ Some other → one ≡ other

-- what changes are spelled as is read as these changes
abbrev pub IsReadAgain : Type 0
IsReadAgain =
    (changes : List Change) (bytes : List ℕ) → changes ≢ [] → spelled_all changes ≡ Some bytes
    → read_changes bytes ≡ Ok changes

-- what is read is spelled as it stood there
abbrev pub IsSpelledAgain : Type 0
IsSpelledAgain =
    (changes : List Change) (bytes : List ℕ) → AreBytes bytes → read_changes bytes ≡ Ok changes
    → (changes ≢ []) × (spelled_all changes ≡ Some bytes)

-- bytes are bad at an offset where changes are spelled up to it, and no front of what follows is the spelling of a change
abbrev pub IsBadThere : Type 0
IsBadThere =
    (bytes : List ℕ) (offset : ℕ) → AreBytes bytes → read_changes bytes ≡ Err offset
    → (offset ≤ length bytes)
    × ((changes : List Change) × (spelled_all changes ≡ Some (take offset bytes)))
    × ((change : Change) (front rest : List ℕ) → spelled change ≡ Some front → drop offset bytes ≡ front ++ rest → ⊥)

-- the operations of a batch are as long as its quota counts them
abbrev pub HasQuotaSize : Type 0
HasQuotaSize = (op : Op) → length (op_spelling op) ≡ op_size op
