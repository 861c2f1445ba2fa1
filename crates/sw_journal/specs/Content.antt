-- What the bytes of a journal's part stand for.
use Rattle.std.specs.Prelude.{◌≡◌, ◌⊎◌, ℕ, zero, suc, ◌+◌, ◌==◌, ◌&&◌, nat_lt, Bool, true, false, List, [], ◌∷◌, ◌++◌, length, take, drop, Option, Some, None, if◌then◌else◌}
use Rattle.std.specs.Int.{w32, from_be_bytes}
use Rattle.sw_journal.specs.Format.{Format, format_of, is_numbered}

-- own: how a part reads from a gate on: each whole record with an open gate, as the offset of its gate and its payload;
-- the offset of the gate at which the reading ends; and whether that gate is there and closed
pub record Reading : Type 0 where
  pub records : List (ℕ × List ℕ)
  pub gate : ℕ
  pub is_closed : Bool

-- own: nothing more is read
abbrev pub ends : ℕ → Bool → Reading
ends gate is_closed = record { records = []; gate = gate; is_closed = is_closed }

-- own: these records, and then what the reading goes on with
abbrev pub preceded : List (ℕ × List ℕ) → Reading → Reading
preceded records reading = record { records = records ++ reading.records; gate = reading.gate; is_closed = reading.is_closed }

-- own: the length of the payload of the whole record that these bytes, which follow a gate, begin with. A record is whole
-- where its length, its number, its payload and the next gate are there, and its number is the count of records before it
unfoldable pub payload_length : Format → ℕ → List ℕ → Option ℕ
payload_length format number bytes =
    let size = from_be_bytes w32 (take 4 bytes) in
    if nat_lt (4 + format.width + size) (length bytes) && is_numbered format number (take format.width (drop 4 bytes)) then Some size else None

-- own: the whole record that these bytes, which follow a gate, begin with has this payload, and this follows it
pub record IsRecord (format : Format) (number : ℕ) (bytes payload rest : List ℕ) : Type 0 where
  pub is_whole : payload_length format number bytes ≡ Some (length payload)
  pub payload_is : payload ≡ take (length payload) (drop (4 + format.width) bytes)
  pub rest_is : rest ≡ drop (4 + format.width + length payload) bytes

-- own: the reading of one record, where there is a whole one, and of what follows it
abbrev pub reading_on : Format → ℕ → List ℕ → (ℕ → List ℕ → Reading) → Option ℕ → Reading
reading_on format gate bytes next None = ends gate false
reading_on format gate bytes next (Some size) =
    preceded ((gate, take size (drop (4 + format.width) bytes)) ∷ []) (next (gate + (5 + format.width + size)) (drop (4 + format.width + size) bytes))

-- own: the reading of bytes that begin with a gate, with so many records before it. Each record has more than one byte, so
-- no more are read than there are bytes
unfoldable pub reading_within : ℕ → Format → ℕ → ℕ → List ℕ → Reading
reading_within steps format number gate [] = ends gate false
reading_within zero format number gate (byte ∷ bytes) = ends gate false
reading_within (suc steps) format number gate (byte ∷ bytes) =
    if byte == 1
    then reading_on format gate bytes (λ gate rest. reading_within steps format (number + 1) gate rest) (payload_length format number bytes)
    else ends gate true

unfoldable pub reading_from : Format → ℕ → ℕ → List ℕ → Reading
reading_from format number gate bytes = reading_within (length bytes) format number gate bytes

-- own: how a part of this format reads, behind its header of 16 bytes
unfoldable pub reading : Format → List ℕ → Reading
reading format bytes = reading_from format 0 16 (drop 16 bytes)

-- own: what a part stands for: it has no header; or an open gate at this offset, with these records before it, is followed
-- by no whole record, or the first gate is missing; or it has these records, up to the first closed gate
pub data Content : Type 0 where
  NotFormatted : Content
  BadAt : ℕ → List (ℕ × List ℕ) → Content
  Records : List (ℕ × List ℕ) → Content

abbrev pub content_of_reading : Reading → Content
content_of_reading reading = if reading.is_closed then Records reading.records else BadAt reading.gate reading.records

abbrev pub content_by : Option Format → List ℕ → Content
content_by None bytes = NotFormatted
content_by (Some format) bytes = content_of_reading (reading format bytes)

unfoldable pub content : List ℕ → Content
content bytes = content_by (format_of bytes) bytes

-- own: the reading of these records, up to a closed gate
abbrev pub up_to : List (ℕ × List ℕ) → ℕ → Reading
up_to records gate = record { records = records; gate = gate; is_closed = true }

-- own: a part of this format: its header is there, these records with open gates are whole, and behind them stands the first
-- closed gate
pub record IsPart (format : Format) (records : List (ℕ × List ℕ)) (gate : ℕ) (bytes : List ℕ) : Type 0 where
  pub header : format_of bytes ≡ Some format
  pub reads : reading format bytes ≡ up_to records gate

-- own: a part without a record: it isn't formatted, or it is and has none
abbrev pub IsFresh : List ℕ → Type 0
IsFresh bytes = (content bytes ≡ NotFormatted) ⊎ (content bytes ≡ Records [])

-- own: a part of this format reads as so many records, up to the gate at this offset
pub record EndsAt (format : Format) (bytes : List ℕ) (gate count : ℕ) : Type 0 where
  pub records : List (ℕ × List ℕ)
  pub is_closed : Bool
  pub number : length records ≡ count
  pub reads : reading format bytes ≡ record { records = records; gate = gate; is_closed = is_closed }
