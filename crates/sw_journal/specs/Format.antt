-- The spelling of a journal's part: its header, and what stands in a record.
use Rattle.std.specs.Prelude.{ℕ, ◌+◌, ◌==◌, ◌||◌, Bool, List, ◌++◌, length, take, nat_eq, Option, Some, None, if◌then◌else◌, codes}
use Rattle.std.specs.List.{starts_with}
use Rattle.std.specs.Int.{w32, w64, to_be_bytes, from_be_bytes}

-- own: a format: 1 or 2, the header that a part begins with, and the width in bytes of a record's number (0 or 8)
pub record Format : Type 0 where
  pub version : ℕ
  pub header : List ℕ
  pub width : ℕ

-- own: format 1, whose records have no number
abbrev pub format_1 : Format
format_1 = record { version = 1; header = codes "SWHOST-JOURNAL-1"; width = 0 }

-- own: format 2, which numbers its records
abbrev pub format_2 : Format
format_2 = record { version = 2; header = codes "SWHOST-JOURNAL-2"; width = 8 }

-- own: the format whose header these bytes begin with
unfoldable pub format_of : List ℕ → Option Format
format_of bytes =
    if starts_with nat_eq bytes format_2.header then Some format_2
    else if starts_with nat_eq bytes format_1.header then Some format_1 else None

-- own: what a record needs for a payload of this length: the length (4 bytes), the number, the payload, the next gate
abbrev pub needed_length : Format → ℕ → ℕ
needed_length format size = 5 + format.width + size

-- own: the count of records before it, in the width of the format
abbrev pub number_bytes : Format → ℕ → List ℕ
number_bytes format number = take format.width (to_be_bytes w64 number)

-- own: what a record holds behind its gate: the length as u32, the number as u64 in format 2, the payload; big-endian
abbrev pub record_bytes : Format → ℕ → List ℕ → List ℕ
record_bytes format number payload = to_be_bytes w32 (length payload) ++ number_bytes format number ++ payload

-- own: these bytes tell this number, or the format has none
abbrev pub is_numbered : Format → ℕ → List ℕ → Bool
is_numbered format number bytes = format.width == 0 || from_be_bytes w64 bytes == number
