-- A part that is written whole: its records, and nothing behind them.
use Rattle.std.specs.Prelude.{◌≡◌, ℕ, ◌+◌, ◌^◌, ◌<◌, List, [], ◌∷◌, ◌++◌, length}
use Rattle.std.specs.List.{All}
use Rattle.sw_journal.specs.Format.{Format, format_2, record_bytes, needed_length}

-- own: open records of these payloads, one behind the other, numbered from here on
abbrev pub open_records : Format → ℕ → List (List ℕ) → List ℕ
open_records format number [] = []
open_records format number (payload ∷ payloads) = 1 ∷ (record_bytes format number payload ++ open_records format (number + 1) payloads)

-- own: a whole part: the header, an open record for each payload, and a closed gate
abbrev pub whole_part : Format → List (List ℕ) → List ℕ
whole_part format payloads = format.header ++ (open_records format 0 payloads ++ 0 ∷ [])

-- own: each payload with the offset of its gate, the first at this one
abbrev pub placed : Format → ℕ → List (List ℕ) → List (ℕ × List ℕ)
placed format gate [] = []
placed format gate (payload ∷ payloads) = (gate, payload) ∷ placed format (gate + needed_length format (length payload)) payloads

-- own: the offset behind such records
abbrev pub place_behind : Format → ℕ → List (List ℕ) → ℕ
place_behind format gate [] = gate
place_behind format gate (payload ∷ payloads) = place_behind format (gate + needed_length format (length payload)) payloads

-- own: these bytes are a whole part of format 2 with these payloads, whose lengths and number have their spelling
pub record IsWhole (payloads : List (List ℕ)) (bytes : List ℕ) : Type 0 where
  pub short : All (λ p. length p < 2 ^ 32) payloads
  pub few : length payloads < 2 ^ 64
  pub whole : bytes ≡ whole_part format_2 payloads
