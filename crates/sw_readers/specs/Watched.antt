-- The lines of a recording with look-ups beside its replay (own).
use Rattle.std.specs.Prelude.{ℕ, nat_lt, List, [], ◌∷◌, ◌++◌, length, codes, Option, Some, None, Result}
use Rattle.serde_json.specs.Data.{Data}
use Rattle.serde_json.specs.Find.{get}
use Rattle.sw_forms.specs.declared.error.Limit.TheVariants as limit
use Rattle.sw_forms.specs.declared.error.RecordingError.{RecordingError}
use Rattle.sw_forms.specs.declared.flaw.Flaw.{Flaw}
use Rattle.sw_forms.specs.declared.flaw.Flaw.TheVariants as flaw
use Rattle.sw_forms.specs.Fetches.{address_part}
use Rattle.sw_forms.specs.Flaws.{both, formed, made, needs}
use Rattle.sw_forms.specs.Members.{has_only}
use Rattle.sw_readers.specs.declared.inputs.LookLine.{LookLine}
use Rattle.sw_readers.specs.declared.inputs.WatchedRecording.{WatchedRecording}
use Rattle.sw_readers.specs.declared.watched.TheConstants.{LOOKS_LIMIT}
use Rattle.sw_readers.specs.declared.watched.WatchedReading.{WatchedReading}
use Rattle.sw_record.specs.Grammar as grammar
use Rattle.sw_record.specs.Grammar.{lines_read, read_as}
use Rattle.sw_record.specs.Lanes.{partition_member}

-- ---- look-ups

abbrev pub look_from : Result (List ℕ) Flaw → Result (Option (List ℕ)) Flaw → Result LookLine Flaw
look_from address partition = made (λ parts. record { address = parts.0; partition = parts.1 }) (both address partition)

-- a look-up has an address, http or https, and maybe a partition
unfoldable pub look_line : Data → Data → Result LookLine Flaw
look_line address value =
    formed (has_only (codes "look" ∷ codes "partition" ∷ []) value)
    (look_from (address_part address) (partition_member value))

-- ---- lines

abbrev pub nothing_read : WatchedReading
nothing_read = record { reading = grammar.nothing_read; looks = [] }

abbrev pub with_look : WatchedReading → LookLine → WatchedReading
with_look so_far look = record { reading = so_far.reading; looks = so_far.looks ++ look ∷ [] }

-- a look-up is one of at most 4,096
abbrev pub with_look_line : WatchedReading → Data → Data → Result WatchedReading Flaw
with_look_line so_far address value =
    made (with_look so_far)
    (needs (nat_lt (length so_far.looks) LOOKS_LIMIT) (flaw.Limit limit.Actions) (look_line address value))

-- what was read with a line of the recording
abbrev pub with_recording_line : WatchedReading → Data → Result WatchedReading Flaw
with_recording_line so_far value =
    made (λ reading. record { reading = reading; looks = so_far.looks }) (grammar.with_value so_far.reading value)

-- what was read with a line of this value: a look-up, or a line of the recording
unfoldable pub with_value : WatchedReading → Data → Result WatchedReading Flaw
with_value so_far value =
    elim (get (codes "look") value) [
      | Some address ↦ with_look_line so_far address value
      | None ↦ with_recording_line so_far value
    ]

-- the recording and its look-ups that a source's bytes are, or its first bad line, counted from 1, with what is wrong with it
unfoldable pub watched_of : List ℕ → Result WatchedRecording RecordingError
watched_of bytes =
    read_as (λ so_far. record { recording = so_far.reading.recording; looks = so_far.looks })
    (lines_read with_value nothing_read bytes)
