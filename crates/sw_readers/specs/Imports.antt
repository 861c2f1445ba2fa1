-- The lines of the checks of imported scripts: what the network answers, and which scripts are checked (own).
use Rattle.std.specs.Prelude.{ℕ, List, [], ◌∷◌, ◌++◌, false, codes, Option, Some, None, Result, Err}
use Rattle.serde_json.specs.Data.{Data}
use Rattle.serde_json.specs.Find.{get}
use Rattle.sw_data.specs.declared.exchange.Response.{Response}
use Rattle.sw_data.specs.declared.recordings.Fetched.{Fetched}
use Rattle.sw_data.specs.declared.recordings.Handlers.{Handlers}
use Rattle.sw_forms.specs.declared.error.Limit.TheVariants as limit
use Rattle.sw_forms.specs.declared.error.RecordingError.{RecordingError}
use Rattle.sw_forms.specs.declared.flaw.Flaw.{Flaw}
use Rattle.sw_forms.specs.declared.flaw.Flaw.TheVariants as flaw
use Rattle.sw_forms.specs.declared.limits.TheConstants.{CALLS_LIMIT}
use Rattle.sw_forms.specs.Exchanges.{response_parts}
use Rattle.sw_forms.specs.Fetches.{address_part, error_line}
use Rattle.sw_forms.specs.Flaws.{both, formed, made, no_form}
use Rattle.sw_forms.specs.Members.{defaulted, has_only, list_of, short_text_of}
use Rattle.sw_readers.specs.declared.inputs.ImportFetch.{ImportFetch}
use Rattle.sw_readers.specs.declared.inputs.ImportRecording.{ImportRecording}
use Rattle.sw_readers.specs.declared.imports.ImportReading.{ImportReading}
use Rattle.sw_record.specs.Grammar.{lines_read, read_as}

-- ---- fetch lines

-- the texts that a script imports, at most 64; none where they aren't given
unfoldable pub imports_member : Data → Result (List (List ℕ)) Flaw
imports_member value =
    defaulted [] (list_of CALLS_LIMIT (flaw.Limit limit.Calls) short_text_of) (get (codes "imports") value)

-- what a network answers, and what the script in it imports
abbrev pub Answer : Type 0
Answer = Option Fetched × List (List ℕ)

-- a worker that only runs
abbrev pub no_handlers : Handlers
no_handlers = record { throws = false; install = []; install_fails = false; activate = [] }

abbrev pub answer_from : Result Response Flaw → Result (List (List ℕ)) Flaw → Result Answer Flaw
answer_from response imports =
    made (λ parts. (Some (record { response = parts.0; handlers = no_handlers }), parts.1)) (both response imports)

abbrev pub answer_members : List (List ℕ)
answer_members =
    codes "fetch" ∷ codes "status" ∷ codes "headers" ∷ codes "text" ∷ codes "body" ∷ codes "imports" ∷ []

-- a response, and what the script in it imports
unfoldable pub answer_line : Data → Result Answer Flaw
answer_line value = formed (has_only answer_members value) (answer_from (response_parts value) (imports_member value))

-- a network error has nothing else
unfoldable pub answer_of : Data → Result Answer Flaw
answer_of value =
    elim (get (codes "error") value) [
      | Some mark ↦ made (λ fetched. (fetched, [])) (error_line mark value)
      | None ↦ answer_line value
    ]

abbrev pub import_from : Result (List ℕ) Flaw → Result Answer Flaw → Result ImportFetch Flaw
import_from address answer =
    made
    (λ parts. record { line = record { fetch = parts.0; fetched = parts.1.0 }; imports = parts.1.1 })
    (both address answer)

-- the fetch line of an address
unfoldable pub import_line : Data → Data → Result ImportFetch Flaw
import_line address value = import_from (address_part address) (answer_of value)

-- ---- checks

-- a check has an address, http or https, and nothing else
unfoldable pub check_line : Data → Data → Result (List ℕ) Flaw
check_line address value = formed (has_only (codes "check" ∷ []) value) (address_part address)

-- ---- lines

abbrev pub nothing_read : ImportReading
nothing_read = record { recording = record { fetches = []; checks = [] } }

abbrev pub with_fetch : ImportReading → ImportFetch → ImportReading
with_fetch so_far line = record {
  recording = record { fetches = so_far.recording.fetches ++ line ∷ []; checks = so_far.recording.checks };
}

abbrev pub with_check : ImportReading → List ℕ → ImportReading
with_check so_far script = record {
  recording = record { fetches = so_far.recording.fetches; checks = so_far.recording.checks ++ script ∷ [] };
}

-- what was read with a line that is no fetch line
unfoldable pub with_check_line : ImportReading → Data → Result ImportReading Flaw
with_check_line so_far value =
    elim (get (codes "check") value) [
      | Some address ↦ made (with_check so_far) (check_line address value)
      | None ↦ Err no_form
    ]

-- what was read with a line of this value: a fetch line, or a check
unfoldable pub with_value : ImportReading → Data → Result ImportReading Flaw
with_value so_far value =
    elim (get (codes "fetch") value) [
      | Some address ↦ made (with_fetch so_far) (import_line address value)
      | None ↦ with_check_line so_far value
    ]

-- the checks that a source's bytes are, or its first bad line, counted from 1, with what is wrong with it
unfoldable pub imports_of : List ℕ → Result ImportRecording RecordingError
imports_of bytes = read_as (λ reading. reading.recording) (lines_read with_value nothing_read bytes)
