-- The grammar of a recording: one fold over its numbered lines, with what was read so far.
use Rattle.std.specs.Prelude.{◌≡◌, ℕ, ◌+◌, Bool, true, false, ◌||◌, ◌==◌, nat_lt, List, [], ◌∷◌, ◌++◌, zero, suc, codes, Option, Some, None, option_and_then, Result, Ok, Err, slice_get, if◌then◌else◌}
use Rattle.std.specs.List.{list_all, slice_split}
use Rattle.std.specs.Str.{is_utf8}
use Rattle.serde_json.specs.Data.{Data}
use Rattle.serde_json.specs.Find.{get}
use Rattle.serde_json.specs.Read.{read}
use Rattle.sw_data.specs.declared.recordings.Action.{Action}
use Rattle.sw_data.specs.declared.recordings.Action.TheVariants as action
use Rattle.sw_data.specs.declared.recordings.FetchLine.{FetchLine}
use Rattle.sw_data.specs.declared.recordings.Recording.{Recording}
use Rattle.sw_forms.specs.declared.error.LineCause.TheVariants as cause
use Rattle.sw_forms.specs.declared.error.Limit.TheVariants as limit
use Rattle.sw_forms.specs.declared.error.RecordingError.{RecordingError}
use Rattle.sw_forms.specs.declared.error.RecordingError.TheVariants as error
use Rattle.sw_forms.specs.declared.flaw.Flaw.{Flaw}
use Rattle.sw_forms.specs.declared.flaw.Flaw.TheVariants as flaw
use Rattle.sw_forms.specs.Fetches.{fetch_line}
use Rattle.sw_forms.specs.Flaws.{error_at, made, needs, no_json}
use Rattle.sw_forms.specs.declared.limits.TheConstants.{ACTIONS_LIMIT}
use Rattle.sw_record.specs.declared.reading.Reading.{Reading}
use Rattle.sw_record.specs.Lanes.{lane_line}

-- ---- what was read so far

-- nothing was read
abbrev pub nothing_read : Reading
nothing_read = record { recording = record { fetches = []; lanes = [] }; actions = 0 }

-- the lanes with a further action of this lane, the lanes below it being there
abbrev pub with_action : ℕ → Action → List (List Action) → List (List Action)
with_action zero next [] = (next ∷ []) ∷ []
with_action zero next (lane ∷ rest) = (lane ++ next ∷ []) ∷ rest
with_action (suc below) next [] = [] ∷ with_action below next []
with_action (suc below) next (lane ∷ rest) = lane ∷ with_action below next rest

-- the action's promise can be awaited
abbrev pub has_promise : Action → Bool
has_promise (action.Register register) = true
has_promise (action.Update of) = true
has_promise (action.Unregister of) = true
has_promise (action.AddAll place add) = true
has_promise _ = false

-- there is such an action, and its promise can be awaited
abbrev pub is_promise : Option Action → Bool
is_promise None = false
is_promise (Some made_before) = has_promise made_before

-- the action at a position of a lane so far
abbrev pub action_so_far : ℕ → ℕ → List (List Action) → Option Action
action_so_far lane at lanes = option_and_then (λ actions. slice_get actions at) (slice_get lanes lane)

-- an action may stand behind those of its lane: what it awaits can be awaited
abbrev pub may_follow : ℕ → Action → List (List Action) → Bool
may_follow lane (action.Await of) lanes = is_promise (action_so_far lane of lanes)
may_follow lane _ lanes = true

-- ---- one line

abbrev pub with_fetch : Reading → FetchLine → Reading
with_fetch so_far line =
    record so_far { recording = record { fetches = so_far.recording.fetches ++ line ∷ []; lanes = so_far.recording.lanes } }

abbrev pub with_lane_action : Reading → ℕ → Action → Reading
with_lane_action so_far lane next = record {
  recording = record {
    fetches = so_far.recording.fetches;
    lanes = with_action lane next so_far.recording.lanes;
  };
  actions = so_far.actions + 1;
}

-- a further action, where it may follow
abbrev pub followed : Reading → ℕ → Action → Result Reading Flaw
followed so_far lane next =
    if may_follow lane next so_far.recording.lanes then Ok (with_lane_action so_far lane next)
    else Err (flaw.Cause cause.Await)

-- what was read with a lane line
abbrev pub with_lane_line : Reading → Data → Result Reading Flaw
with_lane_line so_far value =
    elim (needs (nat_lt so_far.actions ACTIONS_LIMIT) (flaw.Limit limit.Actions) (lane_line value)) [
      | Ok line ↦ followed so_far line.0 line.1
      | Err why ↦ Err why
    ]

-- what was read with a line of this value: a fetch line, or a lane line
unfoldable pub with_value : Reading → Data → Result Reading Flaw
with_value so_far value =
    elim (get (codes "fetch") value) [
      | Some address ↦ made (with_fetch so_far) (fetch_line address value)
      | None ↦ with_lane_line so_far value
    ]

-- ---- lines

-- the lines of a source, those between line feeds
abbrev pub lines_of : List ℕ → List (List ℕ)
lines_of bytes = slice_split (λ b. b == 10) bytes

-- the JSON value of a line; none where it isn't UTF-8 or isn't JSON
abbrev pub json_of : List ℕ → Option Data
json_of line = if is_utf8 line then read line else None

-- a space, a tab or a carriage return
abbrev pub is_blank : ℕ → Bool
is_blank b = b == 32 || b == 9 || b == 13

-- what was read with a line that isn't blank, its value being added so
abbrev pub text_read : {R : Type 0} → (R → Data → Result R Flaw) → R → List ℕ → Result R Flaw
text_read add so_far line = elim (json_of line) [ Some value ↦ add so_far value | None ↦ Err no_json ]

-- what was read with a line; a blank one is skipped
unfoldable pub line_read : {R : Type 0} → (R → Data → Result R Flaw) → R → List ℕ → Result R Flaw
line_read add so_far line = elim (list_all is_blank line) [ true ↦ Ok so_far | false ↦ text_read add so_far line ]

-- what was read with the lines from this number on, or the refusal of the first bad one
abbrev pub lines_from : {R : Type 0} → (R → Data → Result R Flaw) → R → ℕ → List (List ℕ) → Result R RecordingError
lines_from add so_far number [] = Ok so_far
lines_from add so_far number (line ∷ rest) =
    elim (line_read add so_far line) [
      | Ok next ↦ lines_from add next (number + 1) rest
      | Err why ↦ Err (error_at number why)
    ]

-- what the lines of a source are read as, each line's value being added to what was read before it; or the first bad line,
-- counted from 1, with what is wrong with it
unfoldable pub lines_read : {R : Type 0} → (R → Data → Result R Flaw) → R → List ℕ → Result R RecordingError
lines_read add nothing bytes = lines_from add nothing 1 (lines_of bytes)

-- what is made of what was read
abbrev pub read_as : {A B : Type 0} → (A → B) → Result A RecordingError → Result B RecordingError
read_as make (Ok whole) = Ok (make whole)
read_as make (Err why) = Err why

-- the recording that a source's bytes are, or its first bad line, counted from 1, with what is wrong with it
unfoldable pub recording_of : List ℕ → Result Recording RecordingError
recording_of bytes = read_as (λ reading. reading.recording) (lines_read with_value nothing_read bytes)

-- an answer is the one of the rule, unless memory ran out
abbrev pub Reads : {R : Type 0} → Result R RecordingError → Result R RecordingError → Type 0
Reads (Ok whole) rule = rule ≡ Ok whole
Reads (Err error.NoMemory) rule = Unit {0}
Reads (Err (error.BadLine line why)) rule = rule ≡ Err (error.BadLine line why)
Reads (Err (error.TooLarge line passed)) rule = rule ≡ Err (error.TooLarge line passed)
