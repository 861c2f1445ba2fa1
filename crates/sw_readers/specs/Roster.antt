-- The lines of a roster: what the network answers, the actions of one lane, and what is asked of the clients (own).
use Rattle.std.specs.Prelude.{ℕ, Bool, true, false, ◌==◌, nat_lt, List, [], ◌∷◌, ◌++◌, length, codes, slice_get, Option, Some, None, Result, Ok, Err, if◌then◌else◌}
use Rattle.serde_json.specs.Data.{Data}
use Rattle.serde_json.specs.Find.{get}
use Rattle.sw_data.specs.declared.recordings.Action.{Action}
use Rattle.sw_data.specs.declared.recordings.Action.TheVariants as action
use Rattle.sw_data.specs.declared.recordings.FetchLine.{FetchLine}
use Rattle.sw_forms.specs.declared.error.LineCause.TheVariants as cause
use Rattle.sw_forms.specs.declared.error.Limit.TheVariants as limit
use Rattle.sw_forms.specs.declared.error.RecordingError.{RecordingError}
use Rattle.sw_forms.specs.declared.flaw.Flaw.{Flaw}
use Rattle.sw_forms.specs.declared.flaw.Flaw.TheVariants as flaw
use Rattle.sw_forms.specs.declared.limits.TheConstants.{ACTIONS_LIMIT}
use Rattle.sw_forms.specs.Fetches.{fetch_line}
use Rattle.sw_forms.specs.Flaws.{both, formed, made, needs}
use Rattle.sw_forms.specs.Members.{has_only, number_of, required, truth_of}
use Rattle.sw_readers.specs.declared.inputs.RosterLine.{RosterLine}
use Rattle.sw_readers.specs.declared.inputs.RosterLine.TheVariants as line
use Rattle.sw_readers.specs.declared.inputs.RosterRecording.{RosterRecording}
use Rattle.sw_readers.specs.declared.roster.RosterReading.{RosterReading}
use Rattle.sw_record.specs.Grammar.{has_promise, lines_read, read_as}
use Rattle.sw_record.specs.Lanes.{action_member, lane_member}

-- ---- what is asked of the clients

-- {"focus":C}
unfoldable pub focus_line : Data → Data → Result RosterLine Flaw
focus_line client value = formed (has_only (codes "focus" ∷ []) value) (made line.Focus (number_of client))

-- {"get":C,"worker":W}
unfoldable pub get_line : Data → Data → Result RosterLine Flaw
get_line client value =
    formed (has_only (codes "get" ∷ codes "worker" ∷ []) value)
    (made (λ parts. line.Get parts.0 parts.1)
    (both (number_of client) (required number_of (get (codes "worker") value))))

abbrev pub uncontrolled_member : Data → Result Bool Flaw
uncontrolled_member value = required truth_of (get (codes "uncontrolled") value)

-- {"list":W,"uncontrolled":B}
unfoldable pub list_line : Data → Data → Result RosterLine Flaw
list_line worker value =
    formed (has_only (codes "list" ∷ codes "uncontrolled" ∷ []) value)
    (made (λ parts. line.List parts.0 parts.1)
    (both (number_of worker) (uncontrolled_member value)))

-- what a line asks of a worker's clients, if it does
unfoldable pub list_asked : Data → Option (Result RosterLine Flaw)
list_asked value = elim (get (codes "list") value) [ Some worker ↦ Some (list_line worker value) | None ↦ None ]

unfoldable pub get_asked : Data → Option (Result RosterLine Flaw)
get_asked value = elim (get (codes "get") value) [ Some client ↦ Some (get_line client value) | None ↦ list_asked value ]

-- what a line asks of the clients, if it does
unfoldable pub asked : Data → Option (Result RosterLine Flaw)
asked value = elim (get (codes "focus") value) [ Some client ↦ Some (focus_line client value) | None ↦ get_asked value ]

-- ---- actions

-- a roster has lane 0 alone
abbrev pub only_lane : Result ℕ Flaw → Result ℕ Flaw
only_lane (Ok lane) = formed (lane == 0) (Ok lane)
only_lane (Err why) = Err why

-- the action of a lane line
unfoldable pub roster_action : Data → Result Action Flaw
roster_action value = made (λ parts. parts.1) (both (only_lane (lane_member value)) (action_member value))

-- an action may stand behind those of the lane: what it awaits can be awaited
abbrev pub may_follow : List Bool → Action → Bool
may_follow promises (action.Await of) = elim (slice_get promises of) [ Some can ↦ can | None ↦ false ]
may_follow promises _ = true

-- ---- lines

abbrev pub nothing_read : RosterReading
nothing_read = record { recording = record { fetches = []; lines = [] }; promises = [] }

abbrev pub with_fetch : RosterReading → FetchLine → RosterReading
with_fetch so_far next = record so_far {
  recording = record { fetches = so_far.recording.fetches ++ next ∷ []; lines = so_far.recording.lines };
}

abbrev pub with_line : RosterReading → RosterLine → RosterReading
with_line so_far next = record so_far {
  recording = record { fetches = so_far.recording.fetches; lines = so_far.recording.lines ++ next ∷ [] };
}

abbrev pub with_action : RosterReading → Action → RosterReading
with_action so_far next = record (with_line so_far (line.Action next)) {
  promises = so_far.promises ++ has_promise next ∷ [];
}

-- a further action, where it may follow
abbrev pub followed : RosterReading → Action → Result RosterReading Flaw
followed so_far next =
    if may_follow so_far.promises next then Ok (with_action so_far next) else Err (flaw.Cause cause.Await)

-- what was read with a lane line
abbrev pub with_lane_line : RosterReading → Data → Result RosterReading Flaw
with_lane_line so_far value =
    elim (needs (nat_lt (length so_far.promises) ACTIONS_LIMIT) (flaw.Limit limit.Actions) (roster_action value)) [
      | Ok next ↦ followed so_far next
      | Err why ↦ Err why
    ]

-- what was read with a line that is no fetch line
unfoldable pub with_roster_line : RosterReading → Data → Result RosterReading Flaw
with_roster_line so_far value =
    elim (asked value) [ Some next ↦ made (with_line so_far) next | None ↦ with_lane_line so_far value ]

-- what was read with a line of this value: a fetch line, what is asked of the clients, or a lane line
unfoldable pub with_value : RosterReading → Data → Result RosterReading Flaw
with_value so_far value =
    elim (get (codes "fetch") value) [
      | Some address ↦ made (with_fetch so_far) (fetch_line address value)
      | None ↦ with_roster_line so_far value
    ]

-- the roster that a source's bytes are, or its first bad line, counted from 1, with what is wrong with it
unfoldable pub roster_of : List ℕ → Result RosterRecording RecordingError
roster_of bytes = read_as (λ reading. reading.recording) (lines_read with_value nothing_read bytes)
