-- The lines of a roster, played: what happens or is asked next, which focus each client has, and how it ends (own).
use Rattle.std.specs.Prelude.{◌≡◌, ◌≢◌, ◌⊎◌, ◌↔◌, ◌+◌, ◌^◌, ◌==◌, ℕ, Bool, true, false, not, ◌&&◌, ◌||◌, List, [], ◌∷◌, ◌++◌, reverse, length, filter, filter_map, find, count_by, slice_get, Option, Some, None, is_none, is_some, option_and_then, if◌then◌else◌}
use Rattle.std.specs.List.{list_all, list_any}
use Rattle.sw_data.specs.declared.events.Event.{Event}
use Rattle.sw_data.specs.declared.events.Who.TheVariants as who
use Rattle.sw_data.specs.declared.histories.Entry.{Entry}
use Rattle.sw_data.specs.declared.recordings.FetchLine.{FetchLine}
use Rattle.sw_data.specs.declared.rows.ClientRow.{ClientRow}
use Rattle.sw_data.specs.Events.{event_of_action}
use Rattle.sw_readers.specs.declared.inputs.RosterLine.{RosterLine}
use Rattle.sw_readers.specs.declared.inputs.RosterLine.TheVariants as line
use Rattle.sw_rules.specs.History.{Legal, moved}
use Rattle.sw_rules.specs.Picks.{is_of_lane}
use Rattle.sw_rules.specs.Restart.{restart}
use Rattle.sw_rules.specs.Rows.{client_row, is_client, is_number, without}
use Rattle.sw_rules.specs.State.{State}
use Rattle.sw_rules.specs.Step.{enabled}
use Rattle.sw_rules.specs.Storage.{nothing}
use Rattle.sw_rules.specs.Tasks.{event_of, ready_tasks}
use Rattle.sw_roster.specs.Members.{closed, dropped, got, is_same, may_ask, members, numbers_of, opened, turned}
use Rattle.sw_roster.specs.declared.beats.Beat.{Beat}
use Rattle.sw_roster.specs.declared.beats.Beat.TheVariants as beat
use Rattle.sw_roster.specs.declared.beats.RosterAnswer.{RosterAnswer}
use Rattle.sw_roster.specs.declared.beats.RosterAnswer.TheVariants as told
use Rattle.sw_roster.specs.declared.beats.RosterEnd.{RosterEnd}
use Rattle.sw_roster.specs.declared.beats.RosterEnd.TheVariants as ending

-- ---- focus; the past is what has come behind the restart, the last first

-- the client was focused
abbrev pub focuses : ℕ → Beat → Bool
focuses client (beat.Asked (line.Focus other) told.Ok) = other == client
focuses client _ = false

-- the client was added
abbrev pub opens : ℕ → Beat → Bool
opens client (beat.Happened entry) = is_number (opened entry.event entry.answer) client
opens client _ = false

-- the client was closed
abbrev pub closes : ℕ → Beat → Bool
closes client (beat.Happened entry) = is_number (closed entry.event entry.answer) client
closes client _ = false

-- the focus of a client: how much stands before the line that focused it last since the `open` that added it, none without one
abbrev pub focus_of : List Beat → ℕ → Option ℕ
focus_of [] client = None
focus_of (latest ∷ past) client =
    if focuses client latest then Some (length past)
    else if opens client latest then None else focus_of past client

-- the client was closed, and neither added nor focused since
abbrev pub is_closed : List Beat → ℕ → Bool
is_closed [] client = false
is_closed (latest ∷ past) client =
    if focuses client latest || opens client latest then false
    else closes client latest || is_closed past client

-- all places, the last first
abbrev pub places : List Beat → List ℕ
places [] = []
places (latest ∷ past) = length past ∷ places past

abbrev pub has_focus : List Beat → ℕ → ClientRow → Bool
has_focus past place client = is_number (focus_of past client.number) place

-- clients with a focus, by falling focus
abbrev pub focused : List Beat → List ClientRow → List ClientRow
focused past rows = filter_map (λ place. find (has_focus past place) rows) (places past)

-- clients without one, as they stand
abbrev pub unfocused : List Beat → List ClientRow → List ClientRow
unfocused past rows = filter (λ row. is_none (focus_of past row.number)) rows

-- the clients that a worker asks for: those with a focus by falling focus, then the others in order of opening (Service Workers, "matchAll(options)")
abbrev pub listed : State → List Beat → ℕ → Bool → List ℕ
listed state past worker uncontrolled =
    let rows = members state worker uncontrolled in
    numbers_of (focused past rows) ++ numbers_of (unfocused past rows)

-- what a line with this answer makes of a list of clients, last focused first
abbrev pub after_asked : RosterLine → RosterAnswer → List ℕ → List ℕ
after_asked (line.Focus client) told.Ok recent = client ∷ without (is_same client) recent
after_asked _ _ recent = recent

-- what all beats make of the clients with a focus, last focused first
abbrev pub recent_of : List Beat → List ℕ
recent_of [] = []
recent_of (beat.Happened entry ∷ past) = dropped (turned entry.event entry.answer) (recent_of past)
recent_of (beat.Asked asked reply ∷ past) = after_asked asked reply (recent_of past)

-- own: what a list of clients, last focused first, says of the past: it has those with a focus that weren't closed since, by falling focus
pub record IsRecent (past : List Beat) (recent : List ℕ) : Type 0 where
  pub members : (client : ℕ) → list_any (is_same client) recent ≡ (is_some (focus_of past client) && not (is_closed past client))
  pub order : (rows : List ClientRow) → list_all (λ row. not (is_closed past row.number)) rows ≡ true
      → filter_map (λ number. find (is_client number) rows) recent ≡ focused past rows

-- who was closed isn't open
abbrev pub AreClosed : List Beat → State → Type 0
AreClosed past state = (client : ℕ) → is_closed past client ≡ true → client_row state client ≡ None

-- ---- answers

abbrev pub got_answer : Option ℕ → RosterAnswer
got_answer (Some client) = told.Client client
got_answer None = told.Undefined

-- what is answered to a line; an action asks nothing
abbrev pub answered : State → List Beat → RosterLine → Option RosterAnswer
answered state past (line.Action action) = None
answered state past (line.Focus client) =
    Some (if is_some (client_row state client) then told.Ok else told.NoClient)
answered state past (line.Get client worker) =
    Some (if may_ask state worker then got_answer (got state client worker) else told.NoWorker)
answered state past (line.List worker uncontrolled) =
    Some (if may_ask state worker then told.Clients (listed state past worker uncontrolled) else told.NoWorker)

-- ---- what comes next

-- the state after what has come
abbrev pub state_at : List Beat → State
state_at [] = restart nothing
state_at (beat.Happened entry ∷ past) = moved (state_at past) entry
state_at (beat.Asked asked reply ∷ past) = state_at past

-- the entries of what has come, in order
abbrev pub entries_of : List Beat → List Entry
entries_of [] = []
entries_of (beat.Happened entry ∷ past) = entries_of past ++ entry ∷ []
entries_of (beat.Asked asked reply ∷ past) = entries_of past

-- an action of the lane
abbrev pub is_action : Beat → Bool
is_action (beat.Happened entry) = is_of_lane 0 entry.who
is_action _ = false

-- what came of a line
abbrev pub is_of_line : Beat → Bool
is_of_line (beat.Happened entry) = is_of_lane 0 entry.who
is_of_line _ = true

-- the next line
abbrev pub next_line : List RosterLine → List Beat → Option RosterLine
next_line lines past = slice_get lines (count_by is_of_line past)

-- the event of a line, where it is the action of this position
abbrev pub event_of_line : ℕ → RosterLine → Option Event
event_of_line at (line.Action action) = Some (event_of_action (who.Lane 0 at) action)
event_of_line at _ = None

-- the event of the next line, where that is an action
abbrev pub line_event : List RosterLine → List Beat → Option Event
line_event lines past = option_and_then (event_of_line (count_by is_action past)) (next_line lines past)

-- the event that comes next: that of the first ready task, or else that of the next line; a task's fetches get the recorded lines
abbrev pub next_event : List FetchLine → List RosterLine → List Beat → Option Event
next_event fetches lines past =
    elim (slice_get (ready_tasks (state_at past)) 0) [
      | Some ready ↦ event_of (record { fetches = fetches; lanes = [] }) (state_at past) ready
      | None ↦ line_event lines past
    ]

-- what is asked comes next: no task is ready, and it is the next line, with its answer
pub record IsAsked (lines : List RosterLine) (past : List Beat) (asked : RosterLine) (reply : RosterAnswer) : Type 0 where
  pub rests : ready_tasks (state_at past) ≡ []
  pub is_next : next_line lines past ≡ Some asked
  pub is_answer : answered (state_at past) past asked ≡ Some reply

abbrev pub Comes : List FetchLine → List RosterLine → List Beat → Beat → Type 0
Comes fetches lines past (beat.Happened entry) = next_event fetches lines past ≡ Some entry.event
Comes fetches lines past (beat.Asked asked reply) = IsAsked lines past asked reply

-- each has come in its turn
abbrev pub HaveCome : List FetchLine → List RosterLine → List Beat → Type 0
HaveCome fetches lines [] = Unit {0}
HaveCome fetches lines (latest ∷ past) = Comes fetches lines past latest × HaveCome fetches lines past

-- ---- ends

-- every line was taken, and no task is ready
pub record IsDone (lines : List RosterLine) (past : List Beat) : Type 0 where
  pub none_left : next_line lines past ≡ None
  pub rests : ready_tasks (state_at past) ≡ []

-- the next line is an action that isn't enabled, and no task is ready
pub record IsStalled (lines : List RosterLine) (past : List Beat) : Type 0 where
  pub happened : Event
  pub is_next : line_event lines past ≡ Some happened
  pub waits : enabled (state_at past) happened ≡ false
  pub rests : ready_tasks (state_at past) ≡ []

-- an event comes next: a task is ready, or the next line is an action that is enabled
abbrev pub IsDue : List RosterLine → List Beat → Type 0
IsDue lines past =
    (ready_tasks (state_at past) ≢ [])
    ⊎ ((happened : Event) × (line_event lines past ≡ Some happened) × (enabled (state_at past) happened ≡ true))

-- 2^32 entries were made, with that of the restart, and an event comes next
pub record IsSpent (lines : List RosterLine) (past : List Beat) : Type 0 where
  pub entries : length (entries_of past) + 1 ≡ 2 ^ 32
  pub due : IsDue lines past

-- how it has ended
pub record HasPlayedOut (lines : List RosterLine) (past : List Beat) (over : RosterEnd) : Type 0 where
  pub done : (over ≡ ending.Done) ↔ IsDone lines past
  pub stalled : (over ≡ ending.Stalled) ↔ IsStalled lines past
  pub spent : over ≡ ending.Spent → IsSpent lines past

-- ---- the whole

-- the lines of a roster were played from no content, with these answers of the network: a restart, then each in its turn, to this end; the entries are a legal history
pub record HasRoster (fetches : List FetchLine) (lines : List RosterLine) (beats : List Beat) (over : RosterEnd) : Type 0 where
  pub opening : Entry
  pub past : List Beat
  pub are : beats ≡ beat.Happened opening ∷ reverse past
  pub legal : Legal nothing (opening ∷ entries_of past)
  pub come : HaveCome fetches lines past
  pub ended : HasPlayedOut lines past over
