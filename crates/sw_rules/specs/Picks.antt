-- How a history follows a recording, when it is complete or stalled, and what the pick order has next.
use Rattle.std.specs.Prelude.{◌≡◌, ℕ, ◌<◌, Bool, true, false, ◌==◌, List, [], length, filter, find, filter_map, count_by, is_none, is_some, Option, Some, None, option_map, option_and_then, slice_get}
use Rattle.std.specs.List.{range_with_len}
use Rattle.sw_data.specs.declared.events.Event.{Event}
use Rattle.sw_data.specs.declared.events.Event.TheVariants as event
use Rattle.sw_data.specs.declared.events.Who.{Who}
use Rattle.sw_data.specs.declared.events.Who.TheVariants as who
use Rattle.sw_data.specs.declared.histories.Entry.{Entry}
use Rattle.sw_data.specs.declared.recordings.Recording.{Recording}
use Rattle.sw_data.specs.declared.storage.Kept.{Kept}
use Rattle.sw_rules.specs.History.{EachLater}
use Rattle.sw_rules.specs.Recordings.{recorded_event}
use Rattle.sw_rules.specs.State.{State}
use Rattle.sw_rules.specs.Step.{enabled}
use Rattle.sw_rules.specs.Rows.{is_unfinished, job_row, task_row}
use Rattle.sw_rules.specs.Tasks.{add_all_lines, event_of, job_line, ready_tasks}

-- ---- lanes

abbrev pub is_of_lane : ℕ → Who → Bool
is_of_lane lane (who.Lane other at) = other == lane
is_of_lane lane _ = false

-- how many entries a lane has made
abbrev pub made_by : ℕ → List Entry → ℕ
made_by lane entries = count_by (λ entry. is_of_lane lane entry.who) entries

-- the next action of a lane, none where the lane is at its end (own)
abbrev pub next_action : Recording → List Entry → ℕ → Option Event
next_action recording entries lane = recorded_event recording lane (made_by lane entries)

-- ---- following a recording

-- an entry of a lane is that lane's next action
abbrev pub IsNextOfLane : Recording → List Entry → Entry → Who → Type 0
IsNextOfLane recording before entry (who.Lane lane at) =
    (at ≡ made_by lane before) × (recorded_event recording lane at ≡ Some entry.event)
IsNextOfLane recording before entry _ = Unit {0}

-- an entry that ends fetches carries the lines that the recording gives for the drawn numbers
abbrev pub HasLines : Recording → State → Event → Type 0
HasLines recording state (event.Fetched who job line) =
    line ≡ option_and_then (job_line recording) (job_row state job)
HasLines recording state (event.Added who number lines) =
    Some lines ≡ option_map (add_all_lines recording) (task_row state number)
HasLines recording state _ = Unit {0}

-- own: an entry is the next action of its lane, and carries the recorded lines
pub record IsRecorded (recording : Recording) (before : List Entry) (state : State) (entry : Entry) : Type 0 where
  pub action : IsNextOfLane recording before entry entry.who
  pub lines : HasLines recording state entry.event

-- an event is one by which the host forgets a key
abbrev pub is_host_forget : Event → Bool
is_host_forget (event.Forget who.Host place) = true
is_host_forget _ = false

-- own: an entry follows the recording, after the entries before it: it is recorded, and forgets nothing for the host
pub record IsFollowing (recording : Recording) (before : List Entry) (state : State) (entry : Entry) : Type 0 where
  pub recorded : IsRecorded recording before state entry
  pub unforced : is_host_forget entry.event ≡ false

-- a history has each lane's actions in order, each once, the recorded lines, and nothing that the host forgets (own)
abbrev pub Follows : Recording → Kept → List Entry → Type 0
Follows recording base history = EachLater (IsFollowing recording) base history

-- ---- ends

-- every lane is at its end, and no work is left (own)
pub record Complete (recording : Recording) (entries : List Entry) (state : State) : Type 0 where
  pub lanes : (lane : ℕ) → next_action recording entries lane ≡ None
  pub jobs : filter is_unfinished state.jobs ≡ []
  pub handlers : filter (λ row. is_some row.handler) state.workers ≡ []
  pub tasks : filter (λ row. is_none row.settled) state.tasks ≡ []
  pub owed : filter (λ row. row.owed) state.registrations ≡ []

-- the first enabled event among the next actions of the lanes, lowest first
abbrev pub first_enabled : Recording → List Entry → State → Option Event
first_enabled recording entries state =
    find (enabled state) (filter_map (next_action recording entries) (range_with_len 0 (length recording.lanes)))

-- nothing may happen, and this is the lowest lane with actions left (own)
pub record Stalled (recording : Recording) (entries : List Entry) (state : State) (lane : ℕ) : Type 0 where
  pub no_action : first_enabled recording entries state ≡ None
  pub no_task : ready_tasks state ≡ []
  pub left : (next_action recording entries lane ≡ None) → ⊥
  pub lowest : (lower : ℕ) → lower < lane → next_action recording entries lower ≡ None

-- ---- the pick order

-- the event of the first ready task
abbrev pub first_task_event : Recording → State → Option Event
first_task_event recording state = option_and_then (event_of recording state) (slice_get (ready_tasks state) 0)

-- what the pick order has next: the lowest lane's enabled action, or else the first ready task (own)
abbrev pub next : Recording → List Entry → State → Option Event
next recording entries state =
    elim (first_enabled recording entries state) [
      | Some happened ↦ Some happened
      | None ↦ first_task_event recording state
    ]

-- an entry is what the pick order has next
abbrev pub IsPicked : Recording → List Entry → State → Entry → Type 0
IsPicked recording before state entry = next recording before state ≡ Some entry.event

-- the history is the one that the pick order fixes (own)
abbrev pub Seq : Recording → Kept → List Entry → Type 0
Seq recording base history = EachLater (IsPicked recording) base history
