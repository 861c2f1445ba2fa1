-- The event that a mark names, in a state and with what is left of a recording.
use Rattle.std.specs.Prelude.{◌≡◌, ℕ, ◌^◌, List, Option, Some, option_map, option_and_then}
use Rattle.sw_data.specs.declared.events.Event.{Event}
use Rattle.sw_data.specs.declared.events.Event.TheVariants as event
use Rattle.sw_data.specs.declared.events.Who.TheVariants as who
use Rattle.sw_data.specs.declared.histories.Entry.{Entry}
use Rattle.sw_data.specs.declared.recordings.Recording.{Recording}
use Rattle.sw_laws.specs.Coherent.{Coherent}
use Rattle.sw_audit.specs.Naming.{AreFew}
use Rattle.sw_rules.specs.History.{IsStep}
use Rattle.sw_rules.specs.Picks.{IsFollowing, next_action}
use Rattle.sw_rules.specs.Rows.{free_handler, job_row, task_row}
use Rattle.sw_rules.specs.State.{State, Handler}
use Rattle.sw_rules.specs.Tasks.{add_all_lines, job_line, next_call}
use Rattle.sw_audit.specs.declared.marks.Kind.{Kind}
use Rattle.sw_audit.specs.declared.marks.Kind.TheVariants as kind
use Rattle.sw_audit.specs.declared.marks.Mark.{Mark}
use Rattle.sw_audit.specs.declared.marks.Mark.TheVariants as mark

-- the next call of a worker's handler as an event; none where none runs, or it can't go on, or has made all
abbrev pub call_event : State → ℕ → Handler → Option Event
call_event state worker row = option_map (event.Call (who.Handler worker row.phase row.made)) (next_call state worker row)

abbrev pub called_event : State → ℕ → Option Event
called_event state worker = option_and_then (call_event state worker) (free_handler state worker)

-- the event of the host of a kind and a number, with the lines that a recording has for its fetches
abbrev pub host_event : Recording → State → Kind → ℕ → Option Event
host_event recording state kind.Run job = Some (event.Run who.Host job)
host_event recording state kind.Fetched job =
    Some (event.Fetched who.Host job (option_and_then (job_line recording) (job_row state job)))
host_event recording state kind.Evaluated job = Some (event.Evaluated who.Host job)
host_event recording state kind.Installed job = Some (event.Installed who.Host job)
host_event recording state kind.TryActivate registration = Some (event.TryActivate who.Host registration)
host_event recording state kind.Activated worker = Some (event.Activated who.Host worker)
host_event recording state kind.Added task =
    option_map (λ row. event.Added who.Host task (add_all_lines recording row)) (task_row state task)

-- the event that a mark names after a history of entries, which leaves a state (own)
abbrev pub named : Recording → List Entry → State → Mark → Option Event
named recording entries state (mark.Lane lane) = next_action recording entries lane
named recording entries state (mark.Handler worker) = called_event state worker
named recording entries state (mark.Host what number) = host_event recording state what number

-- own: rows stand at their numbers, which are numbers of 32 bits, and so are those of the lanes
pub record AreSmall (recording : Recording) (state : State) : Type 0 where
  pub sound : Coherent state
  pub few : AreFew (2 ^ 32) recording state

-- own: an entry is a step of a state that follows a recording, and its event is the one that a mark names
pub record IsNamed (recording : Recording) (before : List Entry) (state : State) (marked : Mark) (entry : Entry) : Type 0 where
  pub named : named recording before state marked ≡ Some entry.event
  pub step : IsStep before state entry
  pub following : IsFollowing recording before state entry
