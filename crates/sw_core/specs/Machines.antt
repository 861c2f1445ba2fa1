-- The lines that fetches get, and the event of a task.
use Rattle.std.specs.Prelude.{◌≡◌, ℕ, List, [], Option, Some, option_and_then}
use Rattle.std.specs.Option.{option_map_or}
use Rattle.sw_data.specs.declared.events.Event.{Event}
use Rattle.sw_data.specs.declared.events.Event.TheVariants as event
use Rattle.sw_data.specs.declared.events.Who.TheVariants as who
use Rattle.sw_data.specs.declared.histories.Task.{Task}
use Rattle.sw_data.specs.declared.recordings.FetchLine.{FetchLine}
use Rattle.sw_data.specs.declared.recordings.Recording.{Recording}
use Rattle.sw_data.specs.Addresses.{without_fragment}
use Rattle.sw_data.specs.Network.{answered_line, drawn_from}
use Rattle.sw_rules.specs.Rows.{job_row, task_row}
use Rattle.sw_rules.specs.State.{State}
use Rattle.sw_rules.specs.Tasks.{add_all_lines, event_of, job_line}

-- own: what these lines give for a fetch of an address with its number
abbrev pub line_for : List FetchLine → List ℕ × ℕ → Option FetchLine
line_for lines fetch =
    option_and_then answered_line (drawn_from (λ line. line.fetch) lines (without_fragment fetch.0) fetch.1)

-- own: this is the end of the fetch of a job's script, with the line that any recording of these has for it
abbrev pub IsFetched : List FetchLine → State → ℕ → Event → Type 0
IsFetched lines state job happened =
    (recording : Recording) → recording.fetches ≡ lines
    → happened ≡ event.Fetched who.Host job (option_and_then (job_line recording) (job_row state job))

-- own: this is the end of the fetches of an addAll, with the lines that any recording of these has for them
abbrev pub IsAdded : List FetchLine → State → ℕ → Event → Type 0
IsAdded lines state number happened =
    (recording : Recording) → recording.fetches ≡ lines
    → happened ≡ event.Added who.Host number (option_map_or (add_all_lines recording) (task_row state number) [])

-- own: this is the event of a task, whatever recording has these fetch lines
abbrev pub IsEventOf : List FetchLine → State → Task → Event → Type 0
IsEventOf lines state ready happened =
    (recording : Recording) → recording.fetches ≡ lines → event_of recording state ready ≡ Some happened
