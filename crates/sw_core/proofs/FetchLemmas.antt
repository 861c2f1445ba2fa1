-- The ends of fetches, with the lines that are found for their addresses, and the events of ready tasks.
use Rattle.std.proofs.Common.{◌≡◌, ◌∙◌, ℕ, true, List, [], ◌∷◌, map, slice_get, Option, Some, None, Result, Ok, Err, IfOk, option_map, refl, sym, ap}
use Rattle.std.specs.List.{list_any, zip}
use Rattle.std.specs.Option.{option_map_or}
use Rattle.std.specs.Prelude.{option_and_then}
use Rattle.sw_data.specs.declared.events.Event.{Event}
use Rattle.sw_data.specs.declared.events.Event.TheVariants as event
use Rattle.sw_data.specs.declared.events.Who.TheVariants as who
use Rattle.sw_data.specs.declared.exchange.Request.{Request}
use Rattle.sw_data.specs.declared.histories.Task.{Task}
use Rattle.sw_data.specs.declared.histories.Task.TheVariants as task
use Rattle.sw_data.specs.declared.recordings.FetchLine.{FetchLine}
use Rattle.sw_data.specs.declared.recordings.Recording.{Recording}
use Rattle.sw_data.specs.declared.rows.JobRow.{JobRow}
use Rattle.sw_next.specs.Fetching.{fetches_of, fetches_of_add_all, fetches_of_job}
use Rattle.sw_core.specs.Machines.{IsAdded, IsEventOf, IsFetched, line_for}
use Rattle.sw_core.proofs.ReadyLemmas.{fetched_add_all, fetched_job, ready_enabled}
use Rattle.sw_lane.specs.Picked.{is_task}
use Rattle.sw_laws.specs.Coherent.{Coherent}
use Rattle.sw_rules.specs.Rows.{job_row, task_row}
use Rattle.sw_rules.specs.State.{State, AddAll}
use Rattle.sw_rules.specs.Step.{enabled}
use Rattle.sw_rules.specs.Tasks.{add_all_lines, job_line, ready_tasks}

-- the line of a job's one fetch
one_line : (lines : List FetchLine) (script : List ℕ) (fetch : Option ℕ)
    → option_and_then (line_for lines) (slice_get (option_map_or (λ number. (script, number) ∷ []) fetch []) 0) ≡ option_and_then (λ number. line_for lines (script, number)) fetch
one_line lines script None = refl
one_line lines script (Some number) = refl

pub fetched_is : (state : State) (job : ℕ) (lines : List FetchLine) (fetches : List (List ℕ × ℕ)) (line : Option FetchLine)
    → fetches ≡ fetches_of state (task.Fetch job) → line ≡ option_and_then (line_for lines) (slice_get fetches 0)
    → IsFetched lines state job (event.Fetched who.Host job line)
fetched_is state job lines fetches line are is recording same =
    ap (event.Fetched who.Host job)
    (is ∙ ap (λ (all : List (List ℕ × ℕ)). option_and_then (line_for lines) (slice_get all 0)) are ∙ by (job_row state job))
  where
    by : (o : Option JobRow) → option_and_then (line_for lines) (slice_get (option_map_or fetches_of_job o []) 0) ≡ option_and_then (job_line recording) o
    by None = refl
    by (Some row) =
        one_line lines row.job.script row.fetch
        ∙ ap (λ (all : List FetchLine). option_and_then (λ number. line_for all (row.job.script, number)) row.fetch) (sym same)

map_through : {X Y Z : Type 0} (f : X → Y) (g : Y → Z) (xs : List X) → map g (map f xs) ≡ map (λ x. g (f x)) xs
map_through f g [] = refl
map_through f g (x ∷ xs) = ap (λ (rest : List _). g (f x) ∷ rest) (map_through f g xs)

pub added_is : (state : State) (number : ℕ) (lines : List FetchLine) (fetches : List (List ℕ × ℕ)) (found : List (Option FetchLine))
    → fetches ≡ fetches_of state (task.FetchAll number) → found ≡ map (line_for lines) fetches
    → IsAdded lines state number (event.Added who.Host number found)
added_is state number lines fetches found are is recording same =
    ap (event.Added who.Host number) (is ∙ ap (map (line_for lines)) are ∙ by (task_row state number))
  where
    by : (o : Option AddAll) → map (line_for lines) (option_map_or fetches_of_add_all o []) ≡ option_map_or (add_all_lines recording) o []
    by None = refl
    by (Some row) =
        map_through (λ (drawn : Request × ℕ). (drawn.0.url, drawn.1)) (line_for lines) (zip row.requests row.fetches)
        ∙ ap (λ (all : List FetchLine). map (λ (drawn : Request × ℕ). line_for all (drawn.0.url, drawn.1)) (zip row.requests row.fetches)) (sym same)

-- the end of a ready fetch is its event
fetch_comes : (lines : List FetchLine) (state : State) (job : ℕ) (happened : Event) → list_any (is_task (task.Fetch job)) (ready_tasks state) ≡ true
    → IsFetched lines state job happened → IsEventOf lines state (task.Fetch job) happened
fetch_comes lines state job happened ready is recording same =
    let row = fetched_job state job ready in
    ap (option_map (λ (of : JobRow). event.Fetched who.Host job (job_line recording of))) row.1
    ∙ ap (λ (e : Event). Some e) (sym (is recording same ∙ ap (λ (o : Option JobRow). event.Fetched who.Host job (option_and_then (job_line recording) o)) row.1))

add_all_comes : (lines : List FetchLine) (state : State) (number : ℕ) (happened : Event) → list_any (is_task (task.FetchAll number)) (ready_tasks state) ≡ true
    → IsAdded lines state number happened → IsEventOf lines state (task.FetchAll number) happened
add_all_comes lines state number happened ready is recording same =
    let row = fetched_add_all state number ready in
    ap (option_map (λ (of : AddAll). event.Added who.Host number (add_all_lines recording of))) row.1
    ∙ ap (λ (e : Event). Some e) (sym (is recording same ∙ ap (λ (o : Option AddAll). event.Added who.Host number (option_map_or (add_all_lines recording) o [])) row.1))

-- the event of a ready task may happen
pub comes_enabled : (lines : List FetchLine) (state : State) (ready : Task) (happened : Event) → Coherent state
    → list_any (is_task ready) (ready_tasks state) ≡ true → IsEventOf lines state ready happened → enabled state happened ≡ true
comes_enabled lines state ready happened sound waits gives =
    let any : Recording = record { fetches = lines; lanes = [] } in
    ready_enabled any state ready happened sound waits (gives any refl)

-- and so where there is memory for it
module _ {E : Type 0} (lines : List FetchLine) (state : State) where
  pub fetch_comes_on : (result : Result Event E) (job : ℕ) → list_any (is_task (task.Fetch job)) (ready_tasks state) ≡ true
      → IfOk result (IsFetched lines state job) → IfOk result (IsEventOf lines state (task.Fetch job))
  fetch_comes_on (Err why) job ready is = tt
  fetch_comes_on (Ok happened) job ready is = fetch_comes lines state job happened ready is

  pub add_all_comes_on : (result : Result Event E) (number : ℕ) → list_any (is_task (task.FetchAll number)) (ready_tasks state) ≡ true
      → IfOk result (IsAdded lines state number) → IfOk result (IsEventOf lines state (task.FetchAll number))
  add_all_comes_on (Err why) number ready is = tt
  add_all_comes_on (Ok happened) number ready is = add_all_comes lines state number happened ready is

  pub enabled_on : (result : Result Event E) (ready : Task) → Coherent state → list_any (is_task ready) (ready_tasks state) ≡ true
      → IfOk result (IsEventOf lines state ready) → IfOk result (λ happened. enabled state happened ≡ true)
  enabled_on (Err why) ready sound waits gives = tt
  enabled_on (Ok happened) ready sound waits gives = comes_enabled lines state ready happened sound waits gives
