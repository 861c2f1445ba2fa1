-- The fetches of a task.
use Rattle.std.specs.Prelude.{ℕ, List, [], ◌∷◌, map, zip}
use Rattle.std.specs.Option.{option_map_or}
use Rattle.sw_data.specs.declared.histories.Task.{Task}
use Rattle.sw_data.specs.declared.histories.Task.TheVariants as task
use Rattle.sw_data.specs.declared.rows.JobRow.{JobRow}
use Rattle.sw_rules.specs.Rows.{job_row, task_row}
use Rattle.sw_rules.specs.State.{State, AddAll}

-- own: the script and the drawn number of a job's fetch, where it is drawn
abbrev pub fetches_of_job : JobRow → List (List ℕ × ℕ)
fetches_of_job row = option_map_or (λ number. (row.job.script, number) ∷ []) row.fetch []

-- own: the addresses and the drawn numbers of an addAll's fetches, in the order of its requests
abbrev pub fetches_of_add_all : AddAll → List (List ℕ × ℕ)
fetches_of_add_all row = map (λ drawn. (drawn.0.url, drawn.1)) (zip row.requests row.fetches)

-- own: the addresses and the drawn numbers of the fetches of a task, in order
abbrev pub fetches_of : State → Task → List (List ℕ × ℕ)
fetches_of state (task.Fetch job) = option_map_or fetches_of_job (job_row state job) []
fetches_of state (task.FetchAll number) = option_map_or fetches_of_add_all (task_row state number) []
fetches_of state _ = []
