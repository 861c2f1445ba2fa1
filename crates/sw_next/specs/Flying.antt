-- What is left to do while some tasks are in flight.
use Rattle.std.specs.Prelude.{Bool, not, ◌&&◌, List, find, is_none, Option}
use Rattle.std.specs.List.{list_any}
use Rattle.sw_data.specs.declared.histories.Task.{Task}
use Rattle.sw_data.specs.declared.histories.Task.TheVariants as task
use Rattle.sw_data.specs.declared.rows.JobRow.{JobRow}
use Rattle.sw_lane.specs.Picked.{is_task}
use Rattle.sw_rules.specs.Rows.{is_in_phase, is_fetching}
use Rattle.sw_rules.specs.State.{AddAll}

-- own: a task isn't in flight
abbrev pub is_left : List Task → Task → Bool
is_left in_flight ready = not (list_any (is_task ready) in_flight)

-- own: the first of these tasks that isn't in flight
abbrev pub left_of : List Task → List Task → Option Task
left_of in_flight tasks = find (is_left in_flight) tasks

-- own: a job fetches, and its fetch isn't in flight
abbrev pub fetch_left : List Task → JobRow → Bool
fetch_left in_flight row = is_in_phase is_fetching row && is_left in_flight (task.Fetch row.job.number)

-- own: an addAll has not settled, and its fetches aren't in flight
abbrev pub add_all_left : List Task → AddAll → Bool
add_all_left in_flight row = is_none row.settled && is_left in_flight (task.FetchAll row.number)
