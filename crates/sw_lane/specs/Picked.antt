-- What is picked: the lowest lane whose next action may happen, or else the first ready task that isn't in flight.
use Rattle.std.specs.Prelude.{ℕ, Bool, true, false, not, ◌==◌, List, length, find, filter_map, is_some, Option, option_map, if◌then◌else◌}
use Rattle.std.specs.Option.{option_map_or}
use Rattle.std.specs.List.{list_any}
use Rattle.sw_data.specs.declared.events.Event.{Event}
use Rattle.sw_data.specs.declared.events.Who.TheVariants as who
use Rattle.sw_data.specs.declared.histories.Task.{Task}
use Rattle.sw_data.specs.declared.histories.Task.TheVariants as task
use Rattle.sw_data.specs.Events.{event_of_action}
use Rattle.sw_rules.specs.State.{State}
use Rattle.sw_rules.specs.Step.{enabled}
use Rattle.sw_rules.specs.Tasks.{ready_tasks}
use Rattle.sw_lane.specs.declared.picks.Pick.{Pick}
use Rattle.sw_lane.specs.declared.picks.Pick.TheVariants as pick
use Rattle.sw_lane.specs.declared.picks.Work.TheVariants as work
use Rattle.sw_lane.specs.Left.{Left, numbers, at_of, action_of}

-- ---- what is ready

-- two tasks are one
abbrev pub is_task : Task → Task → Bool
is_task (task.Run one) (task.Run other) = one == other
is_task (task.Fetch one) (task.Fetch other) = one == other
is_task (task.FetchAll one) (task.FetchAll other) = one == other
is_task (task.Evaluate one) (task.Evaluate other) = one == other
is_task (task.Install one) (task.Install other) = one == other
is_task (task.TryActivate one) (task.TryActivate other) = one == other
is_task (task.Activate one) (task.Activate other) = one == other
is_task _ _ = false

-- the fetch of a job's script, or the fetches of an addAll
abbrev pub is_fetch : Task → Bool
is_fetch (task.Fetch job) = true
is_fetch (task.FetchAll number) = true
is_fetch _ = false

-- what each pass has taken up, as one list: the tasks in flight (own)
abbrev pub in_flight : List (Option Task) → List Task
in_flight flights = filter_map (λ one. one) flights

-- the first ready task that isn't in flight (own)
abbrev pub task_left : State → List Task → Option Task
task_left state in_flight = find (λ ready. not (list_any (is_task ready) in_flight)) (ready_tasks state)

-- the event of a lane's next action
abbrev pub event_left : List Left → ℕ → Option Event
event_left lanes number =
    option_map (event_of_action (who.Lane number (at_of lanes number))) (action_of lanes number)

-- a lane's next action may happen
abbrev pub is_ready : State → List Left → ℕ → Bool
is_ready state lanes number = option_map_or (enabled state) (event_left lanes number) false

-- the lowest lane whose next action may happen
abbrev pub ready_lane : State → List Left → Option ℕ
ready_lane state lanes = find (is_ready state lanes) (numbers lanes)

-- the lowest lane with actions left
abbrev pub lane_left : List Left → Option ℕ
lane_left lanes = find (λ number. is_some (action_of lanes number)) (numbers lanes)

-- ---- the pick

-- where nothing is ready: idle while something is in flight, stalled while a lane has actions left, or else done
abbrev pub at_rest : ℕ → List Left → Pick
at_rest in_flight lanes =
    if in_flight == 0 then option_map_or pick.Stalled (lane_left lanes) pick.Done else pick.Idle

-- the pick (own)
abbrev pub picked : State → List Task → List Left → Pick
picked state in_flight lanes =
    option_map_or (λ lane. pick.Work (work.Action lane (at_of lanes lane))) (ready_lane state lanes)
    (option_map_or (λ ready. pick.Work (work.Task ready)) (task_left state in_flight)
    (at_rest (length in_flight) lanes))
