-- Fetches in flight: each pass may have taken up one.
use Rattle.std.specs.Prelude.{◌≡◌, ◌==◌, ◌<◌, ◌^◌, ℕ, Bool, true, false, List, [], length, Option, Some, slice_get}
use Rattle.std.specs.List.{list_all, list_any}
use Rattle.sw_data.specs.declared.events.Event.{Event}
use Rattle.sw_data.specs.declared.events.Event.TheVariants as event
use Rattle.sw_data.specs.declared.histories.Task.{Task}
use Rattle.sw_data.specs.declared.histories.Task.TheVariants as task
use Rattle.sw_lane.specs.Left.{Left}
use Rattle.sw_lane.specs.Picked.{in_flight, is_fetch, is_task, picked}
use Rattle.sw_lane.specs.declared.picks.Pick.TheVariants as pick
use Rattle.sw_lane.specs.declared.picks.Work.TheVariants as work
use Rattle.sw_rules.specs.State.{State}
use Rattle.sw_rules.specs.Tasks.{ready_tasks}

-- a pass has taken up this fetch
abbrev pub Flies : List (Option Task) → ℕ → Task → Type 0
Flies flights pass flown = slice_get flights pass ≡ Some (Some flown)

-- own: what passes have taken up are fetches that are ready, each taken up once
pub record AreInFlight (state : State) (flights : List (Option Task)) : Type 0 where
  pub few : length flights < 2 ^ 32
  pub fetches : list_all is_fetch (in_flight flights) ≡ true
  pub ready : (pass : ℕ) (flown : Task) → Flies flights pass flown → list_any (is_task flown) (ready_tasks state) ≡ true
  pub apart : (pass other : ℕ) (one two : Task) → Flies flights pass one → Flies flights other two → is_task one two ≡ true → pass ≡ other

-- the event ends the fetch
abbrev pub ends : Event → Task → Bool
ends (event.Fetched who job line) (task.Fetch other) = job == other
ends (event.Added who number lines) (task.FetchAll other) = number == other
ends _ _ = false

-- the event ends no fetch that is in flight
abbrev pub Spares : Event → List (Option Task) → Type 0
Spares happened flights = (pass : ℕ) (flown : Task) → Flies flights pass flown → ends happened flown ≡ false

-- own: with one worker, what it has taken up is what the pick order has next
abbrev pub IsDue : State → List Left → List (Option Task) → Type 0
IsDue state lanes flights =
    length flights ≡ 1 → (flown : Task) → Flies flights 0 flown → picked state [] lanes ≡ pick.Work (work.Task flown)
