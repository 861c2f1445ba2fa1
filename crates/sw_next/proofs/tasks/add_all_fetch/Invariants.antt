use Rattle.std.proofs.Common.{◌≡◌, ◌-◌, drop, find, length}
use Rattle.sw_next.specs.Flying.{add_all_left}
use Rattle.sw_lane.specs.Picked.{in_flight}
use Rattle.sw_next.proofs.tasks.add_all_fetch.Given as goal

abbrev pub invariant-loop-row : goal.invariant-loop-row
invariant-loop-row l =
    find (add_all_left (in_flight l.flights)) (drop l.from l.tasks.rows) ≡ find (add_all_left (in_flight l.flights)) l.tasks.rows

abbrev pub decreases-loop-row : goal.decreases-loop-row
decreases-loop-row l = length l.tasks.rows - l.from
