use Rattle.std.proofs.Common.{◌≡◌, ◌-◌, drop, find, length}
use Rattle.sw_next.specs.Flying.{fetch_left}
use Rattle.sw_lane.specs.Picked.{in_flight}
use Rattle.sw_next.proofs.tasks.script_fetch.Given as goal

abbrev pub invariant-loop-row : goal.invariant-loop-row
invariant-loop-row l =
    find (fetch_left (in_flight l.flights)) (drop l.from l.queues.rows) ≡ find (fetch_left (in_flight l.flights)) l.queues.rows

abbrev pub decreases-loop-row : goal.decreases-loop-row
decreases-loop-row l = length l.queues.rows - l.from
