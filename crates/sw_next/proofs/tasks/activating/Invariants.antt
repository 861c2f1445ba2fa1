use Rattle.std.proofs.Common.{◌≡◌, ◌-◌, drop, find, length}
use Rattle.sw_next.specs.Free.{activates}
use Rattle.sw_state.specs.Hosted.{state_of}
use Rattle.sw_next.proofs.tasks.activating.Given as goal

abbrev pub invariant-loop-row : goal.invariant-loop-row
invariant-loop-row l = find (activates (state_of l.host)) (drop l.from l.workers.rows) ≡ find (activates (state_of l.host)) l.workers.rows

abbrev pub decreases-loop-row : goal.decreases-loop-row
decreases-loop-row l = length l.workers.rows - l.from
