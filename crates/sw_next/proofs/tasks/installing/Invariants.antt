use Rattle.std.proofs.Common.{◌≡◌, ◌-◌, drop, find, length}
use Rattle.sw_rules.specs.Tasks.{may_install}
use Rattle.sw_state.specs.Hosted.{state_of}
use Rattle.sw_next.proofs.tasks.installing.Given as goal

abbrev pub invariant-loop-row : goal.invariant-loop-row
invariant-loop-row l = find (may_install (state_of l.host)) (drop l.from l.queues.rows) ≡ find (may_install (state_of l.host)) l.queues.rows

abbrev pub decreases-loop-row : goal.decreases-loop-row
decreases-loop-row l = length l.queues.rows - l.from
