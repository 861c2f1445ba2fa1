-- The steps are of one run.
use Rattle.std.proofs.Common.{◌≡◌}
use Rattle.sw_pool.proofs.working.drive_alone.Given as goal

abbrev pub invariant-steps : goal.invariant-steps
invariant-steps g l = l.yard.origin ≡ l.initial.yard.origin
