use Rattle.std.proofs.Common.{◌≡◌, map, take}
use Rattle.sw_worker.specs.Table.{runs_activate}
use Rattle.sw_worker.proofs.copies.activating_of.Given as goal

abbrev pub invariant-loop-row : goal.invariant-loop-row
invariant-loop-row l = l.activating.flags ≡ map runs_activate (take l.row-index l.rows)
