use Rattle.std.proofs.Common.{◌≡◌, take}
use Rattle.sw_queue.specs.Tables.{settled_all}
use Rattle.sw_queue.proofs.queues.settle_rows.Given as goal

abbrev pub invariant-loop-follower : goal.invariant-loop-follower
invariant-loop-follower l = l.rows ≡ settled_all l.value l.initial.rows (take l.follower-index l.followers)
