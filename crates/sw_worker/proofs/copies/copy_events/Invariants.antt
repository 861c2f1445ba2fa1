use Rattle.std.proofs.Common.{◌≡◌, take}
use Rattle.sw_worker.proofs.copies.copy_events.Given as goal

abbrev pub invariant-loop-place : goal.invariant-loop-place
invariant-loop-place l = l.copy.entries ≡ take l.place l.events.entries
