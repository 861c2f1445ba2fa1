use Rattle.std.proofs.Common.{◌≡◌, map, take}
use Rattle.sw_caches.specs.Tables.{kept_row}
use Rattle.sw_caches.proofs.rows.kept_of.Given as goal

abbrev pub invariant-loop-place : goal.invariant-loop-place
invariant-loop-place l = l.kept.items ≡ map kept_row (take l.place l.rows.rows)
