use Rattle.std.proofs.Common.{◌≡◌, take}
use Rattle.sw_client.proofs.copies.copy_rows.Given as goal

abbrev pub invariant-loop-place : goal.invariant-loop-place
invariant-loop-place l = l.copy.entries ≡ take l.place l.rows.entries
