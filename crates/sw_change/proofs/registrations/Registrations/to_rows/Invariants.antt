use Rattle.std.proofs.Common.{◌≡◌, take}
use Rattle.sw_change.specs.Table.{kept_rows}
use Rattle.sw_change.proofs.registrations.Registrations.to_rows.Given as goal

abbrev pub invariant-loop-place : goal.invariant-loop-place
invariant-loop-place l = l.rows.items ≡ kept_rows (take l.place l.self-inside.rows.rows)
