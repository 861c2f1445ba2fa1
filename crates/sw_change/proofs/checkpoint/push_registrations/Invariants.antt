use Rattle.std.proofs.Common.{◌≡◌, ◌++◌, take}
use Rattle.std.specs.List.{flat_map}
use Rattle.sw_rules.specs.Durable.{registration_changes}
use Rattle.sw_change.proofs.checkpoint.push_registrations.Given as goal

abbrev pub invariant-loop-row : goal.invariant-loop-row
invariant-loop-row l = l.changes.items ≡ l.fn.changes.items ++ flat_map registration_changes (take l.row-index l.rows)
