use Rattle.std.proofs.Common.{◌≡◌, ◌++◌}
use Rattle.std.specs.Vec.Iter.{into_iter_items}
use Rattle.sw_list.specs.Named.{named_rows}
use Rattle.sw_change.specs.Table.{kept_rows}
use Rattle.sw_change.proofs.registrations.Registrations.into_rows.Given as goal

abbrev pub invariant-loop-row : goal.invariant-loop-row
invariant-loop-row l = l.rows.items ++ kept_rows (named_rows (into_iter_items l.row-iterator)) ≡ l.fn.self
