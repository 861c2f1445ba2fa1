use Rattle.std.proofs.Common.{◌≡◌, ◌++◌, length}
use Rattle.std.specs.Vec.Iter.{into_iter_items, into_iter_len}
use Rattle.sw_core.specs.Restored.{IsRestored}
use Rattle.sw_core.proofs.restart.restored.Given as goal

abbrev pub invariant-loop-row : goal.invariant-loop-row
invariant-loop-row l = record {
  can : goal.iterator-loop-row.can_next l.row-iterator;
  ends : goal.iterator-loop-row.is_finite l.row-iterator;
  parts : l.yielded ++ into_iter_items l.row-iterator ≡ l.fn.content.registrations;
  left : into_iter_len l.row-iterator ≡ length (into_iter_items l.row-iterator);
  restored : IsRestored l.yielded l.tables;
  caches : l.tables.caches.rows ≡ l.fn.content.caches;
}
