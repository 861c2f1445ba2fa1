use Rattle.std.proofs.Common.{◌≡◌, ◌++◌, length}
use Rattle.std.specs.Vec.Iter.{into_iter_items, into_iter_len}
use Rattle.sw_caches.specs.Entries.{pairs}
use Rattle.sw_caches.proofs.entries.into_pairs.Given as goal

abbrev pub invariant-loop-entry : goal.invariant-loop-entry
invariant-loop-entry l = record {
  can : goal.iterator-loop-entry.can_next l.entry-iterator;
  ends : goal.iterator-loop-entry.is_finite l.entry-iterator;
  parts : l.yielded ++ into_iter_items l.entry-iterator ≡ l.fn.entries.items;
  left : into_iter_len l.entry-iterator ≡ length (into_iter_items l.entry-iterator);
  items : l.items ≡ pairs l.yielded;
}
