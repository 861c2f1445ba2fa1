use Rattle.std.proofs.Common.{◌≡◌, ◌++◌, length}
use Rattle.std.specs.Vec.Iter.{into_iter_items, into_iter_len}
use Rattle.sw_caches.proofs.table.Caches.from_kept.Given as goal

abbrev pub invariant-loop-cache : goal.invariant-loop-cache
invariant-loop-cache l = record {
  can : goal.iterator-loop-cache.can_next l.cache-iterator;
  ends : goal.iterator-loop-cache.is_finite l.cache-iterator;
  parts : l.yielded ++ into_iter_items l.cache-iterator ≡ l.fn.kept.items;
  left : into_iter_len l.cache-iterator ≡ length (into_iter_items l.cache-iterator);
  rows : l.caches.rows ≡ l.yielded;
}
