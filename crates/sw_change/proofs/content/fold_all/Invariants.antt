use Rattle.std.proofs.Common.{◌≡◌, ◌++◌, length}
use Rattle.std.specs.Vec.Iter.{into_iter_items, into_iter_len}
use Rattle.sw_rules.specs.Storage.{kept_after, nothing}
use Rattle.sw_change.proofs.content.fold_all.Given as goal

abbrev pub invariant-loop-change : goal.invariant-loop-change
invariant-loop-change l = record {
  can : goal.iterator-loop-change.can_next l.change-iterator;
  ends : goal.iterator-loop-change.is_finite l.change-iterator;
  parts : l.yielded ++ into_iter_items l.change-iterator ≡ l.fn.changes.items;
  left : into_iter_len l.change-iterator ≡ length (into_iter_items l.change-iterator);
  content : l.content ≡ kept_after nothing l.yielded;
}
