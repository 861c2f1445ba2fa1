use Rattle.std.proofs.Common.{◌≡◌, ◌++◌, length}
use Rattle.std.specs.Vec.Iter.{into_iter_items, into_iter_len}
use Rattle.sw_rules.specs.Storage.{kept_after}
use Rattle.sw_kept.proofs.content.carry_out.Given as goal

abbrev pub invariant-loop-change : goal.invariant-loop-change
invariant-loop-change l = record {
  can : goal.iterator-loop-change.can_next l.change-iterator;
  ends : goal.iterator-loop-change.is_finite l.change-iterator;
  parts : l.yielded ++ into_iter_items l.change-iterator ≡ l.fn.changes.items;
  left : into_iter_len l.change-iterator ≡ length (into_iter_items l.change-iterator);
  content : l.content ≡ kept_after l.fn.content l.yielded;
}
