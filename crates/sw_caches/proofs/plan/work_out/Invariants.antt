use Rattle.std.proofs.Common.{◌≡◌, ◌++◌, [], List, length}
use Rattle.std.specs.Vec.Iter.{into_iter_items, into_iter_len}
use Rattle.sw_rules.specs.Matching.{Pair}
use Rattle.sw_rules.specs.Batch.{go}
use Rattle.sw_list.specs.Marks.{KeepsBelow}
use Rattle.sw_caches.specs.Entries.{pairs}
use Rattle.sw_caches.specs.Plans.{IsDraft, left_by}
use Rattle.sw_caches.proofs.plan.work_out.Given as goal

-- what is worked out so far and the batch of the rest are the batch of all
abbrev pub invariant-loop-op : goal.invariant-loop-op
invariant-loop-op l = record {
  can : goal.iterator-loop-op.can_next l.op-iterator;
  ends : goal.iterator-loop-op.is_finite l.op-iterator;
  parts : l.yielded ++ into_iter_items l.op-iterator ≡ l.fn.ops.items;
  left : into_iter_len l.op-iterator ≡ length (into_iter_items l.op-iterator);
  count : l.at ≡ length l.yielded;
  draft : IsDraft l.plan l.slots;
  first : l.plan.first ≡ l.initial.plan.first;
  below : KeepsBelow l.initial.plan.first l.initial.slots l.slots;
  batch : (old : List Pair) → go old [] 0 l.fn.ops.items
      ≡ go (left_by l.plan.deletes.items (pairs l.plan.added.items) old) (pairs l.plan.added.items) l.at (into_iter_items l.op-iterator);
}
