use Rattle.std.proofs.Common.{◌≡◌, ◌++◌, length}
use Rattle.std.specs.Vec.Iter.{into_iter_items, into_iter_len}
use Rattle.sw_caches.specs.Entries.{pairs}
use Rattle.sw_list.specs.Marks.{KeepsBelow}
use Rattle.sw_caches.specs.Plans.{IsDraft}
use Rattle.sw_caches.proofs.plan.add_all.Given as goal

abbrev pub invariant-loop-item : goal.invariant-loop-item
invariant-loop-item l = record {
  can : goal.iterator-loop-item.can_next l.item-iterator;
  ends : goal.iterator-loop-item.is_finite l.item-iterator;
  parts : l.yielded ++ into_iter_items l.item-iterator ≡ l.fn.items.items;
  left : into_iter_len l.item-iterator ≡ length (into_iter_items l.item-iterator);
  draft : IsDraft l.plan l.slots;
  first : l.plan.first ≡ 1;
  below : KeepsBelow 1 l.initial.slots l.slots;
  added : pairs l.plan.added.items ≡ l.yielded;
}
