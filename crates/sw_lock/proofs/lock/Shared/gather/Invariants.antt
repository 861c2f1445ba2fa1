use Rattle.std.proofs.Common.{◌≡◌, ◌++◌, length, All}
use Rattle.std.specs.Vec.Iter.{into_iter_items, into_iter_len}
use Rattle.sw_lock.specs.Passes.{IsGathered}
use Rattle.sw_lock.proofs.lock.Shared.gather.Given as goal

abbrev pub invariant-loop-pass : goal.invariant-loop-pass
invariant-loop-pass g l = record {
  can : (goal.iterator-loop-pass g).can_next l.pass-iterator;
  ends : (goal.iterator-loop-pass g).is_finite l.pass-iterator;
  parts : l.yielded ++ into_iter_items l.pass-iterator ≡ l.fn.others.items;
  left : into_iter_len l.pass-iterator ≡ length (into_iter_items l.pass-iterator);
  same : All (λ p. p.seat.table_id ≡ l.self.table.shared.table_id) (into_iter_items l.pass-iterator);
  table : l.seat.table_id ≡ l.self.table.shared.table_id;
  gathered : IsGathered l.fn.first l.yielded l.seat;
}
