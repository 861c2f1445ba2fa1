use Rattle.std.proofs.Common.{◌≡◌}
use Rattle.sw_lock.proofs.lock.Shared.wait_for.Given as goal

abbrev pub invariant-wait : goal.invariant-wait
invariant-wait g l = record {
  can : (goal.iterator-wait g).can_next l.iterator';
  ends : (goal.iterator-wait g).is_finite l.iterator';
  table : l.seat.table_id ≡ l.initial.seat.table_id;
  seat : l.seat.me ≡ l.initial.seat.me;
}
