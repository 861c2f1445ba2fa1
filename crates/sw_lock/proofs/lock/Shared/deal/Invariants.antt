use Rattle.std.proofs.Common.{◌≡◌, ◌≤◌, ◌+◌, length, All, map, vec_capacity}
use Rattle.std.specs.List.{range_with_len}
use Rattle.sw_lock.specs.Steps.{IsFirst}
use Rattle.sw_lock.specs.Passes.{number, opened_of, IsNew}
use Rattle.sw_lock.proofs.lock.Shared.deal.Given as goal

abbrev pub invariant-loop-next : goal.invariant-loop-next
invariant-loop-next g l = record {
  pass : l.first.seat.table_id ≡ l.self.table.shared.table_id;
  first : IsFirst g.T.Logged.log (opened_of l.self) l.next l.first.seat.me;
  new : All (IsNew l.self) l.all.items;
  count : length l.all.items + 1 ≡ l.next;
  numbers : map number l.all.items ≡ range_with_len 1 (length l.all.items);
  room : vec_capacity l.initial.all ≤ vec_capacity l.all;
}
