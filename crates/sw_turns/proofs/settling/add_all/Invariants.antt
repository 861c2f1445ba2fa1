use Rattle.std.proofs.Common.{◌≡◌, ◌≤◌, ◌+◌, ◌++◌, length, vec_len, vec_capacity}
use Rattle.std.specs.Vec.Iter.{into_iter_items, into_iter_len}
use Rattle.sw_turns.proofs.settling.add_all.Given as goal

abbrev pub invariant-loop-entry : goal.invariant-loop-entry
invariant-loop-entry l = record {
  can : goal.iterator-loop-entry.can_next l.entry-iterator;
  ends : goal.iterator-loop-entry.is_finite l.entry-iterator;
  parts : l.yielded ++ into_iter_items l.entry-iterator ≡ l.fn.entries.items;
  left : into_iter_len l.entry-iterator ≡ length (into_iter_items l.entry-iterator);
  added : l.history.items ≡ l.initial.history.items ++ l.yielded;
  fits : vec_len l.history + into_iter_len l.entry-iterator ≤ vec_capacity l.history;
  room : vec_capacity l.history ≡ vec_capacity l.initial.history;
}
