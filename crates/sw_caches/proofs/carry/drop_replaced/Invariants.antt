use Rattle.std.proofs.Common.{◌≡◌, ◌≤◌, [], take, vec_len, vec_capacity}
use Rattle.sw_list.specs.Numbered.{KeepsAbove}
use Rattle.sw_caches.specs.Bytes.{made_size}
use Rattle.sw_caches.specs.Entries.{AreIndexed, DropMarks, number, pairs}
use Rattle.sw_caches.specs.Plans.{left_by}
use Rattle.sw_caches.proofs.carry.drop_replaced.Given as goal

abbrev pub invariant-loop-entry : goal.invariant-loop-entry
invariant-loop-entry l = record {
  indexed : AreIndexed l.entries.items l.slots;
  bytes : l.bytes ≡ made_size l.names (pairs l.entries.items);
  pairs : pairs l.entries.items ≡ left_by [] (pairs (take l.entry-index l.added)) (pairs l.initial.entries.items);
  above : KeepsAbove number l.initial.entries.items l.initial.slots l.entries.items l.slots;
  marks : DropMarks l.initial.entries.items l.initial.slots l.entries.items l.slots;
  bound : vec_len l.entries ≤ vec_len l.initial.entries;
  capacity : vec_capacity l.entries ≡ vec_capacity l.initial.entries;
}
