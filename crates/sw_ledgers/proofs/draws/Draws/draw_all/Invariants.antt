use Rattle.std.proofs.Common.{◌≤◌, ◌+◌, length, map, vec_len, vec_capacity}
use Rattle.std.specs.Vec.Iter.{into_iter_items}
use Rattle.sw_ledgers.proofs.Drawing.{HaveDrawn}
use Rattle.sw_ledgers.proofs.draws.Draws.draw_all.Given as goal

abbrev pub invariant-loop-address : goal.invariant-loop-address
invariant-loop-address l = record {
  drawn : HaveDrawn l.fn.rows l.initial.self (map (λ own. own.items) (into_iter_items l.address-iterator)) l.self l.numbers.items;
  room : vec_len l.numbers + length (into_iter_items l.address-iterator) ≤ vec_capacity l.numbers;
}
