use Rattle.std.proofs.Common.{◌≡◌, length, ap, ◌∙◌, arith}
use Rattle.std.specs.Vec.Iter.{into_iter_items}
use Rattle.sw_lock.proofs.Turns.{joins}
use Rattle.sw_lock.proofs.Gathering.{first_has, rest_has, parts_more, seat_idle, seat_table, gathered_next}
use Rattle.sw_lock.proofs.lock.Shared.gather.Goals as goal

pub join_seat-requires : goal.join_seat-requires
join_seat-requires g c =
    let lock = c.args.self.now in
    let sized = lock.sized.0 in
    let at = c.loop-pass in
    let pass = c.in-Some.pass in
    let other = c.into_seat-other.result in
    let gone = c.into_seat-other.ensures in
    let idle = seat_idle pass other gone in
    let alone = idle.alone in
    let live = at.invariant.gathered.stands in (
      at.invariant.table,
      seat_table pass other lock.table.shared.table_id gone
          (first_has (λ p. p.seat.table_id ≡ lock.table.shared.table_id) (into_iter_items at.pass-iterator) (into_iter_items c.next.new.self) pass c.in-Some.ensures.steps.0 at.invariant.same),
      idle.empty,
      omega arith,
      joins g.T.Logged lock.table.shared.key.opened.value lock.table.shared.key.made at.seat.id other.id at.seat.me.0 other.me.0
          (omega arith) (omega arith) idle.ticket idle.place,
    )

pub loop-pass-preserved : goal.loop-pass-preserved
loop-pass-preserved g c =
    let lock = c.args.self.now in
    let at = c.loop-pass in
    let pass = c.in-Some.pass in
    let steps = c.in-Some.ensures.steps.0 in
    record {
      can = tt;
      ends = tt;
      parts = parts_more at.yielded (into_iter_items at.pass-iterator) (into_iter_items c.next.new.self) c.args.others.items pass at.invariant.parts steps;
      left = let was = at.invariant.left in let gone = c.in-Some.ensures.steps.1 in let short = ap length steps in omega arith;
      same = rest_has (λ p. p.seat.table_id ≡ lock.table.shared.table_id) (into_iter_items at.pass-iterator) (into_iter_items c.next.new.self) pass steps at.invariant.same;
      table = c.join_seat.ensures.0 ∙ at.invariant.table;
      gathered = gathered_next c.args.first at.yielded pass at.seat c.into_seat-other.result c.join_seat.new.seat at.invariant.gathered c.into_seat-other.ensures c.join_seat.ensures.2;
    }
