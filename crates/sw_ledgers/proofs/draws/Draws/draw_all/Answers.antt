use Rattle.std.proofs.Common.{◌∙◌, ◌++◌, map, length, sym, ap, subst, arith, append-nil}
use Rattle.std.proofs.lemmas.List.{nil_from_length}
use Rattle.std.specs.Vec.Iter.{into_iter_items}
use Rattle.sw_ledgers.proofs.Drawing.{HaveDrawn, drawn_next, drawn_numbers_are, numbers_drawn}
use Rattle.sw_ledgers.proofs.draws.Draws.draw_all.Goals as goal

pub loop-address-preserved : goal.loop-address-preserved
loop-address-preserved c =
    let at = c.loop-address in
    let steps = c.in-Some.ensures.steps.0 in
    let so_far = subst (λ left. HaveDrawn c.args.rows c.args.self.now (map (λ own. own.items) left) at.self at.numbers.items) steps at.invariant.drawn in
    let short = ap length steps in
    let room = at.invariant.room in
    record {
      drawn =
          rw c.push_reserved.ensures.items
          (drawn_next c.args.rows c.args.self.now _ _ at.self c.put.new.self at.numbers.items c.put.result so_far c.put.ensures.rows c.put.ensures.room c.put.ensures.number);
      room = let long = c.push_reserved.ensures.len in let same = c.push_reserved.ensures.capacity in omega (arith, short, room, long, same);
    }

pub returns-clause-numbers : goal.returns-clause-numbers
returns-clause-numbers c requests are =
    let iterator = c.loop-address.address-iterator in
    let end = c.in-None.ensures.steps.0 in
    let none_left = nil_from_length (into_iter_items iterator) (omega (arith, iterator.rest.ok, end)) in
    let drawn = ap (λ left. c.loop-address.numbers.items ++ numbers_drawn c.loop-address.self.rows (map (λ own. own.items) left)) none_left in
    c.from_vec.ensures
    ∙ (sym (append-nil c.loop-address.numbers.items)
    ∙ (sym drawn
    ∙ (c.loop-address.invariant.drawn.drawn
    ∙ (ap (numbers_drawn c.args.self.now.rows) (sym are) ∙ drawn_numbers_are requests c.args.self.now.rows))))
