use Rattle.std.proofs.Common.{◌∙◌, drop, sym, ap, arith}
use Rattle.std.specs.List.{position_from}
use Rattle.sw_list.specs.Marked.{Marked}
use Rattle.sw_list.proofs.Counting.{begins_within, found_later, found_near, found_none}
use Rattle.sw_list.proofs.flags.Flags.first_from.Goals as goal

pub returns-in_err-block-in-None : goal.returns-in_err-block-in-None
returns-in_err-block-in-None c =
    let flags = c.self.inside.flags.items in
    let counts = c.self.inside.counts.items in
    let same = ap (λ (m : Marked). m.flags) c.self.view_is in
    let near = rw c.deref.ensures.value at c.in-None.ensures in
    let later = rw c.deref-in-None.ensures.value at c.in_err-block-in-None.ensures in
    c.from_residual.ensures ∙ sym (found_none flags counts c.self.invariant c.args.from (sym near) (sym later)) ∙ ap (λ fs. position_from (λ flag. flag) c.args.from (drop c.args.from fs)) same

pub overflow_mul-block : goal.overflow_mul-block
overflow_mul-block c =
    let later = rw c.deref-in-None.ensures.value at c.counted_from.ensures in
    omega (arith, c.deref.ensures.len, begins_within c.self.inside.flags.items c.self.inside.counts.items c.self.invariant c.in_ok-block-in-None.block _ (sym later ∙ c.in_ok-block-in-None.was))

pub returns-in-Some : goal.returns-in-Some
returns-in-Some c =
    let flags = c.self.inside.flags.items in
    let same = ap (λ (m : Marked). m.flags) c.self.view_is in
    let near = rw c.deref.ensures.value at c.in-Some.ensures in
    sym (found_near flags c.self.inside.counts.items c.self.invariant c.args.from c.in-Some.place (sym near)) ∙ ap (λ fs. position_from (λ flag. flag) c.args.from (drop c.args.from fs)) same

pub returns-in_ok-block-in-None : goal.returns-in_ok-block-in-None
returns-in_ok-block-in-None c =
    let flags = c.self.inside.flags.items in
    let same = ap (λ (m : Marked). m.flags) c.self.view_is in
    let near = rw c.deref.ensures.value at c.in-None.ensures in
    let later = rw c.deref-in-None.ensures.value at c.counted_from.ensures in
    let found = rw c.deref-in-None-2.ensures.value at c.in_block-in-None.ensures in
    found ∙ sym (found_later flags c.self.inside.counts.items c.self.invariant c.args.from c.in_ok-block-in-None.block (sym near) (sym later ∙ c.in_ok-block-in-None.was))
    ∙ ap (λ fs. position_from (λ flag. flag) c.args.from (drop c.args.from fs)) same
