use Rattle.std.proofs.Common.{◌/◌, length, ap, arith}
use Rattle.sw_list.specs.Marked.{Marked}
use Rattle.sw_list.proofs.Counting.{countable, kept_set, was_counted}
use Rattle.sw_list.proofs.flags.Flags.set.Goals as goal

pub overflow_add-count : goal.overflow_add-count
overflow_add-count c =
    let same = ap (λ (m : Marked). length m.flags) c.self.view_is in
    omega (
      arith,
      c.from.ensures,
      countable c.self.inside.flags.items c.self.inside.counts.items (c.args.place / 256) _ c.args.flag c.self.invariant
          (omega (arith, same, c.requires, c.self.invariant.enough)) c.index_mut-count.ensures.value,
    )

pub overflow_sub-count : goal.overflow_sub-count
overflow_sub-count c =
    let same = ap (λ (m : Marked). length m.flags) c.self.view_is in
    omega (
      arith,
      c.from-2.ensures,
      was_counted c.self.inside.flags.items c.self.inside.counts.items c.args.place _ _ c.self.invariant
          (omega (arith, same, c.requires)) c.index-was.ensures c.index_mut-count.ensures.value,
    )

pub invariant_of-self : goal.invariant_of-self
invariant_of-self c =
    let same = ap (λ (m : Marked). length m.flags) c.self.view_is in
    let kept = kept_set c.self.inside.flags.items c.self.inside.counts.items c.args.place c.index_mut-count.result.now c.args.flag c.index-was.result.now
    c.self.invariant (omega (arith, same, c.requires)) c.index-was.ensures c.index_mut-count.ensures.value in
    rw (c.from.ensures, c.from-2.ensures) kept
