use Rattle.std.proofs.Common.{◌/◌, refl, arith}
use Rattle.sw_list.proofs.Counting.{countable, kept_begun, kept_more}
use Rattle.sw_list.proofs.flags.Flags.add.Goals as goal
use Rattle.sw_list.proofs.flags.Flags.add.Goals.{in-Some, in-None}

pub overflow_add-count : goal.overflow_add-count
overflow_add-count c =
    omega (
      arith,
      c.from.ensures,
      countable c.self.inside.flags.items c.self.inside.counts.items (c.len.result / 256) c.in-Some.count.now c.args.flag c.self.invariant
          (omega (arith, c.self.inside.counts.ok, c.in-Some.ensures.variant.0 refl)) c.in-Some.ensures.value,
    )

pub invariant_of-self : goal.invariant_of-self
invariant_of-self c = elim c.match-get_mut.branch [
  | in-Some w ↦
      rw (c.push_reserved-2.ensures.items, w.self-inside-is, w.from.ensures)
      (kept_more c.self.inside.flags.items c.self.inside.counts.items (c.len.result / 256) w.in-Some.count.now c.args.flag c.self.invariant
      (omega (arith, c.len.ensures, c.self.inside.flags.ok)) (omega (arith, c.self.inside.counts.ok, w.in-Some.ensures.variant.0 refl)) w.in-Some.ensures.value)
  | in-None w ↦ rw (c.push_reserved-2.ensures.items, w.self-inside-is, w.push_reserved.ensures.items, w.from-in-None.ensures)
      (kept_begun c.self.inside.flags.items c.self.inside.counts.items c.args.flag c.self.invariant
      (omega (arith, c.len.ensures, c.self.inside.flags.ok, c.self.inside.counts.ok, w.in-None.ensures.item)))
]
