use Rattle.std.proofs.Common.{◌∙◌, ap, arith, nat_lt, rules, sym}
use Rattle.std.proofs.lemmas.List.Sorted.{IsPartitionPoint-from_clause}
use Rattle.sw_list.specs.declared.slots.Slot.{Slot}
use Rattle.sw_list.proofs.Places.{no_value, not_numbered, numbered, parted}
use Rattle.sw_list.proofs.slots.slot_of.Goals as goal
use Rattle.sw_list.proofs.slots.slot_of.Goals.{else-slot-number-via-then-slot-number+else-is_some, else-slot-number-via-else-slot-number}

pub returns-in_err-slot : goal.returns-in_err-slot
returns-in_err-slot g c =
    let point = IsPartitionPoint-from_clause (λ (slot : Slot g.row.V.Denot). nat_lt slot.number c.args.number) _ _ c.partition_point-place.ensures.partitioned
    (parted c.args.slots.now c.args.number c.requires) (λ a r q k. search rules) in
    let past = c.in_err-slot.ensures.lookup.3 in
    rw c.from_residual.ensures (not_numbered c.args.slots.now c.args.number c.partition_point-place.result c.requires point (λ d low is. absurd (omega (arith, past))))

pub returns-then-is_some : goal.returns-then-is_some
returns-then-is_some g c =
    let read = c.in_ok-slot.ensures.lookup in
    numbered c.args.slots.now c.in_ok-slot.slot.now c.partition_point-place.result c.args.number read.3.0 read.1 c.if-slot-number.true c.if-is_some.ensures

pub returns-else-slot-number : goal.returns-else-slot-number
returns-else-slot-number g c =
    let point = IsPartitionPoint-from_clause (λ (slot : Slot g.row.V.Denot). nat_lt slot.number c.args.number) _ _ c.partition_point-place.ensures.partitioned
    (parted c.args.slots.now c.args.number c.requires) (λ a r q k. search rules) in
    let read = c.in_ok-slot.ensures.lookup.3.1 in
    not_numbered c.args.slots.now c.args.number c.partition_point-place.result c.requires point (λ d low is. elim c.else-slot-number.branch [
      | else-slot-number-via-then-slot-number+else-is_some w ↦ ap (λ (slot : Slot g.row.V.Denot). slot.value) (sym (read d)) ∙ no_value c.in_ok-slot.slot.now (sym w.if-is_some.ensures)
      | else-slot-number-via-else-slot-number w ↦ absurd (w.if-slot-number.false (ap (λ (slot : Slot g.row.V.Denot). slot.number) (read d) ∙ is))
    ])
