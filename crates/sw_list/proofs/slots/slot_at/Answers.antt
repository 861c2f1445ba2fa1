use Rattle.std.proofs.Common.{◌+◌, ◌<◌, ◌≤◌, ◌∙◌, refl, ap, arith, length, sym, subst}
use Rattle.std.specs.List.Sorted.{IsNonDecreasingBy}
use Rattle.std.specs.Option.{option_map}
use Rattle.std.proofs.lemmas.Option.{slice_get_past, slice_get_read}
use Rattle.sw_list.specs.Slots.{row_of, rows_of}
use Rattle.sw_list.proofs.Places.{counted, IsAt, at_holes, within, read_slot, rising_befores}
use Rattle.sw_list.proofs.slots.slot_at.Goals as goal
use Rattle.sw_list.proofs.slots.slot_at.Goals.{After-holes_before}
use Rattle.sw_list.proofs.slots.slot_at.Given as given

pub overflow_sub-slots : goal.overflow_sub-slots
overflow_sub-slots g c = omega (arith, counted 0 0 c.args.slots.now, ap length c.requires.told)

pub returns-then-place-slots : goal.returns-then-place-slots
returns-then-place-slots g c =
    let past : length (rows_of c.args.slots.now) ≤ c.args.place = omega (arith, counted 0 0 c.args.slots.now, ap length c.requires.told) in
    ap (option_map _) (sym (slice_get_past (rows_of c.args.slots.now) c.args.place past))

pub holes_before-requires : goal.holes_before-requires
holes_before-requires g c = subst (IsNonDecreasingBy (λ hole. hole.before)) (sym c.requires.told) (rising_befores 0 0 c.args.slots.now)

-- the value stands in the slot that the sum names
stands : (g : given.Over) (c : After-holes_before g) → IsAt c.args.slots.now c.args.place c.holes_before.result (c.args.place + c.holes_before.result)
stands g c =
    let slots = c.args.slots.now in
    let low : c.args.place < length (rows_of slots) = omega (arith, counted 0 0 slots, ap length c.requires.told) in
    at_holes slots c.args.holes.now (rows_of slots) c.args.place c.holes_before.result refl low c.requires.told c.holes_before.ensures

pub overflow_add-result : goal.overflow_add-result
overflow_add-result g c = (let low = within (stands g c) in omega arith)

pub offset_bounds-slots-place : goal.offset_bounds-slots-place
offset_bounds-slots-place g c = (let low = within (stands g c) in omega arith)

pub bounds-slots-place : goal.bounds-slots-place
bounds-slots-place g c = within (stands g c)

pub returns : goal.returns
returns g c =
    let at = stands g c.before in
    sym (ap (option_map row_of) (slice_get_read c.args.slots.now _ _ c.index-slots-place.result refl (within at) c.index-slots-place.is)) ∙ read_slot at
