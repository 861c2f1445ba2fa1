use Rattle.std.proofs.Common.{◌∙◌, ◌<◌, ap, arith, nat_eq, position, subst, sym}
use Rattle.std.specs.List.{AllPairs}
use Rattle.std.specs.List.Sorted.{IsNonDecreasingBy}
use Rattle.std.specs.Map.{keys_of}
use Rattle.sw_list.specs.Numbers.{Numbers}
use Rattle.sw_list.specs.Slots.{HasNumber, rows_of}
use Rattle.sw_list.proofs.Keeping.{place_there}
use Rattle.sw_list.proofs.Places.{at_number, rising_slots, sum}
use Rattle.sw_list.proofs.numbered.Numbered.place.Goals as goal

pub slot_of-requires : goal.slot_of-requires
slot_of-requires g c = subst (AllPairs (λ left right. left.number < right.number)) (sym c.deref.ensures.value) c.self.invariant.rising

pub holes_to-requires : goal.holes_to-requires
holes_to-requires g c = subst (IsNonDecreasingBy (λ hole. hole.slot)) (sym (c.deref-2.ensures.value ∙ c.self.invariant.told)) (rising_slots 0 0 c.self.inside.slots.items)

pub overflow_sub-result : goal.overflow_sub-result
overflow_sub-result g c =
    let has = subst (λ slots. HasNumber slots c.args.number c.in_ok-slot.slot) c.deref.ensures.value c.in_ok-slot.ensures in
    let at = at_number c.self.inside.slots.items c.deref-2.result.now c.args.number c.in_ok-slot.slot c.holes_to.result has (c.deref-2.ensures.value ∙ c.self.invariant.told) c.holes_to.ensures in
    let all = sum at.1 in
    omega arith

pub returns : goal.returns
returns g c =
    let slots = c.self.inside.slots.items in
    let has = subst (λ slots. HasNumber slots c.args.number c.in_ok-slot.slot) c.deref.ensures.value c.in_ok-slot.ensures in
    let at = at_number slots c.deref-2.result.now c.args.number c.in_ok-slot.slot c.holes_to.result has (c.deref-2.ensures.value ∙ c.self.invariant.told) c.holes_to.ensures in
    place_there slots c.args.number at.0 c.holes_to.result c.in_ok-slot.slot c.self.invariant.rising has at.1
    ∙ ap (λ (n : Numbers g.row.V.Denot). position (nat_eq c.args.number) (keys_of n.rows)) c.self.view_is

pub returns-in_err-slot : goal.returns-in_err-slot
returns-in_err-slot g c =
    c.from_residual.ensures ∙ (sym (ap (λ slots. position (nat_eq c.args.number) (keys_of (rows_of slots))) (sym c.deref.ensures.value) ∙ c.in_err-slot.ensures)
    ∙ ap (λ (n : Numbers g.row.V.Denot). position (nat_eq c.args.number) (keys_of n.rows)) c.self.view_is)
