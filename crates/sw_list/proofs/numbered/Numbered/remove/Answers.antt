use Rattle.std.proofs.Common.{◌∙◌, ◌<◌, ◌≤◌, ◌+◌, All, ap, arith, drop, length, remove, slice_get, subst, sym}
use Rattle.std.specs.List.{AllPairs}
use Rattle.std.specs.List.Sorted.{IsNonDecreasingBy}
use Rattle.std.specs.Map.{values_of}
use Rattle.std.specs.Option.{IsSome}
use Rattle.sw_list.specs.Numbers.{Numbers}
use Rattle.sw_list.specs.Slots.{holes_of, rows_of}
use Rattle.sw_list.proofs.Keeping.{emptied, emptied_below, emptied_rising, emptied_told}
use Rattle.sw_list.proofs.Places.{at_holes, behind, emptied_rows, few_holes, rising_befores, some_value, value_found, value_read, within}
use Rattle.sw_list.proofs.numbered.Numbered.remove.Goals as goal

pub holes_before-passed-requires : goal.holes_before-passed-requires
holes_before-passed-requires g c = subst (IsNonDecreasingBy (λ hole. hole.before)) (sym (c.deref.ensures.value ∙ c.self.invariant.told)) (rising_befores 0 0 c.self.inside.slots.items)

pub overflow_add-slot : goal.overflow_add-slot
overflow_add-slot g c =
    let at = at_holes c.self.inside.slots.items c.deref.result.now c.args.self.now.rows c.args.place c.holes_before-passed.result (ap (λ (n : Numbers g.row.V.Denot). n.rows) c.self.view_is) c.requires
    (c.deref.ensures.value ∙ c.self.invariant.told) c.holes_before-passed.ensures in
    let low = within at in
    omega arith

pub index_mut-requires : goal.index_mut-requires
index_mut-requires g c =
    let at = at_holes c.self.inside.slots.items c.deref.result.now c.args.self.now.rows c.args.place c.holes_before-passed.result (ap (λ (n : Numbers g.row.V.Denot). n.rows) c.self.view_is) c.requires
    (c.deref.ensures.value ∙ c.self.invariant.told) c.holes_before-passed.ensures in
    let low = within at in
    omega arith

pub take_value-value-requires : goal.take_value-value-requires
take_value-value-requires g c =
    let at = at_holes c.self.inside.slots.items c.deref.result.now c.args.self.now.rows c.args.place c.holes_before-passed.result (ap (λ (n : Numbers g.row.V.Denot). n.rows) c.self.view_is) c.requires
    (c.deref.ensures.value ∙ c.self.invariant.told) c.holes_before-passed.ensures in
    subst IsSome (value_read c.self.inside.slots.items (c.args.place + c.holes_before-passed.result) c.index_mut.result.now (within at) c.index_mut.ensures.value) (some_value at)

pub put_hole-requires-clause-within : goal.put_hole-requires-clause-within
put_hole-requires-clause-within g c =
    let at = at_holes c.self.inside.slots.items c.deref.result.now c.args.self.now.rows c.args.place c.holes_before-passed.result (ap (λ (n : Numbers g.row.V.Denot). n.rows) c.self.view_is) c.requires
    (c.deref.ensures.value ∙ c.self.invariant.told) c.holes_before-passed.ensures in
    subst (λ holes. c.holes_before-passed.result ≤ length holes) (sym c.self.invariant.told) (few_holes 0 0 at)

pub put_hole-requires-clause-values : goal.put_hole-requires-clause-values
put_hole-requires-clause-values g c =
    let at = at_holes c.self.inside.slots.items c.deref.result.now c.args.self.now.rows c.args.place c.holes_before-passed.result (ap (λ (n : Numbers g.row.V.Denot). n.rows) c.self.view_is) c.requires
    (c.deref.ensures.value ∙ c.self.invariant.told) c.holes_before-passed.ensures in
    subst (λ holes. All (λ hole. 0 < hole.before) (drop c.holes_before-passed.result holes)) (sym c.self.invariant.told) (behind 0 0 at)

pub squeeze-requires : goal.squeeze-requires
squeeze-requires g c =
    let at = at_holes c.self.inside.slots.items c.deref.result.now c.args.self.now.rows c.args.place c.holes_before-passed.result (ap (λ (n : Numbers g.row.V.Denot). n.rows) c.self.view_is) c.requires
    (c.deref.ensures.value ∙ c.self.invariant.told) c.holes_before-passed.ensures in
    let slots = c.self.inside.slots.items in
    let j = c.args.place + c.holes_before-passed.result in
    let gone = emptied slots j c.index_mut.result.now c.take_value-value.new.self c.index_mut.ensures.value c.take_value-value.ensures.slot in
    c.put_hole.ensures.items ∙ (emptied_told slots c.self.inside.holes.items c.args.place c.holes_before-passed.result j at c.self.invariant.told ∙ ap (holes_of 0 0) (sym gone))

pub invariant_of-self : goal.invariant_of-self
invariant_of-self g c =
    let at = at_holes c.self.inside.slots.items c.deref.result.now c.args.self.now.rows c.args.place c.holes_before-passed.result (ap (λ (n : Numbers g.row.V.Denot). n.rows) c.self.view_is) c.requires
    (c.deref.ensures.value ∙ c.self.invariant.told) c.holes_before-passed.ensures in
    let slots = c.self.inside.slots.items in
    let next = c.self.inside.next in
    let j = c.args.place + c.holes_before-passed.result in
    let gone = emptied slots j c.index_mut.result.now c.take_value-value.new.self c.index_mut.ensures.value c.take_value-value.ensures.slot in
    let low = within at in
    let holes = c.self.invariant.room (omega arith) in
    record {
      rising = c.squeeze.ensures.rising (subst (AllPairs (λ left right. left.number < right.number)) (sym gone) (emptied_rising j slots c.self.invariant.rising));
      below = c.squeeze.ensures.below next (subst (All (λ slot. slot.number < next)) (sym gone) (emptied_below j next slots c.self.invariant.below));
      told = c.squeeze.ensures.told;
      few = c.squeeze.ensures.few;
      room = λ some. omega (arith, holes, c.squeeze.ensures.holes_room, c.put_hole.ensures.capacity);
    }

pub returns-clause-value : goal.returns-clause-value
returns-clause-value g c =
    let at = at_holes c.self.inside.slots.items c.deref.result.now c.args.self.now.rows c.args.place c.holes_before-passed.result (ap (λ (n : Numbers g.row.V.Denot). n.rows) c.self.view_is) c.requires
    (c.deref.ensures.value ∙ c.self.invariant.told) c.holes_before-passed.ensures in
    ap (λ (n : Numbers g.row.V.Denot). slice_get (values_of n.rows) c.args.place) (sym c.self.view_is)
    ∙ (value_found at ∙ (value_read c.self.inside.slots.items (c.args.place + c.holes_before-passed.result) c.index_mut.result.now (within at) c.index_mut.ensures.value ∙ c.take_value-value.ensures.value))

pub returns-clause-rows : goal.returns-clause-rows
returns-clause-rows g c =
    let at = at_holes c.self.inside.slots.items c.deref.result.now c.args.self.now.rows c.args.place c.holes_before-passed.result (ap (λ (n : Numbers g.row.V.Denot). n.rows) c.self.view_is) c.requires
    (c.deref.ensures.value ∙ c.self.invariant.told) c.holes_before-passed.ensures in
    let gone = emptied c.self.inside.slots.items (c.args.place + c.holes_before-passed.result) c.index_mut.result.now c.take_value-value.new.self c.index_mut.ensures.value c.take_value-value.ensures.slot in
    c.squeeze.ensures.rows ∙ (ap rows_of gone ∙ (emptied_rows at ∙ ap (λ (n : Numbers g.row.V.Denot). remove n.rows c.args.place) c.self.view_is))
