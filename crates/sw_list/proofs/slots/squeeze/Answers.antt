use Rattle.std.proofs.Common.{◌≡◌, ◌<◌, ◌∙◌, All, ap, filter, is_some, rules, subst, sym}
use Rattle.std.specs.List.{AllPairs}
use Rattle.std.proofs.lemmas.Fn.{filter_same}
use Rattle.std.proofs.lemmas.List.Elements.{All-filter}
use Rattle.sw_list.specs.declared.slots.Slot.{Slot}
use Rattle.sw_list.specs.Slots.{holes_of, rows_of}
use Rattle.sw_list.proofs.Lists.{pairs_filtered}
use Rattle.sw_list.proofs.Places.{squeezed_holes, squeezed_rows}
use Rattle.sw_list.proofs.slots.squeeze.Given as given
use Rattle.sw_list.proofs.slots.squeeze.Goals as goal
use Rattle.sw_list.proofs.slots.squeeze.Goals.{After-clear}

kept : (g : given.Over) (c : After-clear g) → c.retain.new.self.items ≡ filter (λ slot. is_some slot.value) c.args.slots.now.items
kept g c = filter_same _ (λ (slot : Slot g.row.V.Denot). is_some slot.value) _ (λ x b f k. search rules) _ _ c.retain.ensures.filtered

pub returns-clause-told : goal.returns-clause-told
returns-clause-told g c = c.clear.ensures.items ∙ sym (ap (holes_of 0 0) (kept g c) ∙ squeezed_holes 0 0 c.args.slots.now.items)

pub returns-clause-rows : goal.returns-clause-rows
returns-clause-rows g c = ap rows_of (kept g c) ∙ squeezed_rows c.args.slots.now.items

pub returns-clause-rising : goal.returns-clause-rising
returns-clause-rising g c up =
    subst (AllPairs (λ left right. left.number < right.number)) (sym (kept g c)) (pairs_filtered (λ left right. left.number < right.number) (λ slot. is_some slot.value) c.args.slots.now.items up)

pub returns-clause-below : goal.returns-clause-below
returns-clause-below g c top all =
    subst (All (λ slot. slot.number < top)) (sym (kept g c)) (All-filter (λ slot. is_some slot.value) (λ slot. slot.number < top) c.args.slots.now.items all)
