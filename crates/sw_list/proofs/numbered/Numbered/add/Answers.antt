use Rattle.std.proofs.Common.{◌∙◌, ◌++◌, ◌∷◌, [], ◌+◌, ◌-◌, ap, arith, subst, sym}
use Rattle.std.specs.Vec.{vec_capacity, vec_len}
use Rattle.sw_list.specs.Kept.{IsSpaced}
use Rattle.sw_list.specs.Numbers.{Numbers}
use Rattle.sw_list.specs.Slots.{rows_of}
use Rattle.sw_list.proofs.Keeping.{kept_added, spare_room}
use Rattle.sw_list.proofs.Places.{added_rows}
use Rattle.sw_list.proofs.numbered.Numbered.add.Goals as goal

pub invariant_of-self : goal.invariant_of-self
invariant_of-self g c =
    let was = c.self.inside in
    let spare = ap (λ (n : Numbers g.row.V.Denot). n.spare) c.self.view_is in
    let room = spare_room (vec_capacity was.holes) (vec_capacity was.slots - vec_len was.slots) was.next (omega (arith, spare, c.requires)) in
    subst (λ slots. IsSpaced slots was.holes.items (vec_capacity was.holes) (was.next + 1)) (sym c.push_reserved.ensures.items)
    (kept_added was.slots.items was.holes.items (vec_capacity was.holes) was.next c.args.value room.0 c.self.invariant)

pub returns-clause-rows : goal.returns-clause-rows
returns-clause-rows g c =
    ap rows_of c.push_reserved.ensures.items ∙ (added_rows c.self.inside.slots.items c.self.inside.next c.args.value
    ∙ ap (λ (n : Numbers g.row.V.Denot). n.rows ++ (n.next, c.args.value) ∷ []) c.self.view_is)
