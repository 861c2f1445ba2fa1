use Rattle.std.proofs.Common.{◌≡◌, ◌∙◌, ◌+◌, Some, ap, arith, refl, set, slice_get, subst, sym}
use Rattle.std.specs.List.Sorted.{IsNonDecreasingBy}
use Rattle.std.specs.Map.{values_of}
use Rattle.std.specs.Option.{IsSome}
use Rattle.std.specs.Vec.{vec_capacity}
use Rattle.sw_list.specs.Kept.{IsSpaced}
use Rattle.sw_list.specs.Numbers.{Numbers, with_value_at}
use Rattle.sw_list.specs.Slots.{rows_of}
use Rattle.sw_list.proofs.Keeping.{kept_written}
use Rattle.sw_list.proofs.Places.{at_holes, rising_befores, set_value, some_value, value_found, value_read, within, written_rows}
use Rattle.sw_list.proofs.numbered.Numbered.at_mut.Goals as goal

pub holes_before-requires : goal.holes_before-requires
holes_before-requires g c = subst (IsNonDecreasingBy (λ hole. hole.before)) (sym (c.deref.ensures.value ∙ c.self.invariant.told)) (rising_befores 0 0 c.self.inside.slots.items)

pub overflow_add-slot : goal.overflow_add-slot
overflow_add-slot g c = (let low = within (at_holes c.self.inside.slots.items c.deref.result.now c.args.self.now.rows c.args.place c.holes_before.result (ap (λ (n : Numbers g.row.V.Denot). n.rows) c.self.view_is) c.requires
    (c.deref.ensures.value ∙ c.self.invariant.told) c.holes_before.ensures) in omega arith)

pub index_mut-requires : goal.index_mut-requires
index_mut-requires g c = (let low = within (at_holes c.self.inside.slots.items c.deref.result.now c.args.self.now.rows c.args.place c.holes_before.result (ap (λ (n : Numbers g.row.V.Denot). n.rows) c.self.view_is) c.requires
    (c.deref.ensures.value ∙ c.self.invariant.told) c.holes_before.ensures) in omega arith)

pub value_mut-requires : goal.value_mut-requires
value_mut-requires g c =
    let at = at_holes c.self.inside.slots.items c.deref.result.now c.args.self.now.rows c.args.place c.holes_before.result (ap (λ (n : Numbers g.row.V.Denot). n.rows) c.self.view_is) c.requires
    (c.deref.ensures.value ∙ c.self.invariant.told) c.holes_before.ensures in
    subst IsSome (value_read c.self.inside.slots.items (c.args.place + c.holes_before.result) c.index_mut.result.now (within at) c.index_mut.ensures.value) (some_value at)

pub invariant_of-self-lent : goal.invariant_of-self-lent
invariant_of-self-lent g c w =
    let was = c.self.inside in
    let at = at_holes c.self.inside.slots.items c.deref.result.now c.args.self.now.rows c.args.place c.holes_before.result (ap (λ (n : Numbers g.row.V.Denot). n.rows) c.self.view_is) c.requires
    (c.deref.ensures.value ∙ c.self.invariant.told) c.holes_before.ensures in
    subst (λ slots. IsSpaced slots was.holes.items (vec_capacity was.holes) was.next)
    (sym (set_value was.slots.items (c.args.place + c.holes_before.result) c.index_mut.result.now (Some w) c.index_mut.ensures.value))
    (kept_written was.slots.items was.holes.items (vec_capacity was.holes) was.next _ _ _ w at c.self.invariant)

pub returns : goal.returns
returns g c =
    let slots = c.self.inside.slots.items in
    let slot = c.index_mut.result.now in
    let j = c.args.place + c.holes_before.result in
    let at = at_holes c.self.inside.slots.items c.deref.result.now c.args.self.now.rows c.args.place c.holes_before.result (ap (λ (n : Numbers g.row.V.Denot). n.rows) c.self.view_is) c.requires
    (c.deref.ensures.value ∙ c.self.invariant.told) c.holes_before.ensures in (
      (
        refl,
        λ w.
            let seen : rows_of (set slots j (record slot { value = Some w })) ≡ with_value_at c.args.self.now.rows c.args.place w =
            ap rows_of (set_value slots j slot (Some w) c.index_mut.ensures.value) ∙ (written_rows w at ∙ ap (λ (n : Numbers g.row.V.Denot). with_value_at n.rows c.args.place w) c.self.view_is) in
            let next = ap (λ (n : Numbers g.row.V.Denot). n.next) c.self.view_is in
            let spare = ap (λ (n : Numbers g.row.V.Denot). n.spare) c.self.view_is in
            λ i. record { rows = seen i; next = next i; spare = spare i },
      ),
      record {
        writes_back = tt;
        value = ap (λ (n : Numbers g.row.V.Denot). slice_get (values_of n.rows) c.args.place) (sym c.self.view_is)
            ∙ (value_found at ∙ (value_read slots j slot (within at) c.index_mut.ensures.value ∙ c.value_mut.ensures.value));
      },
    )
