use Rattle.std.proofs.Common.{◌≡◌, ◌≤◌, ◌<◌, ◌+◌, ◌++◌, ◌∷◌, ◌∙◌, List, [], ap, refl, rules, subst, sym}
use Rattle.std.specs.Prelude.{◌^◌}
use Rattle.sw_list.specs.declared.marks.Mark.{Mark}
use Rattle.sw_list.specs.Marks.{IsFree}
use Rattle.sw_caches.specs.declared.plan.PairsPlan.{PairsPlan}
use Rattle.sw_caches.specs.Slots.{address_mark}
use Rattle.sw_caches.proofs.PlanLemmas.{added_above, alike, draft_free, draft_more, draft_same}
use Rattle.sw_caches.proofs.plan.PairsPlan.add.Goals as goal

pub put_mark-requires : goal.put_mark-requires
put_mark-requires c = subst (λ (mark : Mark). IsFree mark.number c.args.slots.now) (sym c.mark_of.ensures) (draft_free c.args.self.now c.args.slots.now c.requires)

pub returns-in_err-put_mark-clause-draft : goal.returns-in_err-put_mark-clause-draft
returns-in_err-put_mark-clause-draft c =
    let plan = c.args.self.now in
    let new : PairsPlan = record { deletes = plan.deletes; added = c.reserve.new.self; first = plan.first; next = plan.next } in
    draft_same plan new c.args.slots.now c.put_mark.new.slots c.requires refl c.reserve.ensures.items refl c.put_mark.ensures.keeps c.in_err-put_mark.ensures.err

pub returns-in_err-put_mark-clause-below : goal.returns-in_err-put_mark-clause-below
returns-in_err-put_mark-clause-below c key n l = alike c.args.slots.now c.put_mark.new.slots c.put_mark.ensures.keeps c.in_err-put_mark.ensures.err key n

pushed : {X : Type 0} (xs ys zs : List X) (x : X) → zs ≡ ys ++ x ∷ [] → ys ≡ xs → zs ≡ xs ++ x ∷ []
pushed xs ys zs x is same = is ∙ ap (λ list. list ++ x ∷ []) same

pub returns-clause-draft : goal.returns-clause-draft
returns-clause-draft c =
    let plan = c.args.self.now in
    let new : PairsPlan = record { deletes = plan.deletes; added = c.push_reserved.new.self; first = plan.first; next = plan.next + 1 } in
    let few : plan.next + 1 < 2 ^ 64 = search rules in
    draft_more plan new c.args.slots.now c.put_mark.new.slots c.requires refl _ c.mark_of.result (pushed _ _ _ _ c.push_reserved.ensures.items c.reserve.ensures.items) refl refl few
    (c.mark_of.ensures ∙ ap (λ p. address_mark p.0.url plan.next) c.deref.ensures) c.put_mark.ensures.keeps c.in_ok-put_mark.ensures.marked c.in_ok-put_mark.ensures.only

pub returns-clause-below : goal.returns-clause-below
returns-clause-below c key n l =
    let plan = c.args.self.now in
    added_above c.mark_of.result c.args.slots.now c.put_mark.new.slots plan.first (subst (λ (mark : Mark). plan.first ≤ mark.number) (sym c.mark_of.ensures) c.requires.later) c.put_mark.ensures.keeps c.in_ok-put_mark.ensures.only key n l
