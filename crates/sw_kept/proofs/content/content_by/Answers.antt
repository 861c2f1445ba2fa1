use Rattle.std.proofs.Common.{Bool, true, false, ◌+◌, ◌∷◌, drop, sym, ◌∙◌, ap, subst}
use Rattle.std.proofs.lemmas.List.{drop_all, drop_more}
use Rattle.sw_kept.proofs.Contents.{carried_on, carried_off}
use Rattle.sw_kept.specs.Stored.{IsCarried, made_by}
use Rattle.sw_kept.proofs.content.content_by.Goals as goal

pub returns-then-not-branch : goal.returns-then-not-branch
returns-then-not-branch c =
    let l = c.loop-entry in
    let all = c.args.records.now in
    sym
    (sym l.invariant
    ∙ (ap (made_by l.content) (drop_more all l.entry-index c.entry-item.result c.loop-entry-test.true ∙ ap (λ item. item ∷ drop (l.entry-index + 1) all) (sym c.entry-item.is))
    ∙ carried_off l.content c.carry_payload.new.content c.entry-item.result (drop (l.entry-index + 1) all)
    (subst (IsCarried false l.content c.carry_payload.new.content) c.as_bytes.ensures
    (subst (λ (good : Bool). IsCarried good l.content c.carry_payload.new.content c.as_bytes.result.now) c.if-not-branch.true c.in_ok-carry_payload.ensures))))

pub loop-entry-preserved : goal.loop-entry-preserved
loop-entry-preserved c =
    let l = c.loop-entry in
    let all = c.args.records.now in
    sym
    (carried_on l.content c.carry_payload.new.content c.entry-item.result (drop (l.entry-index + 1) all)
    (subst (IsCarried true l.content c.carry_payload.new.content) c.as_bytes.ensures
    (subst (λ (good : Bool). IsCarried good l.content c.carry_payload.new.content c.as_bytes.result.now) c.if-not-branch.false c.in_ok-carry_payload.ensures)))
    ∙ (ap (made_by l.content) (sym (drop_more all l.entry-index c.entry-item.result c.loop-entry-test.true ∙ ap (λ item. item ∷ drop (l.entry-index + 1) all) (sym c.entry-item.is)))
    ∙ l.invariant)

pub returns : goal.returns
unfolding made_by
returns c =
    let l = c.loop-entry in
    sym (sym l.invariant ∙ ap (made_by l.content) (drop_all l.entry-index c.args.records.now c.loop-entry-test.false))
