use Rattle.std.proofs.Common.{List, ℕ, ◌++◌, ◌∷◌, [], take, sym, ◌∙◌, ap, subst}
use Rattle.std.proofs.lemmas.List.{take_more}
use Rattle.sw_data.specs.declared.storage.Change.{Change}
use Rattle.sw_kept.proofs.Checkpoints.{spell_more}
use Rattle.sw_kept.specs.Spelling.{SpellEach}
use Rattle.sw_kept.proofs.checkpoint.payloads_of.Goals as goal

pub loop-change-preserved : goal.loop-change-preserved
loop-change-preserved c =
    let l = c.loop-change in
    let all = c.args.changes.now in
    let change = c.change-item.result in
    let so_far = take l.change-index all in
    let one = c.in_ok-payload_of.field-0 in
    subst (λ (changes : List Change). SpellEach changes c.push.new.self.items)
    (ap (λ item. so_far ++ item ∷ []) c.change-item.is ∙ sym (take_more all l.change-index change c.loop-change-test.true))
    (subst (λ (payloads : List (List ℕ)). SpellEach (so_far ++ change ∷ []) payloads) (sym c.in_ok-push.ensures.items)
    (spell_more so_far l.payloads.items change one l.invariant c.in_ok-payload_of.ensures))
