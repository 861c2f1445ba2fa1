use Rattle.std.proofs.Common.{◌∙◌, [], subst, sym}
use Rattle.sw_list.specs.Marks.{AreFrom, HasLost, KeepsBelow}
use Rattle.sw_list.proofs.IndexLemmas.{forgotten}
use Rattle.sw_caches.specs.Entries.{AreIndexed, AreTight, number, pair, pair_digest}
use Rattle.sw_caches.proofs.PlanLemmas.{indexed_still, planned}
use Rattle.sw_caches.proofs.pairs.Pairs.plan.Goals as goal

pub invariant_of-self : goal.invariant_of-self
invariant_of-self c =
    let was = c.self.inside in
    let entries = was.entries.items in
    let ahead = c.deref-2.ensures.value in
    let clean = c.take_marks.new.slots in
    let slots = c.prepare.new.slots in
    let tight : AreTight entries clean was.next [] =
    forgotten number pair pair_digest entries was.slots clean was.next was.ahead.items c.self.invariant.4 c.take_marks.ensures.fewer (subst (λ marks. HasLost marks clean) ahead c.take_marks.ensures.gone) in
    let indexed : AreIndexed entries clean =
    indexed_still entries was.slots clean was.next c.self.invariant.1 (c.take_marks.ensures.below was.next (subst (AreFrom was.next) (sym ahead) c.self.invariant.4.late)) c.self.invariant.0 in
    let below : KeepsBelow was.next clean slots = subst (λ n. KeepsBelow n clean slots) c.new-plan.ensures.first c.prepare.ensures.below in
    rw (c.prepare.ensures.entries, c.in-Ok.ensures.made) (
      indexed_still entries clean slots was.next c.self.invariant.1 below indexed,
      c.self.invariant.1,
      c.self.invariant.2,
      c.self.invariant.3,
      planned entries clean slots was.next c.self.invariant.1 c.prepare.new.plan (c.prepare.ensures.first ∙ c.new-plan.ensures.first) c.prepare.ensures.draft below tight,
      c.self.invariant.5,
    )
