use Rattle.std.proofs.Common.{◌≡◌, ◌≤◌, ◌∙◌, ap, arith, subst, sym}
use Rattle.sw_list.specs.declared.marks.Mark.{Mark}
use Rattle.sw_list.specs.Numbered.{mark_of}
use Rattle.sw_caches.specs.declared.entry.Entry.{Entry}
use Rattle.sw_caches.specs.Slots.{address_mark}
use Rattle.sw_caches.specs.Entries.{number, pair, pair_digest}
use Rattle.sw_caches.proofs.PlanLemmas.{entry_lost}
use Rattle.sw_caches.proofs.plan.unmark_all.Goals as goal

pub loop-entry-preserved : goal.loop-entry-preserved
loop-entry-preserved c =
    let at = c.loop-entry in
    let entry = c.entry-item.result in
    let numbered : c.mark_of.result.number ≡ entry.number = ap (λ (mark : Mark). mark.number) c.mark_of.ensures in
    record {
      below = λ n from key k l.
          let high : n ≤ entry.number = subst (λ (item : Entry). n ≤ item.number) (sym c.entry-item.is) (from at.entry-index entry c.loop-entry-test.true) in
          c.take_mark.ensures.others key k (λ e. omega (arith, e, l, high, numbered)) ∙ at.invariant.below n from key k l;
      fewer = λ key k h. at.invariant.fewer key k (c.take_mark.ensures.fewer key k h);
      gone = entry_lost c.args.added.now at.entry-index entry c.mark_of.result at.slots c.take_mark.new.slots c.loop-entry-test.true
          (c.mark_of.ensures ∙ (ap (λ p. address_mark p.0.url entry.number) c.deref.ensures ∙ ap (mark_of number pair pair_digest) c.entry-item.is)) at.invariant.gone c.take_mark.ensures.fewer c.take_mark.ensures.gone;
    }
