use Rattle.std.proofs.Common.{◌∙◌}
use Rattle.sw_list.proofs.DigestLemmas.{lost_more, taken_above}
use Rattle.sw_list.proofs.marks.take_marks.Goals as goal

pub loop-mark-preserved : goal.loop-mark-preserved
loop-mark-preserved c =
    let at = c.loop-mark in
    let marks = c.args.marks.now in
    record {
      below = λ low from key n l. taken_above marks at.mark-index _ at.slots c.take_mark.new.slots c.loop-mark-test.true low from c.take_mark.ensures.others key n l ∙ at.invariant.below low from key n l;
      fewer = λ key n h. at.invariant.fewer key n (c.take_mark.ensures.fewer key n h);
      gone = lost_more marks at.mark-index _ at.slots c.take_mark.new.slots c.loop-mark-test.true at.invariant.gone c.take_mark.ensures.fewer c.take_mark.ensures.gone;
    }
