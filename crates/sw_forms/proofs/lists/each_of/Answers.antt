-- One value more.
use Rattle.std.proofs.Common.{◌∙◌, ap}
use Rattle.serde_json.specs.View.{view}
use Rattle.sw_forms.specs.Members.{with_part}
use Rattle.sw_forms.proofs.PartLemmas.{each_next}
use Rattle.sw_forms.proofs.lists.each_of.Goals as goal

pub loop-value-preserved : goal.loop-value-preserved
loop-value-preserved g c =
    each_next view g.T.FromValue.reads c.args.values.now c.loop-value.value-index c.value-item.result
    c.loop-value.parts c.in_ok-parts.parts c.loop-value-test.true c.value-item.is
    (c.in_ok-parts.ensures ∙ ap (with_part c.loop-value.parts) c.in_ok-from_value.ensures)
    ∙ c.loop-value.invariant
