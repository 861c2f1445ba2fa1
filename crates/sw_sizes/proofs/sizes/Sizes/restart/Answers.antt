use Rattle.std.proofs.Common.{◌≡◌, ◌∙◌, ◌<◌, List, Some, length, sym, ap, arith}
use Rattle.std.specs.Prelude.{slice_get}
use Rattle.sw_list.specs.Named.{values, with_value}
use Rattle.sw_sizes.specs.Rows.{Row}
use Rattle.sw_sizes.proofs.RowLemmas.{one_promoted, promoted_to}
use Rattle.sw_sizes.proofs.sizes.Sizes.restart.Goals as goal

pub loop-at-preserved : goal.loop-at-preserved
loop-at-preserved c =
    let was = c.args.self.now in
    let at = c.loop-at.at in
    let held = c.loop-at.invariant in
    let end = held.0 in
    let more = c.loop-at-test.true in
    let low : at < length was = omega (arith, more, end) in
    let value : slice_get (values (promoted_to at was)) at ≡ Some c.parts_at.result = ap (λ (rows : List Row). slice_get (values rows) at) (sym held.2) ∙ c.parts_at.ensures in (
      end,
      omega (arith, low, end),
      c.in_ok-set.ensures ∙ ((λ i. with_value at (c.edited-parts.ensures i) (held.2 i)) ∙ one_promoted was at c.parts_at.result value low),
    )
