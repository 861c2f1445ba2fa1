use Rattle.std.proofs.Common.{◌≡◌, ◌+◌, ◌∷◌, ap, sym, subst, ◌∙◌, drop, take}
use Rattle.std.proofs.lemmas.List.{drop_more}
use Rattle.sw_rules.specs.Batch.{go}
use Rattle.sw_caches.specs.Plans.{IsThrown, without_ops}
use Rattle.sw_caches.proofs.ops.scan.Goals as goal

pub returns-in-Err-clause-err : goal.returns-in-Err-clause-err
returns-in-Err-clause-err c old =
    let at = c.loop-op in
    let ops = c.args.ops.now in
    let left = without_ops (take at.op-index ops) old in
    let rest : drop at.op-index ops ≡ c.op-item.result ∷ drop (at.op-index + 1) ops =
    drop_more ops at.op-index c.op-item.result c.loop-op-test.true ∙ ap (λ item. item ∷ drop (at.op-index + 1) ops) (sym c.op-item.is) in
    subst (IsThrown c.in-Err.fault) (sym (at.invariant.batch old ∙ ap (go left at.added.items at.at) rest))
    (c.in-Err.ensures.err left (drop (at.op-index + 1) ops))
