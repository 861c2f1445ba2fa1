-- The operation at this place parses, and is kept.
use Rattle.std.proofs.Common.{◌∙◌, sym, arith}
use Rattle.sw_cachestorage.proofs.OpsLemmas.{parses}
use Rattle.sw_cachestorage.proofs.writes.parsed_ops.Goals as goal

pub loop-op-preserved : goal.loop-op-preserved
loop-op-preserved c =
    let kept =
    parses c.args.base.now c.args.ops.now c.loop-op.parsed.items c.loop-op.op-index c.loop-op.invariant c.op-item.result c.op-item.is c.loop-op-test.true
    c.in-Some.op (sym c.in_ok-op.ensures ∙ c.in-Some.is) in
    grind (arith, kept, c.in_ok-push-in-Some.ensures.items)
