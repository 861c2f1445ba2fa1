use Rattle.std.proofs.Common.{arith, sym}
use Rattle.sw_twin.proofs.Leading.{more_ones, no_more_ones}
use Rattle.sw_twin.proofs.ones.leading.Goals as goal

pub loop-ones-preserved : goal.loop-ones-preserved
loop-ones-preserved c = record {
  within = omega (arith, c.loop-ones-test.true);
  all = more_ones c.loop-ones.ones c.args.bytes.now c.loop-ones-test.true c.loop-ones.invariant.all c.if-bytes-ones-eq-ONE.true;
}

pub returns-else-bytes-ones-eq-ONE : goal.returns-else-bytes-ones-eq-ONE
returns-else-bytes-ones-eq-ONE c = sym (no_more_ones c.loop-ones.ones c.args.bytes.now c.loop-ones-test.true c.loop-ones.invariant.all c.if-bytes-ones-eq-ONE.false)
