use Rattle.std.proofs.Common.{◌≡◌, [], List, drop, take}
use Rattle.sw_rules.specs.Matching.{Pair}
use Rattle.sw_rules.specs.Batch.{go}
use Rattle.sw_caches.specs.Plans.{without_ops}
use Rattle.sw_caches.proofs.ops.scan.Given as goal

abbrev pub invariant-loop-op : goal.invariant-loop-op
invariant-loop-op l = record {
  count : l.at ≡ l.op-index;
  batch : (old : List Pair) → go old [] 0 l.ops ≡ go (without_ops (take l.op-index l.ops) old) l.added.items l.at (drop l.op-index l.ops);
}
