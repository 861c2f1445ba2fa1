use Rattle.std.proofs.Common.{◌≡◌, ◌≤◌, take, vec_len, vec_capacity}
use Rattle.sw_caches.specs.Plans.{without_ops}
use Rattle.sw_caches.proofs.ops.drop_all.Given as goal

abbrev pub invariant-loop-op : goal.invariant-loop-op
invariant-loop-op l = record {
  pairs : l.pairs.items ≡ without_ops (take l.op-index l.ops) l.initial.pairs.items;
  bound : vec_len l.pairs ≤ vec_len l.initial.pairs;
  capacity : vec_capacity l.pairs ≡ vec_capacity l.initial.pairs;
}
