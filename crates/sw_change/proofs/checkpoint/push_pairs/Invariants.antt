use Rattle.std.proofs.Common.{◌≡◌, ◌++◌, map, take}
use Rattle.sw_rules.specs.Durable.{pair_change}
use Rattle.sw_change.proofs.checkpoint.push_pairs.Given as goal

abbrev pub invariant-loop-pair : goal.invariant-loop-pair
invariant-loop-pair l = l.changes.items ≡ l.fn.changes.items ++ map (pair_change l.cache) (take l.pair-index l.pairs)
