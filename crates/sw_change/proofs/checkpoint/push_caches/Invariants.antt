use Rattle.std.proofs.Common.{◌≡◌, ◌++◌, take}
use Rattle.std.specs.List.{flat_map}
use Rattle.sw_rules.specs.Durable.{cache_changes}
use Rattle.sw_change.proofs.checkpoint.push_caches.Given as goal

abbrev pub invariant-loop-cache : goal.invariant-loop-cache
invariant-loop-cache l = l.changes.items ≡ l.fn.changes.items ++ flat_map cache_changes (take l.cache-index l.caches)
