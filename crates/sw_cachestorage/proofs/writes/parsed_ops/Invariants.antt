-- The operations so far are parsed, and what is left comes to the rest.
use Rattle.std.proofs.Common.{◌≡◌, drop}
use Rattle.sw_cachestorage.proofs.OpsLemmas.{behind}
use Rattle.sw_rules.specs.Caching.{parsed_ops}
use Rattle.sw_cachestorage.proofs.writes.parsed_ops.Given as goal

abbrev pub invariant-loop-op : goal.invariant-loop-op
invariant-loop-op l = parsed_ops l.base l.ops ≡ behind l.parsed.items (parsed_ops l.base (drop l.op-index l.ops))
