use Rattle.std.proofs.Common.{◌≡◌, ◌+◌, drop, length, take}
use Rattle.sw_scope.specs.Counted.{first_found, within}
use Rattle.sw_scope.specs.Scopes.{maps}
use Rattle.sw_scope.proofs.scope_map.ScopeMap.first_of.Given as goal

abbrev pub invariant-loop-counted : goal.invariant-loop-counted
invariant-loop-counted g l = record {
  found : first_found (λ n. maps l.self l.key (take n l.address)) (within (length l.address) (drop l.counted-index l.lengths))
      ≡ first_found (λ n. maps l.self l.key (take n l.address)) (within (length l.address) l.lengths);
  taken : l.steps + length (within (length l.address) (drop l.counted-index l.lengths))
      ≡ l.fn.steps + length (within (length l.address) l.lengths);
}
