use Rattle.std.proofs.Common.{◌∙◌}
use Rattle.sw_scope.specs.Scopes.{own_scopes}
use Rattle.sw_scope.proofs.Longest.{found_longest}
use Rattle.sw_scope.proofs.scope_map.ScopeMap.longest.Goals as goal

pub returns-clause-longest : goal.returns-clause-longest
returns-clause-longest g c =
    c.first_of.ensures.first
    ∙ found_longest c.args.address.now (own_scopes c.args.self.now c.args.key.now).entries
    c.lengths-lengths.result.now c.lengths-lengths.ensures
