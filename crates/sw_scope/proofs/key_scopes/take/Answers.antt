use Rattle.sw_scope.proofs.Entries.{fewer_removed, lookup_removed}
use Rattle.sw_scope.proofs.key_scopes.take.Goals as goal

pub returns-clause-removed : goal.returns-clause-removed
returns-clause-removed c = λ other. lookup_removed (λ key. key.items) c.args.scope.now other c.args.scopes.now.entries c.swap_remove.new.self.entries
    c.swap_remove.ensures.updates.1 c.swap_remove.ensures.updates.3

pub returns-clause-fewer : goal.returns-clause-fewer
returns-clause-fewer c = fewer_removed (λ key. key.items) c.args.scope.now c.args.scopes.now.entries c.swap_remove.new.self.entries
    c.swap_remove.result c.swap_remove.ensures.value c.swap_remove.ensures.entries
