use Rattle.std.proofs.Common.{◌∙◌, sym}
use Rattle.sw_scope.specs.Counted.{bare}
use Rattle.sw_scope.proofs.Counting.{counted_removed}
use Rattle.sw_scope.proofs.Entries.{none_of, some_of}
use Rattle.sw_scope.proofs.key_scopes.KeyScopes.remove.Goals as goal

pub invariant_of-self : goal.invariant_of-self
invariant_of-self c =
    let entries = bare (λ key. key.items) c.self.inside.scopes.entries in
    let left = bare (λ key. key.items) c.take-id.new.scopes.entries in
    let some = some_of c.take-id.result (sym c.is_some.ensures ∙ c.if-is_some.true) in
    rw c.subtract.ensures.counted
    (counted_removed c.self.inside.lengths.items entries c.args.scope.now c.self.invariant left (rw some.1 at c.take-id.ensures.fewer))

pub invariant_of-self-else-is_some : goal.invariant_of-self-else-is_some
invariant_of-self-else-is_some c =
    let none = none_of c.take-id.result (sym c.is_some.ensures ∙ c.if-is_some.false) in
    rw (rw none at c.take-id.ensures.same) c.self.invariant
