use Rattle.std.proofs.Common.{◌∙◌, bytes_eq, sym}
use Rattle.std.specs.Map.{lookup}
use Rattle.sw_scope.specs.Counted.{bare}
use Rattle.sw_scope.proofs.Counting.{counted_fits, counted_kept, counted_put}
use Rattle.sw_scope.proofs.Entries.{absent_of, there_of}
use Rattle.sw_scope.proofs.key_scopes.KeyScopes.put.Goals as goal

pub add-requires-clause-fits : goal.add-requires-clause-fits
add-requires-clause-fits c =
    let entries = bare (λ key. key.items) c.self.inside.scopes.entries in
    let scope = c.args.scope.items in
    let absent = absent_of (lookup (bytes_eq scope) entries) (sym c.insert.ensures.new ∙ c.if-insert.true) in
    let few = rw c.insert.ensures.entries at c.insert.ensures.few in
    let fits = counted_fits c.self.inside.lengths.items entries scope c.self.invariant c.args.id _ absent few in
    rw c.as_slice-length.ensures.value fits

pub invariant_of-self : goal.invariant_of-self
invariant_of-self c =
    let entries = bare (λ key. key.items) c.self.inside.scopes.entries in
    let scope = c.args.scope.items in
    let absent = absent_of (lookup (bytes_eq scope) entries) (sym c.insert.ensures.new ∙ c.if-insert.true) in
    rw (c.add.ensures.counted, c.insert.ensures.entries, c.as_slice-length.ensures.value)
    (counted_put c.self.inside.lengths.items entries scope c.self.invariant c.args.id absent)

pub invariant_of-self-else-insert : goal.invariant_of-self-else-insert
invariant_of-self-else-insert c =
    let entries = bare (λ key. key.items) c.self.inside.scopes.entries in
    let scope = c.args.scope.items in
    let there = there_of (lookup (bytes_eq scope) entries) (sym c.insert.ensures.new ∙ c.if-insert.false) in
    rw c.insert.ensures.entries
    (counted_kept c.self.inside.lengths.items entries scope c.self.invariant c.args.id there.0 there.1)
