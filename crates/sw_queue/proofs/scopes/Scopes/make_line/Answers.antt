use Rattle.std.proofs.Common.{◌∙◌, ◌++◌, List, ℕ, is_some, refl, sym, ap, subst}
use Rattle.std.specs.Prelude.{IsSome, bytes_eq}
use Rattle.std.specs.Map.{lookup}
use Rattle.sw_queue.specs.Links.{ByScope}
use Rattle.sw_queue.proofs.Naming.{by_name_found}
use Rattle.sw_queue.proofs.Making.{begun_count, missing}
use Rattle.sw_queue.proofs.scopes.Scopes.make_line.Goals as goal

pub returns-then-contains_key-clause-there : goal.returns-then-contains_key-clause-there
returns-then-contains_key-clause-there c =
    subst (λ (lines : ByScope). IsSome (lookup (bytes_eq c.args.scope.now) lines)) c.self.view_is
    (ap is_some (by_name_found _ c.args.scope.now c.self.inside.lines.entries) ∙ (sym c.contains_key.ensures ∙ c.if-contains_key.true))

pub returns-clause-count : goal.returns-clause-count
returns-clause-count c =
    let written = c.in_ok-insert.ensures.entries in
    let name = c.in_ok-extend_from_slice.ensures.items in
    rw (← c.self.view_is, written, c.new.ensures)
    (begun_count _ c.args.scope.now c.self.inside.lines.entries _ c.extend_from_slice.new.self (λ x y. refl)
    (name ∙ ap (λ (xs : List ℕ). xs ++ c.args.scope.now) c.new-name.ensures.items)
    (missing _ (sym c.contains_key.ensures ∙ c.if-contains_key.false)))
