use Rattle.std.proofs.Common.{◌≡◌, ◌∙◌, ◌≤◌, Some, refl, sym, ap, subst, arith}
use Rattle.std.specs.Prelude.{bytes_eq}
use Rattle.std.specs.Map.{lookup, set_value}
use Rattle.std.specs.Option.{option_copied_mut}
use Rattle.slab.specs.Slab.{slab_len}
use Rattle.sw_queue.specs.Lines.{by_name}
use Rattle.sw_queue.specs.Links.{AddsNode, ByScope, count_by_scope, no_nodes, with_last}
use Rattle.sw_queue.specs.declared.line.Line.{Line}
use Rattle.sw_queue.proofs.Naming.{by_name_found, by_name_set, none_found, one_found}
use Rattle.sw_queue.proofs.Placing.{part_within}
use Rattle.sw_queue.proofs.scopes.Scopes.add.Goals as goal
use Rattle.sw_queue.proofs.scopes.Scopes.add.Goals.{in-Some, in_default}

pub add-requires-clause-count : goal.add-requires-clause-count
add-requires-clause-count c =
    let found = by_name_found _ c.args.scope.now c.self.inside.lines.entries ∙ (sym c.get_mut.ensures.value ∙ ap option_copied_mut c.in-Some.is) in
    let part = part_within (λ (line : Line). line.count) _ c.args.scope.now c.in-Some.line.now no_nodes refl found in
    let whole = subst (λ (lines : ByScope). count_by_scope lines ≤ slab_len c.args.nodes.now) (sym c.self.view_is) c.requires.count in
    omega (arith, part, whole)

pub returns-clause-line : goal.returns-clause-line
returns-clause-line c line there =
    let entries = c.self.inside.lines.entries in
    let found = by_name_found _ c.args.scope.now entries ∙ sym c.get_mut.ensures.value in
    let at = subst (λ (lines : ByScope). lookup (bytes_eq c.args.scope.now) lines ≡ Some line) (sym c.self.view_is) there in
    rw (← c.self.view_is)
    elim c.match-get_mut.branch [
      | in-Some w ↦
          let same = one_found _ w.in-Some.line.now line (found ∙ ap option_copied_mut w.in-Some.is) at in
          rw (w.self-inside-is, (c.get_mut.follows.holds _).0)
          (by_name_set _ c.args.scope.now entries w.add.new.self
          ∙ ap (set_value (bytes_eq c.args.scope.now) (by_name _ entries)) (w.add.ensures.line ∙ ap (with_last c.args.nodes.now.vacant_key) same))
      | in_default w ↦ absurd (none_found _ line (found ∙ ap option_copied_mut w.in_default.is) at)
    ]

pub returns-clause-nodes : goal.returns-clause-nodes
returns-clause-nodes c line there =
    let entries = c.self.inside.lines.entries in
    let found = by_name_found _ c.args.scope.now entries ∙ sym c.get_mut.ensures.value in
    let at = subst (λ (lines : ByScope). lookup (bytes_eq c.args.scope.now) lines ≡ Some line) (sym c.self.view_is) there in
    elim c.match-get_mut.branch [
      | in-Some w ↦
          let same = one_found _ w.in-Some.line.now line (found ∙ ap option_copied_mut w.in-Some.is) at in
          rw w.nodes-is
          (subst (λ (l : Line). AddsNode c.args.nodes.now w.add.new.nodes l c.args.number) same w.add.ensures.nodes)
      | in_default w ↦ absurd (none_found _ line (found ∙ ap option_copied_mut w.in_default.is) at)
    ]
