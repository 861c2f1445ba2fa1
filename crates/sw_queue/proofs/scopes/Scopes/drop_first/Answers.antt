use Rattle.std.proofs.Common.{◌∙◌, sym, ap, subst}
use Rattle.std.specs.Prelude.{bytes_eq}
use Rattle.std.specs.Map.{set_value}
use Rattle.std.specs.Option.{option_copied_mut}
use Rattle.sw_queue.specs.Lines.{by_name}
use Rattle.sw_queue.specs.Links.{Drops, no_nodes, without_first}
use Rattle.sw_queue.proofs.Dropping.{nothing_drops}
use Rattle.sw_queue.proofs.Naming.{by_name_found, by_name_set, named_absent, named_found, set_absent}
use Rattle.sw_queue.proofs.scopes.Scopes.drop_first.Goals as goal
use Rattle.sw_queue.proofs.scopes.Scopes.drop_first.Goals.{in-Some, in_default}

pub returns-clause-line : goal.returns-clause-line
returns-clause-line c =
    let entries = c.self.inside.lines.entries in
    rw (← c.self.view_is)
    elim c.match-get_mut.branch [
      | in-Some w ↦
          let found = sym c.get_mut.ensures.value ∙ ap option_copied_mut w.in-Some.is in
          rw (w.self-inside-is, (c.get_mut.follows.holds _).0)
          (by_name_set _ c.args.scope.now entries w.drop_first.new.self
          ∙ ap (set_value (bytes_eq c.args.scope.now) (by_name _ entries))
          (w.drop_first.ensures.line ∙ ap (without_first c.args.nodes.now) (sym (named_found _ c.args.scope.now no_nodes entries _ found))))
      | in_default w ↦
          let nothing = sym c.get_mut.ensures.value ∙ ap option_copied_mut w.in_default.is in
          rw (w.self-inside-is, c.get_mut.follows.holds-at-none)
          (sym (set_absent _ c.args.scope.now _ (by_name_found _ c.args.scope.now entries ∙ nothing)))
    ]

pub returns-clause-nodes : goal.returns-clause-nodes
returns-clause-nodes c =
    let entries = c.self.inside.lines.entries in
    rw (← c.self.view_is)
    elim c.match-get_mut.branch [
      | in-Some w ↦
          let found = sym c.get_mut.ensures.value ∙ ap option_copied_mut w.in-Some.is in
          rw w.nodes-is
          (subst (Drops c.args.nodes.now w.drop_first.new.nodes) (sym (named_found _ c.args.scope.now no_nodes entries _ found)) w.drop_first.ensures.nodes)
      | in_default w ↦
          let nothing = sym c.get_mut.ensures.value ∙ ap option_copied_mut w.in_default.is in
          rw w.nodes-is
          (subst (Drops c.args.nodes.now c.args.nodes.now) (sym (named_absent _ c.args.scope.now no_nodes entries nothing)) (nothing_drops c.args.nodes.now))
    ]
