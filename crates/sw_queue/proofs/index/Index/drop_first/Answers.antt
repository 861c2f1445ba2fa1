use Rattle.std.proofs.Common.{◌∙◌, sym, ap}
use Rattle.std.specs.Option.{option_copied_mut}
use Rattle.sw_queue.proofs.Dropping.{dropped_linked, dropped_numbers, none_dropped}
use Rattle.sw_queue.proofs.index.Index.drop_first.Goals as goal

pub invariant_of-self : goal.invariant_of-self
invariant_of-self c =
    let found = sym c.get_mut.ensures.value ∙ ap option_copied_mut c.in-Some.is in
    rw (c.get_mut.follows.holds _).0
    (dropped_linked _ c.args.key.now c.args.scope.now c.self.inside.keys.entries c.in-Some.scopes.now c.drop_first.new.self c.self.inside.nodes
    c.drop_first.new.nodes c.self.invariant found c.drop_first.ensures.line c.drop_first.ensures.nodes)

pub returns-in-Some : goal.returns-in-Some
returns-in-Some c k s =
    let found = sym c.get_mut.ensures.value ∙ ap option_copied_mut c.in-Some.is in
    rw (← c.self.view_is, (c.get_mut.follows.holds _).0)
    (dropped_numbers _ c.args.key.now c.args.scope.now c.self.inside.keys.entries c.in-Some.scopes.now c.drop_first.new.self c.self.inside.nodes
    c.drop_first.new.nodes c.self.invariant found c.drop_first.ensures.line c.drop_first.ensures.nodes k s)

pub returns-in_default : goal.returns-in_default
returns-in_default c k s =
    let nothing = sym c.get_mut.ensures.value ∙ ap option_copied_mut c.in_default.is in
    rw (← c.self.view_is, c.get_mut.follows.holds-at-none)
    (none_dropped _ c.args.key.now c.args.scope.now c.self.inside.keys.entries c.self.inside.nodes nothing k s)
