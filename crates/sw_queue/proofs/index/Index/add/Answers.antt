use Rattle.std.proofs.Common.{◌∙◌, ◌≤◌, ◌<◌, [], refl, sym, ap, subst}
use Rattle.std.specs.Option.{option_copied_mut}
use Rattle.sw_queue.specs.Lines.{Keyed, line_in}
use Rattle.sw_queue.specs.Links.{count_by_scope}
use Rattle.sw_queue.proofs.Adding.{added_linked, added_numbers, none_full}
use Rattle.sw_queue.proofs.Naming.{by_name_found}
use Rattle.sw_queue.proofs.Placing.{part_within, room_seen}
use Rattle.sw_queue.proofs.index.Index.add.Goals as goal

pub add-requires-clause-room : goal.add-requires-clause-room
add-requires-clause-room c =
    let room = subst (λ (lines : Keyed). 0 < (line_in lines c.args.key.now c.args.scope.now).spare) (sym c.self.view_is) c.requires in
    (room_seen c.self.inside.nodes _ c.args.key.now c.args.scope.now room).2

pub add-requires-clause-count : goal.add-requires-clause-count
add-requires-clause-count c =
    let found = by_name_found _ c.args.key.now c.self.inside.keys.entries ∙ (sym c.get_mut.ensures.value ∙ ap option_copied_mut c.in-Some.is) in
    subst (λ n. count_by_scope c.in-Some.scopes.now ≤ n) c.self.invariant.count (part_within count_by_scope _ c.args.key.now c.in-Some.scopes.now [] refl found)

pub invariant_of-self : goal.invariant_of-self
invariant_of-self c =
    let found = sym c.get_mut.ensures.value ∙ ap option_copied_mut c.in-Some.is in
    let room = subst (λ (lines : Keyed). 0 < (line_in lines c.args.key.now c.args.scope.now).spare) (sym c.self.view_is) c.requires in
    rw (c.get_mut.follows.holds _).0
    (added_linked _ c.args.key.now c.args.scope.now c.self.inside.keys.entries c.in-Some.scopes.now c.add.new.self c.self.inside.nodes c.add.new.nodes
    c.args.number c.self.invariant found room c.add.ensures.line c.add.ensures.nodes)

pub returns-in-Some : goal.returns-in-Some
returns-in-Some c k s =
    let found = sym c.get_mut.ensures.value ∙ ap option_copied_mut c.in-Some.is in
    let room = subst (λ (lines : Keyed). 0 < (line_in lines c.args.key.now c.args.scope.now).spare) (sym c.self.view_is) c.requires in
    rw (← c.self.view_is, (c.get_mut.follows.holds _).0)
    (added_numbers _ c.args.key.now c.args.scope.now c.self.inside.keys.entries c.in-Some.scopes.now c.add.new.self c.self.inside.nodes c.add.new.nodes
    c.args.number c.self.invariant found room c.add.ensures.line c.add.ensures.nodes k s)

pub returns-in_default : goal.returns-in_default
returns-in_default c k s =
    let nothing = sym c.get_mut.ensures.value ∙ ap option_copied_mut c.in_default.is in
    let room = subst (λ (lines : Keyed). 0 < (line_in lines c.args.key.now c.args.scope.now).spare) (sym c.self.view_is) c.requires in
    absurd (none_full _ c.args.key.now c.args.scope.now c.self.inside.keys.entries c.self.inside.nodes nothing room)
