-- A number that is focused is taken out, and then added last.
use Rattle.std.proofs.Common.{◌∙◌, ℕ, List, ◌∷◌, ap, nat_eq}
use Rattle.std.specs.Map.{remove_entry}
use Rattle.sw_roster.specs.Members.{is_same}
use Rattle.sw_roster.proofs.Numbers.{fresh, keyed_left, keyed_more, reversed_left, reversed_more}
use Rattle.sw_roster.proofs.recent.Recent.focus.Goals as goal
use Rattle.sw_rules.specs.Rows.{without}

pub add-requires-clause-fresh : goal.add-requires-clause-fresh
add-requires-clause-fresh c =
    fresh c.self.inside.numbers.entries c.self.invariant c.args.client c.remove.new.self.entries
    (c.remove.ensures.entries ∙ ap (remove_entry (nat_eq c.args.client)) c.make_room.ensures.same) c.remove.ensures.apart

pub invariant_of-self-2 : goal.invariant_of-self-2
invariant_of-self-2 c =
    let left = keyed_left c.self.inside.numbers.entries c.self.invariant c.args.client c.remove.new.self.entries
    (c.remove.ensures.entries ∙ ap (remove_entry (nat_eq c.args.client)) c.make_room.ensures.same) c.remove.ensures.apart in
    keyed_more c.remove.new.self.entries left c.args.client c.add.new.self.entries c.add.ensures.entries c.add.ensures.apart

pub returns-clause-ok : goal.returns-clause-ok
returns-clause-ok c =
    let gone = c.remove.ensures.entries ∙ ap (remove_entry (nat_eq c.args.client)) c.make_room.ensures.same in
    let left = keyed_left c.self.inside.numbers.entries c.self.invariant c.args.client c.remove.new.self.entries gone c.remove.ensures.apart in
    reversed_more c.remove.new.self.entries left c.args.client c.add.new.self.entries c.add.ensures.entries c.add.ensures.apart
    ∙ ap (λ (rest : List ℕ). c.args.client ∷ rest)
    (reversed_left c.self.inside.numbers.entries c.self.invariant c.args.client c.remove.new.self.entries gone c.remove.ensures.apart
    ∙ ap (without (is_same c.args.client)) c.self.view_is)
