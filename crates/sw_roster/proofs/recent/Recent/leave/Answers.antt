use Rattle.std.proofs.Common.{◌∙◌, ap}
use Rattle.sw_roster.specs.Members.{is_same}
use Rattle.sw_roster.proofs.Numbers.{keyed_left, reversed_left}
use Rattle.sw_roster.proofs.recent.Recent.leave.Goals as goal
use Rattle.sw_rules.specs.Rows.{without}

pub invariant_of-self : goal.invariant_of-self
invariant_of-self c = keyed_left c.self.inside.numbers.entries c.self.invariant c.args.client c.remove.new.self.entries c.remove.ensures.entries c.remove.ensures.apart

pub returns : goal.returns
returns c =
    reversed_left c.self.inside.numbers.entries c.self.invariant c.args.client c.remove.new.self.entries c.remove.ensures.entries c.remove.ensures.apart
    ∙ ap (without (is_same c.args.client)) c.self.view_is
