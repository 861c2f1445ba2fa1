use Rattle.std.proofs.Common.{◌∙◌, ap}
use Rattle.std.specs.List.{list_any}
use Rattle.sw_roster.specs.Members.{is_same}
use Rattle.sw_roster.proofs.Numbers.{there}
use Rattle.sw_roster.proofs.recent.Recent.has.Goals as goal

pub returns : goal.returns
returns c = c.contains.ensures ∙ there c.self.inside.numbers.entries c.self.invariant c.args.client ∙ ap (list_any (is_same c.args.client)) c.self.view_is
