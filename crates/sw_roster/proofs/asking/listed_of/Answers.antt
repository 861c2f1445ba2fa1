-- One more number was asked about.
use Rattle.std.proofs.Common.{◌∙◌, ◌+◌, get_or, take}
use Rattle.std.proofs.lemmas.List.{take_more}
use Rattle.sw_roster.proofs.Askers.{listed_more}
use Rattle.sw_roster.proofs.asking.listed_of.Goals as goal
use Rattle.sw_roster.specs.Members.{members}
use Rattle.sw_state.specs.Hosted.{state_of}

pub loop-client-preserved : goal.loop-client-preserved
loop-client-preserved c =
    let recent = c.args.recent.now in
    let at = c.loop-client.client-index in
    c.in_ok-add_if.ensures
    ∙ listed_more (members (state_of c.args.core.now) c.args.worker c.args.uncontrolled) (take at recent) (take (at + 1) recent) c.loop-client.all.items (get_or recent at 0) c.has_listed-is_wanted.result
    (take_more recent at 0 c.loop-client-test.true) c.has_listed-is_wanted.ensures c.loop-client.invariant
