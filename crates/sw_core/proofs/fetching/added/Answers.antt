-- The lines are those of the fetches of the addAll.
use Rattle.std.proofs.Common.{◌∙◌, ap, map}
use Rattle.sw_core.specs.Machines.{line_for}
use Rattle.sw_core.proofs.FetchLemmas.{added_is}
use Rattle.sw_state.specs.Hosted.{state_of}
use Rattle.sw_core.proofs.fetching.added.Goals as goal

pub returns : goal.returns
returns c =
    added_is (state_of c.args.core.now) c.args.task c.args.net.now c.in_ok-fetches.fetches.items c.in_ok-lines.lines c.in_ok-fetches.ensures
    (c.in_ok-lines.ensures ∙ ap (map (line_for c.args.net.now)) c.as_slice.ensures.value)
