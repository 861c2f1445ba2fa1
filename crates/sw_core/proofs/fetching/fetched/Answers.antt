-- The line is that of the job's one fetch.
use Rattle.std.proofs.Common.{◌∙◌, List, ℕ, ap, slice_get}
use Rattle.std.specs.Prelude.{option_and_then}
use Rattle.sw_core.specs.Machines.{line_for}
use Rattle.sw_core.proofs.FetchLemmas.{fetched_is}
use Rattle.sw_state.specs.Hosted.{state_of}
use Rattle.sw_core.proofs.fetching.fetched.Goals as goal

pub returns : goal.returns
returns c =
    fetched_is (state_of c.args.core.now) c.args.job c.args.net.now c.in_ok-fetches.fetches.items c.in_ok-line.line c.in_ok-fetches.ensures
    (c.in_ok-line.ensures
    ∙ ap (λ (all : List (List ℕ × ℕ)). option_and_then (line_for c.args.net.now) (slice_get all 0)) c.as_slice.ensures.value)
