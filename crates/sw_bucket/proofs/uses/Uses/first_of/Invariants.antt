use Rattle.std.proofs.Common.{◌≡◌, filter, take}
use Rattle.std.specs.Option.{option_copied}
use Rattle.sw_bucket.proofs.uses.Uses.first_of.Given as goal
use Rattle.sw_bucket.specs.Eviction.{first_of, goes_before, may_go}
use Rattle.sw_bucket.specs.Noted.{last_noted}
use Rattle.sw_state.specs.Hosted.{state_of}

abbrev pub invariant-loop-key : goal.invariant-loop-key
invariant-loop-key l =
    option_copied l.first ≡ first_of (goes_before (last_noted l.self)) (filter (may_go (state_of l.core)) (take l.key-index l.keys))
