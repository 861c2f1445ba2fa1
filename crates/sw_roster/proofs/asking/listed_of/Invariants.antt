use Rattle.std.proofs.Common.{◌≡◌, take}
use Rattle.std.specs.List.{filter_map, find}
use Rattle.sw_roster.specs.Members.{members, numbers_of}
use Rattle.sw_roster.proofs.asking.listed_of.Given as goal
use Rattle.sw_rules.specs.Rows.{is_client}
use Rattle.sw_state.specs.Hosted.{state_of}

abbrev pub invariant-loop-client : goal.invariant-loop-client
invariant-loop-client l =
    l.all.items ≡ numbers_of (filter_map (λ number. find (is_client number) (members (state_of l.core) l.worker l.uncontrolled)) (take l.client-index l.recent))
