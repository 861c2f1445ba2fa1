use Rattle.std.proofs.Common.{◌≡◌, ◌++◌, take}
use Rattle.std.specs.List.{filter}
use Rattle.sw_roster.specs.Members.{is_other, numbers_of}
use Rattle.sw_roster.proofs.asking.add_others.Given as goal
use Rattle.sw_state.specs.Hosted.{state_of}

abbrev pub invariant-loop-place : goal.invariant-loop-place
invariant-loop-place l =
    l.all.items ≡ l.initial.all.items ++ numbers_of (filter (is_other (state_of l.core) l.recent l.worker l.uncontrolled) (take l.place (state_of l.core).clients))
