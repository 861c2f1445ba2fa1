-- The lanes so far get an action as those of the call.
use Rattle.std.proofs.Common.{◌≡◌, ◌+◌, ◌-◌}
use Rattle.std.specs.Prelude.{vec_len}
use Rattle.sw_data.specs.declared.recordings.Action.{Action}
use Rattle.sw_record.specs.Grammar.{with_action}
use Rattle.sw_record.proofs.reading.with_lane.Given as goal

abbrev pub invariant-loop-alloc : goal.invariant-loop-alloc
invariant-loop-alloc l =
    (next : Action) → with_action l.lane next l.all.items ≡ with_action l.lane next l.initial.all.items

abbrev pub decreases-loop-alloc : goal.decreases-loop-alloc
decreases-loop-alloc l = l.lane + 1 - vec_len l.all
