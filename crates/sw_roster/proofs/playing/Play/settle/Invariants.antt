use Rattle.std.proofs.Common.{◌≡◌, ◌-◌, ◌^◌, List}
use Rattle.sw_data.specs.declared.recordings.FetchLine.{FetchLine}
use Rattle.sw_readers.specs.declared.inputs.RosterLine.{RosterLine}
use Rattle.sw_roster.specs.Playing.{IsPlayed}
use Rattle.sw_roster.proofs.playing.Play.settle.Given as goal

abbrev pub invariant-tasks : goal.invariant-tasks
invariant-tasks l = record {
  played : (fetches : List FetchLine) (all left : List RosterLine) → IsPlayed fetches all left l.initial.self → IsPlayed fetches all left l.self;
  left : l.self.left ≡ l.initial.self.left;
}

abbrev pub decreases-tasks : goal.decreases-tasks
decreases-tasks l = 2 ^ 32 - l.self.made
