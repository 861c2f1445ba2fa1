use Rattle.std.proofs.Common.{List, length}
use Rattle.sw_data.specs.declared.recordings.FetchLine.{FetchLine}
use Rattle.sw_readers.specs.declared.inputs.RosterLine.{RosterLine}
use Rattle.sw_roster.specs.Playing.{IsPlayed}
use Rattle.sw_roster.proofs.playing.Play.run.Given as goal

abbrev pub invariant-lines : goal.invariant-lines
invariant-lines l = (fetches : List FetchLine) (all : List RosterLine) → IsPlayed fetches all l.initial.self.left.items l.initial.self → IsPlayed fetches all l.self.left.items l.self

abbrev pub decreases-lines : goal.decreases-lines
decreases-lines l = length l.self.left.items
