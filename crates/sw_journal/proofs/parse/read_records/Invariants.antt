use Rattle.std.proofs.Common.{◌≤◌, length}
use Rattle.sw_journal.specs.Version.{format_at}
use Rattle.sw_journal.proofs.ParseSteps.{SoFar}
use Rattle.sw_journal.proofs.parse.read_records.Given as goal

abbrev pub invariant-loop-rest : goal.invariant-loop-rest
invariant-loop-rest l = record { so_far : SoFar (format_at l.version) l.bytes l.records.items l.gate l.rest; count : length l.records.items ≤ l.gate }

abbrev pub decreases-loop-rest : goal.decreases-loop-rest
decreases-loop-rest l = length l.rest
