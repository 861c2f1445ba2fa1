use Rattle.std.proofs.Common.{length}
use Rattle.sw_codec.proofs.Payloads.{Reads}
use Rattle.sw_codec.proofs.reading.changes.read.Given as goal

abbrev pub invariant-loop-change : goal.invariant-loop-change
invariant-loop-change l = Reads l.bytes l.changes.items l.rest

abbrev pub decreases-loop-change : goal.decreases-loop-change
decreases-loop-change l = length l.rest
