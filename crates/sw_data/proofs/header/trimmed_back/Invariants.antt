use Rattle.std.proofs.Common.{◌≡◌, length, reverse}
use Rattle.sw_data.specs.Headers.{trimmed_front}
use Rattle.sw_data.proofs.header.trimmed_back.Given as goal

abbrev pub invariant-loop-bytes : goal.invariant-loop-bytes
invariant-loop-bytes l = trimmed_front (reverse l.bytes) ≡ trimmed_front (reverse l.fn.bytes)

abbrev pub decreases-loop-bytes : goal.decreases-loop-bytes
decreases-loop-bytes l = length l.bytes
