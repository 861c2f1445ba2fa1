use Rattle.std.proofs.Common.{◌≡◌, ◌≤◌, ◌++◌, List, ℕ, length}
use Rattle.sw_io.specs.Taking.{Takes}
use Rattle.sw_io.proofs.whole.write_all.Given as goal

-- the sink has taken what stands before the rest
abbrev pub invariant-loop-rest : goal.invariant-loop-rest
invariant-loop-rest g l = record {
  taken : (front : List ℕ) × (l.bytes ≡ front ++ l.rest) × Takes g.K.Sink l.initial.sink l.sink front;
  count : g.K.Sink.faults l.initial.sink ≤ g.K.Sink.faults l.sink;
}

abbrev pub decreases-loop-rest : goal.decreases-loop-rest
decreases-loop-rest g l = length l.rest
