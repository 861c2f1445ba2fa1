use Rattle.std.proofs.Common.{◌≡◌, ◌≤◌, ℕ, List, length}
use Rattle.sw_journal.specs.Version.{format_at}
use Rattle.sw_journal.proofs.ParseSteps.{SoFar}
use Rattle.sw_journal.proofs.parse.end_of_records.Given as goal

abbrev pub invariant-loop-rest : goal.invariant-loop-rest
invariant-loop-rest l = record {
  records : List (ℕ × List ℕ);
  number : length records ≡ l.count;
  so_far : SoFar (format_at l.version) l.bytes records l.gate l.rest;
  count : l.count ≤ l.gate;
}

abbrev pub decreases-loop-rest : goal.decreases-loop-rest
decreases-loop-rest l = length l.rest
