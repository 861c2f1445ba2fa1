use Rattle.std.proofs.Common.{◌≡◌, ◌++◌, [], ◌∷◌, drop}
use Rattle.sw_journal.specs.Format.{format_2}
use Rattle.sw_journal.specs.WholePart.{open_records, whole_part}
use Rattle.sw_twin.proofs.whole.part_of.Given as goal

abbrev pub invariant-loop-payload : goal.invariant-loop-payload
invariant-loop-payload l = record {
  number : l.number ≡ l.payload-index;
  spelled : l.part.items ++ (open_records format_2 l.number (drop l.payload-index l.payloads) ++ 0 ∷ []) ≡ whole_part format_2 l.payloads;
}
