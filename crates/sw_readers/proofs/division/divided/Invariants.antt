-- What is left of the source is divided as the source is.
use Rattle.std.proofs.Common.{◌+◌, length}
use Rattle.std.specs.Prelude.{option_copied}
use Rattle.std.specs.Option.{option_map_or}
use Rattle.sw_readers.proofs.DivisionLemmas.{Goes}
use Rattle.sw_readers.proofs.division.divided.Given as goal

abbrev pub invariant-loop-left : goal.invariant-loop-left
invariant-loop-left l = Goes l.source (option_copied l.left)

abbrev pub decreases-loop-left : goal.decreases-loop-left
decreases-loop-left l = option_map_or (λ text. length text.now + 1) l.left 0
