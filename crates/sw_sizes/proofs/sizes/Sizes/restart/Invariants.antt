use Rattle.std.proofs.Common.{◌≡◌, ◌≤◌, length}
use Rattle.sw_sizes.proofs.RowLemmas.{promoted_to}
use Rattle.sw_sizes.proofs.sizes.Sizes.restart.Given as goal

abbrev pub invariant-loop-at : goal.invariant-loop-at
invariant-loop-at l = (l.at-end ≡ length l.initial.self) × (l.at ≤ l.at-end) × (l.self ≡ promoted_to l.at l.initial.self)
