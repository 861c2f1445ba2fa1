use Rattle.std.proofs.Common.{◌≡◌, ◌++◌, drop}
use Rattle.std.specs.Vec.Iter.{into_iter_items}
use Rattle.sw_main.proofs.behind_first.Given as goal

abbrev pub invariant-loop-word : goal.invariant-loop-word
invariant-loop-word l = (l.words.items ≡ l.yielded) × (drop 1 (into_iter_items l.fn.arguments) ≡ l.yielded ++ into_iter_items l.word-iterator)
