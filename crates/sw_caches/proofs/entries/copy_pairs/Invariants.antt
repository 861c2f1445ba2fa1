use Rattle.std.proofs.Common.{◌≡◌, take}
use Rattle.sw_caches.specs.Entries.{pairs}
use Rattle.sw_caches.proofs.entries.copy_pairs.Given as goal

abbrev pub invariant-loop-entry : goal.invariant-loop-entry
invariant-loop-entry l = l.items ≡ pairs (take l.entry-index l.entries)
