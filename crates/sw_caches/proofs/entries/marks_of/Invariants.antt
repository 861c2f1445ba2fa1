use Rattle.std.proofs.Common.{◌≡◌, take}
use Rattle.sw_caches.specs.Entries.{marks}
use Rattle.sw_caches.proofs.entries.marks_of.Given as goal

abbrev pub invariant-loop-entry : goal.invariant-loop-entry
invariant-loop-entry l = l.made.items ≡ marks (take l.entry-index l.entries)
