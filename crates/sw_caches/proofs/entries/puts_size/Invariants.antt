use Rattle.std.proofs.Common.{◌≡◌, take}
use Rattle.sw_caches.specs.Bytes.{puts_size}
use Rattle.sw_caches.specs.Entries.{pairs}
use Rattle.sw_caches.proofs.entries.puts_size.Given as goal

abbrev pub invariant-loop-entry : goal.invariant-loop-entry
invariant-loop-entry l = l.size ≡ puts_size l.names (pairs (take l.entry-index l.entries))
