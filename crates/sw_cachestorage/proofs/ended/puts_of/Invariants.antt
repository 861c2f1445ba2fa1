-- The puts of the requests so far stand before the rest.
use Rattle.std.proofs.Common.{◌≡◌, ◌++◌, drop}
use Rattle.sw_rules.specs.Caching.{puts_of}
use Rattle.sw_cachestorage.proofs.ended.puts_of.Given as goal

abbrev pub invariant-loop-place : goal.invariant-loop-place
invariant-loop-place l =
    puts_of l.requests l.lines ≡ l.ops.items ++ puts_of (drop l.place l.requests) (drop l.place l.lines)
