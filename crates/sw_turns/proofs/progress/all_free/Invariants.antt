use Rattle.std.proofs.Common.{◌≡◌, None, replicate}
use Rattle.sw_turns.proofs.progress.all_free.Given as goal

abbrev pub invariant-loop : goal.invariant-loop
invariant-loop l = l.flights.items ≡ replicate l.counter None
