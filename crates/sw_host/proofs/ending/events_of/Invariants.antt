use Rattle.std.proofs.Common.{◌≡◌, ◌++◌, map}
use Rattle.std.specs.Vec.Iter.{into_iter_items}
use Rattle.sw_host.proofs.ending.events_of.Given as goal

abbrev pub invariant-loop-entry : goal.invariant-loop-entry
invariant-loop-entry l = (l.events ≡ map (λ entry. entry.event) l.yielded) × (l.fn.entries.items ≡ l.yielded ++ into_iter_items l.entry-iterator)
