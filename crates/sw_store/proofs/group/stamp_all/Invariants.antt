use Rattle.std.proofs.Common.{◌≡◌, ◌++◌, take, drop}
use Rattle.sw_store.specs.Stores.{all_stamped}
use Rattle.sw_store.proofs.group.stamp_all.Given as goal

abbrev pub invariant-loop-entry : goal.invariant-loop-entry
invariant-loop-entry l = l.entries ≡ all_stamped l.clock (take l.entry-index l.initial.entries) ++ drop l.entry-index l.initial.entries
