use Rattle.std.proofs.Common.{◌≡◌, ◌++◌}
use Rattle.std.specs.List.{flat_map}
use Rattle.std.specs.Option.{option_to_list}
use Rattle.std.specs.Vec.Iter.{into_iter_items}
use Rattle.sw_list.proofs.slots.values_in.Given as goal

abbrev pub invariant-loop-slot : goal.invariant-loop-slot
invariant-loop-slot g l = (l.values.items ≡ flat_map (λ slot. option_to_list slot.value) l.yielded) × (l.fn.slots.items ≡ l.yielded ++ into_iter_items l.slot-iterator)
