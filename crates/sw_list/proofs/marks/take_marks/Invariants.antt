use Rattle.std.proofs.Common.{ℕ, take}
use Rattle.sw_list.specs.Marks.{AreFrom, HasLost, KeepsBelow, KeepsSlots}
use Rattle.sw_list.proofs.marks.take_marks.Given as goal

abbrev pub invariant-loop-mark : goal.invariant-loop-mark
invariant-loop-mark l = record {
  below : (low : ℕ) → AreFrom low l.marks → KeepsBelow low l.initial.slots l.slots;
  fewer : KeepsSlots l.slots l.initial.slots;
  gone : HasLost (take l.mark-index l.marks) l.slots;
}
