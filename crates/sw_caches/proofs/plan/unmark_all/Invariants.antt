use Rattle.std.proofs.Common.{ℕ, take}
use Rattle.sw_list.specs.Marks.{HasLost, KeepsBelow, KeepsSlots}
use Rattle.sw_list.specs.Numbered.{AllFrom}
use Rattle.sw_caches.specs.Entries.{marks, number}
use Rattle.sw_caches.proofs.plan.unmark_all.Given as goal

abbrev pub invariant-loop-entry : goal.invariant-loop-entry
invariant-loop-entry l = record {
  below : (n : ℕ) → AllFrom number n l.added → KeepsBelow n l.initial.slots l.slots;
  fewer : KeepsSlots l.slots l.initial.slots;
  gone : HasLost (marks (take l.entry-index l.added)) l.slots;
}
