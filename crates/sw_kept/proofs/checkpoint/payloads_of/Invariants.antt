use Rattle.std.proofs.Common.{take}
use Rattle.sw_kept.specs.Spelling.{SpellEach}
use Rattle.sw_kept.proofs.checkpoint.payloads_of.Given as goal

abbrev pub invariant-loop-change : goal.invariant-loop-change
invariant-loop-change l = SpellEach (take l.change-index l.fn.changes) l.payloads.items
