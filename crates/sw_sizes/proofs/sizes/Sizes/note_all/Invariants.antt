use Rattle.std.proofs.Common.{take}
use Rattle.sw_data.specs.declared.storage.Kept.{Kept}
use Rattle.sw_rules.specs.Storage.{kept_after}
use Rattle.sw_sizes.specs.Rows.{ArePartsOf}
use Rattle.sw_sizes.proofs.sizes.Sizes.note_all.Given as goal

abbrev pub invariant-loop-change : goal.invariant-loop-change
invariant-loop-change l =
    (kept : Kept) → ArePartsOf kept l.fn.self → ArePartsOf (kept_after kept (take l.change-index l.changes)) l.self
