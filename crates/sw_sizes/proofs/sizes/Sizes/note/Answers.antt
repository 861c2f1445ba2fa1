use Rattle.std.proofs.Common.{◌≡◌}
use Rattle.sw_change.proofs.Entries.{on_ok}
use Rattle.sw_data.specs.declared.storage.Kept.{Kept}
use Rattle.sw_rules.specs.Storage.{applied}
use Rattle.sw_sizes.specs.Rows.{ArePartsOf, noted}
use Rattle.sw_sizes.proofs.PartsLemmas.{parts_noted}
use Rattle.sw_sizes.proofs.sizes.Sizes.note.Goals as goal

pub returns : goal.returns
returns c =
    let old = c.args.self.now in
    let new = c.carry_out.new.self in
    let change = c.args.change.now in
    on_ok c.carry_out.result (new ≡ noted change old) ((kept : Kept) → ArePartsOf kept old → ArePartsOf (applied kept change) new) c.carry_out.ensures
    (λ is kept parts. parts_noted kept change old new is parts)
