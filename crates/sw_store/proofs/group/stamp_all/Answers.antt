use Rattle.std.proofs.Common.{◌∙◌, sym, ap, arith, slice_set}
use Rattle.std.proofs.lemmas.List.Edits.{map_over_more}
use Rattle.sw_data.specs.declared.histories.Entry.{Entry}
use Rattle.sw_store.specs.Stores.{stamped}
use Rattle.sw_store.proofs.group.stamp_all.Goals as goal

pub loop-entry-preserved : goal.loop-entry-preserved
loop-entry-preserved c =
    let l = c.loop-entry in
    ap (λ (entry : Entry). slice_set l.entries l.entry-index (stamped c.args.clock entry)) (sym c.entry-item.is)
    ∙ map_over_more (stamped c.args.clock) c.args.entries.now l.entries l.entry-index c.entry-item.result (omega arith) l.invariant c.entry-item.is
