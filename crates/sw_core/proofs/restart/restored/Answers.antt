use Rattle.std.proofs.Common.{◌∙◌, ◌++◌, ◌∷◌, [], List, ap, sym, rules, append_assoc}
use Rattle.std.specs.Vec.Iter.{into_iter_items}
use Rattle.sw_caches.specs.Tables as caches
use Rattle.sw_data.specs.declared.storage.KeptRegistration.{KeptRegistration}
use Rattle.sw_core.proofs.Restarting.{one_restored}
use Rattle.sw_core.proofs.restart.restored.Goals as goal

pub loop-row-preserved : goal.loop-row-preserved
loop-row-preserved c =
    let before = c.loop-row.invariant in
    let parts = ap (λ (rows : List KeptRegistration). c.loop-row.yielded ++ rows) (sym c.in-Some.ensures.steps.0) ∙ before.parts in
    record {
      can = tt;
      ends = tt;
      parts = append_assoc c.loop-row.yielded (c.in-Some.row ∷ []) (into_iter_items c.next.new.self) ∙ parts;
      left = search rules;
      restored =
          one_restored c.args.content c.requires c.loop-row.yielded (into_iter_items c.next.new.self) c.in-Some.row c.loop-row.tables c.restore.new.tables
          parts before.restored c.in_ok-restore.ensures.added;
      caches = ap (λ (t : caches.Table). t.rows) c.in_ok-restore.ensures.caches ∙ before.caches;
    }
