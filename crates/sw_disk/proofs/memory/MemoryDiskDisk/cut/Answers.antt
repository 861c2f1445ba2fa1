use Rattle.std.proofs.Common.{◌∙◌, refl, sym, ap, subst}
use Rattle.sw_disk.specs.DiskRule.{PendingCut}
use Rattle.sw_disk.specs.Memory.{MayLeave}
use Rattle.sw_disk.proofs.Moved.{step_kept, same_kept}
use Rattle.sw_disk.proofs.memory.MemoryDiskDisk.cut.Goals as goal

pub returns-clause-kept : goal.returns-clause-kept
returns-clause-kept c =
    let old = c.args.self.now in
    let mid = c.begin-fails.new.self.parts in
    let more = step_kept c.cut-done.result c.args.part (PendingCut c.args.len) mid c.cut-done.new.self (λ bytes. refl) c.cut-done.ensures.exact c.cut-done.ensures.failed in
    same_kept old c.end.new.self (ap (λ h. h.past.items) c.end.ensures.history ∙ ap (λ v. v.items) c.begin-fails.ensures.past)
    (λ d left. subst (λ parts. MayLeave parts d) (sym c.end.ensures.parts) (more d (subst (λ parts. MayLeave parts d) (sym c.begin-fails.ensures.parts) left)))
