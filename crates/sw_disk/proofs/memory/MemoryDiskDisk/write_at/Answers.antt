use Rattle.std.proofs.Common.{◌∙◌, length, refl, sym, ap, subst, arith}
use Rattle.sw_disk.specs.Image.{get}
use Rattle.sw_disk.specs.DiskRule.{Torn}
use Rattle.sw_disk.specs.Memory.{image_of, MayLeave}
use Rattle.sw_disk.proofs.Moved.{step_kept, same_kept}
use Rattle.sw_disk.proofs.memory.MemoryDiskDisk.write_at.Goals as goal

pub returns-clause-kept : goal.returns-clause-kept
returns-clause-kept c =
    let old = c.args.self.now in
    let mid = c.begin-fails.new.self.parts in
    let more = step_kept c.write-done.result c.args.part (Torn (length (get c.args.part (image_of mid))) c.args.at (length c.args.bytes.now)) mid c.write-done.new.self (λ bytes. record { before = refl; behind = refl; no_shorter = omega arith }) c.write-done.ensures.exact c.write-done.ensures.failed in
    same_kept old c.end.new.self (ap (λ h. h.past.items) c.end.ensures.history ∙ ap (λ v. v.items) c.begin-fails.ensures.past)
    (λ d left. subst (λ parts. MayLeave parts d) (sym c.end.ensures.parts) (more d (subst (λ parts. MayLeave parts d) (sym c.begin-fails.ensures.parts) left)))
