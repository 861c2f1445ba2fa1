use Rattle.std.proofs.Common.{◌⊎◌, ◌↔◌, ◌≤◌, subst, sym}
use Rattle.sw_disk.specs.Memory.{HadLeft, MayLeave}
use Rattle.sw_disk.proofs.Moved.{had_left_pushed}
use Rattle.sw_disk.proofs.memory.MemoryDisk.settle.Goals as goal

pub returns-clause-past : goal.returns-clause-past
returns-clause-past c t d =
    let old = c.args.self.now in
    subst (λ past. HadLeft past t d ↔ (HadLeft old.history.past.items t d ⊎ ((t ≤ c.args.entry) × MayLeave old.parts d))) (sym c.in_ok-keep.ensures.ok)
    (had_left_pushed old.history.past.items (record { clock = c.args.entry; parts = c.in_ok-was.was' }) t d (MayLeave old.parts d) (c.in_ok-was.ensures d))
