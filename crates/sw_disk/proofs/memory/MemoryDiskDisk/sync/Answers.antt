use Rattle.std.proofs.Common.{subst}
use Rattle.sw_disk.specs.Memory.{MayLeave}
use Rattle.sw_disk.proofs.Moved.{sync_within}
use Rattle.sw_disk.proofs.memory.MemoryDiskDisk.sync.Goals as goal

pub returns-clause-crash : goal.returns-clause-crash
returns-clause-crash c d left =
    let less = sync_within c.settle-done.result c.begin-fails.new.self.parts c.settle-done.new.self.parts _ c.settle-done.ensures.ok c.settle-done.ensures.err in
    subst (λ parts. MayLeave parts d) c.begin-fails.ensures.parts (less d (subst (λ parts. MayLeave parts d) c.end.ensures.parts left))
