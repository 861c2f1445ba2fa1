use Rattle.std.proofs.Common.{length, ap, sym, ◌∙◌, subst}
use Rattle.sw_disk.specs.Image.{get}
use Rattle.sw_disk.specs.Memory.{MayLeave}
use Rattle.sw_disk.proofs.PickSteps.{picked_allowed, lengths_picked}
use Rattle.sw_disk.proofs.memory.MemoryDisk.crash.Goals as goal

pub returns-clause-allowed : goal.returns-clause-allowed
returns-clause-allowed c = subst (MayLeave c.args.self.parts) (sym c.crash.ensures.image) (picked_allowed c.args.self.parts c.args.picks.now)

pub returns-clause-lengths : goal.returns-clause-lengths
returns-clause-lengths c part = ap (λ image. length (get part image)) c.crash.ensures.image ∙ lengths_picked c.args.self.parts c.args.picks.now part
