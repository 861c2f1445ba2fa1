use Rattle.sw_disk.specs.DiskRule.{PendingCut}
use Rattle.sw_disk.proofs.Lifted.{lifted_ok, lifted_err}
use Rattle.sw_disk.proofs.memory.parts.Parts+MemoryPart.cut.Goals as goal

pub returns-clause-exact : goal.returns-clause-exact
returns-clause-exact c = lifted_ok c.cut.result c.args.part (λ bytes. PendingCut c.args.len) c.args.self.now c.get_mut.result.now c.cut.new.self c.get_mut.ensures.value c.cut.ensures.exact

pub returns-clause-failed : goal.returns-clause-failed
returns-clause-failed c = lifted_err c.cut.result c.args.part (λ bytes. PendingCut c.args.len) c.args.self.now c.get_mut.result.now c.cut.new.self c.get_mut.ensures.value c.cut.ensures.failed
