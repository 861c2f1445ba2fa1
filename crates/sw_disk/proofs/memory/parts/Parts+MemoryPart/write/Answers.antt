use Rattle.std.proofs.Common.{length}
use Rattle.sw_disk.specs.DiskRule.{Torn}
use Rattle.sw_disk.proofs.Lifted.{lifted_ok, lifted_err}
use Rattle.sw_disk.proofs.memory.parts.Parts+MemoryPart.write.Goals as goal

pub returns-clause-exact : goal.returns-clause-exact
returns-clause-exact c = lifted_ok c.write.result c.args.part (λ bytes. Torn (length bytes) c.args.at (length c.args.bytes.now)) c.args.self.now c.get_mut.result.now c.write.new.self c.get_mut.ensures.value c.write.ensures.exact

pub returns-clause-failed : goal.returns-clause-failed
returns-clause-failed c = lifted_err c.write.result c.args.part (λ bytes. Torn (length bytes) c.args.at (length c.args.bytes.now)) c.args.self.now c.get_mut.result.now c.write.new.self c.get_mut.ensures.value c.write.ensures.failed
