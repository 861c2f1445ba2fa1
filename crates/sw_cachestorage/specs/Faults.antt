-- What a batch answers: the end of one that goes, and the fault of one that throws.
use Rattle.std.specs.Prelude.{Bool, true, false, Option, Some, None, Result, Ok, Err, if◌then◌else◌}
use Rattle.sw_caches.specs.declared.fault.BatchFault.TheVariants as thrown
use Rattle.sw_caches.specs.declared.fault.BatchFault.{BatchFault}
use Rattle.sw_caches.specs.declared.table.CachePlan.{CachePlan}
use Rattle.sw_data.specs.declared.answers.Answer.{Answer}
use Rattle.sw_data.specs.declared.answers.Answer.TheVariants as answer
use Rattle.sw_data.specs.declared.answers.Fault.{Fault}
use Rattle.sw_data.specs.declared.answers.Fault.TheVariants as fault
use Rattle.sw_rules.specs.Batch as rules
use Rattle.sw_rules.specs.Caching.{batch_fault, single_fault}
use Rattle.sw_rules.specs.Told.{type_error}

-- the fault that the definition tells, of an operation alone or of one of a batch
abbrev pub fault_by : Bool → rules.BatchFault → Fault
fault_by true = single_fault
fault_by false = batch_fault

-- the fault of what a call on the caches threw; want of memory has none
abbrev pub thrown_fault : Bool → BatchFault → Fault
thrown_fault alone (thrown.TypeError at why) = if alone then type_error why else fault.TypeError why (Some at)
thrown_fault alone (thrown.InvalidState at) = fault.InvalidStateAt at
thrown_fault alone thrown.CacheGone = fault.CacheGone
thrown_fault alone _ = fault.Quota

-- the answer of a batch that goes: of a delete whether it removed a pair
abbrev pub done_answer : Option Bool → Answer
done_answer None = answer.Ok
done_answer (Some removed) = answer.Truth removed

-- what working a batch out threw, the quota aside
abbrev pub thrown_by : Result CachePlan BatchFault → Option BatchFault
thrown_by (Ok plan) = None
thrown_by (Err (thrown.Quota size)) = None
thrown_by (Err why) = Some why
