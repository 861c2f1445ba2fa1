use Rattle.std.proofs.Common.{◌≡◌, fold, take}
use Rattle.sw_import.specs.Checking.{refetch}
use Rattle.sw_import.proofs.course.Course.refetch_each.Given as goal

abbrev pub invariant-loop-stored : goal.invariant-loop-stored
invariant-loop-stored l = l.self ≡ fold (refetch l.network l.draws.rows) l.initial.self (take l.stored-index l.resources)
