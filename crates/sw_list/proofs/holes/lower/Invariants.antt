use Rattle.std.proofs.Common.{◌≡◌, ◌++◌, drop, map, take}
use Rattle.sw_list.specs.Holes.{lowered}
use Rattle.sw_list.proofs.holes.lower.Given as goal

abbrev pub invariant-loop-hole : goal.invariant-loop-hole
invariant-loop-hole l = l.holes ≡ map lowered (take l.hole-index l.initial.holes) ++ drop l.hole-index l.initial.holes
