use Rattle.std.proofs.Common.{take}
use Rattle.sw_reg.specs.ByKey.{IsIndex, keys_of}
use Rattle.sw_reg.proofs.copies.index_of.Given as goal

abbrev pub invariant-loop-place : goal.invariant-loop-place
invariant-loop-place l = IsIndex (keys_of (take l.place l.rows)) l.index
