use Rattle.std.proofs.Common.{◌≡◌, take}
use Rattle.std.specs.Prelude.{fold}
use Rattle.sw_list.specs.Marks.{mixed}
use Rattle.sw_list.proofs.marks.digest.Given as goal

abbrev pub invariant-loop-byte : goal.invariant-loop-byte
invariant-loop-byte l = l.sum ≡ fold mixed 14695981039346656037 (take l.byte-index l.bytes)
