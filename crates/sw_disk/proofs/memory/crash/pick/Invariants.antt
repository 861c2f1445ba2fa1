use Rattle.std.proofs.Common.{◌≡◌, ◌≤◌, ◌++◌, take, drop, length}
use Rattle.sw_disk.specs.Picks.{picked, picks_left}
use Rattle.sw_disk.proofs.memory.crash.pick.Given as goal

-- what was picked so far and what is to be picked of the rest are what is to be picked of all
abbrev pub invariant-loop-i : goal.invariant-loop-i
invariant-loop-i l = record {
  within : l.used ≤ length l.picks;
  rest : drop l.i l.bytes ≡ drop l.i l.fn.bytes;
  so_far : take l.i l.bytes ++ picked (drop l.i l.marks) (drop l.i l.fn.bytes) (drop l.used l.picks) ≡ picked l.marks l.fn.bytes l.picks;
  left : picks_left (drop l.i l.marks) (drop l.i l.fn.bytes) (drop l.used l.picks) ≡ picks_left l.marks l.fn.bytes l.picks;
}
