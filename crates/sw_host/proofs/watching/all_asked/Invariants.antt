use Rattle.std.proofs.Common.{◌≡◌, map, take}
use Rattle.sw_host.specs.Watching.{asked_of}
use Rattle.sw_host.proofs.watching.all_asked.Given as goal

abbrev pub invariant-loop-line : goal.invariant-loop-line
invariant-loop-line l = l.asked.items ≡ map asked_of (take l.line-index l.lines)
