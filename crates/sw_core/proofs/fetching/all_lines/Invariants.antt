use Rattle.std.proofs.Common.{◌≡◌, map, take}
use Rattle.sw_core.specs.Machines.{line_for}
use Rattle.sw_core.proofs.fetching.all_lines.Given as goal

abbrev pub invariant-loop-address : goal.invariant-loop-address
invariant-loop-address l = l.lines ≡ map (line_for l.net) (take l.address-index l.fetches)
