use Rattle.std.proofs.Common.{◌≡◌, take}
use Rattle.sw_data.proofs.exchange.copy_headers.Given as goal

abbrev pub invariant-loop-line : goal.invariant-loop-line
invariant-loop-line l = l.lines ≡ take l.line-index l.line-items
