use Rattle.std.proofs.Common.{◌≡◌, take}
use Rattle.sw_data.specs.Headers.{normal_lines}
use Rattle.sw_http.proofs.lines.normal_lines.Given as goal

abbrev pub invariant-loop-line : goal.invariant-loop-line
invariant-loop-line l = l.lines ≡ normal_lines (take l.line-index l.headers)
