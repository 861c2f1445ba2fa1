use Rattle.std.proofs.Common.{◌≡◌, ◌++◌, string_bytes, take}
use Rattle.sw_match.specs.Left.{further}
use Rattle.sw_match.proofs.values.joined.Given as goal

abbrev pub invariant-loop-line : goal.invariant-loop-line
invariant-loop-line l = string_bytes l.text ≡ l.value ++ further l.name (take l.line-index l.headers)
