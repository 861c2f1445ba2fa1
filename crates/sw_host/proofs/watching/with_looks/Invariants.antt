use Rattle.std.proofs.Common.{◌≡◌, ◌++◌, string_bytes, take}
use Rattle.sw_host.specs.Watching.{looks_text}
use Rattle.sw_host.proofs.watching.with_looks.Given as goal

abbrev pub invariant-loop-number : goal.invariant-loop-number
invariant-loop-number l = string_bytes l.all ≡ l.text ++ looks_text 0 (take l.number l.looks)
