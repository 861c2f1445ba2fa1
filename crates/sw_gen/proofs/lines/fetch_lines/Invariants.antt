use Rattle.std.proofs.Common.{◌≡◌, string_bytes}
use Rattle.sw_gen.specs.Generated.{fetch_lines}
use Rattle.sw_gen.proofs.lines.fetch_lines.Given as goal

abbrev pub invariant-loop-script : goal.invariant-loop-script
invariant-loop-script l = string_bytes l.text ≡ fetch_lines l.script
