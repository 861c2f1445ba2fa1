-- The lines so far, and then those of the checks from here on, are those of all checks.
use Rattle.std.proofs.Common.{◌≡◌, ◌++◌, drop, string_bytes}
use Rattle.sw_import.specs.Checking.{nothing}
use Rattle.sw_import.specs.Lines.{checks_text}
use Rattle.sw_import.proofs.lines.print_checks.Given as goal

abbrev pub invariant-loop-script : goal.invariant-loop-script
invariant-loop-script l = record {
  lines : l.imports.lines ≡ l.fn.recording.fetches;
  text : string_bytes l.text ++ checks_text l.fn.recording.fetches l.imports.checks (drop l.script-index l.fn.recording.checks)
      ≡ checks_text l.fn.recording.fetches nothing l.fn.recording.checks;
}
