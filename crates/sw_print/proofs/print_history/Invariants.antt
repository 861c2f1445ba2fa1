use Rattle.std.proofs.Common.{◌≡◌, string_bytes, take, flat_map}
use Rattle.sw_print.specs.Transcript.{line_of_entry}
use Rattle.sw_print.proofs.print_history.Given as goal

abbrev pub invariant-loop-entry : goal.invariant-loop-entry
invariant-loop-entry l = string_bytes l.text ≡ flat_map line_of_entry (take l.entry-index l.history)
