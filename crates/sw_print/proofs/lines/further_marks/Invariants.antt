use Rattle.std.proofs.Common.{◌≡◌, string_bytes, take, flat_map}
use Rattle.sw_print.specs.Transcript.{further}
use Rattle.sw_print.proofs.lines.further_marks.Given as goal

abbrev pub invariant-loop-event : goal.invariant-loop-event
invariant-loop-event l = string_bytes l.marks ≡ flat_map further (take l.event-index l.events)
