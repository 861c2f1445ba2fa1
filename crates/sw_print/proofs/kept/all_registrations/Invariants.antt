use Rattle.std.proofs.Common.{◌≡◌, string_bytes, take, flat_map}
use Rattle.sw_print.specs.Showing.{registration_lines}
use Rattle.sw_print.proofs.kept.all_registrations.Given as goal

abbrev pub invariant-loop-row : goal.invariant-loop-row
invariant-loop-row l = string_bytes l.text ≡ flat_map registration_lines (take l.row-index l.rows)
