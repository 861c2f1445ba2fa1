use Rattle.std.proofs.Common.{◌≡◌, string_bytes, take, flat_map}
use Rattle.sw_print.specs.Transcript.{barred}
use Rattle.sw_print.proofs.lines.barred_notices.Given as goal

abbrev pub invariant-loop-notice : goal.invariant-loop-notice
invariant-loop-notice l = string_bytes l.told ≡ flat_map barred (take l.notice-index l.notices)
