use Rattle.std.proofs.Common.{◌≡◌, string_bytes, take, flat_map}
use Rattle.sw_roster.specs.Texts.{beat_text}
use Rattle.sw_roster.proofs.printing.print_roster.Given as goal

abbrev pub invariant-loop-beat : goal.invariant-loop-beat
invariant-loop-beat l = string_bytes l.text ≡ flat_map beat_text (take l.beat-index l.beats)
