use Rattle.std.proofs.Common.{◌≡◌, ◌-◌}
use Rattle.sw_codec.specs.Reading.{items_at, header_at}
use Rattle.sw_codec.proofs.Loops.{with_front}
use Rattle.sw_codec.proofs.reading.exchange.header_lines.Given as goal

abbrev pub invariant-loop : goal.invariant-loop
invariant-loop l = with_front l.lines (items_at header_at (l.count - l.counter) l.rest) ≡ items_at header_at l.count l.bytes
