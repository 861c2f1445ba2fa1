use Rattle.std.proofs.Common.{◌≡◌, ◌-◌}
use Rattle.sw_codec.specs.Reading.{items_at, op_at}
use Rattle.sw_codec.proofs.Loops.{with_front}
use Rattle.sw_codec.proofs.reading.exchange.steps_of.Given as goal

abbrev pub invariant-loop : goal.invariant-loop
invariant-loop l = with_front l.ops (items_at op_at (l.count - l.counter) l.rest) ≡ items_at op_at l.count l.bytes
