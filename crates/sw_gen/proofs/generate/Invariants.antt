use Rattle.std.proofs.Common.{◌≡◌}
use Rattle.sw_gen.specs.Generated.{made}
use Rattle.sw_gen.proofs.generate.Given as goal

abbrev pub invariant-loop-client : goal.invariant-loop-client
invariant-loop-client l = l.all ≡ made l.number l.client
