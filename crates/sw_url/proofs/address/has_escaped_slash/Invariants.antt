use Rattle.std.proofs.Common.{◌≡◌, length}
use Rattle.sw_data.specs.Addresses.{has_escaped_slash}
use Rattle.sw_url.proofs.address.has_escaped_slash.Given as goal

abbrev pub invariant-loop-rest : goal.invariant-loop-rest
invariant-loop-rest l = has_escaped_slash l.rest ≡ has_escaped_slash l.fn.path

abbrev pub decreases-loop-rest : goal.decreases-loop-rest
decreases-loop-rest l = length l.rest
