use Rattle.std.proofs.Common.{◌∙◌, arith}
use Rattle.sw_next.proofs.InFlight.{few_taken, many_taken}
use Rattle.sw_next.proofs.flights.many_in_flight.Goals as goal

pub overflow_cast-result : goal.overflow_cast-result
overflow_cast-result c =
    omega (arith, c.requires, c.taken.ensures, many_taken c.args.flights.now, few_taken c.args.flights.now)

pub returns : goal.returns
returns c = c.taken.ensures ∙ many_taken c.args.flights.now
