use Rattle.std.proofs.Common.{◌∙◌}
use Rattle.sw_next.proofs.InFlight.{taken_flies}
use Rattle.sw_next.proofs.flights.is_in_flight.Goals as goal

pub returns : goal.returns
returns c = c.is_taken.ensures ∙ taken_flies c.args.task c.args.flights.now
