-- What was picked joins the group, or is taken up.
use Rattle.std.proofs.Common.{length}
use Rattle.sw_turns.proofs.FlightLemmas.{free_due}
use Rattle.sw_turns.specs.Ways.{recorded_way}
use Rattle.sw_state.specs.Hosted.{state_of}
use Rattle.sw_turns.proofs.filling.take_up.Goals as goal

pub returns-in-Action-clause-due : goal.returns-in-Action-clause-due
returns-in-Action-clause-due c =
    free_due (state_of c.act.new.store.core) c.act.new.lanes c.args.flights.now c.args.pass c.requires.free

pub returns-in-Fetch-clause-goes_on : goal.returns-in-Fetch-clause-goes_on
returns-in-Fetch-clause-goes_on c = λ recording base history same goes. c.take_off.ensures.goes_on (length c.args.flights.now) (recorded_way recording) base history goes
