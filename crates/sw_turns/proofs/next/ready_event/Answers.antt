-- The task that was picked is ready, and its event comes next.
use Rattle.std.proofs.Common.{length}
use Rattle.sw_lane.specs.Picked.{in_flight}
use Rattle.sw_turns.proofs.FlightLemmas.{plain_spares_on}
use Rattle.sw_turns.proofs.NextLemmas.{performed_next, performed_on, picked_task}
use Rattle.sw_state.specs.Hosted.{state_of}
use Rattle.sw_turns.proofs.next.ready_event.Goals as goal

pub task_event-requires-clause-ready : goal.task_event-requires-clause-ready
task_event-requires-clause-ready c = picked_task (state_of c.args.core.now) (in_flight c.args.flights.now) c.args.lanes.now c.args.task c.requires.picked

pub returns-clause-next : goal.returns-clause-next
returns-clause-next c =
    performed_on c.task_event.result (length c.args.flights.now) c.args.net.now (state_of c.args.core.now) (in_flight c.args.flights.now)
    c.args.lanes.now c.args.task c.requires.coherent c.requires.alone c.requires.picked c.task_event.ensures.event

pub returns-clause-spares : goal.returns-clause-spares
returns-clause-spares c =
    plain_spares_on c.task_event.result c.args.net.now (state_of c.args.core.now) c.args.task c.args.flights.now c.requires.plain c.task_event.ensures.event

pub returns-clause-picked : goal.returns-clause-picked
returns-clause-picked c =
    performed_next c.task_event.result c.args.net.now (state_of c.args.core.now) c.args.flights.now c.args.lanes.now c.args.task
    c.requires.plain c.requires.picked c.task_event.ensures.event
