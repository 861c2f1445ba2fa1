-- The lane that was picked has an action left, and its event comes next.
use Rattle.std.proofs.Common.{length}
use Rattle.sw_data.specs.declared.events.Who.TheVariants as who
use Rattle.sw_lane.specs.Picked.{in_flight}
use Rattle.sw_turns.proofs.FlightLemmas.{action_spares}
use Rattle.sw_turns.proofs.NextLemmas.{acted, acted_next, picked_left}
use Rattle.sw_state.specs.Hosted.{state_of}
use Rattle.sw_turns.proofs.next.action_event.Goals as goal

pub take-action-requires : goal.take-action-requires
take-action-requires c =
    picked_left (state_of c.args.core.now) (in_flight c.args.flights.now) c.args.lanes.now c.args.lane c.args.at c.requires.picked

pub returns-clause-next : goal.returns-clause-next
returns-clause-next c =
    acted (length c.args.flights.now) c.args.net.now (state_of c.args.core.now) (in_flight c.args.flights.now) c.args.lanes.now
    c.take-action.new.self c.args.lane c.args.at c.take-action.result c.event_of_action.result
    c.requires.picked c.take-action.ensures.action c.take-action.ensures.moved c.event_of_action.ensures

pub returns-clause-spares : goal.returns-clause-spares
returns-clause-spares c =
    action_spares c.event_of_action.result (who.Lane c.args.lane c.args.at) c.take-action.result c.args.flights.now c.event_of_action.ensures

pub returns-clause-picked : goal.returns-clause-picked
returns-clause-picked c =
    acted_next c.args.net.now (state_of c.args.core.now) c.args.flights.now c.args.lanes.now
    c.take-action.new.self c.args.lane c.args.at c.take-action.result c.event_of_action.result
    c.requires.picked c.take-action.ensures.action c.take-action.ensures.moved c.event_of_action.ensures

pub returns-clause-taken : goal.returns-clause-taken
returns-clause-taken c = record {
  at = c.args.at;
  taking = c.take-action.result;
  was_next = c.take-action.ensures.action;
  event = c.event_of_action.ensures;
  is_taken = c.take-action.ensures.moved;
}
