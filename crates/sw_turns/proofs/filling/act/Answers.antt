-- The event of the action that was picked joins the group, or the action goes back to its lane.
use Rattle.std.proofs.Common.{◌≡◌, List, Err, None, ap, length, sym, subst}
use Rattle.std.proofs.lemmas.Option.{slice_get_within}
use Rattle.sw_data.specs.declared.events.Event.{Event}
use Rattle.sw_lane.specs.Left.{Left}
use Rattle.sw_lane.specs.Picked.{in_flight, picked}
use Rattle.sw_lane.specs.declared.picks.Pick.TheVariants as pick
use Rattle.sw_lane.specs.declared.picks.Work.TheVariants as work
use Rattle.sw_turns.proofs.ComingLemmas.{grows_one}
use Rattle.sw_turns.proofs.FlightLemmas.{none_flies}
use Rattle.sw_turns.proofs.GroupLemmas.{next_of, next_pick, no_room}
use Rattle.sw_turns.proofs.filling.act.Goals as goal
use Rattle.sw_turns.proofs.filling.act.Goals.{After-put_back}
use Rattle.sw_turns.specs.Coming.{IsTaking, NextHasNoRoom}
use Rattle.sw_turns.specs.Groups.{IsUnderWay, StaysOut}
use Rattle.sw_turns.specs.declared.ends.Refusal.{Refusal}
use Rattle.sw_turns.specs.Ways.{recorded_way}
use Rattle.sw_state.specs.Hosted.{Hosted, state_of}

pub action_event-event-requires-clause-alone : goal.action_event-event-requires-clause-alone
action_event-event-requires-clause-alone c = λ one. none_flies c.args.flights.now c.args.pass c.requires.free one

pub action_event-event-requires-clause-picked : goal.action_event-event-requires-clause-picked
action_event-event-requires-clause-picked c =
    subst (λ (host : Hosted). picked (state_of host) (in_flight c.args.flights.now) c.args.lanes.now ≡ pick.Work (work.Action c.args.lane c.args.at)) (sym c.core.ensures)
    c.requires.picked

-- ---- it joins

pub returns-in-Ok-clause-goes_on : goal.returns-in-Ok-clause-goes_on
returns-in-Ok-clause-goes_on c = λ recording base history same goes.
    c.in-Ok.ensures.goes_on (length c.args.flights.now) (recorded_way recording) base history c.args.lanes.now c.action_event-event.new.lanes
    (slice_get_within c.args.flights.now c.args.pass None c.requires.free) goes
    (next_of (length c.args.flights.now) c.args.net.now c.args.lanes.now c.action_event-event.new.lanes c.core.result.now c.args.store.now c.action_event-event.result
    c.core.ensures c.action_event-event.ensures.next recording base history same)

pub returns-in-Ok-clause-flights : goal.returns-in-Ok-clause-flights
returns-in-Ok-clause-flights c = c.enter.ensures.flights c.args.flights.now c.action_event-event.ensures.spares c.requires.flights

pub returns-in-Ok-clause-grows : goal.returns-in-Ok-clause-grows
returns-in-Ok-clause-grows c =
    grows_one c.args.net.now c.args.flights.now c.args.lanes.now c.action_event-event.new.lanes c.args.store.now c.enter.new.store c.action_event-event.result
    (next_pick c.args.net.now c.args.flights.now c.args.lanes.now c.action_event-event.new.lanes c.core.result.now c.args.store.now.core c.action_event-event.result
    c.core.ensures c.action_event-event.ensures.picked)
    c.in-Ok.ensures.entry c.in-Ok.ensures.state

-- ---- or goes back

pub put_back-requires : goal.put_back-requires
put_back-requires c =
    let none = c.in-Err-NoRoom.ensures.no_room c.in-Err-NoRoom.event (ap (λ (why : Refusal). Err why) c.in-Err-NoRoom.field-0-is) in (
      c.args.lanes.now,
      subst (λ (happened : Event). IsTaking c.args.lanes.now c.args.lane happened c.action_event-event.new.lanes) (sym none.0) c.action_event-event.ensures.taken,
    )

-- the lanes are as before
back : (c : After-put_back) → c.put_back.new.lanes ≡ c.args.lanes.now
back c =
    let none = c.in-Err-NoRoom.ensures.no_room c.in-Err-NoRoom.event (ap (λ (why : Refusal). Err why) c.in-Err-NoRoom.field-0-is) in
    c.put_back.ensures c.args.lanes.now
    (subst (λ (happened : Event). IsTaking c.args.lanes.now c.args.lane happened c.action_event-event.new.lanes) (sym none.0) c.action_event-event.ensures.taken)

pub returns-in-Err-NoRoom-clause-goes_on : goal.returns-in-Err-NoRoom-clause-goes_on
returns-in-Err-NoRoom-clause-goes_on c = λ recording base history same goes.
    subst (λ (lanes : List Left). IsUnderWay (length c.args.flights.now) (recorded_way recording) base history lanes c.enter.new.store) (sym (back c))
    (subst (StaysOut (length c.args.flights.now) (recorded_way recording) base history c.args.lanes.now c.action_event-event.new.lanes c.enter.new.store) c.in-Err-NoRoom.field-0-is
    (c.in-Err-NoRoom.ensures.goes_on (length c.args.flights.now) (recorded_way recording) base history c.args.lanes.now c.action_event-event.new.lanes
    (slice_get_within c.args.flights.now c.args.pass None c.requires.free) goes
    (next_of (length c.args.flights.now) c.args.net.now c.args.lanes.now c.action_event-event.new.lanes c.core.result.now c.args.store.now c.action_event-event.result
    c.core.ensures c.action_event-event.ensures.next recording base history same)))

pub returns-in-Err-NoRoom-clause-flights : goal.returns-in-Err-NoRoom-clause-flights
returns-in-Err-NoRoom-clause-flights c = c.enter.ensures.flights c.args.flights.now c.action_event-event.ensures.spares c.requires.flights

pub returns-in-Err-NoRoom-clause-lanes : goal.returns-in-Err-NoRoom-clause-lanes
returns-in-Err-NoRoom-clause-lanes c = back c

pub returns-in-Err-NoRoom-clause-some : goal.returns-in-Err-NoRoom-clause-some
returns-in-Err-NoRoom-clause-some c =
    (c.in-Err-NoRoom.ensures.no_room c.in-Err-NoRoom.event (ap (λ (why : Refusal). Err why) c.in-Err-NoRoom.field-0-is)).1

pub returns-in-Err-NoRoom-clause-lacks : goal.returns-in-Err-NoRoom-clause-lacks
returns-in-Err-NoRoom-clause-lacks c =
    let none = c.in-Err-NoRoom.ensures.no_room c.in-Err-NoRoom.event (ap (λ (why : Refusal). Err why) c.in-Err-NoRoom.field-0-is) in
    subst (λ (lanes : List Left). NextHasNoRoom c.args.net.now (state_of c.enter.new.store.core) c.args.flights.now lanes c.enter.new.store.payload c.enter.new.store.twin) (sym (back c))
    (no_room c.args.net.now c.args.flights.now c.args.lanes.now c.action_event-event.new.lanes c.action_event-event.result c.args.store.now c.enter.new.store none.2.0
    (next_pick c.args.net.now c.args.flights.now c.args.lanes.now c.action_event-event.new.lanes c.core.result.now c.args.store.now.core c.action_event-event.result
    c.core.ensures c.action_event-event.ensures.picked)
    c.in-Err-NoRoom.ensures.still none.2.1)

-- ---- or is refused for good

pub returns-in-Err-Full-clause-goes_on : goal.returns-in-Err-Full-clause-goes_on
returns-in-Err-Full-clause-goes_on c = λ recording base history same goes.
    subst (StaysOut (length c.args.flights.now) (recorded_way recording) base history c.args.lanes.now c.action_event-event.new.lanes c.enter.new.store) c.in-Err-Full.field-0-is
    (c.in-Err-Full.ensures.goes_on (length c.args.flights.now) (recorded_way recording) base history c.args.lanes.now c.action_event-event.new.lanes
    (slice_get_within c.args.flights.now c.args.pass None c.requires.free) goes
    (next_of (length c.args.flights.now) c.args.net.now c.args.lanes.now c.action_event-event.new.lanes c.core.result.now c.args.store.now c.action_event-event.result
    c.core.ensures c.action_event-event.ensures.next recording base history same))

pub returns-in-Err-Full-clause-flights : goal.returns-in-Err-Full-clause-flights
returns-in-Err-Full-clause-flights c = c.enter.ensures.flights c.args.flights.now c.action_event-event.ensures.spares c.requires.flights

pub returns-in-Err-NoMemory-clause-goes_on : goal.returns-in-Err-NoMemory-clause-goes_on
returns-in-Err-NoMemory-clause-goes_on c = λ recording base history same goes. (
  c.args.lanes.now,
  subst (StaysOut (length c.args.flights.now) (recorded_way recording) base history c.args.lanes.now c.action_event-event.new.lanes c.enter.new.store) c.in-Err-NoMemory.field-0-is
      (c.in-Err-NoMemory.ensures.goes_on (length c.args.flights.now) (recorded_way recording) base history c.args.lanes.now c.action_event-event.new.lanes
      (slice_get_within c.args.flights.now c.args.pass None c.requires.free) goes
      (next_of (length c.args.flights.now) c.args.net.now c.args.lanes.now c.action_event-event.new.lanes c.core.result.now c.args.store.now c.action_event-event.result
      c.core.ensures c.action_event-event.ensures.next recording base history same)),
)

pub returns-in-Err-NoMemory-clause-flights : goal.returns-in-Err-NoMemory-clause-flights
returns-in-Err-NoMemory-clause-flights c = c.enter.ensures.flights c.args.flights.now c.action_event-event.ensures.spares c.requires.flights
