-- The event of the task that was picked joins the group.
use Rattle.std.proofs.Common.{◌≡◌, Err, None, ap, length, sym, subst}
use Rattle.std.proofs.lemmas.Option.{slice_get_within}
use Rattle.sw_lane.specs.Picked.{in_flight, picked}
use Rattle.sw_lane.specs.declared.picks.Pick.TheVariants as pick
use Rattle.sw_lane.specs.declared.picks.Work.TheVariants as work
use Rattle.sw_laws.specs.Coherent.{Coherent}
use Rattle.sw_turns.proofs.ComingLemmas.{grows_one}
use Rattle.sw_turns.proofs.FlightLemmas.{none_flies}
use Rattle.sw_turns.proofs.GroupLemmas.{next_of, next_pick, no_room, stop_keeps, stop_lacks, stop_leaves, stop_picks, stop_some, stop_stays, stop_takes}
use Rattle.sw_turns.specs.declared.ends.Refusal.{Refusal}
use Rattle.sw_turns.specs.Ways.{recorded_way}
use Rattle.sw_state.specs.Hosted.{Hosted, state_of}
use Rattle.sw_turns.proofs.filling.perform.Goals as goal

pub ready_event-requires-clause-coherent : goal.ready_event-requires-clause-coherent
ready_event-requires-clause-coherent c = subst (λ (host : Hosted). Coherent (state_of host)) (sym c.core.ensures) c.requires.coherent

pub ready_event-requires-clause-alone : goal.ready_event-requires-clause-alone
ready_event-requires-clause-alone c = λ one. none_flies c.args.flights.now c.args.pass c.requires.free one

pub ready_event-requires-clause-picked : goal.ready_event-requires-clause-picked
ready_event-requires-clause-picked c =
    subst (λ (host : Hosted). picked (state_of host) (in_flight c.args.flights.now) c.args.lanes.now ≡ pick.Work (work.Task c.args.task)) (sym c.core.ensures)
    c.requires.picked

-- ---- it joins

pub returns-in-Ok-enter-clause-goes_on : goal.returns-in-Ok-enter-clause-goes_on
returns-in-Ok-enter-clause-goes_on c = λ recording base history same goes.
    c.in-Ok-enter.ensures.goes_on (length c.args.flights.now) (recorded_way recording) base history c.args.lanes.now c.args.lanes.now
    (slice_get_within c.args.flights.now c.args.pass None c.requires.free) goes
    (next_of (length c.args.flights.now) c.args.net.now c.args.lanes.now c.args.lanes.now c.core.result.now c.args.store.now c.in-Ok.event c.core.ensures
    c.in-Ok.ensures.next recording base history same)

pub returns-in-Ok-enter-clause-flights : goal.returns-in-Ok-enter-clause-flights
returns-in-Ok-enter-clause-flights c = c.enter.ensures.flights c.args.flights.now c.in-Ok.ensures.spares c.requires.flights

pub returns-in-Ok-enter-clause-grows : goal.returns-in-Ok-enter-clause-grows
returns-in-Ok-enter-clause-grows c =
    grows_one c.args.net.now c.args.flights.now c.args.lanes.now c.args.lanes.now c.args.store.now c.enter.new.store c.in-Ok.event
    (next_pick c.args.net.now c.args.flights.now c.args.lanes.now c.args.lanes.now c.core.result.now c.args.store.now.core c.in-Ok.event c.core.ensures c.in-Ok.ensures.picked)
    c.in-Ok-enter.ensures.entry c.in-Ok-enter.ensures.state

-- ---- or is refused

pub returns-in-Err-enter-clause-goes_on : goal.returns-in-Err-enter-clause-goes_on
returns-in-Err-enter-clause-goes_on c = λ recording base history same goes.
    stop_stays c.stop_by.result c.in-Err-enter.refusal c.stop_by.ensures (length c.args.flights.now) (recorded_way recording) base history c.args.flights.now c.enter.new.store c.args.lanes.now
    (c.in-Err-enter.ensures.goes_on (length c.args.flights.now) (recorded_way recording) base history c.args.lanes.now c.args.lanes.now
    (slice_get_within c.args.flights.now c.args.pass None c.requires.free) goes
    (next_of (length c.args.flights.now) c.args.net.now c.args.lanes.now c.args.lanes.now c.core.result.now c.args.store.now c.in-Ok.event c.core.ensures
    c.in-Ok.ensures.next recording base history same))

pub returns-in-Err-enter-clause-flights : goal.returns-in-Err-enter-clause-flights
returns-in-Err-enter-clause-flights c = c.enter.ensures.flights c.args.flights.now c.in-Ok.ensures.spares c.requires.flights

pub returns-in-Err-enter-clause-lanes : goal.returns-in-Err-enter-clause-lanes
returns-in-Err-enter-clause-lanes c = stop_keeps c.stop_by.result c.in-Err-enter.refusal c.stop_by.ensures c.args.lanes.now

pub returns-in-Err-enter-clause-kind : goal.returns-in-Err-enter-clause-kind
returns-in-Err-enter-clause-kind c = stop_picks c.stop_by.result c.in-Err-enter.refusal c.stop_by.ensures

pub returns-in-Err-enter-clause-some : goal.returns-in-Err-enter-clause-some
returns-in-Err-enter-clause-some c =
    stop_some c.stop_by.result c.in-Err-enter.refusal c.stop_by.ensures c.enter.new.store.staged
    (λ kept is. (c.in-Err-enter.ensures.no_room kept (ap (λ (why : Refusal). Err why) is)).1)

pub returns-in-Err-enter-clause-lacks : goal.returns-in-Err-enter-clause-lacks
returns-in-Err-enter-clause-lacks c =
    stop_lacks c.stop_by.result c.in-Err-enter.refusal c.stop_by.ensures c.args.net.now c.args.lanes.now c.args.flights.now c.enter.new.store
    (λ kept is.
    let none = c.in-Err-enter.ensures.no_room kept (ap (λ (why : Refusal). Err why) is) in
    no_room c.args.net.now c.args.flights.now c.args.lanes.now c.args.lanes.now c.in-Ok.event c.args.store.now c.enter.new.store none.2.0
    (next_pick c.args.net.now c.args.flights.now c.args.lanes.now c.args.lanes.now c.core.result.now c.args.store.now.core c.in-Ok.event c.core.ensures c.in-Ok.ensures.picked)
    c.in-Err-enter.ensures.still none.2.1)

pub returns-in-Err-enter-clause-leaves : goal.returns-in-Err-enter-clause-leaves
returns-in-Err-enter-clause-leaves c =
    stop_leaves c.stop_by.result c.in-Err-enter.refusal c.stop_by.ensures c.args.pass c.args.flights.now c.args.lanes.now (state_of c.enter.new.store.core) c.requires.free

pub returns-in-Err-enter-clause-taken : goal.returns-in-Err-enter-clause-taken
returns-in-Err-enter-clause-taken c = stop_takes c.stop_by.result c.in-Err-enter.refusal c.stop_by.ensures c.args.pass c.args.flights.now
