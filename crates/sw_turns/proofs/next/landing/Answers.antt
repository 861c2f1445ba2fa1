-- The event of what the pass has taken up comes next, and ends nothing that others have taken up.
use Rattle.std.proofs.Common.{rules, length, refl, subst}
use Rattle.std.proofs.lemmas.Option.{gets}
use Rattle.sw_data.specs.declared.histories.Task.{Task}
use Rattle.sw_turns.specs.Flights.{Flies}
use Rattle.sw_core.specs.Machines.{IsEventOf}
use Rattle.sw_turns.proofs.FlightLemmas.{due_alone, flies_alike, flies_not_free, landed_stay, landing_spares}
use Rattle.sw_turns.proofs.NextLemmas.{performed}
use Rattle.sw_state.specs.Hosted.{state_of}
use Rattle.sw_turns.proofs.next.landing.Goals as goal

pub returns-in_ok-event-in-Some-clause-next : goal.returns-in_ok-event-in-Some-clause-next
returns-in_ok-event-in-Some-clause-next c =
    let its : Flies c.args.flights.now c.args.pass c.in-Some.task = search (rules, gets) in
    performed (length c.args.flights.now) c.args.net.now (state_of c.args.core.now) c.args.lanes.now c.in-Some.task c.in_ok-event-in-Some.event
    c.requires.coherent (c.requires.flights.ready c.args.pass c.in-Some.task its)
    (due_alone (state_of c.args.core.now) c.args.lanes.now c.args.flights.now c.args.pass c.in-Some.task c.requires.due its)
    c.in_ok-event-in-Some.ensures.event

pub returns-in_ok-event-in-Some-clause-event : goal.returns-in_ok-event-in-Some-clause-event
returns-in_ok-event-in-Some-clause-event c = λ flown flies.
    let its : Flies c.args.flights.now c.args.pass c.in-Some.task = search (rules, gets) in
    subst (λ (one : Task). IsEventOf c.args.net.now (state_of c.args.core.now) one c.in_ok-event-in-Some.event)
    (flies_alike c.args.flights.now c.args.pass c.in-Some.task flown its flies) c.in_ok-event-in-Some.ensures.event

pub returns-in_ok-event-in-Some-clause-spares : goal.returns-in_ok-event-in-Some-clause-spares
returns-in_ok-event-in-Some-clause-spares c =
    let its : Flies c.args.flights.now c.args.pass c.in-Some.task = search (rules, gets) in
    landing_spares c.args.net.now (state_of c.args.core.now) c.args.flights.now c.args.pass c.in-Some.task c.in_ok-event-in-Some.event
    c.requires.flights c.requires.pass its c.in_ok-event-in-Some.ensures.event

pub returns-in_ok-event-in-Some-clause-none : goal.returns-in_ok-event-in-Some-clause-none
returns-in_ok-event-in-Some-clause-none c =
    let its : Flies c.args.flights.now c.args.pass c.in-Some.task = search (rules, gets) in
    (λ is. absurd cc, λ free. absurd (flies_not_free c.args.flights.now c.args.pass c.in-Some.task its free))

pub returns-in_ok-event-in-Some-clause-flights : goal.returns-in_ok-event-in-Some-clause-flights
returns-in_ok-event-in-Some-clause-flights c = landed_stay (state_of c.args.core.now) c.args.flights.now c.requires.flights c.args.pass c.requires.pass

pub returns-in-None-clause-none : goal.returns-in-None-clause-none
returns-in-None-clause-none c = (λ is. search (rules, gets), λ free. refl)
