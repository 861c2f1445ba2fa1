-- What was picked is taken up, or there was no memory for its fetches.
use Rattle.std.proofs.Common.{◌≡◌, ◌∙◌, List, Option, Some, None, ap, subst, sym}
use Rattle.std.proofs.lemmas.Option.{slice_get_within}
use Rattle.sw_data.specs.declared.histories.Task.{Task}
use Rattle.sw_lane.specs.Picked.{in_flight, picked}
use Rattle.sw_lane.specs.declared.picks.Pick.TheVariants as pick
use Rattle.sw_lane.specs.declared.picks.Work.TheVariants as work
use Rattle.sw_next.specs.Fetching.{fetches_of}
use Rattle.sw_turns.proofs.FlightLemmas.{free_due, set_back, set_there, taken_due, taken_fly}
use Rattle.sw_state.specs.Hosted.{Hosted, state_of}
use Rattle.sw_turns.proofs.filling.take_off.Goals as goal

pub returns-in-Ok-clause-flights : goal.returns-in-Ok-clause-flights
returns-in-Ok-clause-flights c =
    taken_fly (state_of c.args.store.now.core) c.args.flights.now c.requires.flights c.args.pass c.args.task c.requires.free c.requires.fetch c.args.lanes.now c.requires.picked

pub returns-in-Ok-clause-due : goal.returns-in-Ok-clause-due
returns-in-Ok-clause-due c =
    taken_due (state_of c.args.store.now.core) c.args.flights.now c.requires.flights c.args.pass c.args.task c.requires.free c.requires.fetch c.args.lanes.now c.requires.picked

pub returns-in-Ok-clause-leaves : goal.returns-in-Ok-clause-leaves
returns-in-Ok-clause-leaves c = (
  set_there c.args.flights.now c.args.pass (Some c.args.task) (slice_get_within c.args.flights.now c.args.pass None c.requires.free),
  c.in-Ok.ensures ∙ ap (λ (host : Hosted). fetches_of (state_of host) c.args.task) c.core.ensures,
  subst (λ (flights : List (Option Task)). picked (state_of c.args.store.now.core) (in_flight flights) c.args.lanes.now ≡ pick.Work (work.Task c.args.task))
      (sym (set_back c.args.flights.now c.args.pass None (Some c.args.task) c.requires.free)) c.requires.picked,
)

pub returns-in-Err-clause-due : goal.returns-in-Err-clause-due
returns-in-Err-clause-due c = free_due (state_of c.args.store.now.core) c.args.lanes.now c.args.flights.now c.args.pass c.requires.free
