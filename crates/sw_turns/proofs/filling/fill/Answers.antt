-- What waits grows by what is picked, until none may join.
use Rattle.std.proofs.Common.{◌≡◌, ◌∙◌, ℕ, List, length, Option, refl, sym, ap, subst, arith, slice_get}
use Rattle.sw_data.specs.declared.histories.Task.{Task}
use Rattle.sw_lane.specs.Picked.{in_flight}
use Rattle.sw_lane.specs.declared.picks.Pick.TheVariants as pick
use Rattle.sw_turns.specs.Groups.{IsByPick, IsTaken, IsUnderWay, Stops}
use Rattle.sw_turns.specs.Coming.{GrowsByPick}
use Rattle.sw_turns.proofs.ComingLemmas.{grows_none, grows_still, grows_then}
use Rattle.sw_turns.proofs.FlightLemmas.{free_due}
use Rattle.sw_turns.proofs.GroupLemmas.{further_own, none_own, picked_by, same_twins}
use Rattle.sw_turns.specs.Ways.{recorded_way}
use Rattle.sw_state.specs.Hosted.{state_of}
use Rattle.sw_turns.proofs.filling.fill.Goals as goal

pub take_up-requires-clause-free : goal.take_up-requires-clause-free
take_up-requires-clause-free c = ap (λ (all : List (Option Task)). slice_get all c.args.pass) c.events.invariant.same ∙ c.requires.free

pub take_up-requires-clause-picked : goal.take_up-requires-clause-picked
take_up-requires-clause-picked c =
    picked_by c.core.result.now c.events.store.core (in_flight c.events.flights) c.events.lanes (pick.Work c.in-Work.picked) c.core.ensures c.in-Work.ensures

pub events-init : goal.events-init
events-init c = record {
  sound = c.requires.coherent;
  same = refl;
  flying = c.requires.flights;
  since = c.requires.since;
  few = c.requires.few;
  more = omega arith;
  still = λ same. refl;
  idle = λ is. refl;
  twin = refl;
  mark = refl;
  own = none_own c.args.pass c.args.store.now.staged;
  grows = grows_none c.args.net.now c.args.flights.now c.args.lanes.now c.args.store.now c.args.store.now refl refl;
  goes_on = λ recording base history same goes. goes;
}

pub events-preserved : goal.events-preserved
events-preserved c =
    let was = c.events.invariant in
    let joined = c.in-Ok.ensures in
    record {
      sound = joined.coherent;
      same = joined.ok ∙ was.same;
      flying = joined.flights;
      since = joined.since;
      few = omega (arith, joined.more, c.waiting.ensures, c.if-waiting-ge-MOST.false);
      more = omega (arith, joined.more, was.more);
      still = λ same. absurd (omega (arith, same, joined.more, was.more));
      idle = λ is.
          let now : pick.Work c.in-Work.picked ≡ pick.Idle =
          sym (picked_by c.core.result.now c.events.store.core (in_flight c.events.flights) c.events.lanes (pick.Work c.in-Work.picked) c.core.ensures c.in-Work.ensures)
          ∙ was.still (was.idle is) ∙ is in
          absurd cc;
      twin = same_twins c.args.store.now.twin c.events.store.twin c.take_up.new.store.twin was.twin joined.twin;
      mark = joined.mark ∙ was.mark;
      own = further_own c.args.pass c.args.store.now.staged c.events.store.staged c.take_up.new.store.staged was.own joined.own;
      grows =
          grows_then c.args.net.now c.args.flights.now c.args.lanes.now c.events.lanes c.take_up.new.lanes c.args.store.now c.events.store c.take_up.new.store was.grows
          (subst (λ (flights : List (Option Task)). GrowsByPick c.args.net.now flights c.events.lanes c.take_up.new.lanes c.events.store c.take_up.new.store) was.same joined.grows);
      goes_on = λ recording base history same goes.
          subst (λ (workers : ℕ). IsUnderWay workers (recorded_way recording) base history c.take_up.new.lanes c.take_up.new.store) (ap length was.same)
          (joined.goes_on recording base history same
          (subst (λ (workers : ℕ). IsUnderWay workers (recorded_way recording) base history c.events.lanes c.events.store) (sym (ap length was.same)) (was.goes_on recording base history same goes)));
    }

-- ---- the pick takes up something, or stops the group

pub returns-in-Err-clause-goes_on : goal.returns-in-Err-clause-goes_on
returns-in-Err-clause-goes_on c = λ recording base history same goes.
    let alike : length c.events.flights ≡ length c.args.flights.now = ap length c.events.invariant.same in
    subst (λ (workers : ℕ). Stops workers (recorded_way recording) base history c.take_up.new.lanes c.take_up.new.flights c.take_up.new.store c.in-Err.stop) alike
    (c.in-Err.ensures.goes_on recording base history same
    (subst (λ (workers : ℕ). IsUnderWay workers (recorded_way recording) base history c.events.lanes c.events.store) (sym alike) (c.events.invariant.goes_on recording base history same goes)))

pub returns-in-Err-clause-twin : goal.returns-in-Err-clause-twin
returns-in-Err-clause-twin c = same_twins c.args.store.now.twin c.events.store.twin c.take_up.new.store.twin c.events.invariant.twin c.in-Err.ensures.twin

pub returns-in-Err-clause-own : goal.returns-in-Err-clause-own
returns-in-Err-clause-own c = further_own c.args.pass c.args.store.now.staged c.events.store.staged c.take_up.new.store.staged c.events.invariant.own c.in-Err.ensures.own

pub returns-in-Err-clause-taken : goal.returns-in-Err-clause-taken
returns-in-Err-clause-taken c =
    subst (λ (before : List (Option Task)). IsTaken c.args.pass before c.take_up.new.flights c.in-Err.stop) c.events.invariant.same c.in-Err.ensures.taken

pub returns-in-Err-clause-grows : goal.returns-in-Err-clause-grows
returns-in-Err-clause-grows c = (
  c.events.lanes,
  grows_still c.args.net.now c.args.flights.now c.args.lanes.now c.events.lanes c.args.store.now c.events.store c.take_up.new.store
      c.events.invariant.grows c.in-Err.ensures.same c.in-Err.ensures.still,
  c.in-Err.ensures.lanes,
)

pub returns-then-waiting-ge-MOST-clause-grows : goal.returns-then-waiting-ge-MOST-clause-grows
returns-then-waiting-ge-MOST-clause-grows c = (c.events.lanes, c.events.invariant.grows, refl)

pub returns-in-Idle-clause-grows : goal.returns-in-Idle-clause-grows
returns-in-Idle-clause-grows c = (c.events.lanes, c.events.invariant.grows, refl)

pub returns-in-Stalled-clause-grows : goal.returns-in-Stalled-clause-grows
returns-in-Stalled-clause-grows c = (c.events.lanes, c.events.invariant.grows, refl)

pub returns-in-Done-clause-grows : goal.returns-in-Done-clause-grows
returns-in-Done-clause-grows c = (c.events.lanes, c.events.invariant.grows, refl)

pub returns-in-Err-clause-idle : goal.returns-in-Err-clause-idle
returns-in-Err-clause-idle c = λ is same. absurd (subst IsByPick is c.in-Err.ensures.kind)

pub returns-in-Err-clause-at_once : goal.returns-in-Err-clause-at_once
returns-in-Err-clause-at_once c = λ few is.
    let now : pick.Work c.in-Work.picked ≡ pick.Idle =
    sym (picked_by c.core.result.now c.events.store.core (in_flight c.events.flights) c.events.lanes (pick.Work c.in-Work.picked) c.core.ensures c.in-Work.ensures)
    ∙ c.events.invariant.still (c.events.invariant.idle is) ∙ is in
    absurd cc

pub returns-in-Idle-clause-goes_on : goal.returns-in-Idle-clause-goes_on
returns-in-Idle-clause-goes_on c = λ recording base history same goes. (
  c.events.invariant.goes_on recording base history same goes,
  picked_by c.core.result.now c.events.store.core (in_flight c.events.flights) c.events.lanes pick.Idle c.core.ensures c.in-Idle.ensures,
)

pub returns-in-Idle-clause-due : goal.returns-in-Idle-clause-due
returns-in-Idle-clause-due c =
    free_due (state_of c.events.store.core) c.events.lanes c.events.flights c.args.pass
    (ap (λ (all : List (Option Task)). slice_get all c.args.pass) c.events.invariant.same ∙ c.requires.free)

pub returns-in-Idle-clause-idle : goal.returns-in-Idle-clause-idle
returns-in-Idle-clause-idle c = λ is same.
    sym (c.events.invariant.still same)
    ∙ picked_by c.core.result.now c.events.store.core (in_flight c.events.flights) c.events.lanes pick.Idle c.core.ensures c.in-Idle.ensures

pub returns-in-Stalled-clause-goes_on : goal.returns-in-Stalled-clause-goes_on
returns-in-Stalled-clause-goes_on c = λ recording base history same goes. (
  c.events.invariant.goes_on recording base history same goes,
  picked_by c.core.result.now c.events.store.core (in_flight c.events.flights) c.events.lanes (pick.Stalled c.in-Stalled.lane) c.core.ensures c.in-Stalled.ensures,
)

pub returns-in-Stalled-clause-due : goal.returns-in-Stalled-clause-due
returns-in-Stalled-clause-due c =
    free_due (state_of c.events.store.core) c.events.lanes c.events.flights c.args.pass
    (ap (λ (all : List (Option Task)). slice_get all c.args.pass) c.events.invariant.same ∙ c.requires.free)

pub returns-in-Stalled-clause-at_once : goal.returns-in-Stalled-clause-at_once
returns-in-Stalled-clause-at_once c = λ few is.
    let now : pick.Stalled c.in-Stalled.lane ≡ pick.Idle =
    sym (picked_by c.core.result.now c.events.store.core (in_flight c.events.flights) c.events.lanes (pick.Stalled c.in-Stalled.lane) c.core.ensures c.in-Stalled.ensures)
    ∙ c.events.invariant.still (c.events.invariant.idle is) ∙ is in
    absurd cc

pub returns-in-Done-clause-goes_on : goal.returns-in-Done-clause-goes_on
returns-in-Done-clause-goes_on c = λ recording base history same goes. (
  c.events.invariant.goes_on recording base history same goes,
  picked_by c.core.result.now c.events.store.core (in_flight c.events.flights) c.events.lanes pick.Done c.core.ensures c.in-Done.ensures,
)

pub returns-in-Done-clause-due : goal.returns-in-Done-clause-due
returns-in-Done-clause-due c =
    free_due (state_of c.events.store.core) c.events.lanes c.events.flights c.args.pass
    (ap (λ (all : List (Option Task)). slice_get all c.args.pass) c.events.invariant.same ∙ c.requires.free)

pub returns-in-Done-clause-at_once : goal.returns-in-Done-clause-at_once
returns-in-Done-clause-at_once c = λ few is.
    let now : pick.Done ≡ pick.Idle =
    sym (picked_by c.core.result.now c.events.store.core (in_flight c.events.flights) c.events.lanes pick.Done c.core.ensures c.in-Done.ensures)
    ∙ c.events.invariant.still (c.events.invariant.idle is) ∙ is in
    absurd cc
