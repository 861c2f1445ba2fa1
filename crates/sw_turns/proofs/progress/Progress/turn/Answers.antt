-- A group of events happens and is written, and the run goes on or has ended.
use Rattle.std.proofs.Common.{◌≡◌, ◌∙◌, ◌⊎◌, List, Option, Result, IfErr, IfOk, length, slice_get, refl, sym, ap, subst}
use Rattle.sw_data.specs.declared.histories.Entry.{Entry}
use Rattle.sw_data.specs.declared.histories.Task.{Task}
use Rattle.sw_turns.proofs.EndLemmas.{ends_short}
use Rattle.sw_turns.proofs.SettleLemmas.{rests}
use Rattle.sw_turns.proofs.TurnLemmas.{begun_host, cut_kept, cut_rests, flights_are, grouped, halted, made_by, over_kept, own_either, own_written, picked_either, picked_none, picked_written, sound, tending, turned, waiting_tells, working}
use Rattle.sw_turns.proofs.progress.Progress.turn.Goals as goal
use Rattle.sw_turns.specs.Ends.{Ended, IsTurnEnd}
use Rattle.sw_turns.specs.Flights.{AreInFlight, IsDue}
use Rattle.sw_turns.specs.Groups.{LacksRoom, Leaves}
use Rattle.sw_turns.specs.Settling.{IsWritten}
use Rattle.sw_turns.specs.Turns.{HasTurned, IsAtRest, IsTurn, standing_of}
use Rattle.sw_turns.specs.Ways.{recorded_way}
use Rattle.sw_turns.specs.declared.ends.DriveEnd.{DriveEnd}
use Rattle.sw_turns.specs.declared.ends.DriveEnd.TheVariants as drive_end
use Rattle.sw_turns.specs.declared.ends.Turn.{Turn}
use Rattle.sw_state.specs.Hosted.{Hosted, state_of}

pub returns-then-is_err-clause-turned : goal.returns-then-is_err-clause-turned
returns-then-is_err-clause-turned g c recording base start going = (
  subst (λ (entries : List Entry). Ended g.D.Disk start c.args.disk.now (length c.args.self.now.flights.items) recording base entries drive_end.NoMemory) (sym c.reserve.ensures.items)
      (ends_short g.D.Disk start c.args.disk.now recording base c.args.self.now going),
  tt,
)

pub begin-stop-requires-clause-coherent : goal.begin-stop-requires-clause-coherent
begin-stop-requires-clause-coherent g c =
    let it = c.requires.going in
    sound (length c.args.self.now.flights.items) (recorded_way it.0) it.1 c.args.self.now.history.items c.args.self.now.lanes c.args.self.now.store it.3.under_way it.3.quiet.staged

pub settle-requires-clause-stopped : goal.settle-requires-clause-stopped
settle-requires-clause-stopped g c =
    let it = c.requires.going in
    let p = c.args.self.now in (
      standing_of it.0 it.1 (begun_host p c.reserve.new.self c.begin-stop.new.lanes c.begin-stop.new.store c.begin-stop.new.flights) c.begin-stop.result,
      halted g.D.Disk it.2 c.args.disk.now it.0 it.1 p c.reserve.new.self c.begin-stop.new.lanes c.begin-stop.new.store c.begin-stop.new.flights c.begin-stop.result it.3
          c.reserve.ensures.items (rw c.as_mut_slice.ensures.value at c.begin-stop.ensures.workers) c.begin-stop.ensures.twin (rw c.as_mut_slice.ensures.value at c.begin-stop.ensures.goes_on),
    )

pub returns-then-is_err-clause-group : goal.returns-then-is_err-clause-group
returns-then-is_err-clause-group g c =
    let p = c.args.self.now in
    (p.lanes, picked_none c.args.pass p (record p { history = c.reserve.new.self }) c.reserve.ensures.items)

pub returns-in-Ok : goal.returns-in-Ok
returns-in-Ok g c =
    let p = c.args.self.now in
    let fs = c.begin-stop.new.flights in
    let after = begun_host p c.settle.new.history c.begin-stop.new.lanes c.settle.new.store fs in
    let count = rw c.as_mut_slice.ensures.value at c.begin-stop.ensures.workers in
    let all = flights_are p fs count in
    let others = rw c.as_mut_slice.ensures.value at c.begin-stop.ensures.others in
    let adds = rw c.as_mut_slice.ensures.value at c.begin-stop.ensures.entries in
    let wrote = subst (λ (entries : List Entry). IsWritten entries c.settle.new.history.items c.begin-stop.new.store.staged) c.reserve.ensures.items c.in-Ok.ensures.written in
    let tells = waiting_tells c.waiting-some.result c.begin-stop.new.store.staged c.waiting-some.ensures in
    record {
      turned = λ recording base start going.
          let halts = halted g.D.Disk start c.args.disk.now recording base p c.reserve.new.self c.begin-stop.new.lanes c.begin-stop.new.store fs c.begin-stop.result going
          c.reserve.ensures.items count c.begin-stop.ensures.twin (rw c.as_mut_slice.ensures.value at c.begin-stop.ensures.goes_on) in
          let works = working g.D.Disk start c.args.disk.now recording base p c.reserve.new.self c.begin-stop.new.lanes c.begin-stop.new.store fs c.begin-stop.result going
          c.reserve.ensures.items count c.begin-stop.ensures.twin (rw c.as_mut_slice.ensures.value at c.begin-stop.ensures.goes_on) in
          let tends = tending g.D.Disk start c.args.disk.now recording base p c.reserve.new.self c.begin-stop.new.lanes c.begin-stop.new.store fs c.begin-stop.result going
          c.reserve.ensures.items count c.begin-stop.ensures.twin (rw c.as_mut_slice.ensures.value at c.begin-stop.ensures.goes_on) c.begin-stop.ensures.mark in
          let s = standing_of recording base (begun_host p c.reserve.new.self c.begin-stop.new.lanes c.begin-stop.new.store fs) c.begin-stop.result in
          subst (λ (result : Result Turn DriveEnd). HasTurned g.D.Disk start c.settle.new.disk recording base after result) (sym c.over.ensures)
          (turned g.D.Disk start c.settle.new.disk recording base after (c.in-Ok.ensures.goes_on s start halts works) going.lines c.in-Ok.ensures.quiet
          (c.in-Ok.ensures.tended s halts tends)
          (subst (λ (host : Hosted). AreInFlight (state_of host) after.flights.items) (sym c.settle.ensures.core)
          (subst (λ (flights : List (Option Task)). AreInFlight (state_of c.begin-stop.new.store.core) flights) (sym all) c.begin-stop.ensures.flights))
          (subst (λ (host : Hosted). IsDue (state_of host) c.begin-stop.new.lanes after.flights.items) (sym c.settle.ensures.core)
          (subst (λ (flights : List (Option Task)). IsDue (state_of c.begin-stop.new.store.core) c.begin-stop.new.lanes flights) (sym all) c.begin-stop.ensures.due))
          c.begin-stop.result _ (c.in-Ok.ensures.stopped s halts).stops);
      group = (adds.0, picked_written c.args.pass p after c.begin-stop.new.store.staged adds.0 c.begin-stop.ensures.few adds.1 wrote);
      turn =
          let it = c.requires.going in
          let s = standing_of it.0 it.1 (begun_host p c.reserve.new.self c.begin-stop.new.lanes c.begin-stop.new.store fs) c.begin-stop.result in
          let halts = halted g.D.Disk it.2 c.args.disk.now it.0 it.1 p c.reserve.new.self c.begin-stop.new.lanes c.begin-stop.new.store fs c.begin-stop.result it.3
          c.reserve.ensures.items count c.begin-stop.ensures.twin (rw c.as_mut_slice.ensures.value at c.begin-stop.ensures.goes_on) in
          let group = grouped g.D.Disk it.2 c.args.disk.now it.0 it.1 p c.reserve.new.self c.begin-stop.new.lanes c.begin-stop.new.store fs c.begin-stop.result it.3
          c.reserve.ensures.items count c.begin-stop.ensures.twin (rw c.as_mut_slice.ensures.value at c.begin-stop.ensures.goes_on) in
          subst (λ (result : Result Turn DriveEnd). IfOk result (IsTurn c.args.pass p after)) (sym c.over.ensures)
          (made_by c.args.pass p after c.begin-stop.new.store c.begin-stop.result wrote group c.begin-stop.ensures.twin c.settle.ensures.core
          adds.0 c.begin-stop.ensures.few adds.1 adds.2
          (rw c.as_mut_slice.ensures.value at c.begin-stop.ensures.first) (rw c.as_mut_slice.ensures.value at c.begin-stop.ensures.idle)
          (λ other apart. ap (λ (flights : List (Option Task)). slice_get flights other) all ∙ others other apart)
          (subst (λ (host : Hosted). Leaves c.args.pass after.flights.items after.lanes (state_of host) c.begin-stop.result) (sym c.settle.ensures.core)
          (subst (λ (flights : List (Option Task)). Leaves c.args.pass flights after.lanes (state_of c.begin-stop.new.store.core) c.begin-stop.result) (sym all) c.begin-stop.ensures.leaves))
          (rests (length after.flights.items) (recorded_way it.0) it.1 after.history.items after.lanes after.flights.items after.store c.begin-stop.result (c.in-Ok.ensures.stopped s halts).stops)
          (subst (λ (flights : List (Option Task)). LacksRoom c.begin-stop.result p.net after.lanes flights c.begin-stop.new.store) (sym all) c.begin-stop.ensures.lacks)
          c.begin-stop.result _ refl c.begin-stop.ensures.some tells.0 tells.1);
      calls = c.settle.ensures.calls;
      own = own_written c.args.pass p.history.items c.settle.new.history.items c.begin-stop.new.store.staged c.begin-stop.ensures.own wrote;
      workers = ap length all ∙ count;
      net = refl;
      kept = subst (λ (result : Result Turn DriveEnd). IfErr result IsTurnEnd) (sym c.over.ensures) (over_kept c.begin-stop.result _);
    }

pub returns-in-Err-clause-turned : goal.returns-in-Err-clause-turned
returns-in-Err-clause-turned g c recording base start going =
    let p = c.args.self.now in
    let fs = c.begin-stop.new.flights in
    let count = rw c.as_mut_slice.ensures.value at c.begin-stop.ensures.workers in
    let halts = halted g.D.Disk start c.args.disk.now recording base p c.reserve.new.self c.begin-stop.new.lanes c.begin-stop.new.store fs c.begin-stop.result going
    c.reserve.ensures.items count c.begin-stop.ensures.twin (rw c.as_mut_slice.ensures.value at c.begin-stop.ensures.goes_on) in
    let works = working g.D.Disk start c.args.disk.now recording base p c.reserve.new.self c.begin-stop.new.lanes c.begin-stop.new.store fs c.begin-stop.result going
    c.reserve.ensures.items count c.begin-stop.ensures.twin (rw c.as_mut_slice.ensures.value at c.begin-stop.ensures.goes_on) in
    let before = begun_host p c.reserve.new.self c.begin-stop.new.lanes c.begin-stop.new.store fs in
    let after = begun_host p c.settle.new.history c.begin-stop.new.lanes c.settle.new.store fs in
    subst (λ (end : DriveEnd). Ended g.D.Disk start c.settle.new.disk (length after.flights.items) recording base after.history.items end × IsAtRest end base after) (sym c.cut.ensures) (
      c.in-Err.ensures.goes_on (standing_of recording base before c.begin-stop.result) start halts works,
      cut_rests c.in-Err.end base after c.in-Err.ensures.cut,
    )

pub returns-in-Err-clause-kept : goal.returns-in-Err-clause-kept
returns-in-Err-clause-kept g c = subst IsTurnEnd (sym c.cut.ensures) (cut_kept c.in-Err.end c.in-Err.ensures.cut)

pub returns-in-Err-clause-own : goal.returns-in-Err-clause-own
returns-in-Err-clause-own g c =
    own_either c.args.pass c.args.self.now.history.items c.settle.new.history.items c.begin-stop.new.store.staged c.begin-stop.ensures.own
    (subst (λ (entries : List Entry). (c.settle.new.history.items ≡ entries) ⊎ IsWritten entries c.settle.new.history.items c.begin-stop.new.store.staged) c.reserve.ensures.items c.settle.ensures.either)

pub returns-in-Err-clause-group : goal.returns-in-Err-clause-group
returns-in-Err-clause-group g c =
    let p = c.args.self.now in
    let adds = rw c.as_mut_slice.ensures.value at c.begin-stop.ensures.entries in
    picked_either c.args.pass p (begun_host p c.settle.new.history c.begin-stop.new.lanes c.settle.new.store c.begin-stop.new.flights)
    c.begin-stop.new.store.staged adds.0 c.begin-stop.ensures.few adds.1
    (subst (λ (entries : List Entry). (c.settle.new.history.items ≡ entries) ⊎ IsWritten entries c.settle.new.history.items c.begin-stop.new.store.staged) c.reserve.ensures.items c.settle.ensures.either)
