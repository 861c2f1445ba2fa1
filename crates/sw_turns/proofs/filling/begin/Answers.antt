-- A group begins with the event of the fetch that the pass has taken up, where it has.
use Rattle.std.proofs.Common.{◌≡◌, ◌∙◌, inl, inr, Err, ℕ, List, [], ◌∷◌, length, Option, Some, None, slice_get, slice_set, refl, sym, ap, subst, arith}
use Rattle.std.proofs.lemmas.List.{length-set}
use Rattle.std.specs.Option.{IfSome}
use Rattle.sw_data.specs.declared.events.Event.{Event}
use Rattle.sw_data.specs.declared.histories.Entry.{Entry}
use Rattle.sw_data.specs.declared.histories.Task.{Task}
use Rattle.sw_lane.specs.Picked.{in_flight, picked}
use Rattle.sw_lane.specs.declared.picks.Pick.TheVariants as pick
use Rattle.sw_lock.specs.Entries.{ThenOwn}
use Rattle.sw_turns.specs.Coming.{GrowsByPick}
use Rattle.sw_turns.specs.Flights.{Flies}
use Rattle.sw_turns.specs.Groups.{IsBarren, IsTaken, IsUnderWay, Stops}
use Rattle.sw_core.specs.Machines.{IsEventOf}
use Rattle.sw_turns.specs.Playing.{ComesByPick}
use Rattle.sw_turns.specs.declared.ends.Refusal.{Refusal}
use Rattle.sw_turns.specs.declared.ends.Stop.{Stop}
use Rattle.sw_turns.specs.declared.ends.Stop.TheVariants as stop
use Rattle.sw_turns.proofs.ComingLemmas.{of_turn_free, of_turn_landed, of_turn_none}
use Rattle.sw_turns.proofs.FlightLemmas.{free_due, set_else, set_same, set_there}
use Rattle.sw_turns.proofs.GroupLemmas.{barren_lacks, first_waits, further_own, next_of, stop_barren, stop_keeps, stop_leaves, stop_some, stop_stays}
use Rattle.sw_turns.specs.Ways.{recorded_way}
use Rattle.sw_state.specs.Hosted.{Hosted, state_of}
use Rattle.sw_turns.proofs.filling.begin.Goals as goal
use Rattle.sw_turns.proofs.filling.begin.Goals.{After-stop_by}

-- what stays where a pass lays down what it has taken up
same_else : (old middle new : List (Option Task)) (pass other : ℕ) → (middle ≡ slice_set old pass None) × (new ≡ middle) → (other ≡ pass → ⊥) → slice_get new other ≡ slice_get old other
same_else old middle new pass other is apart =
    ap (λ (all : List (Option Task)). slice_get all other) (is.1 ∙ is.0) ∙ set_else old pass other None apart

-- what a pass lays down and takes up leaves the others alone
others_stay : (old middle new : List (Option Task)) (pass other : ℕ) (stopped : Stop) → middle ≡ slice_set old pass None → IsTaken pass middle new stopped → (other ≡ pass → ⊥)
    → slice_get new other ≡ slice_get old other
others_stay old middle new pass other (stop.Fetch flown fetches) landed taken apart =
    ap (λ (all : List (Option Task)). slice_get all other) taken ∙ set_else middle pass other (Some flown) apart
    ∙ ap (λ (all : List (Option Task)). slice_get all other) landed ∙ set_else old pass other None apart
others_stay old middle new pass other stop.Whole landed taken apart = same_else old middle new pass other (landed, taken) apart
others_stay old middle new pass other stop.NoRoom landed taken apart = same_else old middle new pass other (landed, taken) apart
others_stay old middle new pass other stop.Idle landed taken apart = same_else old middle new pass other (landed, taken) apart
others_stay old middle new pass other stop.Done landed taken apart = same_else old middle new pass other (landed, taken) apart
others_stay old middle new pass other (stop.Stalled lane) landed taken apart = same_else old middle new pass other (landed, taken) apart
others_stay old middle new pass other (stop.Full happened from needed) landed taken apart = same_else old middle new pass other (landed, taken) apart
others_stay old middle new pass other stop.NoMemory landed taken apart = same_else old middle new pass other (landed, taken) apart

got : {X : Type 0} (o : Option X) (x : X) (P : X → Type 0) → o ≡ Some x → IfSome o P → P x
got o x P is holds = subst (λ (one : Option _). IfSome one P) is holds

none_of_them : {X : Type 0} (xs : List X) → length xs ≡ 0 → xs ≡ []
none_of_them [] is = refl
none_of_them (x ∷ xs) is = absurd cc

-- ---- with the event of the fetch

pub returns-in-Ok-clause-goes_on : goal.returns-in-Ok-clause-goes_on
returns-in-Ok-clause-goes_on c = λ recording base history same goes.
    let before : List (Option Task) = c.args.flights.now in
    let len : length c.landing.new.flights ≡ length before = ap length c.in-Ok-Some.ensures.landed ∙ length-set before c.args.pass None in
    subst (λ (workers : ℕ). Stops workers (recorded_way recording) base history c.fill.new.lanes c.fill.new.flights c.fill.new.store c.fill.result) len
    (c.fill.ensures.goes_on recording base history same
    (subst (λ (workers : ℕ). IsUnderWay workers (recorded_way recording) base history c.args.lanes.now c.enter.new.store) (sym len)
    (c.in-Ok.ensures.goes_on (length before) (recorded_way recording) base history c.args.lanes.now c.args.lanes.now c.requires.pass goes
    (next_of (length before) c.args.net.now c.args.lanes.now c.args.lanes.now c.core.result.now c.args.store.now c.in-Ok-Some.event c.core.ensures
    (got c.in-Ok-Some.field-0 c.in-Ok-Some.event (ComesByPick (length before) c.args.net.now c.args.lanes.now c.args.lanes.now (state_of c.core.result.now)) c.in-Ok-Some.field-0-is c.in-Ok-Some.ensures.next)
    recording base history same))))

pub returns-in-Ok-clause-others : goal.returns-in-Ok-clause-others
returns-in-Ok-clause-others c = λ other apart.
    others_stay c.args.flights.now c.landing.new.flights c.fill.new.flights c.args.pass other c.fill.result c.in-Ok-Some.ensures.landed c.fill.ensures.taken apart

pub returns-in-Ok-clause-own : goal.returns-in-Ok-clause-own
returns-in-Ok-clause-own c =
    subst (λ (none : List Entry). ThenOwn (λ (entry : Entry). entry.pass) c.args.pass none c.fill.new.store.staged) c.requires.none
    (further_own c.args.pass c.args.store.now.staged c.enter.new.store.staged c.fill.new.store.staged c.in-Ok.ensures.own c.fill.ensures.own)

pub returns-in-Ok-clause-first : goal.returns-in-Ok-clause-first
returns-in-Ok-clause-first c = λ flown flies.
    let first = c.in-Ok.ensures.entry in
    let gives = subst (λ (host : Hosted). IsEventOf c.args.net.now (state_of host) flown c.in-Ok-Some.event) c.core.ensures (got c.in-Ok-Some.field-0 c.in-Ok-Some.event (λ (event : Event). (flown : Task) → Flies c.args.flights.now c.args.pass flown → IsEventOf c.args.net.now (state_of c.core.result.now) flown event)
    c.in-Ok-Some.field-0-is c.in-Ok-Some.ensures.event flown flies) in
    inr (
      first.0,
      first_waits c.args.pass c.args.store.now.staged c.enter.new.store.staged c.fill.new.store.staged first.0 c.requires.none first.2 c.fill.ensures.own,
      subst (λ (happened : Event). IsEventOf c.args.net.now (state_of c.args.store.now.core) flown happened) (sym first.1) gives,
    )

pub returns-in-Ok-clause-entries : goal.returns-in-Ok-clause-entries
returns-in-Ok-clause-entries c =
    let grows = c.fill.ensures.grows in
    let busy : slice_get c.args.flights.now c.args.pass ≡ Some None → ⊥ =
    λ free. (let none : c.in-Ok-Some.field-0 ≡ None = c.in-Ok-Some.ensures.none.1 free in
    let some : c.in-Ok-Some.field-0 ≡ Some c.in-Ok-Some.event = c.in-Ok-Some.field-0-is in absurd cc) in (
      grows.0,
      of_turn_landed c.args.net.now c.args.flights.now c.args.lanes.now grows.0 c.args.pass c.args.store.now c.requires.none c.enter.new.store c.fill.new.store c.in-Ok-Some.event
          busy c.in-Ok.ensures.entry c.in-Ok.ensures.state
          (λ flown flies. subst (λ (host : Hosted). IsEventOf c.args.net.now (state_of host) flown c.in-Ok-Some.event) c.core.ensures
          (got c.in-Ok-Some.field-0 c.in-Ok-Some.event (λ (event : Event). (flown : Task) → Flies c.args.flights.now c.args.pass flown → IsEventOf c.args.net.now (state_of c.core.result.now) flown event)
          c.in-Ok-Some.field-0-is c.in-Ok-Some.ensures.event flown flies))
          (subst (λ (flights : List (Option Task)). GrowsByPick c.args.net.now flights c.args.lanes.now grows.0 c.enter.new.store c.fill.new.store) c.in-Ok-Some.ensures.landed grows.1),
      grows.2,
    )

-- ---- that event was refused

pub returns-in-Err-enter-clause-goes_on : goal.returns-in-Err-enter-clause-goes_on
returns-in-Err-enter-clause-goes_on c = λ recording base history same goes.
    let before : List (Option Task) = c.args.flights.now in
    stop_stays c.stop_by.result c.in-Err-enter.refusal c.stop_by.ensures (length before) (recorded_way recording) base history c.landing.new.flights c.enter.new.store c.args.lanes.now
    (c.in-Err-enter.ensures.goes_on (length before) (recorded_way recording) base history c.args.lanes.now c.args.lanes.now c.requires.pass goes
    (next_of (length before) c.args.net.now c.args.lanes.now c.args.lanes.now c.core.result.now c.args.store.now c.in-Ok-Some.event c.core.ensures
    (got c.in-Ok-Some.field-0 c.in-Ok-Some.event (ComesByPick (length before) c.args.net.now c.args.lanes.now c.args.lanes.now (state_of c.core.result.now)) c.in-Ok-Some.field-0-is c.in-Ok-Some.ensures.next)
    recording base history same))

pub returns-in-Err-enter-clause-due : goal.returns-in-Err-enter-clause-due
returns-in-Err-enter-clause-due c =
    free_due (state_of c.enter.new.store.core) c.args.lanes.now c.landing.new.flights c.args.pass
    (ap (λ (all : List (Option Task)). slice_get all c.args.pass) c.in-Ok-Some.ensures.landed ∙ set_there c.args.flights.now c.args.pass None c.requires.pass)

pub returns-in-Err-enter-clause-others : goal.returns-in-Err-enter-clause-others
returns-in-Err-enter-clause-others c = λ other apart.
    same_else c.args.flights.now c.landing.new.flights c.landing.new.flights c.args.pass other (c.in-Ok-Some.ensures.landed, refl) apart

pub returns-in-Err-enter-clause-leaves : goal.returns-in-Err-enter-clause-leaves
returns-in-Err-enter-clause-leaves c =
    stop_leaves c.stop_by.result c.in-Err-enter.refusal c.stop_by.ensures c.args.pass c.landing.new.flights c.args.lanes.now (state_of c.enter.new.store.core)
    (ap (λ (all : List (Option Task)). slice_get all c.args.pass) c.in-Ok-Some.ensures.landed ∙ set_there c.args.flights.now c.args.pass None c.requires.pass)

pub returns-in-Err-enter-clause-entries : goal.returns-in-Err-enter-clause-entries
returns-in-Err-enter-clause-entries c = (
  c.args.lanes.now,
  of_turn_none c.args.net.now (state_of c.args.store.now.core) c.args.flights.now c.args.lanes.now c.args.pass c.enter.new.store.staged
      (c.in-Err-enter.ensures.same ∙ c.requires.none),
  stop_keeps c.stop_by.result c.in-Err-enter.refusal c.stop_by.ensures c.args.lanes.now,
)

-- nothing waits, so it isn't want of room in the group
barren : (c : After-stop_by) → IsBarren c.stop_by.result
barren c =
    stop_barren c.stop_by.result c.in-Err-enter.refusal c.stop_by.ensures (c.in-Err-enter.ensures.alone c.requires.none)

pub returns-in-Err-enter-clause-some : goal.returns-in-Err-enter-clause-some
returns-in-Err-enter-clause-some c =
    stop_some c.stop_by.result c.in-Err-enter.refusal c.stop_by.ensures c.enter.new.store.staged
    (λ kept is. (c.in-Err-enter.ensures.no_room kept (ap (λ (why : Refusal). Err why) is)).1)

pub returns-in-Err-enter-clause-lacks : goal.returns-in-Err-enter-clause-lacks
returns-in-Err-enter-clause-lacks c =
    barren_lacks c.stop_by.result c.args.net.now c.args.lanes.now c.landing.new.flights c.enter.new.store (barren c)

pub returns-in-Err-enter-clause-first : goal.returns-in-Err-enter-clause-first
returns-in-Err-enter-clause-first c = λ flown flies. inl (barren c)

-- ---- without one

pub returns-in-Ok-None-clause-goes_on : goal.returns-in-Ok-None-clause-goes_on
returns-in-Ok-None-clause-goes_on c = λ recording base history same goes.
    let before : List (Option Task) = c.args.flights.now in
    let len : length c.landing.new.flights ≡ length before = ap length c.in-Ok-None.ensures.landed ∙ length-set before c.args.pass None in
    subst (λ (workers : ℕ). Stops workers (recorded_way recording) base history c.fill-in-Ok-None.new.lanes c.fill-in-Ok-None.new.flights c.fill-in-Ok-None.new.store c.fill-in-Ok-None.result) len
    (c.fill-in-Ok-None.ensures.goes_on recording base history same
    (subst (λ (workers : ℕ). IsUnderWay workers (recorded_way recording) base history c.args.lanes.now c.args.store.now) (sym len) goes))

pub returns-in-Ok-None-clause-others : goal.returns-in-Ok-None-clause-others
returns-in-Ok-None-clause-others c = λ other apart.
    others_stay c.args.flights.now c.landing.new.flights c.fill-in-Ok-None.new.flights c.args.pass other c.fill-in-Ok-None.result
    c.in-Ok-None.ensures.landed c.fill-in-Ok-None.ensures.taken apart

pub returns-in-Ok-None-clause-entries : goal.returns-in-Ok-None-clause-entries
returns-in-Ok-None-clause-entries c =
    let grows = c.fill-in-Ok-None.ensures.grows in
    let free : slice_get c.args.flights.now c.args.pass ≡ Some None = c.in-Ok-None.ensures.none.0 c.in-Ok-None.field-0-is in
    let same : c.landing.new.flights ≡ c.args.flights.now = c.in-Ok-None.ensures.landed ∙ set_same c.args.flights.now c.args.pass None free in (
      grows.0,
      of_turn_free c.args.net.now c.args.flights.now c.args.lanes.now grows.0 c.args.pass c.args.store.now c.requires.none c.fill-in-Ok-None.new.store free
          (subst (λ (flights : List (Option Task)). GrowsByPick c.args.net.now flights c.args.lanes.now grows.0 c.args.store.now c.fill-in-Ok-None.new.store) same grows.1),
      grows.2,
    )

pub returns-in-Ok-None-clause-idle : goal.returns-in-Ok-None-clause-idle
returns-in-Ok-None-clause-idle c =
    let free : slice_get c.args.flights.now c.args.pass ≡ Some None = c.in-Ok-None.ensures.none.0 c.in-Ok-None.field-0-is in
    let same : c.landing.new.flights ≡ c.args.flights.now = c.in-Ok-None.ensures.landed ∙ set_same c.args.flights.now c.args.pass None free in
    let IsIdle : List (Option Task) → Type 0 = λ flights. picked (state_of c.args.store.now.core) (in_flight flights) c.args.lanes.now ≡ pick.Idle in (
      λ both. (free, subst IsIdle same (c.fill-in-Ok-None.ensures.idle both.0 (ap length both.1 ∙ sym (ap length c.requires.none)))),
      λ both. (let at = c.fill-in-Ok-None.ensures.at_once (omega (arith, ap length c.requires.none)) (subst IsIdle (sym same) both.1) in
          (at.0, none_of_them c.fill-in-Ok-None.new.store.staged (at.1 ∙ ap length c.requires.none))),
    )

-- ---- there was no memory for that event

pub returns-in-Err-clause-entries : goal.returns-in-Err-clause-entries
returns-in-Err-clause-entries c = (
  c.args.lanes.now,
  of_turn_none c.args.net.now (state_of c.args.store.now.core) c.args.flights.now c.args.lanes.now c.args.pass c.args.store.now.staged c.requires.none,
  tt,
)
