-- What passes have taken up: it stays ready until its own event, and no two passes take up the same.
use Rattle.std.proofs.Common.{◌≡◌, ◌∙◌, ℕ, zero, suc, ◌<◌, Bool, true, false, not, ◌==◌, List, [], ◌∷◌, length, slice_get, slice_set, Option, Some, None, Result, Ok, Err, IfOk, option_map, refl, sym, ap, subst, arith}
use Rattle.std.specs.List.{list_all, list_any}
use Rattle.std.specs.Prelude.{option_and_then}
use Rattle.std.proofs.lemmas.Bool.Decides.{nat_tests}
use Rattle.std.proofs.lemmas.List.{length-set, set-set}
use Rattle.std.proofs.lemmas.Option.{slice_get_within}
use Rattle.sw_data.specs.declared.events.Event.{Event}
use Rattle.sw_data.specs.declared.events.Event.TheVariants as event
use Rattle.sw_data.specs.declared.events.Who.{Who}
use Rattle.sw_data.specs.declared.events.Who.TheVariants as who
use Rattle.sw_data.specs.declared.histories.Task.{Task}
use Rattle.sw_data.specs.declared.histories.Task.TheVariants as task
use Rattle.sw_data.specs.declared.recordings.Action.{Action}
use Rattle.sw_data.specs.declared.recordings.Action.TheVariants as action
use Rattle.sw_data.specs.declared.recordings.Call.{Call}
use Rattle.sw_data.specs.declared.recordings.FetchLine.{FetchLine}
use Rattle.sw_data.specs.declared.recordings.Recording.{Recording}
use Rattle.sw_data.specs.declared.rows.JobRow.{JobRow}
use Rattle.sw_data.specs.Events.{event_of_action}
use Rattle.sw_lane.specs.Left.{Left}
use Rattle.sw_lane.specs.Picked.{in_flight, is_fetch, is_task, picked}
use Rattle.sw_lane.specs.declared.picks.Pick.TheVariants as pick
use Rattle.sw_lane.specs.declared.picks.Work.TheVariants as work
use Rattle.sw_laws.specs.Coherent.{Coherent}
use Rattle.sw_laws.specs.Laws.{ends_add_all, ends_fetch, is_fetching_job}
use Rattle.sw_laws.proofs.FetchesStay.{fetches_stay}
use Rattle.sw_laws.proofs.Lists.{by_truth, find_passes}
use Rattle.sw_rules.specs.Rows.{free_handler, is_in_phase, is_fetching, job_row, task_row}
use Rattle.sw_rules.specs.State.{State, AddAll, Handler}
use Rattle.sw_rules.specs.Step.{state_after}
use Rattle.sw_rules.specs.Tasks.{add_all_lines, call_or, event_of, handler_event, job_line, next_call, ready_tasks}
use Rattle.sw_turns.specs.Flights.{AreInFlight, Flies, IsDue, Spares, ends}
use Rattle.sw_core.specs.Machines.{IsEventOf}
use Rattle.sw_turns.proofs.NextLemmas.{left_picked, picked_task}
use Rattle.sw_core.proofs.ReadyLemmas.{add_all_fetch_ready, any_job, script_fetch_ready, turned}
use Rattle.sw_turns.proofs.ReadyLemmas.{add_all_is_ready, script_is_ready}

-- ---- places

module _ {X : Type 0} where
  -- what stands at a place stays there
  pub set_same : (xs : List X) (i : ℕ) (x : X) → slice_get xs i ≡ Some x → slice_set xs i x ≡ xs
  set_same [] i x is = refl
  set_same (y ∷ ys) zero x is = let same : y ≡ x = cc in ap (λ (first : X). first ∷ ys) (sym same)
  set_same (y ∷ ys) (suc i) x is = ap (λ (rest : List X). y ∷ rest) (set_same ys i x is)

  pub set_there : (xs : List X) (i : ℕ) (x : X) → i < length xs → slice_get (slice_set xs i x) i ≡ Some x
  set_there [] i x below = absurd (omega (arith, below))
  set_there (y ∷ ys) zero x below = refl
  set_there (y ∷ ys) (suc i) x below = set_there ys i x (omega (arith, below))

  pub set_else : (xs : List X) (i j : ℕ) (x : X) → (j ≡ i → ⊥) → slice_get (slice_set xs i x) j ≡ slice_get xs j
  set_else [] i j x apart = refl
  set_else (y ∷ ys) zero zero x apart = absurd (apart refl)
  set_else (y ∷ ys) zero (suc j) x apart = refl
  set_else (y ∷ ys) (suc i) zero x apart = refl
  set_else (y ∷ ys) (suc i) (suc j) x apart = set_else ys i j x (λ same. apart (ap suc same))

  -- what was put at a place is taken off again
  pub set_back : (xs : List X) (i : ℕ) (old new : X) → slice_get xs i ≡ Some old → slice_set (slice_set xs i new) i old ≡ xs
  set_back xs i old new is = set-set xs i new old ∙ set_same xs i old is

-- one place alone
pub only_place : {X : Type 0} (xs : List X) (i : ℕ) (x : X) → length xs ≡ 1 → slice_get xs i ≡ Some x → i ≡ 0
only_place [] i x one is = absurd cc
only_place (y ∷ ys) zero x one is = refl
only_place (y ∷ []) (suc i) x one is = absurd cc
only_place (y ∷ z ∷ zs) (suc i) x one is = absurd (omega (arith, one))

-- ---- what passes have taken up, as one list

-- nothing is in flight where the one pass has taken up nothing
pub none_flies : (flights : List (Option Task)) (pass : ℕ) → slice_get flights pass ≡ Some None → length flights ≡ 1 → in_flight flights ≡ []
none_flies [] pass free one = absurd cc
none_flies (taken ∷ []) zero free one =
    let none : taken ≡ None = cc in
    ap (λ (o : Option Task). in_flight (o ∷ [])) none
none_flies (taken ∷ []) (suc pass) free one = absurd cc
none_flies (taken ∷ other ∷ rest) pass free one = absurd (omega (arith, one))

flies_among : (test : Task → Bool) (flights : List (Option Task)) (pass : ℕ) (flown : Task) → Flies flights pass flown → test flown ≡ true → list_any test (in_flight flights) ≡ true
flies_among test [] pass flown flies is = absurd cc
flies_among test (None ∷ rest) zero flown flies is = absurd cc
flies_among test (Some one ∷ rest) zero flown flies is = let same : one ≡ flown = cc in grind (arith, is, same)
flies_among test (None ∷ rest) (suc pass) flown flies is = flies_among test rest pass flown flies is
flies_among test (Some one ∷ rest) (suc pass) flown flies is = grind (arith, flies_among test rest pass flown flies is)

all_fly : (test : Task → Bool) (flights : List (Option Task)) (pass : ℕ) (flown : Task) → list_all test (in_flight flights) ≡ true → Flies flights pass flown → test flown ≡ true
all_fly test [] pass flown all flies = absurd cc
all_fly test (None ∷ rest) zero flown all flies = absurd cc
all_fly test (Some one ∷ rest) zero flown all flies = let same : one ≡ flown = cc in grind (arith, all, same)
all_fly test (None ∷ rest) (suc pass) flown all flies = all_fly test rest pass flown all flies
all_fly test (Some one ∷ rest) (suc pass) flown all flies = all_fly test rest pass flown (grind (arith, all)) flies

all_landed : (test : Task → Bool) (flights : List (Option Task)) (pass : ℕ) → list_all test (in_flight flights) ≡ true → list_all test (in_flight (slice_set flights pass None)) ≡ true
all_landed test [] pass all = all
all_landed test (None ∷ rest) zero all = all
all_landed test (Some one ∷ rest) zero all = grind (arith, all)
all_landed test (None ∷ rest) (suc pass) all = all_landed test rest pass all
all_landed test (Some one ∷ rest) (suc pass) all = grind (arith, all, all_landed test rest pass)

all_taken : (test : Task → Bool) (flights : List (Option Task)) (pass : ℕ) (flown : Task) → list_all test (in_flight flights) ≡ true → test flown ≡ true → list_all test (in_flight (slice_set flights pass (Some flown))) ≡ true
all_taken test [] pass flown all is = all
all_taken test (None ∷ rest) zero flown all is = grind (arith, all, is)
all_taken test (Some one ∷ rest) zero flown all is = grind (arith, all, is)
all_taken test (None ∷ rest) (suc pass) flown all is = all_taken test rest pass flown all is
all_taken test (Some one ∷ rest) (suc pass) flown all is = grind (arith, all, all_taken test rest pass flown (grind (arith, all)) is)

-- ---- fetches that are taken up and landed

task_turned : (one two : Task) → is_task one two ≡ true → is_task two one ≡ true
task_turned (task.Run one) (task.Run two) is = turned two one ∙ is
task_turned (task.Fetch one) (task.Fetch two) is = turned two one ∙ is
task_turned (task.FetchAll one) (task.FetchAll two) is = turned two one ∙ is
task_turned (task.Evaluate one) (task.Evaluate two) is = turned two one ∙ is
task_turned (task.Install one) (task.Install two) is = turned two one ∙ is
task_turned (task.TryActivate one) (task.TryActivate two) is = turned two one ∙ is
task_turned (task.Activate one) (task.Activate two) is = turned two one ∙ is
task_turned one two is = absurd cc

same_place : (here there : ℕ) {P : Type 0} → (here ≡ there → P) → ((here ≡ there → ⊥) → P) → P
same_place here there one other =
    by_truth (here == there) (λ is. one (grind (arith, nat_tests, is))) (λ is. other (λ same. grind (arith, nat_tests, is, same)))

module _ (state : State) (flights : List (Option Task)) (flying : AreInFlight state flights) (pass : ℕ) where
  -- another pass that has taken up something did so before
  landed_before : (other : ℕ) (flown : Task) → pass < length flights → Flies (slice_set flights pass None) other flown → (other ≡ pass → ⊥) × Flies flights other flown
  landed_before other flown below flies =
      same_place other pass
      (λ same. absurd (let free = set_there flights pass None below in
      let here : slice_get (slice_set flights pass None) pass ≡ Some (Some flown) = ap (slice_get (slice_set flights pass None)) (sym same) ∙ flies in cc))
      (λ apart. (apart, sym (set_else flights pass other None apart) ∙ flies))

  -- a pass has landed
  pub landed_stay : pass < length flights → AreInFlight state (slice_set flights pass None)
  landed_stay below = record {
    few = omega (arith, flying.few, length-set flights pass None);
    fetches = all_landed is_fetch flights pass flying.fetches;
    ready = λ other flown flies. flying.ready other flown (landed_before other flown below flies).1;
    apart = λ one two first second flies too same.
        flying.apart one two first second (landed_before one first below flies).1 (landed_before two second below too).1 same;
  }

  module _ (taking : Task) (free : slice_get flights pass ≡ Some None) (fetch : is_fetch taking ≡ true) (lanes : List Left) (is : picked state (in_flight flights) lanes ≡ pick.Work (work.Task taking)) where
    not_flying : (other : ℕ) (flown : Task) → Flies flights other flown → is_task taking flown ≡ true → ⊥
    not_flying other flown flies same =
        let left : not (list_any (is_task taking) (in_flight flights)) ≡ true =
        find_passes (λ ready. not (list_any (is_task ready) (in_flight flights))) (ready_tasks state) taking (left_picked state (in_flight flights) lanes taking is) in
        grind (arith, left, flies_among (is_task taking) flights other flown flies same)

    within : pass < length flights
    within = slice_get_within flights pass None free

    abbrev now : List (Option Task)
    now = slice_set flights pass (Some taking)

    taking_there : (flown : Task) → slice_get now pass ≡ Some (Some flown) → flown ≡ taking
    taking_there flown flies =
        let here : slice_get now pass ≡ Some (Some taking) = set_there flights pass (Some taking) within in
        let both : Some (Some flown) ≡ Some (Some taking) = sym flies ∙ here in
        cc

    -- what flies now is what was taken up, or flew before
    flies_now : {P : Type 0} (other : ℕ) (flown : Task) → Flies now other flown → (other ≡ pass → flown ≡ taking → P) → (Flies flights other flown → P) → P
    flies_now other flown flies mine others =
        same_place other pass
        (λ same. mine same (taking_there flown (ap (slice_get now) (sym same) ∙ flies)))
        (λ apart. others (sym (set_else flights pass other (Some taking) apart) ∙ flies))

    -- a pass has taken up what was picked
    pub taken_fly : AreInFlight state now
    taken_fly = record {
      few = omega (arith, flying.few, length-set flights pass (Some taking));
      fetches = all_taken is_fetch flights pass taking flying.fetches fetch;
      ready = λ other flown flies.
          flies_now other flown flies
          (λ same one. subst (λ (t : Task). list_any (is_task t) (ready_tasks state) ≡ true) (sym one) (picked_task state (in_flight flights) lanes taking is))
          (λ before. flying.ready other flown before);
      apart = λ one two first second flies too same.
          flies_now one first flies
          (λ here its.
          flies_now two second too (λ there other. here ∙ sym there)
          (λ before. absurd (not_flying two second before (subst (λ (t : Task). is_task t second ≡ true) its same))))
          (λ before.
          flies_now two second too
          (λ there other. absurd (not_flying one first before (task_turned first taking (subst (λ (t : Task). is_task first t ≡ true) other same))))
          (λ was. flying.apart one two first second before was same));
    }

    -- with one worker it is what the pick order has next
    pub taken_due : IsDue state lanes now
    taken_due = λ one flown flies.
        let alone : length flights ≡ 1 = sym (length-set flights pass (Some taking)) ∙ one in
        let at : pass ≡ 0 = only_place flights pass None alone free in
        let its : flown ≡ taking = taking_there flown (ap (slice_get now) at ∙ flies) in
        subst (λ (t : Task). picked state [] lanes ≡ pick.Work (work.Task t)) (sym its)
        (subst (λ (all : List Task). picked state all lanes ≡ pick.Work (work.Task taking)) (none_flies flights pass free alone) is)

-- where a pass has taken up nothing, one worker alone has taken up nothing
pub free_due : (state : State) (lanes : List Left) (flights : List (Option Task)) (pass : ℕ) → slice_get flights pass ≡ Some None → IsDue state lanes flights
free_due state lanes flights pass free = λ one flown flies.
    let at : pass ≡ 0 = only_place flights pass None one free in
    let both : Some (Some flown) ≡ Some None = sym flies ∙ ap (slice_get flights) (sym at) ∙ free in
    absurd cc

-- ---- events that end no fetch that is in flight

ends_script : (happened : Event) (job : ℕ) → ends happened (task.Fetch job) ≡ ends_fetch job happened
ends_script (event.Fetched maker other line) job = refl
ends_script _ job = refl

ends_fetches : (happened : Event) (number : ℕ) → ends happened (task.FetchAll number) ≡ ends_add_all number happened
ends_fetches (event.Added maker other lines) number = refl
ends_fetches _ number = refl

ready_stays : (state : State) (happened : Event) (flown : Task) → Coherent state → is_fetch flown ≡ true → ends happened flown ≡ false
    → list_any (is_task flown) (ready_tasks state) ≡ true → list_any (is_task flown) (ready_tasks (state_after state happened)) ≡ true
ready_stays state happened (task.Fetch job) sound fetch spares is =
    let fetching : is_fetching_job state job ≡ true = any_job task.Fetch (is_in_phase is_fetching) state job (λ n. refl) (script_fetch_ready state job is) in
    script_is_ready (state_after state happened) job (fetches_stay.jobs state happened job sound (sym (ends_script happened job) ∙ spares) fetching)
ready_stays state happened (task.FetchAll number) sound fetch spares is =
    add_all_is_ready (state_after state happened) number
    (fetches_stay.tasks state happened number sound (sym (ends_fetches happened number) ∙ spares) (add_all_fetch_ready state number is))
ready_stays state happened _ sound fetch spares is = absurd cc

-- what an event spares stays in flight
pub spared_fly : (state : State) (happened : Event) (flights : List (Option Task)) → Coherent state → Spares happened flights → AreInFlight state flights
    → AreInFlight (state_after state happened) flights
spared_fly state happened flights sound spares flying = record {
  few = flying.few;
  fetches = flying.fetches;
  ready = λ pass flown flies.
      ready_stays state happened flown sound (all_fly is_fetch flights pass flown flying.fetches flies) (spares pass flown flies) (flying.ready pass flown flies);
  apart = flying.apart;
}

action_ends_none : (maker : Who) (happened : Action) (flown : Task) → ends (event_of_action maker happened) flown ≡ false
unfolding event_of_action
action_ends_none maker (action.Open client url partition) flown = refl
action_ends_none maker _ flown = refl

-- an action ends no fetch
pub action_spares : (happened : Event) (maker : Who) (taking : Action) (flights : List (Option Task)) → happened ≡ event_of_action maker taking → Spares happened flights
action_spares happened maker taking flights is = λ pass flown flies. ap (λ (e : Event). ends e flown) is ∙ action_ends_none maker taking flown

module _ (recording : Recording) (state : State) (flown : Task) where
  is_given : (given happened : Event) (same : Bool) → Some given ≡ Some happened → ends given flown ≡ same → ends happened flown ≡ same
  is_given given happened same is fine = let one : given ≡ happened = cc in subst (λ (e : Event). ends e flown ≡ same) one fine

  mapped_given : {X : Type 0} (make : X → Event) (got : Option X) (happened : Event) (same : Bool) → option_map make got ≡ Some happened → ((x : X) → ends (make x) flown ≡ same) → ends happened flown ≡ same
  mapped_given make None happened same is fine = absurd cc
  mapped_given make (Some x) happened same is fine = is_given (make x) happened same is (fine x)

  handled_none : (end : Event) (worker : ℕ) (row : Handler) → ends end flown ≡ false → ends (call_or state end worker row) flown ≡ false
  handled_none end worker row fine = by (next_call state worker row)
    where
      by : (next : Option Call) → ends (elim next [ Some called ↦ event.Call (who.Handler worker row.phase row.made) called | None ↦ end ]) flown ≡ false
      by None = fine
      by (Some called) = refl

  installed_none : (job : ℕ) (happened : Event) (made : Option ℕ) → option_and_then (handler_event state (event.Installed who.Host job)) made ≡ Some happened → ends happened flown ≡ false
  installed_none job happened None is = absurd cc
  installed_none job happened (Some worker) is =
      mapped_given (call_or state (event.Installed who.Host job) worker) (free_handler state worker) happened false is
      (λ row. handled_none (event.Installed who.Host job) worker row refl)

  plain_ends_none : (ready : Task) (happened : Event) → is_fetch ready ≡ false → event_of recording state ready ≡ Some happened → ends happened flown ≡ false
  plain_ends_none (task.Run job) happened plain is = is_given (event.Run who.Host job) happened false is refl
  plain_ends_none (task.Fetch job) happened plain is = absurd cc
  plain_ends_none (task.FetchAll number) happened plain is = absurd cc
  plain_ends_none (task.Evaluate job) happened plain is = is_given (event.Evaluated who.Host job) happened false is refl
  plain_ends_none (task.Install job) happened plain is = installed_none job happened (option_and_then (λ (row : JobRow). row.worker) (job_row state job)) is
  plain_ends_none (task.TryActivate registration) happened plain is = is_given (event.TryActivate who.Host registration) happened false is refl
  plain_ends_none (task.Activate worker) happened plain is =
      mapped_given (call_or state (event.Activated who.Host worker) worker) (free_handler state worker) happened false is
      (λ row. handled_none (event.Activated who.Host worker) worker row refl)

  fetched_ends : (job : ℕ) (line : Option FetchLine) (other : Task) → ends (event.Fetched who.Host job line) other ≡ is_task (task.Fetch job) other
  fetched_ends job line (task.Fetch other) = refl
  fetched_ends job line _ = refl

  added_ends : (number : ℕ) (lines : List (Option FetchLine)) (other : Task) → ends (event.Added who.Host number lines) other ≡ is_task (task.FetchAll number) other
  added_ends number lines (task.FetchAll other) = refl
  added_ends number lines _ = refl

  -- the event of a fetch ends that fetch alone
  fetch_ends : (ready : Task) (happened : Event) → is_fetch ready ≡ true → event_of recording state ready ≡ Some happened → ends happened flown ≡ is_task ready flown
  fetch_ends (task.Fetch job) happened fetch is =
      mapped_given (λ (row : JobRow). event.Fetched who.Host job (job_line recording row)) (job_row state job) happened (is_task (task.Fetch job) flown) is
      (λ row. fetched_ends job (job_line recording row) flown)
  fetch_ends (task.FetchAll number) happened fetch is =
      mapped_given (λ (of : AddAll). event.Added who.Host number (add_all_lines recording of)) (task_row state number) happened (is_task (task.FetchAll number) flown) is
      (λ of. added_ends number (add_all_lines recording of) flown)
  fetch_ends _ happened fetch is = absurd cc

abbrev any_with : List FetchLine → Recording
any_with lines = record { fetches = lines; lanes = [] }

-- the event of a task that is no fetch ends none
pub plain_spares : (lines : List FetchLine) (state : State) (ready : Task) (happened : Event) (flights : List (Option Task)) → is_fetch ready ≡ false → IsEventOf lines state ready happened → Spares happened flights
plain_spares lines state ready happened flights plain gives = λ pass flown flies. plain_ends_none (any_with lines) state flown ready happened plain (gives (any_with lines) refl)

-- the same where there is memory for the event
pub plain_spares_on : {E : Type 0} (result : Result Event E) (lines : List FetchLine) (state : State) (ready : Task) (flights : List (Option Task)) → is_fetch ready ≡ false
    → IfOk result (IsEventOf lines state ready) → IfOk result (λ happened. Spares happened flights)
plain_spares_on (Err why) lines state ready flights plain gives = tt
plain_spares_on (Ok happened) lines state ready flights plain gives = plain_spares lines state ready happened flights plain gives

-- the event of a fetch that a pass has taken up ends none of another
pub landing_spares : (lines : List FetchLine) (state : State) (flights : List (Option Task)) (pass : ℕ) (ready : Task) (happened : Event) → AreInFlight state flights → pass < length flights
    → Flies flights pass ready → IsEventOf lines state ready happened → Spares happened (slice_set flights pass None)
landing_spares lines state flights pass ready happened flying below its gives = λ other flown flies.
    let before = landed_before state flights flying pass other flown below flies in
    let alike : ends happened flown ≡ is_task ready flown =
    fetch_ends (any_with lines) state flown ready happened (all_fly is_fetch flights pass ready flying.fetches its) (gives (any_with lines) refl) in
    by_truth (ends happened flown)
    (λ is. absurd (before.0 (sym (flying.apart pass other ready flown its before.1 (sym alike ∙ is)))))
    (λ is. is)

-- what a pass has taken up is what the pick order has next, where it is the only one
pub due_alone : (state : State) (lanes : List Left) (flights : List (Option Task)) (pass : ℕ) (flown : Task) → IsDue state lanes flights → Flies flights pass flown
    → length flights ≡ 1 → picked state [] lanes ≡ pick.Work (work.Task flown)
due_alone state lanes flights pass flown due its = λ one. due one flown (ap (slice_get flights) (sym (only_place flights pass (Some flown) one its)) ∙ its)

-- a pass has taken up one task
pub flies_alike : (flights : List (Option Task)) (pass : ℕ) (one other : Task) → Flies flights pass one → Flies flights pass other → one ≡ other
flies_alike flights pass one other its too =
    let both : Some (Some one) ≡ Some (Some other) = sym its ∙ too in
    cc

-- a pass that has taken up a task isn't free
pub flies_not_free : (flights : List (Option Task)) (pass : ℕ) (flown : Task) → Flies flights pass flown → slice_get flights pass ≡ Some None → ⊥
flies_not_free flights pass flown its free =
    let both : Some (Some flown) ≡ Some None = sym its ∙ free in
    absurd cc
