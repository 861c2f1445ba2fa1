-- What comes next: the next entry in the pick order, which follows the recording.
use Rattle.std.proofs.Common.{◌≡◌, ◌∙◌, ℕ, ◌<◌, ◌==◌, Bool, true, false, List, [], ◌∷◌, ◌++◌, length, Option, Some, None, Result, Ok, Err, IfOk, option_map, refl, sym, ap, subst, arith, if◌then◌else◌}
use Rattle.std.specs.List.{list_any}
use Rattle.std.specs.Option.{option_map_or}
use Rattle.std.specs.Prelude.{is_some, option_and_then}
use Rattle.std.proofs.lemmas.List.Elements.{All-push}
use Rattle.sw_data.specs.declared.events.Event.{Event}
use Rattle.sw_data.specs.declared.events.Event.TheVariants as event
use Rattle.sw_data.specs.declared.events.Who.{Who}
use Rattle.sw_data.specs.declared.events.Who.TheVariants as who
use Rattle.sw_data.specs.declared.histories.Entry.{Entry}
use Rattle.sw_data.specs.declared.histories.Task.{Task}
use Rattle.sw_data.specs.declared.histories.Task.TheVariants as task
use Rattle.sw_data.specs.declared.recordings.Action.{Action}
use Rattle.sw_data.specs.declared.recordings.Call.{Call}
use Rattle.sw_data.specs.declared.recordings.FetchLine.{FetchLine}
use Rattle.sw_data.specs.declared.recordings.Place.{Place}
use Rattle.sw_data.specs.declared.recordings.Recording.{Recording}
use Rattle.sw_data.specs.declared.rows.JobRow.{JobRow}
use Rattle.sw_data.specs.declared.storage.Kept.{Kept}
use Rattle.sw_data.specs.Events.{event_of_action, is_lane, who_of}
use Rattle.sw_lane.specs.declared.picks.Pick.TheVariants as pick
use Rattle.sw_lane.specs.declared.picks.Work.{Work}
use Rattle.sw_lane.specs.declared.picks.Work.TheVariants as work
use Rattle.sw_lane.specs.Left.{Left, action_of, at_of, numbers, taken}
use Rattle.sw_lane.specs.Picked.{in_flight, is_fetch, is_ready, is_task, lane_left, picked, ready_lane, task_left}
use Rattle.sw_lane.specs.Recorded.{AreLanesOf}
use Rattle.sw_lane.proofs.ActionEvents.{lines_of_action, unforced, who_of-event_of_action}
use Rattle.sw_lane.proofs.Following.{goes_on, next_is, stays}
use Rattle.sw_lane.proofs.Saying.{says}
use Rattle.sw_laws.specs.Coherent.{Coherent}
use Rattle.sw_laws.proofs.Lists.{find_passes}
use Rattle.sw_turns.specs.Coming.{IsPickedNext}
use Rattle.sw_core.specs.Machines.{IsEventOf}
use Rattle.sw_turns.specs.Playing.{ComesByPick, ComesNext, IsSoFar}
use Rattle.sw_turns.specs.Ways.{HasNextByPick, IsNext, IsOne, IsOneOf, Way}
use Rattle.sw_core.proofs.FetchLemmas.{comes_enabled}
use Rattle.sw_turns.proofs.ReadyLemmas.{found_ready}
use Rattle.sw_rules.specs.History.{IsStep, after, moved}
use Rattle.sw_rules.specs.Picks.{HasLines, IsFollowing, IsNextOfLane, IsRecorded, is_host_forget}
use Rattle.sw_rules.specs.Recordings.{recorded_event}
use Rattle.sw_rules.specs.Rows.{free_handler, job_row, task_row}
use Rattle.sw_rules.specs.State.{State, AddAll, Handler}
use Rattle.sw_rules.specs.Step.{Step, enabled, state_after, step}
use Rattle.sw_rules.specs.Tasks.{add_all_lines, call_or, event_of, handler_event, job_line, next_call, ready_tasks}
use Rattle.sw_rules.specs.Told.{Outcome}
use Rattle.sw_rules.proofs.HistoryLemmas.{EachLater-snoc, Legal-snoc, after-snoc}
use Rattle.sw_store.specs.Groups.{IsEntry}

-- ---- what was picked

-- nothing is done at rest
never_at_rest : (empty : Bool) (left : Option ℕ) (of : Work) → (if empty then option_map_or pick.Stalled left pick.Done else pick.Idle) ≡ pick.Work of → ⊥
never_at_rest true None of is = absurd cc
never_at_rest true (Some lane) of is = absurd cc
never_at_rest false left of is = absurd cc

action_picked : (lanes : List Left) (lane at : ℕ) (ready : Option ℕ) (left : Option Task) (empty : Bool) (stalled : Option ℕ)
    → option_map_or (λ n. pick.Work (work.Action n (at_of lanes n))) ready
    (option_map_or (λ one. pick.Work (work.Task one)) left (if empty then option_map_or pick.Stalled stalled pick.Done else pick.Idle)) ≡ pick.Work (work.Action lane at)
    → (ready ≡ Some lane) × (at ≡ at_of lanes lane)
action_picked lanes lane at (Some n) left empty stalled is =
    let one : n ≡ lane = cc in
    let other : at_of lanes n ≡ at = cc in
    (ap (λ (k : ℕ). Some k) one, sym other ∙ ap (at_of lanes) one)
action_picked lanes lane at None (Some one) empty stalled is = absurd cc
action_picked lanes lane at None None empty stalled is = absurd (never_at_rest empty stalled (work.Action lane at) is)

task_picked : (lanes : List Left) (ready : Option ℕ) (left : Option Task) (empty : Bool) (stalled : Option ℕ) (one : Task)
    → option_map_or (λ n. pick.Work (work.Action n (at_of lanes n))) ready
    (option_map_or (λ other. pick.Work (work.Task other)) left (if empty then option_map_or pick.Stalled stalled pick.Done else pick.Idle)) ≡ pick.Work (work.Task one)
    → left ≡ Some one
task_picked lanes (Some n) left empty stalled one is = absurd cc
task_picked lanes None (Some other) empty stalled one is = let same : other ≡ one = cc in ap (λ (t : Task). Some t) same
task_picked lanes None None empty stalled one is = absurd (never_at_rest empty stalled (work.Task one) is)

-- what may happen next in a lane is there
there : {X Y : Type 0} (test : Y → Bool) (f : X → Y) (got : Option X) → option_map_or test (option_map f got) false ≡ true → is_some got ≡ true
there test f None is = absurd cc
there test f (Some x) is = refl

may_happen : {X Y : Type 0} (test : Y → Bool) (f : X → Y) (got : Option X) (x : X) → option_map_or test (option_map f got) false ≡ true → got ≡ Some x → test (f x) ≡ true
may_happen test f got x is same = sym (ap (λ (o : Option _). option_map_or test (option_map f o) false) same) ∙ is

module _ (state : State) (in_flight : List Task) (lanes : List Left) where
  lane_picked : (lane at : ℕ) → picked state in_flight lanes ≡ pick.Work (work.Action lane at) → (ready_lane state lanes ≡ Some lane) × (at ≡ at_of lanes lane)
  lane_picked lane at is = action_picked lanes lane at (ready_lane state lanes) (task_left state in_flight) (length in_flight == 0) (lane_left lanes) is

  is_picked_ready : (lane at : ℕ) → picked state in_flight lanes ≡ pick.Work (work.Action lane at) → is_ready state lanes lane ≡ true
  is_picked_ready lane at is = find_passes (is_ready state lanes) (numbers lanes) lane (lane_picked lane at is).0

  -- the lane that is picked has an action left
  pub picked_left : (lane at : ℕ) → picked state in_flight lanes ≡ pick.Work (work.Action lane at) → is_some (action_of lanes lane) ≡ true
  picked_left lane at is = there (enabled state) (event_of_action (who.Lane lane (at_of lanes lane))) (action_of lanes lane) (is_picked_ready lane at is)

  -- and that action may happen
  pub picked_enabled : (lane at : ℕ) (happened : Action) → picked state in_flight lanes ≡ pick.Work (work.Action lane at) → action_of lanes lane ≡ Some happened
      → enabled state (event_of_action (who.Lane lane at) happened) ≡ true
  picked_enabled lane at happened is got =
      subst (λ (k : ℕ). enabled state (event_of_action (who.Lane lane k) happened) ≡ true) (sym (lane_picked lane at is).1)
      (may_happen (enabled state) (event_of_action (who.Lane lane (at_of lanes lane))) (action_of lanes lane) happened (is_picked_ready lane at is) got)

  -- the task that is picked is the first ready one that isn't in flight
  pub left_picked : (one : Task) → picked state in_flight lanes ≡ pick.Work (work.Task one) → task_left state in_flight ≡ Some one
  left_picked one is = task_picked lanes (ready_lane state lanes) (task_left state in_flight) (length in_flight == 0) (lane_left lanes) one is

  -- the task that is picked is ready
  pub picked_task : (one : Task) → picked state in_flight lanes ≡ pick.Work (work.Task one) → list_any (is_task one) (ready_tasks state) ≡ true
  picked_task one is = found_ready _ (ready_tasks state) one (left_picked one is)

-- ---- actions and tasks as entries

-- own: an event that no lane made, with the recorded lines
pub record IsOfHost (recording : Recording) (state : State) (happened : Event) : Type 0 where
  pub free : is_lane (who_of happened) ≡ false
  pub lines : HasLines recording state happened
  pub unforced : is_host_forget happened ≡ false

module _ (recording : Recording) (state : State) where
  is_given : (given happened : Event) → Some given ≡ Some happened → IsOfHost recording state given → IsOfHost recording state happened
  is_given given happened is fine = let same : given ≡ happened = cc in subst (λ (e : Event). IsOfHost recording state e) same fine

  handled : (end happened : Event) (worker : ℕ) (row : Option Handler) → IsOfHost recording state end → option_map (call_or state end worker) row ≡ Some happened → IsOfHost recording state happened
  unfolding who_of
  handled end happened worker None fine is = absurd cc
  handled end happened worker (Some row) fine is = is_given (call_or state end worker row) happened is (by (next_call state worker row))
    where
      by : (next : Option Call) → IsOfHost recording state (elim next [ Some called ↦ event.Call (who.Handler worker row.phase row.made) called | None ↦ end ])
      by None = fine
      by (Some called) = record { free = refl; lines = tt; unforced = refl }

  fetched_lines : (job : ℕ) (happened : Event) (row : Option JobRow) → job_row state job ≡ row → option_map (λ of_job. event.Fetched who.Host job (job_line recording of_job)) row ≡ Some happened → IsOfHost recording state happened
  unfolding who_of
  fetched_lines job happened None found is = absurd cc
  fetched_lines job happened (Some row) found is =
      is_given (event.Fetched who.Host job (job_line recording row)) happened is (record {
        free = refl;
        lines = sym (ap (option_and_then (job_line recording)) found);
        unforced = refl;
      })

  added_lines : (number : ℕ) (happened : Event) (row : Option AddAll) → task_row state number ≡ row → option_map (λ of. event.Added who.Host number (add_all_lines recording of)) row ≡ Some happened → IsOfHost recording state happened
  unfolding who_of
  added_lines number happened None found is = absurd cc
  added_lines number happened (Some row) found is =
      is_given (event.Added who.Host number (add_all_lines recording row)) happened is (record {
        free = refl;
        lines = sym (ap (option_map (add_all_lines recording)) found);
        unforced = refl;
      })

  installed_lines : (job : ℕ) (happened : Event) (made : Option ℕ) → option_and_then (handler_event state (event.Installed who.Host job)) made ≡ Some happened → IsOfHost recording state happened
  unfolding who_of
  installed_lines job happened None is = absurd cc
  installed_lines job happened (Some worker) is =
      handled (event.Installed who.Host job) happened worker (free_handler state worker) (record { free = refl; lines = tt; unforced = refl }) is

  -- the event of a task
  of_host : (ready : Task) (happened : Event) → event_of recording state ready ≡ Some happened → IsOfHost recording state happened
  unfolding who_of
  of_host (task.Run job) happened is = is_given (event.Run who.Host job) happened is (record { free = refl; lines = tt; unforced = refl })
  of_host (task.Fetch job) happened is = fetched_lines job happened (job_row state job) refl is
  of_host (task.FetchAll number) happened is = added_lines number happened (task_row state number) refl is
  of_host (task.Evaluate job) happened is = is_given (event.Evaluated who.Host job) happened is (record { free = refl; lines = tt; unforced = refl })
  of_host (task.Install job) happened is = installed_lines job happened (option_and_then (λ (row : JobRow). row.worker) (job_row state job)) is
  of_host (task.TryActivate registration) happened is = is_given (event.TryActivate who.Host registration) happened is (record { free = refl; lines = tt; unforced = refl })
  of_host (task.Activate worker) happened is =
      handled (event.Activated who.Host worker) happened worker (free_handler state worker) (record { free = refl; lines = tt; unforced = refl }) is

-- an entry that no lane made is the next action of none
free_of_lane : (recording : Recording) (before : List Entry) (entry : Entry) (maker : Who) → is_lane maker ≡ false → IsNextOfLane recording before entry maker
free_of_lane recording before entry who.Host is = tt
free_of_lane recording before entry (who.Lane lane at) is = absurd cc
free_of_lane recording before entry (who.Handler worker phase number) is = tt

-- ---- one more entry

-- an entry that follows the recording of a way is one of those of the way
is_one : (forgets : Bool) (recording : Recording) (history : List Entry) (state : State) (entry : Entry) → IsFollowing recording history state entry → IsOneOf forgets recording history state entry
is_one true recording history state entry following = following.recorded
is_one false recording history state entry following = following

-- the history goes on by an entry of its way, which with one worker is what comes next
one_more : (workers pass : ℕ) (way : Way) (base : Kept) (history : List Entry) (lanes left : List Left) (state new : State) (happened : Event) (entry : Entry)
    → IsSoFar workers way base history lanes state → pass < workers → IsEntry happened pass state entry new
    → IsOne way history state entry → (workers ≡ 1 → way.next history state ≡ Some happened)
    → AreLanesOf way.recording (history ++ entry ∷ []) left
    → IsSoFar workers way base (history ++ entry ∷ []) left new
one_more workers pass way base history lanes left state new happened entry so_far below is_entry one is_next ours =
    let to : moved state entry ≡ new =
    ap (state_after state) is_entry.event ∙ ap (λ (r : Option Outcome). option_map_or (λ outcome. outcome.told.state) r state) is_entry.step.1 in
    let now : moved (after base history) entry ≡ new = ap (λ (s : State). moved s entry) so_far.state_is ∙ to in
    let stepped : Step state entry.event entry.answer entry.notices new =
    subst (λ (e : Event). Step state e entry.answer entry.notices new) (sym is_entry.event) is_entry.step in
    let is_step : IsStep history state entry = record {
      maker = is_entry.maker ∙ ap who_of (sym is_entry.event);
      step = subst (λ (s : State). Step state entry.event entry.answer entry.notices s) (sym to) stepped;
    } in
    record {
      legal = Legal-snoc base history entry so_far.legal (subst (λ (s : State). IsStep history s entry) (sym so_far.state_is) is_step);
      follows = EachLater-snoc (IsOne way) base history entry so_far.follows
          (subst (λ (s : State). IsOne way history s entry) (sym so_far.state_is) one);
      picked = λ alone.
          let comes_next : IsNext way history state entry = is_next alone ∙ ap (λ (e : Event). Some e) (sym is_entry.event) in
          EachLater-snoc (IsNext way) base history entry (so_far.picked alone)
          (subst (λ (s : State). IsNext way history s entry) (sym so_far.state_is) comes_next);
      passes = All-push (λ row. row.pass < workers) history entry so_far.passes (omega (arith, is_entry.pass_is, below));
      lanes_are = ours;
      state_is = after-snoc base history entry so_far.legal.opens ∙ now;
    }

-- an action of a lane comes next
module _ (state : State) (in_flight : List Task) (lanes : List Left) (lane at : ℕ) (taking : Action) (is : picked state in_flight lanes ≡ pick.Work (work.Action lane at)) (got : action_of lanes lane ≡ Some taking) where
  action_goes_on : (workers pass : ℕ) (way : Way) (base : Kept) (history : List Entry) (entry : Entry) (new : State)
      → HasNextByPick way history state → pass < workers → IsSoFar workers way base history lanes state → IsEntry (event_of_action (who.Lane lane at) taking) pass state entry new
      → IsSoFar workers way base (history ++ entry ∷ []) (taken lane lanes) new
  action_goes_on workers pass way base history entry new by_pick below so_far is_entry =
      let recording = way.recording in
      let happened : Event = event_of_action (who.Lane lane at) taking in
      let said = says recording history lanes state in_flight (pick.Work (work.Action lane at)) (sym is) so_far.lanes_are in
      let maker : entry.who ≡ who.Lane lane at = is_entry.maker ∙ who_of-event_of_action (who.Lane lane at) taking in
      let position : at ≡ at_of lanes lane = (lane_picked state in_flight lanes lane at is).1 in
      let recorded : recorded_event recording lane at ≡ Some entry.event =
      ap (recorded_event recording lane) said.position
      ∙ next_is recording history lanes so_far.lanes_are lane
      ∙ ap (λ (k : ℕ). option_map (event_of_action (who.Lane lane k)) (action_of lanes lane)) (sym position)
      ∙ ap (option_map (event_of_action (who.Lane lane at))) got
      ∙ ap (λ (e : Event). Some e) (sym is_entry.event) in
      let following : IsFollowing recording history state entry = record {
        recorded = record {
          action = subst (λ (w : Who). IsNextOfLane recording history entry w) (sym maker) (said.position, recorded);
          lines = subst (λ (e : Event). HasLines recording state e) (sym is_entry.event) (lines_of_action recording state (who.Lane lane at) taking);
        };
        unforced = ap is_host_forget is_entry.event ∙ unforced lane at taking;
      } in
      one_more workers pass way base history lanes (taken lane lanes) state new happened entry so_far below is_entry (is_one way.forgets recording history state entry following)
      (λ alone. by_pick ∙ said.next taking got)
      (goes_on recording history lanes lane (taken lane lanes) entry at refl so_far.lanes_are maker)

  action_next : (workers : ℕ) (lines : List FetchLine) → ComesByPick workers lines lanes (taken lane lanes) state (event_of_action (who.Lane lane at) taking)
  action_next workers lines = record {
    is_enabled = picked_enabled state in_flight lanes lane at taking is got;
    next = λ way base history same by_pick. record {
      is_enabled = picked_enabled state in_flight lanes lane at taking is got;
      goes_on = λ pass entry new below so_far is_entry. action_goes_on workers pass way base history entry new by_pick below so_far is_entry;
    };
  }

-- the event of an action that was taken comes next
pub acted : (workers : ℕ) (lines : List FetchLine) (state : State) (in_flight : List Task) (lanes left : List Left) (lane at : ℕ) (taking : Action) (happened : Event)
    → picked state in_flight lanes ≡ pick.Work (work.Action lane at) → action_of lanes lane ≡ Some taking → left ≡ taken lane lanes
    → happened ≡ event_of_action (who.Lane lane at) taking → ComesByPick workers lines lanes left state happened
acted workers lines state in_flight lanes left lane at taking happened is got moves same =
    subst (λ (rest : List Left). ComesByPick workers lines lanes rest state happened) (sym moves)
    (subst (λ (e : Event). ComesByPick workers lines lanes (taken lane lanes) state e) (sym same) (action_next state in_flight lanes lane at taking is got workers lines))

-- the event of a ready task comes next, which with one worker is what the pick order has next
pub performed : (workers : ℕ) (lines : List FetchLine) (state : State) (lanes : List Left) (ready : Task) (happened : Event)
    → Coherent state → list_any (is_task ready) (ready_tasks state) ≡ true → (workers ≡ 1 → picked state [] lanes ≡ pick.Work (work.Task ready))
    → IsEventOf lines state ready happened → ComesByPick workers lines lanes lanes state happened
performed workers lines state lanes ready happened sound waits is gives = record {
  is_enabled = comes_enabled lines state ready happened sound waits gives;
  next = λ way base history same by_pick. record {
    is_enabled = comes_enabled lines state ready happened sound waits gives;
    goes_on = λ pass entry new below so_far is_entry.
        let recording = way.recording in
        let given : event_of recording state ready ≡ Some happened = gives recording same in
        let of = of_host recording state ready happened given in
        let free : is_lane entry.who ≡ false = ap is_lane is_entry.maker ∙ of.free in
        let following : IsFollowing recording history state entry = record {
          recorded = record {
            action = free_of_lane recording history entry entry.who free;
            lines = subst (λ (e : Event). HasLines recording state e) (sym is_entry.event) of.lines;
          };
          unforced = ap is_host_forget is_entry.event ∙ of.unforced;
        } in
        one_more workers pass way base history lanes lanes state new happened entry so_far below is_entry (is_one way.forgets recording history state entry following)
        (λ alone. by_pick ∙ says recording history lanes state [] (pick.Work (work.Task ready)) (sym (is alone)) so_far.lanes_are refl ∙ given)
        (stays recording history lanes entry so_far.lanes_are free);
  };
}

-- a forget of the host comes next, where that is next on a way that has such
pub forgotten : (workers : ℕ) (way : Way) (base : Kept) (history : List Entry) (lanes : List Left) (state : State) (place : Place) → way.forgets ≡ true
    → way.next history state ≡ Some (event.Forget who.Host place) → ComesNext workers way base history lanes lanes state (event.Forget who.Host place)
unfolding step who_of
forgotten workers way base history lanes state place forgets is = record {
  is_enabled = refl;
  goes_on = λ pass entry new below so_far is_entry.
      let free : is_lane entry.who ≡ false = ap is_lane is_entry.maker in
      let recorded : IsRecorded way.recording history state entry = record {
        action = free_of_lane way.recording history entry entry.who free;
        lines = subst (λ (e : Event). HasLines way.recording state e) (sym is_entry.event) tt;
      } in
      one_more workers pass way base history lanes lanes state new (event.Forget who.Host place) entry so_far below is_entry
      (subst (λ (may : Bool). IsOneOf may way.recording history state entry) (sym forgets) recorded)
      (λ alone. is) (stays way.recording history lanes entry so_far.lanes_are free);
}

-- what was picked with nothing in flight where there is one worker
pub picked_alone : {X : Type 0} (state : State) (in_flight : List Task) (lanes : List Left) (one : Task) → (X → in_flight ≡ [])
    → picked state in_flight lanes ≡ pick.Work (work.Task one) → X → picked state [] lanes ≡ pick.Work (work.Task one)
picked_alone state in_flight lanes one alone is x = subst (λ (flying : List Task). picked state flying lanes ≡ pick.Work (work.Task one)) (alone x) is

-- the event of a task that was picked comes next, where there is memory for it
pub performed_on : {E : Type 0} (result : Result Event E) (workers : ℕ) (lines : List FetchLine) (state : State) (in_flight : List Task) (lanes : List Left) (ready : Task)
    → Coherent state → (workers ≡ 1 → in_flight ≡ []) → picked state in_flight lanes ≡ pick.Work (work.Task ready)
    → IfOk result (IsEventOf lines state ready) → IfOk result (ComesByPick workers lines lanes lanes state)
performed_on (Err why) workers lines state in_flight lanes ready sound alone is gives = tt
performed_on (Ok happened) workers lines state in_flight lanes ready sound alone is gives =
    performed workers lines state lanes ready happened sound (picked_task state in_flight lanes ready is) (picked_alone state in_flight lanes ready alone is) gives

-- ---- what the pick order has next

-- the event of an action that was taken is that of what was picked
pub acted_next : (lines : List FetchLine) (state : State) (flights : List (Option Task)) (lanes left : List Left) (lane at : ℕ) (taking : Action) (happened : Event)
    → picked state (in_flight flights) lanes ≡ pick.Work (work.Action lane at) → action_of lanes lane ≡ Some taking → left ≡ taken lane lanes
    → happened ≡ event_of_action (who.Lane lane at) taking → IsPickedNext lines state flights lanes happened left
acted_next lines state flights lanes left lane at taking happened is got moves same = record {
  chosen = work.Action lane at;
  is_next = is;
  made = (
    ap (option_map (event_of_action (who.Lane lane (at_of lanes lane)))) got
        ∙ ap (λ (k : ℕ). Some (event_of_action (who.Lane lane k) taking)) (sym (lane_picked state (in_flight flights) lanes lane at is).1)
        ∙ ap (λ (e : Event). Some e) (sym same),
    moves,
  );
}

-- so is the event of a ready task, where there is memory for it
pub performed_next : {E : Type 0} (result : Result Event E) (lines : List FetchLine) (state : State) (flights : List (Option Task)) (lanes : List Left) (ready : Task)
    → is_fetch ready ≡ false → picked state (in_flight flights) lanes ≡ pick.Work (work.Task ready)
    → IfOk result (IsEventOf lines state ready) → IfOk result (λ happened. IsPickedNext lines state flights lanes happened lanes)
performed_next (Err why) lines state flights lanes ready plain is gives = tt
performed_next (Ok happened) lines state flights lanes ready plain is gives = record {
  chosen = work.Task ready;
  is_next = is;
  made = (plain, gives, refl);
}
