-- An entry that is a step and follows a recording has the event that its mark names.
use Rattle.std.proofs.Common.{◌≡◌, ◌∙◌, ℕ, ◌<◌, ◌^◌, true, false, ◌==◌, List, Option, Some, None, option_map, option_and_then, slice_get, if◌then◌else◌, refl, sym, ap, subst, arith}
use Rattle.std.specs.Option.{option_map_or}
use Rattle.std.proofs.lemmas.Bool.{and_parts}
use Rattle.std.proofs.lemmas.Option.{option_and_then_some}
use Rattle.sw_data.specs.declared.events.Event.{Event}
use Rattle.sw_data.specs.declared.events.Event.TheVariants as event
use Rattle.sw_data.specs.declared.events.Who.{Who}
use Rattle.sw_data.specs.declared.events.Who.TheVariants as who
use Rattle.sw_data.specs.declared.histories.Entry.{Entry}
use Rattle.sw_data.specs.declared.recordings.Call.{Call}
use Rattle.sw_data.specs.declared.recordings.FetchLine.{FetchLine}
use Rattle.sw_data.specs.declared.recordings.Recording.{Recording}
use Rattle.sw_data.specs.declared.workers.Phase.{Phase}
use Rattle.sw_data.specs.declared.workers.Phase.TheVariants as phase
use Rattle.sw_data.specs.Events.{who_of}
use Rattle.sw_data.specs.Sameness.{same_call, same_phase}
use Rattle.sw_rules.specs.Calls.{call_by, is_at, is_next_call, make_call}
use Rattle.sw_rules.specs.History.{IsStep, moved}
use Rattle.sw_rules.specs.Installing.{calls_of}
use Rattle.sw_rules.specs.Picks.{HasLines, IsFollowing, IsNextOfLane}
use Rattle.sw_rules.specs.Recordings.{recorded_event}
use Rattle.sw_rules.specs.Rows.{free_handler, task_row, worker_row}
use Rattle.sw_rules.specs.State.{State, AddAll, Handler, Worker}
use Rattle.sw_rules.specs.Step.{step}
use Rattle.sw_rules.specs.Tasks.{add_all_lines, next_call}
use Rattle.sw_rules.specs.Told.{Outcome}
use Rattle.sw_laws.proofs.Lists.{find_passes}
use Rattle.sw_audit.proofs.Bounds.{handler_fits, lane_fits, number_fits}
use Rattle.sw_audit.proofs.HostEvents.{HostForm, call_form, host_form, named_number}
use Rattle.sw_audit.proofs.OneHistory.{guard, some_same}
use Rattle.sw_audit.proofs.SameCalls.{equal_calls}
use Rattle.sw_audit.specs.declared.marks.Kind.TheVariants as kind
use Rattle.sw_audit.specs.declared.marks.Mark.{Mark}
use Rattle.sw_audit.specs.declared.marks.Mark.TheVariants as mark
use Rattle.sw_audit.specs.Marks.{host_mark, mark_by, mark_of, number_in}
use Rattle.sw_audit.specs.Named.{AreSmall, call_event, called_event, named}

-- ---- calls

same_number : (one other : ℕ) → (one == other) ≡ true → one ≡ other
same_number one other is = grind arith

equal_phases : (p q : Phase) → same_phase p q ≡ true → p ≡ q
equal_phases phase.Install phase.Install is = refl
equal_phases phase.Install phase.Activate is = cc
equal_phases phase.Activate phase.Install is = cc
equal_phases phase.Activate phase.Activate is = refl

listed_is : (listed : Option Call) (called : Call) → option_map_or (same_call called) listed false ≡ true → listed ≡ Some called
listed_is None called same = cc
listed_is (Some call) called same = ap Some (sym (equal_calls called call same))

with_handler : (state : State) (worker : ℕ) (p : Phase) (number : ℕ) (called : Call) (row : Worker) (handler : Option Handler)
    → worker_row state worker ≡ Some row → option_map_or (is_at p number) handler false ≡ true → option_map_or (same_call called) (slice_get (calls_of row p) number) false ≡ true
    → option_and_then (call_event state worker) handler ≡ Some (event.Call (who.Handler worker p number) called)
with_handler state worker p number called row None found at same = cc
with_handler state worker p number called row (Some handler) found at same =
    let both = and_parts (same_phase handler.phase p) (handler.made == number) at in
    let phases : handler.phase ≡ p = equal_phases handler.phase p both.0 in
    let mades : handler.made ≡ number = same_number handler.made number both.1 in
    let next : next_call state worker handler ≡ Some called =
    ap (option_and_then (λ (maker : Worker). slice_get (calls_of maker handler.phase) handler.made)) found
    ∙ (λ i. slice_get (calls_of row (phases i)) (mades i)) ∙ listed_is (slice_get (calls_of row p) number) called same in
    ap (option_map (event.Call (who.Handler worker handler.phase handler.made))) next
    ∙ (λ i. Some (event.Call (who.Handler worker (phases i) (mades i)) called))

-- a call that is made is the one that comes next
pub is_called : (state : State) (worker : ℕ) (p : Phase) (number : ℕ) (called : Call) (o : Outcome)
    → make_call state (who.Handler worker p number) called ≡ Some o → called_event state worker ≡ Some (event.Call (who.Handler worker p number) called)
is_called state worker p number called o is =
    option_and_then_some (λ (r : Worker). if is_next_call state r p number called then call_by state (who.Handler worker p number) r p called else None)
    (worker_row state worker) o is (λ row found passes.
    let both =
    and_parts (option_map_or (is_at p number) (free_handler state row.number) false) (option_map_or (same_call called) (slice_get (calls_of row p) number) false)
    (guard (is_next_call state row p number called) (call_by state (who.Handler worker p number) row p called) o passes) in
    let own : row.number ≡ worker = same_number row.number worker (find_passes (λ (r : Worker). r.number == worker) state.workers row found) in
    let at : option_map_or (is_at p number) (free_handler state worker) false ≡ true =
    subst (λ (w : ℕ). option_map_or (is_at p number) (free_handler state w) false ≡ true) own both.0 in
    with_handler state worker p number called row (free_handler state worker) found at both.1)

-- ---- events of the host

with_lines : (f : AddAll → List (Option FetchLine)) (g : List (Option FetchLine) → Event) (row : Option AddAll) (lines : List (Option FetchLine))
    → Some lines ≡ option_map f row → option_map (λ r. g (f r)) row ≡ Some (g lines)
with_lines f g None lines is = cc
with_lines f g (Some row) lines is = ap (λ (l : List (Option FetchLine)). Some (g l)) (sym (some_same lines (f row) is))

module _ (recording : Recording) (before : List Entry) (state : State) where
  is_hosted : (happened : Event) → HostForm happened → HasLines recording state happened → option_and_then (named recording before state) (host_mark happened) ≡ Some happened
  is_hosted (event.Run maker job) host lines = ap (λ (w : Who). Some (event.Run w job)) (sym host)
  is_hosted (event.Fetched maker job line) host lines =
      ap (λ (l : Option FetchLine). Some (event.Fetched who.Host job l)) (sym lines) ∙ ap (λ (w : Who). Some (event.Fetched w job line)) (sym host)
  is_hosted (event.Evaluated maker job) host lines = ap (λ (w : Who). Some (event.Evaluated w job)) (sym host)
  is_hosted (event.Installed maker job) host lines = ap (λ (w : Who). Some (event.Installed w job)) (sym host)
  is_hosted (event.TryActivate maker registration) host lines = ap (λ (w : Who). Some (event.TryActivate w registration)) (sym host)
  is_hosted (event.Activated maker worker) host lines = ap (λ (w : Who). Some (event.Activated w worker)) (sym host)
  is_hosted (event.Added maker task rows) host lines =
      with_lines (add_all_lines recording) (event.Added who.Host task) (task_row state task) rows lines ∙ ap (λ (w : Who). Some (event.Added w task rows)) (sym host)
  is_hosted _ host lines = absurd host

  -- ---- all events

  abbrev outcome_of : (entry : Entry) → IsStep before state entry → Outcome
  outcome_of entry is = record { answer = entry.answer; told = record { state = moved state entry; notices = entry.notices; changes = is.step.0 } }

  lane_named : (entry : Entry) (lane at : ℕ) → IsNextOfLane recording before entry (who.Lane lane at) → named recording before state (mark.Lane lane) ≡ Some entry.event
  lane_named entry lane at is = ap (recorded_event recording lane) (sym is.0) ∙ is.1

  -- the mark of an entry names its event
  pub is_named : (entry : Entry) → IsStep before state entry → IsFollowing recording before state entry
      → option_and_then (named recording before state) (mark_of entry.event) ≡ Some entry.event
  is_named entry is follows = by (who_of entry.event) refl
    where
      by : (w : Who) → who_of entry.event ≡ w → option_and_then (named recording before state) (mark_by w entry.event) ≡ Some entry.event
      by who.Host maker = is_hosted entry.event (host_form state entry.event (outcome_of entry is) is.step.1 maker follows.unforced) follows.recorded.lines
      by (who.Lane lane at) maker =
          lane_named entry lane at (subst (λ (v : Who). IsNextOfLane recording before entry v) (is.maker ∙ maker) follows.recorded.action)
      by (who.Handler worker p number) maker =
          let form = call_form state entry.event (outcome_of entry is) worker p number is.step.1 maker in
          is_called state worker p number form.0 (outcome_of entry is) form.2 ∙ ap Some (sym form.1)

-- ---- numbers

-- the number in the mark of a host's event is that of its name
marked_number : (happened : Event) (marked : Mark) → HostForm happened → host_mark happened ≡ Some marked → named_number happened ≡ number_in marked
marked_number (event.Run maker job) marked host is = ap number_in (some_same (mark.Host kind.Run job) marked is)
marked_number (event.Fetched maker job line) marked host is = ap number_in (some_same (mark.Host kind.Fetched job) marked is)
marked_number (event.Evaluated maker job) marked host is = ap number_in (some_same (mark.Host kind.Evaluated job) marked is)
marked_number (event.Installed maker job) marked host is = ap number_in (some_same (mark.Host kind.Installed job) marked is)
marked_number (event.TryActivate maker registration) marked host is = ap number_in (some_same (mark.Host kind.TryActivate registration) marked is)
marked_number (event.Activated maker worker) marked host is = ap number_in (some_same (mark.Host kind.Activated worker) marked is)
marked_number (event.Added maker task lines) marked host is = ap number_in (some_same (mark.Host kind.Added task) marked is)
marked_number _ marked host is = absurd host

module _ (recording : Recording) (before : List Entry) (state : State) where
  -- the number in the mark of an entry is one of 32 bits
  pub is_small : AreSmall recording state → (entry : Entry) → IsStep before state entry → IsFollowing recording before state entry
      → (marked : Mark) → mark_of entry.event ≡ Some marked → number_in marked < 2 ^ 32
  is_small small entry is follows marked named = by (who_of entry.event) refl named
    where
      by : (w : Who) → who_of entry.event ≡ w → mark_by w entry.event ≡ Some marked → number_in marked < 2 ^ 32
      by who.Host maker named =
          let form = host_form state entry.event (outcome_of recording before state entry is) is.step.1 maker follows.unforced in
          subst (λ (n : ℕ). n < 2 ^ 32) (marked_number entry.event marked form named)
          (number_fits recording state small.sound small.few entry.event (outcome_of recording before state entry is) form is.step.1)
      by (who.Lane lane at) maker named =
          let next = subst (λ (v : Who). IsNextOfLane recording before entry v) (is.maker ∙ maker) follows.recorded.action in
          subst (λ (m : Mark). number_in m < 2 ^ 32) (some_same (mark.Lane lane) marked named) (lane_fits recording state small.sound small.few lane at entry.event next.1)
      by (who.Handler worker p number) maker named =
          let form = call_form state entry.event (outcome_of recording before state entry is) worker p number is.step.1 maker in
          subst (λ (m : Mark). number_in m < 2 ^ 32) (some_same (mark.Handler worker) marked named)
          (handler_fits recording state small.sound small.few worker p number form.0 (outcome_of recording before state entry is) form.2)
