-- One more beat of lines that are being played, and their end.
use Rattle.std.proofs.Common.{◌≡◌, ◌∙◌, inl, inr, ◌+◌, ◌-◌, ◌≤◌, ◌^◌, ℕ, zero, suc, Bool, true, false, cond, List, [], ◌∷◌, ◌++◌, reverse, length, drop, slice_get, length-append, Option, Some, None, Result, Ok, Err, IfOk, OnOk, Vec, Global, option_and_then, refl, sym, ap, subst, arith}
use Rattle.std.specs.Prelude.{count_by}
use Rattle.std.specs.Option.{option_map_or}
use Rattle.std.proofs.lemmas.List.{reverse-append}
use Rattle.std.proofs.lemmas.List.Sums.{sum_by-cons}
use Rattle.std.proofs.lemmas.Result.{IfOk-at_ok}
use Rattle.sw_data.specs.declared.events.Event.{Event}
use Rattle.sw_data.specs.declared.events.Who.{Who}
use Rattle.sw_data.specs.declared.events.Who.TheVariants as who
use Rattle.sw_data.specs.declared.histories.Entry.{Entry}
use Rattle.sw_data.specs.declared.histories.Task.{Task}
use Rattle.sw_data.specs.declared.recordings.Action.{Action}
use Rattle.sw_data.specs.declared.recordings.FetchLine.{FetchLine}
use Rattle.sw_data.specs.Events.{event_of_action, is_lane, who_of}
use Rattle.sw_readers.specs.declared.inputs.RosterLine.{RosterLine}
use Rattle.sw_readers.specs.declared.inputs.RosterLine.TheVariants as line
use Rattle.sw_lane.proofs.ActionEvents.{who_of-event_of_action}
use Rattle.sw_laws.specs.Coherent.{Coherent}
use Rattle.sw_laws.proofs.LawProofs.{is_always_coherent}
use Rattle.sw_roster.proofs.Free.{task_free}
use Rattle.sw_roster.proofs.Recents.{asked_closed, asked_recent, happened_closed, happened_recent, none_recent}
use Rattle.sw_roster.specs.Beats.{AreClosed, HasPlayedOut, HasRoster, IsDone, IsDue, IsRecent, IsSpent, IsStalled, after_asked, answered, entries_of, event_of_line, is_action, is_of_line, line_event, next_event, next_line, state_at}
use Rattle.sw_roster.specs.Members.{dropped, turned}
use Rattle.sw_roster.specs.Playing.{GoesOn, HasAnswered, HasBegun, HasHappened, HasSettled, IsPlayed}
use Rattle.sw_roster.specs.declared.beats.Beat.{Beat}
use Rattle.sw_roster.specs.declared.beats.Beat.TheVariants as beat
use Rattle.sw_roster.specs.declared.beats.RosterAnswer.{RosterAnswer}
use Rattle.sw_roster.specs.declared.beats.RosterEnd.{RosterEnd}
use Rattle.sw_roster.specs.declared.beats.RosterEnd.TheVariants as ending
use Rattle.sw_roster.specs.declared.playing.Play.{Play}
use Rattle.sw_rules.proofs.HistoryLemmas.{Legal-snoc, after_entries-snoc}
use Rattle.sw_rules.specs.History.{IsStep, after, moved}
use Rattle.sw_rules.specs.Picks.{is_of_lane}
use Rattle.sw_rules.specs.Restart.{restart}
use Rattle.sw_rules.specs.State.{State, initial}
use Rattle.sw_rules.specs.Step.{Step, enabled, state_after}
use Rattle.sw_rules.specs.Storage.{IsMade, nothing}
use Rattle.sw_rules.specs.Tasks.{event_of, ready_tasks}
use Rattle.sw_rules.specs.Told.{Outcome}

-- ---- lists

-- the first of what is left
first_left : {X : Type 0} (xs : List X) (n : ℕ) (x : X) (rest : List X) → x ∷ rest ≡ drop n xs → slice_get xs n ≡ Some x
first_left [] zero x rest is = absurd cc
first_left [] (suc n) x rest is = absurd cc
first_left {X = X} (y ∷ ys) zero x rest is = let same : x ≡ y = cc in ap (λ (z : X). Some z) (sym same)
first_left (y ∷ ys) (suc n) x rest is = first_left ys n x rest is

rest_left : {X : Type 0} (xs : List X) (n : ℕ) (x : X) (rest : List X) → x ∷ rest ≡ drop n xs → rest ≡ drop (n + 1) xs
rest_left [] zero x rest is = absurd cc
rest_left [] (suc n) x rest is = absurd cc
rest_left (y ∷ ys) zero x rest is = cc
rest_left {X = X} (y ∷ ys) (suc n) x rest is =
    let more : suc n + 1 ≡ suc (n + 1) = omega arith in
    rest_left ys n x rest is ∙ ap (λ (k : ℕ). drop k (y ∷ ys)) (sym more)

none_left : {X : Type 0} (xs : List X) (n : ℕ) → [] ≡ drop n xs → slice_get xs n ≡ None
none_left [] n is = refl
none_left (y ∷ ys) zero is = absurd cc
none_left (y ∷ ys) (suc n) is = none_left ys n is

counted : {X : Type 0} (test : X → Bool) (x : X) (xs : List X) → test x ≡ true → count_by test (x ∷ xs) ≡ count_by test xs + 1
counted {X = X} test x xs is =
    let more = sum_by-cons (λ (y : X). cond {A = ℕ} (test y) 1 0) x xs in
    let one = ap (λ (b : Bool). cond {A = ℕ} b 1 0) is in
    omega (arith, more, one)

uncounted : {X : Type 0} (test : X → Bool) (x : X) (xs : List X) → test x ≡ false → count_by test (x ∷ xs) ≡ count_by test xs
uncounted test x xs is = grind (arith, is)

one_longer : (first latest : Beat) (past : List Beat) (all : List Beat) → all ≡ first ∷ reverse past → all ++ latest ∷ [] ≡ first ∷ reverse (latest ∷ past)
one_longer first latest past all is =
    ap (λ (some : List Beat). some ++ latest ∷ []) is ∙ ap (λ (some : List Beat). first ∷ some) (sym (reverse-append (latest ∷ []) past))

-- ---- the state

after_beats : (opening : Entry) (past : List Beat) → after nothing (opening ∷ entries_of past) ≡ state_at past
after_beats opening [] = refl
after_beats opening (beat.Happened entry ∷ past) =
    after_entries-snoc (restart nothing) (entries_of past) entry ∙ ap (λ (s : State). moved s entry) (after_beats opening past)
after_beats opening (beat.Asked asked reply ∷ past) = after_beats opening past

-- ---- one more event

module _ (fetches : List FetchLine) (lines left : List RosterLine) (old new : Play) (so_far : IsPlayed fetches lines left old) (happened : Event) (at : ℕ) (one : HasHappened happened at old new) where
  abbrev latest : Beat
  latest = beat.Happened one.entry

  to_new : moved (state_at so_far.past) one.entry ≡ new.roster.state
  to_new =
      ap (λ (s : State). moved s one.entry) so_far.state
      ∙ ap (state_after old.roster.state) one.event
      ∙ ap (λ (r : Option Outcome). option_map_or (λ outcome. outcome.told.state) r old.roster.state) one.step.1

  is_step : IsStep (so_far.opening ∷ entries_of so_far.past) (after nothing (so_far.opening ∷ entries_of so_far.past)) one.entry
  is_step =
      let state : after nothing (so_far.opening ∷ entries_of so_far.past) ≡ old.roster.state = after_beats so_far.opening so_far.past ∙ so_far.state in
      let stepped : Step old.roster.state one.entry.event one.entry.answer one.entry.notices new.roster.state =
      subst (λ (e : Event). Step old.roster.state e one.entry.answer one.entry.notices new.roster.state) (sym one.event) one.step in
      let to : moved old.roster.state one.entry ≡ new.roster.state = ap (λ (s : State). moved s one.entry) (sym so_far.state) ∙ to_new in
      subst (λ (s : State). IsStep (so_far.opening ∷ entries_of so_far.past) s one.entry) (sym state)
      (record {
        maker = one.maker ∙ ap who_of (sym one.event);
        step = subst (λ (s : State). Step old.roster.state one.entry.event one.entry.answer one.entry.notices s) (sym to) stepped;
      })

  -- the lines were played so far, with one more event
  one_more : (rest : List RosterLine) → next_event fetches lines so_far.past ≡ Some happened → rest ≡ drop (count_by is_of_line (latest ∷ so_far.past)) lines
      → at ≡ count_by is_action (latest ∷ so_far.past) → at ≤ old.made + 1 → IsPlayed fetches lines rest new
  one_more rest next rest_is at_is low = record {
    opening = so_far.opening;
    past = latest ∷ so_far.past;
    are = one.beats ∙ one_longer (beat.Happened so_far.opening) latest so_far.past old.beats.items so_far.are;
    legal = Legal-snoc nothing (so_far.opening ∷ entries_of so_far.past) one.entry so_far.legal is_step;
    come = (next ∙ ap (λ (e : Event). Some e) (sym one.event), so_far.come);
    state = to_new;
    recent =
        subst (λ (recent : List ℕ). IsRecent (latest ∷ so_far.past) recent)
        (ap (λ (e : Event). dropped (turned e one.entry.answer) old.roster.recent) one.event ∙ sym one.recent)
        (happened_recent so_far.past old.roster.recent so_far.recent one.entry);
    closed =
        happened_closed so_far.past old.roster.state new.roster.state so_far.closed one.entry one.entry.notices
        (subst (λ (e : Event). Step old.roster.state e one.entry.answer one.entry.notices new.roster.state) (sym one.event) one.step);
    net = one.net ∙ so_far.net;
    rest = rest_is;
    at = one.count ∙ at_is;
    made = one.made ∙ ap (λ (n : ℕ). n + 1) so_far.made ∙ sym (length-append (entries_of so_far.past) (one.entry ∷ []));
    few = omega (arith, one.count, one.made, low);
  }

-- one that no lane made is of no line
not_of_lane : (maker : Who) → is_lane maker ≡ false → is_of_lane 0 maker ≡ false
not_of_lane who.Host is = refl
not_of_lane (who.Lane lane at) is = absurd cc
not_of_lane (who.Handler worker phase number) is = refl

-- the event of the first ready task
pub task_played : (fetches : List FetchLine) (lines left : List RosterLine) (old new : Play) (so_far : IsPlayed fetches lines left old) (happened : Event) (ready : Task)
    → HasHappened happened old.at old new → slice_get (ready_tasks old.roster.state) 0 ≡ Some ready
    → event_of (record { fetches = fetches; lanes = [] }) old.roster.state ready ≡ Some happened → IsPlayed fetches lines left new
task_played fetches lines left old new so_far happened ready one first gives =
    let free : is_lane (who_of happened) ≡ false = task_free (record { fetches = fetches; lanes = [] }) old.roster.state ready happened gives in
    let other : is_of_lane 0 one.entry.who ≡ false = ap (is_of_lane 0) one.maker ∙ not_of_lane (who_of happened) free in
    let first_now : slice_get (ready_tasks (state_at so_far.past)) 0 ≡ Some ready = ap (λ (s : State). slice_get (ready_tasks s) 0) so_far.state ∙ first in
    let gives_now : event_of (record { fetches = fetches; lanes = [] }) (state_at so_far.past) ready ≡ Some happened =
    ap (λ (s : State). event_of (record { fetches = fetches; lanes = [] }) s ready) so_far.state ∙ gives in
    let next : next_event fetches lines so_far.past ≡ Some happened =
    ap (λ (o : Option Task). elim o [ Some task ↦ event_of (record { fetches = fetches; lanes = [] }) (state_at so_far.past) task | None ↦ line_event lines so_far.past ]) first_now ∙ gives_now in
    one_more fetches lines left old new so_far happened old.at one left next
    (so_far.rest ∙ ap (λ (n : ℕ). drop n lines) (sym (uncounted is_of_line (beat.Happened one.entry) so_far.past other)))
    (so_far.at ∙ sym (uncounted is_action (beat.Happened one.entry) so_far.past other))
    (omega (arith, so_far.few))

none_first : {X : Type 0} (xs : List X) → xs ≡ [] → slice_get xs 0 ≡ None
none_first {X = X} xs is = ap (λ (ys : List X). slice_get ys 0) is

module _ (fetches : List FetchLine) (lines rest : List RosterLine) (old : Play) (taking : Action) (so_far : IsPlayed fetches lines (line.Action taking ∷ rest) old) where
  -- the next line is an action
  action_next : line_event lines so_far.past ≡ Some (event_of_action (who.Lane 0 old.at) taking)
  action_next =
      ap (option_and_then (event_of_line (count_by is_action so_far.past))) (first_left lines (count_by is_of_line so_far.past) (line.Action taking) rest so_far.rest)
      ∙ ap (λ (n : ℕ). Some (event_of_action (who.Lane 0 n) taking)) (sym so_far.at)

  -- the event of an action
  pub line_played : (new : Play) → ready_tasks old.roster.state ≡ [] → HasHappened (event_of_action (who.Lane 0 old.at) taking) (old.at + 1) old new → IsPlayed fetches lines rest new
  line_played new rests one =
      let happened = event_of_action (who.Lane 0 old.at) taking in
      let own : is_of_lane 0 one.entry.who ≡ true = ap (is_of_lane 0) (one.maker ∙ who_of-event_of_action (who.Lane 0 old.at) taking) in
      let none : slice_get (ready_tasks (state_at so_far.past)) 0 ≡ None = none_first (ready_tasks (state_at so_far.past)) (ap ready_tasks so_far.state ∙ rests) in
      let next : next_event fetches lines so_far.past ≡ Some happened =
      ap (λ (o : Option Task). elim o [ Some task ↦ event_of (record { fetches = fetches; lanes = [] }) (state_at so_far.past) task | None ↦ line_event lines so_far.past ]) none ∙ action_next in
      one_more fetches lines (line.Action taking ∷ rest) old new so_far happened (old.at + 1) one rest next
      (rest_left lines (count_by is_of_line so_far.past) (line.Action taking) rest so_far.rest ∙ ap (λ (n : ℕ). drop n lines) (sym (counted is_of_line (beat.Happened one.entry) so_far.past own)))
      (ap (λ (n : ℕ). n + 1) so_far.at ∙ sym (counted is_action (beat.Happened one.entry) so_far.past own))
      (omega (arith, so_far.few))

-- ---- one more answer

asked_played : (fetches : List FetchLine) (lines rest : List RosterLine) (old new : Play) (asked : RosterLine) (reply : RosterAnswer) (so_far : IsPlayed fetches lines (asked ∷ rest) old)
    → ready_tasks old.roster.state ≡ [] → ((past : List Beat) → IsRecent past old.roster.recent → AreClosed past old.roster.state → answered old.roster.state past asked ≡ Some reply) → HasAnswered asked reply old new → IsPlayed fetches lines rest new
asked_played fetches lines rest old new asked reply so_far rests answers one = record {
  opening = so_far.opening;
  past = beat.Asked asked reply ∷ so_far.past;
  are = one.beats ∙ one_longer (beat.Happened so_far.opening) (beat.Asked asked reply) so_far.past old.beats.items so_far.are;
  legal = so_far.legal;
  come = (
    record {
      rests = ap ready_tasks so_far.state ∙ rests;
      is_next = first_left lines (count_by is_of_line so_far.past) asked rest so_far.rest;
      is_answer = ap (λ (s : State). answered s so_far.past asked) so_far.state ∙ answers so_far.past so_far.recent so_far.closed;
    },
    so_far.come,
  );
  state = so_far.state ∙ sym one.state;
  recent =
      subst (λ (recent : List ℕ). IsRecent (beat.Asked asked reply ∷ so_far.past) recent) (sym one.recent)
      (asked_recent so_far.past old.roster.recent so_far.recent asked reply);
  closed = subst (λ (s : State). AreClosed (beat.Asked asked reply ∷ so_far.past) s) (sym one.state) (asked_closed so_far.past old.roster.state so_far.closed asked reply);
  net = one.net ∙ so_far.net;
  rest = rest_left lines (count_by is_of_line so_far.past) asked rest so_far.rest ∙ ap (λ (n : ℕ). drop n lines) (sym (counted is_of_line (beat.Asked asked reply) so_far.past refl));
  at = one.at ∙ so_far.at ∙ sym (uncounted is_action (beat.Asked asked reply) so_far.past refl);
  made = one.made ∙ so_far.made;
  few = omega (arith, one.at, one.made, so_far.few);
}

-- ---- ends

module _ (lines : List RosterLine) (past : List Beat) where
  no_event : next_line lines past ≡ None → line_event lines past ≡ None
  no_event none = ap (option_and_then (event_of_line (count_by is_action past))) none

  done_not_stalled : IsDone lines past → IsStalled lines past → ⊥
  done_not_stalled done stalled = let none = no_event done.none_left in let some = stalled.is_next in absurd cc

  done_not_due : IsDone lines past → IsDue lines past → ⊥
  done_not_due done (inl ready) = ready done.rests
  done_not_due done (inr due) = let none = no_event done.none_left in let some = due.1 in absurd cc

  same_event : (one other : Event) → line_event lines past ≡ Some one → line_event lines past ≡ Some other → one ≡ other
  same_event one other is was = cc

  stalled_not_due : IsStalled lines past → IsDue lines past → ⊥
  stalled_not_due stalled (inl ready) = ready stalled.rests
  stalled_not_due stalled (inr due) =
      let same = same_event stalled.happened due.0 stalled.is_next due.1 in
      let waits = stalled.waits in
      let may : enabled (state_at past) stalled.happened ≡ true = ap (enabled (state_at past)) same ∙ due.2 in
      absurd cc

  ends_done : IsDone lines past → HasPlayedOut lines past ending.Done
  ends_done done = record {
    done = (λ is. done, λ is. refl);
    stalled = (λ is. absurd cc, λ stalled. absurd (done_not_stalled done stalled));
    spent = λ is. absurd cc;
  }

  ends_stalled : IsStalled lines past → HasPlayedOut lines past ending.Stalled
  ends_stalled stalled = record {
    done = (λ is. absurd cc, λ done. absurd (done_not_stalled done stalled));
    stalled = (λ is. stalled, λ is. refl);
    spent = λ is. absurd cc;
  }

  ends_spent : IsSpent lines past → HasPlayedOut lines past ending.Spent
  ends_spent spent = record {
    done = (λ is. absurd cc, λ done. absurd (done_not_due done spent.due));
    stalled = (λ is. absurd cc, λ stalled. absurd (stalled_not_due stalled spent.due));
    spent = λ is. spent;
  }

module _ (fetches : List FetchLine) (lines left : List RosterLine) (play : Play) (so_far : IsPlayed fetches lines left play) where
  has_roster : (over : RosterEnd) → HasPlayedOut lines so_far.past over → HasRoster fetches lines play.beats.items over
  has_roster over ended = record {
    opening = so_far.opening;
    past = so_far.past;
    are = so_far.are;
    legal = so_far.legal;
    come = so_far.come;
    ended = ended;
  }

  spent_now : play.made ≡ 2 ^ 32 - 1 → IsDue lines so_far.past → IsSpent lines so_far.past
  spent_now all due = record { entries = omega (arith, all, so_far.made); due = due }

  -- a task is left
  pub spent_by_task : (ready : Task) → slice_get (ready_tasks play.roster.state) 0 ≡ Some ready → play.made ≡ 2 ^ 32 - 1 → HasRoster fetches lines play.beats.items ending.Spent
  spent_by_task ready first all =
      has_roster ending.Spent
      (ends_spent lines so_far.past
      (spent_now all (inl (λ none. let some : slice_get (ready_tasks (state_at so_far.past)) 0 ≡ Some ready = ap (λ (s : State). slice_get (ready_tasks s) 0) so_far.state ∙ first in let no_first = none_first (ready_tasks (state_at so_far.past)) none in absurd cc))))

-- every line was taken
pub done_now : (fetches : List FetchLine) (lines : List RosterLine) (play : Play) → IsPlayed fetches lines [] play → ready_tasks play.roster.state ≡ [] → HasRoster fetches lines play.beats.items ending.Done
done_now fetches lines play so_far rests =
    has_roster fetches lines [] play so_far ending.Done
    (ends_done lines so_far.past (record { none_left = none_left lines (count_by is_of_line so_far.past) so_far.rest; rests = ap ready_tasks so_far.state ∙ rests }))

module _ (fetches : List FetchLine) (lines rest : List RosterLine) (play : Play) (taking : Action) (so_far : IsPlayed fetches lines (line.Action taking ∷ rest) play) (rests : ready_tasks play.roster.state ≡ []) where
  -- the next action may not happen
  pub stalled_now : enabled play.roster.state (event_of_action (who.Lane 0 play.at) taking) ≡ false → HasRoster fetches lines play.beats.items ending.Stalled
  stalled_now waits =
      has_roster fetches lines (line.Action taking ∷ rest) play so_far ending.Stalled
      (ends_stalled lines so_far.past
      (record {
        happened = event_of_action (who.Lane 0 play.at) taking;
        is_next = action_next fetches lines rest play taking so_far;
        waits = ap (λ (s : State). enabled s (event_of_action (who.Lane 0 play.at) taking)) so_far.state ∙ waits;
        rests = ap ready_tasks so_far.state ∙ rests;
      }))

  -- it may, and no more entries are made
  pub spent_by_line : enabled play.roster.state (event_of_action (who.Lane 0 play.at) taking) ≡ true → play.made ≡ 2 ^ 32 - 1 → HasRoster fetches lines play.beats.items ending.Spent
  spent_by_line may all =
      has_roster fetches lines (line.Action taking ∷ rest) play so_far ending.Spent
      (ends_spent lines so_far.past
      (spent_now fetches lines (line.Action taking ∷ rest) play so_far all
      (inr
      (event_of_action (who.Lane 0 play.at) taking, action_next fetches lines rest play taking so_far, ap (λ (s : State). enabled s (event_of_action (who.Lane 0 play.at) taking)) so_far.state ∙ may))))

-- ---- beginnings

nothing_restarts : restart nothing ≡ initial
nothing_restarts = refl

made_of_nothing : IsMade nothing
made_of_nothing = ([], refl)

-- a host of which nothing is kept is coherent
pub coherent_at_first : (state : State) → state ≡ initial → Coherent state
coherent_at_first state is = subst Coherent (sym (is ∙ sym nothing_restarts)) (is_always_coherent.restarts nothing made_of_nothing)

pub begins : (fetches : List FetchLine) (lines : List RosterLine) (play : Play) → HasBegun play.beats.items → play.roster.state ≡ initial → play.roster.recent ≡ [] → play.net ≡ fetches → play.left.items ≡ lines → play.at ≡ 0 → play.made ≡ 0
    → IsPlayed fetches lines play.left.items play
begins fetches lines play begun state recent net left at made = record {
  opening = begun.opening;
  past = [];
  are = begun.are;
  legal = record { made = made_of_nothing; opens = begun.opens; steps = tt };
  come = tt;
  state = nothing_restarts ∙ sym state;
  recent = subst (IsRecent []) (sym recent) none_recent;
  closed = λ client is. absurd cc;
  net = net;
  rest = left;
  at = at;
  made = made;
  few = omega (arith, at, made);
}

-- ---- what the calls give

-- what is tested of an event, where state and event are known otherwise
pub tested : (state other : State) (happened same : Event) (tells may : Bool) → state ≡ other → happened ≡ same → tells ≡ enabled state happened → tells ≡ may → enabled other same ≡ may
tested state other happened same tells may is are gives now =
    ap (λ (s : State). enabled s same) (sym is) ∙ ap (enabled state) (sym are) ∙ sym gives ∙ now

-- what is left of the lines elsewhere
pub left_apart : (fetches : List FetchLine) (lines left : List RosterLine) (old new : Play) → new ≡ record old { left = new.left } → IsPlayed fetches lines left old → IsPlayed fetches lines left new
left_apart fetches lines left old new same so_far = record {
  opening = so_far.opening;
  past = so_far.past;
  are = ap (λ (p : Play). p.beats.items) same ∙ so_far.are;
  legal = so_far.legal;
  come = so_far.come;
  state = so_far.state ∙ sym (ap (λ (p : Play). p.roster.state) same);
  recent = subst (λ (p : Play). IsRecent so_far.past p.roster.recent) (sym same) so_far.recent;
  closed = subst (λ (p : Play). AreClosed so_far.past p.roster.state) (sym same) so_far.closed;
  net = ap (λ (p : Play). p.net) same ∙ so_far.net;
  rest = so_far.rest;
  at = ap (λ (p : Play). p.at) same ∙ so_far.at;
  made = ap (λ (p : Play). p.made) same ∙ so_far.made;
  few = omega (arith, so_far.few, ap (λ (p : Play). p.at) same, ap (λ (p : Play). p.made) same);
}

-- an answer that was added
has_answered : (old mid new : Play) (asked : RosterLine) (reply : RosterAnswer) → mid ≡ record old { roster = mid.roster } → mid.roster.state ≡ old.roster.state → mid.roster.recent ≡ after_asked asked reply old.roster.recent
    → new ≡ record mid { beats = new.beats } → new.beats.items ≡ mid.beats.items ++ beat.Asked asked reply ∷ [] → HasAnswered asked reply old new
has_answered old mid new asked reply from state recent to beats = record {
  state = ap (λ (p : Play). p.roster.state) to ∙ state;
  recent = ap (λ (p : Play). p.roster.recent) to ∙ recent;
  beats = beats ∙ ap (λ (p : Play). p.beats.items ++ beat.Asked asked reply ∷ []) from;
  made = ap (λ (p : Play). p.made) to ∙ ap (λ (p : Play). p.made) from;
  net = ap (λ (p : Play). p.net) to ∙ ap (λ (p : Play). p.net) from;
  at = ap (λ (p : Play). p.at) to ∙ ap (λ (p : Play). p.at) from;
  left = ap (λ (p : Play). p.left) to ∙ ap (λ (p : Play). p.left) from;
}

-- where there was memory for it, the lines are played on
pub asked_on : {E : Type 0} (result : Result (Option RosterEnd) E) (fetches : List FetchLine) (lines : List RosterLine) (old mid new : Play) (asked : RosterLine) (reply : RosterAnswer)
    → IfOk result (λ over. over ≡ None) → OnOk result (new.beats.items ≡ mid.beats.items ++ beat.Asked asked reply ∷ []) → new ≡ record mid { beats = new.beats }
    → mid ≡ record old { roster = mid.roster } → mid.roster.state ≡ old.roster.state → mid.roster.recent ≡ after_asked asked reply old.roster.recent → ready_tasks old.roster.state ≡ []
    → ((past : List Beat) → IsRecent past old.roster.recent → AreClosed past old.roster.state → answered old.roster.state past asked ≡ Some reply)
    → IsPlayed fetches lines (asked ∷ old.left.items) old → GoesOn fetches lines new result
asked_on (Ok None) fetches lines old mid new asked reply none beats to from state recent rests answers so_far =
    subst (λ (left : List RosterLine). IsPlayed fetches lines left new) (sym (ap (λ (p : Play). p.left.items) to ∙ ap (λ (p : Play). p.left.items) from))
    (asked_played fetches lines old.left.items old new asked reply so_far rests answers (has_answered old mid new asked reply from state recent to beats))
asked_on (Ok (Some over)) fetches lines old mid new asked reply none beats to from state recent rests answers so_far = absurd cc
asked_on (Err why) fetches lines old mid new asked reply none beats to from state recent rests answers so_far = tt

-- all ready tasks have happened
pub rests_now : {E : Type 0} (result : Result Bool E) (fetches : List FetchLine) (lines left : List RosterLine) (play : Play) → result ≡ Ok true → HasSettled fetches lines left play result
    → IsPlayed fetches lines left play × (ready_tasks play.roster.state ≡ [])
rests_now {E = E} result fetches lines left play is settled = subst (λ (r : Result Bool E). HasSettled fetches lines left play r) is settled

-- or no more entries are made
pub spent_so : {E : Type 0} (result : Result Bool E) (fetches : List FetchLine) (lines left : List RosterLine) (play : Play) → result ≡ Ok false → HasSettled fetches lines left play result
    → HasRoster fetches lines play.beats.items ending.Spent
spent_so {E = E} result fetches lines left play is settled = subst (λ (r : Result Bool E). HasSettled fetches lines left play r) is settled

-- a list of which one less is all is empty
pub none_more : {X : Type 0} (xs ys : List X) → xs ≡ ys → ys ≡ drop 1 xs → xs ≡ []
none_more [] ys is less = refl
none_more (x ∷ xs) ys is less = let same = ap length (is ∙ less) in absurd (omega (arith, same))

-- the roster has ended
pub over_now : {E : Type 0} (result : Result (Option RosterEnd) E) (fetches : List FetchLine) (lines : List RosterLine) (play : Play) (over : RosterEnd) → result ≡ Ok (Some over)
    → GoesOn fetches lines play result → HasRoster fetches lines play.beats.items over
over_now {E = E} result fetches lines play over is goes = subst (λ (r : Result (Option RosterEnd) E). GoesOn fetches lines play r) is goes

-- what has come by then
pub comes_to : {E F : Type 0} (fetches : List FetchLine) (lines : List RosterLine) (play new : Play) → IsPlayed fetches lines play.left.items play → (over : Result RosterEnd F)
    → IfOk over (λ end. (other : List FetchLine) (all : List RosterLine) → IsPlayed other all play.left.items play → HasRoster other all new.beats.items end) → (beats : List Beat) → beats ≡ new.beats.items
    → (result : Result (Vec Beat Global × RosterEnd) E) → IfOk result (λ made. (over ≡ Ok made.1) × (made.0.items ≡ beats)) → IfOk result (λ made. HasRoster fetches lines made.0.items made.1)
comes_to fetches lines play new begun over ended beats same (Ok made) is =
    subst (λ (all : List Beat). HasRoster fetches lines all made.1) (sym (is.1 ∙ same))
    (IfOk-at_ok (λ (end : RosterEnd). (other : List FetchLine) (all : List RosterLine) → IsPlayed other all play.left.items play → HasRoster other all new.beats.items end) is.0 ended fetches lines begun)
comes_to fetches lines play new begun over ended beats same (Err why) is = tt
