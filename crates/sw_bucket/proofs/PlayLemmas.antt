-- What the pick order has next under a bound, and how a run ends that has come to its end.
use Rattle.std.proofs.Common.{◌≡◌, ◌∙◌, ℕ, List, [], ◌∷◌, Option, Some, None, Result, Ok, Err, refl, sym, ap, subst}
use Rattle.std.specs.Option.{option_or}
use Rattle.std.specs.Prelude.{filter_map, find, option_and_then, slice_get}
use Rattle.sw_bucket.proofs.EvictLemmas.{between_tended}
use Rattle.sw_bucket.specs.Bounded.{bounded_way}
use Rattle.sw_bucket.specs.Evicting.{Course, Heeds, IsBetween, IsCut, IsNotedCut}
use Rattle.sw_bucket.specs.Running.{HasPlayed, HasTended, IsPlaying, Origin, course_of}
use Rattle.sw_bucket.specs.declared.bound.Bound as bounds
use Rattle.sw_bucket.specs.declared.ends.BoundedEnd.{BoundedEnd}
use Rattle.sw_bucket.specs.declared.ends.BoundedEnd.TheVariants as end
use Rattle.sw_bucket.specs.declared.playing.Run.{Run}
use Rattle.sw_data.specs.declared.events.Event.{Event}
use Rattle.sw_data.specs.declared.histories.Entry.{Entry}
use Rattle.sw_data.specs.declared.histories.Task.{Task}
use Rattle.sw_data.specs.declared.recordings.Recording.{Recording}
use Rattle.sw_data.specs.declared.storage.Kept.{Kept}
use Rattle.sw_disk.specs.declared.disk.Disk as disks
use Rattle.sw_lane.proofs.Saying.{says}
use Rattle.sw_lane.specs.Left.{Left}
use Rattle.sw_lane.specs.Picked.{picked}
use Rattle.sw_lane.specs.declared.picks.Pick.{Pick}
use Rattle.sw_lane.specs.declared.picks.Pick.TheVariants as pick
use Rattle.sw_rules.specs.History.{Legal, after}
use Rattle.sw_rules.specs.Picks.{first_enabled, first_task_event, next, next_action}
use Rattle.sw_rules.specs.State.{State}
use Rattle.sw_rules.specs.Step.{enabled}
use Rattle.sw_rules.specs.Tasks.{event_of, ready_tasks}
use Rattle.sw_store.specs.Stores.{WaitsForNothing, StoreState}
use Rattle.sw_turns.proofs.EndLemmas.{ends_done, ends_stalled, so_far_here}
use Rattle.sw_turns.specs.Groups.{IsUnderWay}
use Rattle.sw_turns.specs.Playing.{ComesByPick, ComesNext, IsSoFar}
use Rattle.sw_turns.specs.Surviving.{IsAtWork}
use Rattle.sw_turns.specs.Ways.{HasNextByPick, Way}
use Rattle.sw_state.specs.Hosted.{Hosted, state_of}

-- ---- what comes next

-- on the way of a recording what is due comes next
heeds_bound : (forgets : Kept → List Entry → State → Option Event) (recording : Recording) (base : Kept) → Heeds forgets base (bounded_way forgets recording base)
heeds_bound forgets recording base = record {
  may = refl;
  first = λ history state happened due. ap (λ (o : Option Event). option_or o (next recording history state)) due;
}

-- and where nothing is due, what the pick order has next
by_pick : (forgets : Kept → List Entry → State → Option Event) (recording : Recording) (base : Kept) (history : List Entry) (state : State) → forgets base history state ≡ None
    → HasNextByPick (bounded_way forgets recording base) history state
by_pick forgets recording base history state none = ap (λ (o : Option Event). option_or o (next recording history state)) none

-- what was picked is picked on this host
pub picked_here : (core host : Hosted) (lanes : List Left) (got is : Pick) → core ≡ host → got ≡ picked (state_of core) [] lanes → got ≡ is → picked (state_of host) [] lanes ≡ is
picked_here core host lanes got is same by here =
    ap (λ (h : Hosted). picked (state_of h) [] lanes) (sym same) ∙ sym by ∙ here

-- ---- where nothing comes next

none_left : {X Y : Type 0} (f : X → Option Y) → ((x : X) → f x ≡ None) → (xs : List X) → filter_map f xs ≡ []
none_left f none [] = refl
none_left f none (x ∷ xs) = rw (none x) (none_left f none xs)

module _ (recording : Recording) (history : List Entry) (state : State) where
  none_enabled : ((lane : ℕ) → next_action recording history lane ≡ None) → first_enabled recording history state ≡ None
  none_enabled none = ap (find (enabled state)) (none_left (next_action recording history) none _)

  nothing_next : first_enabled recording history state ≡ None → ready_tasks state ≡ [] → next recording history state ≡ None
  nothing_next no_action no_task =
      ap (λ (first : Option Event). elim first [ Some happened ↦ Some happened | None ↦ first_task_event recording state ]) no_action
      ∙ ap (λ (tasks : List Task). option_and_then (event_of recording state) (slice_get tasks 0)) no_task

module _ {D B : Type 0} (disk : disks.Ghosts D) (bound : bounds.Ghosts B) (now : D) (of : B) (origin : Origin D) (run : Run) (store : StoreState) (playing : IsPlaying disk bound now of origin run store) where
  so_far : IsSoFar 1 (bounded_way (bound.forgets of) origin.recording origin.base) origin.base run.history.items run.lanes (state_of store.core)
  so_far = so_far_here 1 (bounded_way (bound.forgets of) origin.recording origin.base) origin.base run.history.items run.lanes store playing.between.under_way playing.between.quiet.staged

  module _ (none : bound.forgets of origin.base run.history.items (state_of store.core) ≡ None) where
    -- the event of what was picked comes next
    pub picked_comes : (core : Hosted) (left : List Left) (happened : Event) → core ≡ store.core → ComesByPick 1 run.net run.lanes left (state_of core) happened
        → ComesNext 1 (bounded_way (bound.forgets of) origin.recording origin.base) origin.base run.history.items run.lanes left (state_of store.core) happened
    picked_comes core left happened same comes =
        let here = subst (λ (host : Hosted). ComesByPick 1 run.net run.lanes left (state_of host) happened) same comes in
        here.next (bounded_way (bound.forgets of) origin.recording origin.base) origin.base run.history.items playing.lines
        (by_pick (bound.forgets of) origin.recording origin.base run.history.items (state_of store.core) none)

    is_over : next origin.recording run.history.items (state_of store.core) ≡ None
        → option_or (bound.forgets of origin.base run.history.items (after origin.base run.history.items)) (next origin.recording run.history.items (after origin.base run.history.items)) ≡ None
    is_over rests =
        subst
        (λ (state : State). option_or (bound.forgets of origin.base run.history.items state) (next origin.recording run.history.items state) ≡ None) (sym so_far.state_is)
        (by_pick (bound.forgets of) origin.recording origin.base run.history.items (state_of store.core) none ∙ rests)

    -- nothing is left to do
    pub is_done : picked (state_of store.core) [] run.lanes ≡ pick.Done → IsCut disk now (course_of bound of origin run.lanes) run.history.items end.Done
    is_done is =
        let at_end = says origin.recording run.history.items run.lanes (state_of store.core) [] pick.Done (sym is) so_far.lanes_are in
        record {
          run = ends_done disk origin.start now 1 _ origin.base run.history.items store playing.between.at_work run.lanes [] so_far is;
          over = is_over
              (nothing_next origin.recording run.history.items (state_of store.core)
              (none_enabled origin.recording run.history.items (state_of store.core) at_end.lanes) at_end.tasks);
        }

    -- nothing may happen, and a lane has actions left
    pub is_stalled : (lane : ℕ) → picked (state_of store.core) [] run.lanes ≡ pick.Stalled lane → IsCut disk now (course_of bound of origin run.lanes) run.history.items (end.Stalled lane)
    is_stalled lane is =
        let stalled = says origin.recording run.history.items run.lanes (state_of store.core) [] (pick.Stalled lane) (sym is) so_far.lanes_are in
        record {
          run = ends_stalled disk origin.start now 1 _ origin.base run.history.items store playing.between.at_work run.lanes [] so_far lane is;
          over = is_over (nothing_next origin.recording run.history.items (state_of store.core) stalled.no_action stalled.no_task);
        }

-- ---- the beginning

-- a run begins with the restart, once that was noted
pub begins : {D B : Type 0} (disk : disks.Ghosts D) (bound : bounds.Ghosts B) (now : D) (of : B) (origin : Origin D) (run : Run) (store : StoreState) (entry : Entry) → WaitsForNothing store
    → ((way : Way) → way.recording ≡ origin.recording → IsUnderWay 1 way origin.base run.history.items run.lanes store) → IsAtWork disk origin.start now origin.base run.history.items store
    → run.history.items ≡ entry ∷ [] → run.net ≡ origin.recording.fetches
    → (Legal origin.base (entry ∷ []) → after origin.base (entry ∷ []) ≡ state_of store.core → bound.notes of origin.base (entry ∷ []))
    → IsPlaying disk bound now of origin run store
begins disk bound now of origin run store entry quiet under_way work is lines notes =
    let way = bounded_way (bound.forgets of) origin.recording origin.base in
    let goes = under_way way refl in
    let so_far : IsSoFar 1 way origin.base (entry ∷ []) run.lanes (state_of store.core) =
    subst (λ (entries : List Entry). IsSoFar 1 way origin.base entries run.lanes (state_of store.core)) is
    (so_far_here 1 way origin.base run.history.items run.lanes store goes quiet.staged) in
    record {
      between = record {
        heeds = heeds_bound (bound.forgets of) origin.recording origin.base;
        under_way = goes;
        quiet = quiet;
        at_work = work;
        notes =
            subst (λ (entries : List Entry). bound.notes of origin.base entries) (sym is)
            (notes so_far.legal so_far.state_is);
      };
      lines = sym lines;
    }

-- ---- what goes on

module _ {D B : Type 0} (disk : disks.Ghosts D) (bound : bounds.Ghosts B) (now : D) (of next : B) (same : bound.forgets next ≡ bound.forgets of) (origin : Origin D) (run : Run) where
  -- a bound that forgets the same has the same course
  same_course : course_of bound of origin run.lanes ≡ course_of bound next origin run.lanes
  same_course =
      ap
      (λ (forgets : Kept → List Entry → State → Option Event). record {
        start = origin.start;
        way = bounded_way forgets origin.recording origin.base;
        base = origin.base;
        lanes = run.lanes;
      }) (sym same)

  -- the run goes on
  pub plays_on : (store : StoreState) → IsBetween disk bound now next (course_of bound of origin run.lanes) run.history.items store → origin.recording.fetches ≡ run.net
      → IsPlaying disk bound now next origin run store
  plays_on store between lines = record {
    between =
        subst (λ (course : Course D). IsBetween disk bound now next course run.history.items store) same_course between;
    lines = lines;
  }

  -- or has ended
  pub cut_on : (ended : BoundedEnd) → IsNotedCut disk bound now next (course_of bound of origin run.lanes) run.history.items ended
      → IsNotedCut disk bound now next (course_of bound next origin run.lanes) run.history.items ended
  cut_on ended cut =
      subst (λ (course : Course D). IsNotedCut disk bound now next course run.history.items ended) same_course cut

  -- what is kept was written anew, or the run has ended
  pub tended_on : {T : Type 0} (old : D) (was store : StoreState) (result : Result T BoundedEnd) → IsBetween disk bound old next (course_of bound of origin run.lanes) run.history.items was
      → origin.recording.fetches ≡ run.net → HasTended disk now (course_of bound of origin run.lanes) run.history.items store result
      → HasPlayed disk bound now next origin run store result
  tended_on old was store (Ok value) between lines tended =
      plays_on store (between_tended disk bound old now next (course_of bound of origin run.lanes) run.history.items was store between tended) lines
  tended_on old was store (Err ended) between lines cut = cut_on ended (cut, λ some. between.notes)
