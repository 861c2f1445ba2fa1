-- Forgets of the host, one after another.
use Rattle.std.proofs.Common.{◌≡◌, ◌∙◌, inl, inr, List, [], ◌∷◌, ◌++◌, Option, Some, Result, Ok, Err, sym, ap, subst, append_assoc, append-nil}
use Rattle.std.proofs.lemmas.List.Sums.{fold-append}
use Rattle.std.specs.Prelude.{IfSome}
use Rattle.sw_bucket.proofs.RunLemmas.{due_comes}
use Rattle.sw_bucket.specs.Bounded.{IsForget}
use Rattle.sw_bucket.specs.Evicting.{AddsForgets, Course, HasEvicted, IsBetween, IsClear}
use Rattle.sw_bucket.specs.Running.{HasTended, MayForget}
use Rattle.sw_bucket.specs.declared.bound.Bound as bounds
use Rattle.sw_bucket.specs.declared.ends.BoundedEnd.{BoundedEnd}
use Rattle.sw_data.specs.declared.events.Event.{Event}
use Rattle.sw_data.specs.declared.histories.Entry.{Entry}
use Rattle.sw_data.specs.declared.storage.Kept.{Kept}
use Rattle.sw_disk.specs.declared.disk.Disk as disks
use Rattle.sw_rules.proofs.HistoryLemmas.{EachFrom-snoc}
use Rattle.sw_rules.specs.History.{Legal, Opens, after, after_entries, moved}
use Rattle.sw_rules.specs.Restart.{restart}
use Rattle.sw_rules.specs.State.{State}
use Rattle.sw_store.specs.Stores.{WaitsForNothing, StoreState}
use Rattle.sw_turns.proofs.EndLemmas.{so_far_here}
use Rattle.sw_turns.specs.Groups.{IsUnderWay}
use Rattle.sw_turns.specs.Playing.{ComesNext}
use Rattle.sw_turns.specs.Surviving.{IsAtWork}
use Rattle.sw_state.specs.Hosted.{Hosted, state_of}

-- the state after further entries
after_more : (base : Kept) (history more : List Entry) → Opens base history → after base (history ++ more) ≡ after_entries (after base history) more
after_more base [] more opened = absurd opened
after_more base (opening ∷ entries) more opened = fold-append moved (restart base) entries more

module _ (forgets : Kept → List Entry → State → Option Event) (base : Kept) (history : List Entry) where
  abbrev IsDue : List Entry → State → Entry → Type 0
  IsDue before state entry = forgets base before state ≡ Some entry.event

  -- nothing was added
  pub adds_none : AddsForgets forgets base history history
  adds_none = ([], sym (append-nil history), tt)

  -- one more was added where it was due
  pub adds_more : (longer now : List Entry) → Opens base history → AddsForgets forgets base history longer → MayForget forgets base longer now → AddsForgets forgets base history now
  adds_more longer now opened (added, is, each) (inl same) = (added, same ∙ is, each)
  adds_more longer now opened (added, is, each) (inr (entry, due, now_is)) = (
    added ++ entry ∷ [],
    now_is ∙ ap (λ (entries : List Entry). entries ++ entry ∷ []) is ∙ append_assoc history added (entry ∷ []),
    EachFrom-snoc IsDue history (after base history) added entry each
        (subst (λ (state : State). forgets base (history ++ added) state ≡ Some entry.event) (after_more base history added opened)
        (subst (λ (entries : List Entry). forgets base entries (after base entries) ≡ Some entry.event) is due)),
  )

-- the restart opens a history that is under way
pub opened : {D B : Type 0} (disk : disks.Ghosts D) (bound : bounds.Ghosts B) (now : D) (of : B) (course : Course D) (history : List Entry) (store : StoreState)
    → IsBetween disk bound now of course history store → Opens course.base history
opened disk bound now of course history store between =
    (so_far_here 1 course.way course.base history course.lanes store between.under_way between.quiet.staged).legal.opens

-- the history leaves the state of the host
state_here : {D B : Type 0} (disk : disks.Ghosts D) (bound : bounds.Ghosts B) (now : D) (of : B) (course : Course D) (history : List Entry) (store : StoreState)
    → IsBetween disk bound now of course history store → after course.base history ≡ state_of store.core
state_here disk bound now of course history store between =
    (so_far_here 1 course.way course.base history course.lanes store between.under_way between.quiet.staged).state_is

-- what is due here, and comes next
module _ {D B : Type 0} (disk : disks.Ghosts D) (bound : bounds.Ghosts B) (now : D) (of : B) (course : Course D) (history : List Entry) (store : StoreState) (between : IsBetween disk bound now of course history store)
    (core : Hosted) (field answer : Option Event) (same : core ≡ store.core) (is : field ≡ answer)
    (due : (base : Kept) (history : List Entry) → bound.notes of base history → Legal base history → after base history ≡ state_of core → field ≡ bound.forgets of base history (state_of core)) where
  pub due_here : answer ≡ bound.forgets of course.base history (state_of store.core)
  due_here =
      let so_far = so_far_here 1 course.way course.base history course.lanes store between.under_way between.quiet.staged in
      sym is ∙ due course.base history between.notes so_far.legal (so_far.state_is ∙ ap state_of (sym same))
      ∙ ap (λ (host : Hosted). bound.forgets of course.base history (state_of host)) same

  pub due_after : answer ≡ bound.forgets of course.base history (after course.base history)
  due_after = due_here ∙ ap (bound.forgets of course.base history) (sym (state_here disk bound now of course history store between))

  pub forget_comes : (happened : Event) → answer ≡ Some happened → IfSome field IsForget
      → ComesNext 1 course.way course.base history course.lanes course.lanes (state_of store.core) happened
  forget_comes happened some forget =
      due_comes (bound.forgets of) course history (state_of store.core) happened between.heeds
      (subst (λ (o : Option Event). IfSome o IsForget) (is ∙ some) forget) (sym some ∙ due_here)

-- what is kept was written anew, and the run is between two events all the same
pub between_tended : {D B : Type 0} (disk : disks.Ghosts D) (bound : bounds.Ghosts B) (old now : D) (of : B) (course : Course D) (history : List Entry) (was store : StoreState)
    → IsBetween disk bound old of course history was → IsUnderWay 1 course.way course.base history course.lanes store × WaitsForNothing store × IsAtWork disk course.start now course.base history store
    → IsBetween disk bound now of course history store
between_tended disk bound old now of course history was store between tended = record {
  heeds = between.heeds;
  under_way = tended.0;
  quiet = tended.1;
  at_work = tended.2;
  notes = between.notes;
}

-- nothing is due all the same
clear_tended : {B : Type 0} (bound : bounds.Ghosts B) (of : B) (base : Kept) (history : List Entry) (was store : StoreState) → store.core ≡ was.core
    → IsClear bound of base history was → IsClear bound of base history store
clear_tended bound of base history was store same clear =
    (ap (λ (host : Hosted). bound.forgets of base history (state_of host)) same ∙ clear.0, clear.1)

-- what is kept was written anew behind what was forgotten, or the run has ended
pub evicted_tended : {T D B : Type 0} (disk : disks.Ghosts D) (bound : bounds.Ghosts B) (old now : D) (of : B) (course : Course D) (history : List Entry) (was store : StoreState) (result : Result T BoundedEnd)
    → IsBetween disk bound old of course history was → IsClear bound of course.base history was → store.core ≡ was.core → HasTended disk now course history store result
    → HasEvicted disk bound now of course history store result
evicted_tended disk bound old now of course history was store (Ok value) between clear same tended = (
  between_tended disk bound old now of course history was store between tended,
  clear_tended bound of course.base history was store same clear,
)
evicted_tended disk bound old now of course history was store (Err ended) between clear same cut = (cut, λ some. between.notes)
