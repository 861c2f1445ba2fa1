-- How a run ends that has come to its end, or can't go on.
use Rattle.std.proofs.Common.{◌≡◌, ◌∙◌, ℕ, ◌<◌, ◌^◌, true, List, [], ◌∷◌, ◌++◌, length, All, Option, Some, None, is_some, refl, sym, ap, subst, arith, append-nil}
use Rattle.std.proofs.lemmas.List.Elements.{All-head}
use Rattle.sw_data.specs.declared.events.Event.{Event}
use Rattle.sw_data.specs.declared.histories.Entry.{Entry}
use Rattle.sw_data.specs.declared.histories.Task.{Task}
use Rattle.sw_data.specs.declared.recordings.Recording.{Recording}
use Rattle.sw_data.specs.declared.storage.Kept.{Kept}
use Rattle.sw_data.specs.Events.{who_of}
use Rattle.sw_disk.proofs.Images.{told_some}
use Rattle.sw_disk.specs.declared.disk.Disk.{Ghosts}
use Rattle.sw_disk.specs.DiskRule.{ForTold}
use Rattle.sw_kept.proofs.Appended.{kept_seen}
use Rattle.sw_kept.specs.Stored.{HasKept}
use Rattle.sw_lane.proofs.Saying.{says}
use Rattle.sw_lane.specs.Left.{Left}
use Rattle.sw_lane.specs.Picked.{picked}
use Rattle.sw_lane.specs.declared.picks.Pick.TheVariants as pick
use Rattle.sw_lock.specs.declared.pass.Spent.{Spent}
use Rattle.sw_laws.proofs.LawProofs.{is_always_controlled, rests_without_work}
use Rattle.sw_turns.proofs.ChangeLemmas.{all_front, each_front, kept_durable, legal_front}
use Rattle.sw_turns.specs.Ends.{Ended, EndedBy, GoesOn, IsRunOn, IsSpentIn, KeepsAtEnd}
use Rattle.sw_turns.specs.Groups.{ComesBehind, IsRefused, IsUnderWay}
use Rattle.sw_turns.specs.Playing.{ComesNext, IsSoFar}
use Rattle.sw_turns.specs.Surviving.{IsAtWork, Survives}
use Rattle.sw_turns.specs.Turns.{IsGoing}
use Rattle.sw_turns.specs.Ways.{Goes, GoesInOrder, IsNext, IsOne, Way, recorded_way}
use Rattle.sw_turns.specs.declared.ends.DriveEnd.TheVariants as drive_end
use Rattle.sw_turns.specs.declared.progress.Progress.{Progress}
use Rattle.sw_rules.specs.Durable.{durable}
use Rattle.sw_rules.specs.History.{Legal, Opens, Stamped, after}
use Rattle.sw_rules.specs.Picks.{Stalled}
use Rattle.sw_rules.specs.State.{State}
use Rattle.sw_rules.specs.Step.{changes_of, step}
use Rattle.sw_rules.specs.Tasks.{ready_tasks}
use Rattle.sw_rules.specs.Told.{Outcome}
use Rattle.sw_store.specs.Groups.{IsEntry, IsTooLong}
use Rattle.sw_store.specs.Opened.{CanRestart}
use Rattle.sw_store.specs.Stores.{StoreState, all_stamped}
use Rattle.sw_state.specs.Hosted.{state_of}

-- a history by so many workers that goes a way, and in its order where there is one
pub record IsPlayed (workers : ℕ) (way : Way) (base : Kept) (history : List Entry) : Type 0 where
  pub legal : Legal base history
  pub follows : Goes way base history
  pub picked : workers ≡ 1 → GoesInOrder way base history
  pub passes : All (λ entry. entry.pass < workers) history

module _ (workers : ℕ) (way : Way) (base : Kept) where
  pub played : (history : List Entry) (lanes : List Left) (state : State) → IsSoFar workers way base history lanes state → IsPlayed workers way base history
  played history lanes state so_far = record {
    legal = so_far.legal;
    follows = so_far.follows;
    picked = so_far.picked;
    passes = so_far.passes;
  }

  pub played_front : (history more : List Entry) → Opens base history → IsPlayed workers way base (history ++ more) → IsPlayed workers way base history
  played_front history more opens whole = record {
    legal = legal_front base history more opens whole.legal;
    follows = each_front base (IsOne way) history more opens whole.follows;
    picked = λ alone. each_front base (IsNext way) history more opens (whole.picked alone);
    passes = all_front (λ entry. entry.pass < workers) history more whole.passes;
  }

  -- where nothing waits the history has come so far
  pub so_far_here : (history : List Entry) (lanes : List Left) (store : StoreState) → IsUnderWay workers way base history lanes store → store.staged ≡ [] → IsSoFar workers way base history lanes (state_of store.core)
  so_far_here history lanes store goes none =
      subst (λ (entries : List Entry). IsSoFar workers way base entries lanes (state_of store.core))
      (ap (λ (staged : List Entry). history ++ all_stamped 0 staged) none ∙ append-nil history) (goes.so_far 0)

  -- and what comes next comes behind the history
  pub comes_here : (history : List Entry) (before lanes : List Left) (store : StoreState) (happened : Event) → ComesBehind workers way base history before lanes store happened → store.staged ≡ []
      → ComesNext workers way base history before lanes (state_of store.core) happened
  comes_here history before lanes store happened next none =
      subst (λ (entries : List Entry). ComesNext workers way base entries before lanes (state_of store.core) happened)
      (ap (λ (staged : List Entry). history ++ all_stamped 0 staged) none ∙ append-nil history) (next 0)

  -- a run on a disk, however it has ended
  pub run_on : {D : Type 0} (disk : Ghosts D) (start now : D) (history refused : List Entry) (HasEnded : List Entry → State → Type 0) → IsPlayed workers way base history
      → Stamped base (disk.clock start) (disk.clock now) history → ForTold (disk.seen start) (CanRestart (2 ^ 32) base) → ForTold (disk.seen start) (λ image. Survives disk start now base history refused)
      → HasEnded history (after base history) → IsRunOn disk start now workers way base history refused HasEnded
  run_on disk start now history refused HasEnded is stamps opened survives ended = record {
    run = record {
      legal = is.legal;
      stamped = stamps;
      follows = is.follows;
      controlled = is_always_controlled base history is.legal;
      passes = is.passes;
      ended = ended;
    };
    picked = is.picked;
    opened = opened;
    survives = survives;
  }

  pub goes_on : (history more : List Entry) → IsPlayed workers way base (history ++ more) → GoesOn workers way base history more
  goes_on history more is = record { legal = is.legal; follows = is.follows; picked = is.picked }

-- a pass has made the first entry
some_passes : (workers : ℕ) (base : Kept) (history : List Entry) → Opens base history → All (λ entry. entry.pass < workers) history → 0 < workers
some_passes workers base [] opens passes = absurd opens
some_passes workers base (opening ∷ entries) opens passes =
    omega (arith, All-head (λ (entry : Entry). entry.pass < workers) opening entries passes)

-- an enabled event has an entry
entry_of : (state : State) (happened : Event) (comes : Option Outcome) → step state happened ≡ comes → is_some comes ≡ true → (entry : Entry) × (new : State) × IsEntry happened 0 state entry new
entry_of state happened None is some = absurd cc
entry_of state happened (Some outcome) is some = (
  record {
    pass = 0;
    who = who_of happened;
    event = happened;
    answer = outcome.answer;
    notices = outcome.told.notices;
    stamp = 0;
  },
  outcome.told.state,
  record { pass_is = refl; maker = refl; event = refl; step = (outcome.told.changes, is) },
)

module _ {D : Type 0} (disk : Ghosts D) (start now : D) (workers : ℕ) (way : Way) (base : Kept) (history : List Entry) (store : StoreState) (work : IsAtWork disk start now base history store) where
  runs : (HasEnded : List Entry → State → Type 0) → IsPlayed workers way base history → HasEnded history (after base history) → IsRunOn disk start now workers way base history [] HasEnded
  runs HasEnded is ended = run_on workers way base disk start now history [] HasEnded is work.stamped work.opened work.survives ended

  keeps_at_end : Legal base history → KeepsAtEnd disk now base history
  keeps_at_end legal =
      told_some (disk.seen now) (HasKept (durable (after base history)))
      (λ image is. subst (λ (kept : Kept). HasKept kept image) (kept_durable base history legal) (kept_seen store.twin _ disk now work.keeps image is))

  pub ends_unmade : IsPlayed workers way base history → EndedBy disk start now workers way base history drive_end.NoMemory
  ends_unmade is = runs (λ entries state. Unit {0}) is tt

  module _ (lanes : List Left) (flying : List Task) (so_far : IsSoFar workers way base history lanes (state_of store.core)) where
    is_played : IsPlayed workers way base history
    is_played = played workers way base history lanes (state_of store.core) so_far

    -- no task is ready, and every lane is at its end
    pub ends_done : picked (state_of store.core) flying lanes ≡ pick.Done → EndedBy disk start now workers way base history drive_end.Done
    ends_done is =
        let at_end = says way.recording history lanes (state_of store.core) flying pick.Done (sym is) so_far.lanes_are in
        let none = rests_without_work.rests base history so_far.legal (ap ready_tasks so_far.state_is ∙ at_end.tasks) in (
          runs _ is_played (record { lanes = at_end.lanes; jobs = none.jobs; handlers = none.handlers; tasks = none.tasks; owed = none.owed }),
          keeps_at_end so_far.legal,
        )

    -- nothing may happen, and a lane has actions left
    pub ends_stalled : (lane : ℕ) → picked (state_of store.core) flying lanes ≡ pick.Stalled lane → EndedBy disk start now workers way base history (drive_end.Stalled lane)
    ends_stalled lane is = (
      runs (λ entries state. Stalled way.recording entries state lane) is_played
          (subst (λ (state : State). Stalled way.recording history state lane) (sym so_far.state_is)
          (says way.recording history lanes (state_of store.core) flying (pick.Stalled lane) (sym is) so_far.lanes_are)),
      keeps_at_end so_far.legal,
    )

  -- an event that comes next has no room, though nothing waits
  pub ends_full : (lanes : List Left) (happened : Event) (from needed : ℕ) → IsRefused workers way base history lanes store happened from needed → EndedBy disk start now workers way base history (drive_end.Full happened from needed)
  ends_full lanes happened from needed refused =
      let so_far = so_far_here workers way base history refused.held.before store refused.held.under_way refused.none in
      let next = comes_here workers way base history refused.held.before lanes store happened refused.held.next refused.none in
      let entered = entry_of (state_of store.core) happened (step (state_of store.core) happened) refl next.is_enabled in
      let longer = next.goes_on 0 entered.0 entered.1 (some_passes workers base history so_far.legal.opens so_far.passes) so_far entered.2 in (
        entered.0,
        entered.2.event,
        runs (λ entries state. GoesOn workers way base entries (entered.0 ∷ [])) (played workers way base history refused.held.before (state_of store.core) so_far)
            (goes_on workers way base history (entered.0 ∷ []) (played workers way base (history ++ entered.0 ∷ []) lanes entered.1 longer)),
        record {
          twin = store.twin;
          keeps = work.keeps;
          offset = refused.offset;
          limit = work.limit;
          long =
              subst (λ (state : State). IsTooLong (changes_of state entered.0.event) [] store.twin needed) (sym so_far.state_is)
              (subst (λ (event : Event). IsTooLong (changes_of (state_of store.core) event) [] store.twin needed) (sym entered.2.event) refused.long);
        },
      )

-- a run that is under way may end for want of memory, or where its passes have made all their turns
module _ {D : Type 0} (disk : Ghosts D) (start now : D) (recording : Recording) (base : Kept) (p : Progress) (going : IsGoing disk start now recording base p) where
  pub ends_short : Ended disk start now (length p.flights.items) recording base p.history.items drive_end.NoMemory
  ends_short =
      let workers = length p.flights.items in
      ends_unmade disk start now workers (recorded_way recording) base p.history.items p.store going.at_work
      (played workers (recorded_way recording) base p.history.items p.lanes (state_of p.store.core) (so_far_here workers (recorded_way recording) base p.history.items p.lanes p.store going.under_way going.quiet.staged))

  pub ends_spent : (spent : Spent) → IsSpentIn disk start spent → Ended disk start now (length p.flights.items) recording base p.history.items (drive_end.Spent spent)
  ends_spent spent named = (ends_short, named)
