-- One event of a run under a bound: it is written and noted, or ends the run.
use Rattle.std.proofs.Common.{◌≡◌, ◌≢◌, ◌∙◌, inl, inr, ◌+◌, ◌≤◌, ◌^◌, ℕ, List, [], ◌∷◌, ◌++◌, length, Option, Some, refl, sym, ap, subst, arith, append-nil}
use Rattle.sw_bucket.specs.Bounded.{IsAlone, IsForget, cut_by, refused_by}
use Rattle.sw_bucket.specs.Evicting.{Course, Heeds, IsBetween, IsCut}
use Rattle.sw_bucket.specs.Running.{IsWrittenOn, MayAdd, MayForget, StaysAhead}
use Rattle.sw_bucket.specs.declared.bound.Bound as bounds
use Rattle.sw_bucket.specs.declared.ends.BoundedEnd.TheVariants as end
use Rattle.sw_codec.specs.Spelling.{spelled_all}
use Rattle.sw_data.specs.declared.events.Event.{Event}
use Rattle.sw_data.specs.declared.events.Event.TheVariants as event
use Rattle.sw_data.specs.declared.events.Who.TheVariants as who
use Rattle.sw_data.specs.declared.histories.Entry.{Entry}
use Rattle.sw_data.specs.declared.storage.Kept.{Kept}
use Rattle.sw_disk.specs.declared.disk.Disk as disks
use Rattle.sw_kept.specs.Keeping.{KeepsNow}
use Rattle.sw_lane.specs.Left.{Left}
use Rattle.sw_laws.specs.Laws.{changes_along}
use Rattle.sw_rules.specs.History.{Legal, after}
use Rattle.sw_rules.specs.State.{State}
use Rattle.sw_rules.specs.Step.{changes_of}
use Rattle.sw_store.specs.Stores.{IsSameTwin, StoreState, all_stamped, stamped}
use Rattle.sw_turns.proofs.EndLemmas.{ends_full, ends_unmade, played, so_far_here}
use Rattle.sw_turns.proofs.NextLemmas.{forgotten}
use Rattle.sw_turns.proofs.TurnLemmas.{begun, opens}
use Rattle.sw_turns.specs.Ends.{EndedBy, IsCutShort}
use Rattle.sw_turns.specs.Groups.{ComesBehind, IsBarren, IsUnderWay, StaysOut, stop_by}
use Rattle.sw_turns.specs.Playing.{ComesNext, IsSoFar}
use Rattle.sw_turns.specs.Settling.{HasStopped, IsWritten, Standing}
use Rattle.sw_turns.specs.Surviving.{IsAtWork, kept_of, latest}
use Rattle.sw_turns.specs.declared.ends.DriveEnd.{DriveEnd}
use Rattle.sw_turns.specs.declared.ends.DriveEnd.TheVariants as drive_end
use Rattle.sw_turns.specs.declared.ends.Refusal.{Refusal}
use Rattle.sw_turns.specs.declared.ends.Refusal.TheVariants as refusal
use Rattle.sw_state.specs.Hosted.{state_of}

-- ---- what waits

-- what stands where an event of one worker waits alone, or none, and no further one joins it
abbrev pub standing : {D : Type 0} → Course D → Standing
standing course = record {
  workers = 1;
  way = course.way;
  base = course.base;
  lanes = course.lanes;
  flights = [];
  stopped = stop_by (refusal.NoRoom (event.Restarted who.Host));
}

-- a course with this left of its lanes
abbrev pub with_lanes : {D : Type 0} → Course D → List Left → Course D
with_lanes course left = record course { lanes = left }

module _ {D : Type 0} (course : Course D) (history : List Entry) where
  -- an event that comes next behind a history comes next where nothing waits
  pub comes_alone : (before : List Left) (store : StoreState) (happened : Event) → store.staged ≡ []
      → ComesNext 1 course.way course.base history before course.lanes (state_of store.core) happened → ComesBehind 1 course.way course.base history before course.lanes store happened
  comes_alone before store happened none next = λ clock.
      subst (λ (entries : List Entry). ComesNext 1 course.way course.base entries before course.lanes (state_of store.core) happened)
      (sym (ap (λ (staged : List Entry). history ++ all_stamped clock staged) none ∙ append-nil history)) next

  -- an event that was entered waits for its changes to be written
  pub entered : (disk : disks.Ghosts D) (now : D) (before : List Left) (entries : List Entry) (was store : StoreState) → entries ≡ history
      → IsUnderWay 1 course.way course.base history before was → was.staged ≡ [] → IsSameTwin was.twin store.twin → KeepsNow was.twin (kept_of course.base history) disk now
      → IsUnderWay 1 course.way course.base history course.lanes store → HasStopped disk now (standing course) entries store
  entered disk now before entries was store is goes none same keeps on =
      begun disk now (standing course) history entries was store is same (opens 1 course.way course.base history before was goes none) keeps on

  -- where nothing waits the store stands behind the history
  pub stands : (disk : disks.Ghosts D) (now : D) (store : StoreState) → IsUnderWay 1 course.way course.base history course.lanes store → store.staged ≡ []
      → KeepsNow store.twin (kept_of course.base history) disk now → HasStopped disk now (standing course) history store
  stands disk now store goes none keeps = record {
    opens = opens 1 course.way course.base history course.lanes store goes none;
    stops = goes;
    keeps = keeps;
  }

  -- the one entry that waits is that of the event, and what waits to be written are its changes
  module _ (before : List Left) (was store : StoreState) (happened : Event) (entry : Entry) (goes : IsUnderWay 1 course.way course.base history before was) (none : was.staged ≡ [])
      (joined : IsUnderWay 1 course.way course.base history course.lanes store) (is : entry.event ≡ happened) (waits : store.staged ≡ was.staged ++ entry ∷ []) where
    one_waits : store.staged ≡ entry ∷ []
    one_waits = waits ∙ ap (λ (staged : List Entry). staged ++ entry ∷ []) none

    its_changes : spelled_all (changes_of (state_of was.core) entry.event) ≡ Some store.payload
    its_changes =
        ap (λ (state : State). spelled_all (changes_of state entry.event)) (sym (so_far_here 1 course.way course.base history before was goes none).state_is)
        ∙ ap spelled_all (sym (append-nil (changes_of (after course.base history) entry.event)))
        ∙ ap (λ (staged : List Entry). spelled_all (changes_along (after course.base history) staged)) (sym one_waits)
        ∙ joined.group.spelled

    pub entry_written : (longer : List Entry) (changes : List ℕ) → changes ≡ store.payload → IsWritten history longer store.staged
        → (entry : Entry) × (entry.event ≡ happened) × (longer ≡ history ++ entry ∷ []) × (spelled_all (changes_of (state_of was.core) entry.event) ≡ Some changes)
    entry_written longer changes same wrote = (
      stamped wrote.0 entry,
      is,
      wrote.1 ∙ ap (λ (staged : List Entry). history ++ all_stamped wrote.0 staged) one_waits,
      its_changes ∙ ap (λ (bytes : List ℕ). Some bytes) (sym same),
    )

-- ---- the clock

module _ {D : Type 0} (disk : disks.Ghosts D) (old now : D) (base : Kept) (history longer : List Entry) where
  -- where there were changes the clock is so far behind what is allowed, and else it stands still
  pub ahead_on : (payload : List ℕ) → (payload ≢ [] → disk.clock now + 7 ≤ latest base longer) → (payload ≡ [] → now ≡ old) → latest base history ≤ latest base longer
      → StaysAhead disk old now base history longer (payload ≢ [])
  ahead_on [] wrote nothing grows (inl was) = omega (arith, ap disk.clock (nothing refl), was, grows)
  ahead_on [] wrote nothing grows (inr some) = absurd (some refl)
  ahead_on (byte ∷ payload) wrote nothing grows was = wrote (λ none. cc)

-- what changed is as one says
pub ahead_by : {D : Type 0} (disk : disks.Ghosts D) (old now : D) (base : Kept) (history longer : List Entry) (P Q : Type 0) → (Q → P)
    → StaysAhead disk old now base history longer P → StaysAhead disk old now base history longer Q
ahead_by disk old now base history longer P Q to ahead (inl was) = ahead (inl was)
ahead_by disk old now base history longer P Q to ahead (inr some) = ahead (inr (to some))

-- ---- ends

-- an event that is refused though nothing waits isn't refused for want of room behind others
pub is_alone : (why : Refusal) → IsBarren (stop_by why) → IsAlone why
is_alone (refusal.NoRoom happened) barren = barren
is_alone (refusal.Full happened from needed) barren = tt
is_alone refusal.NoMemory barren = tt

module _ {D : Type 0} (disk : disks.Ghosts D) (now : D) (course : Course D) (history : List Entry) where
  -- the disk or want of memory has ended the run
  pub cut_ends : (ended : DriveEnd) → IsCutShort ended → EndedBy disk course.start now 1 course.way course.base history ended → IsCut disk now course history (cut_by ended)
  cut_ends drive_end.Done cut run = absurd cut
  cut_ends (drive_end.Stalled lane) cut run = absurd cut
  cut_ends (drive_end.DiskFault refused) cut run = record { run = run; over = tt }
  cut_ends (drive_end.Full happened from needed) cut run = absurd cut
  cut_ends drive_end.NoMemory cut run = record { run = run; over = tt }
  cut_ends (drive_end.Spent spent) cut run = absurd cut

  module _ (store : StoreState) (work : IsAtWork disk course.start now course.base history store) (none : store.staged ≡ []) where
    unmade : (lanes : List Left) → IsUnderWay 1 course.way course.base history lanes store → EndedBy disk course.start now 1 course.way course.base history drive_end.NoMemory
    unmade lanes goes =
        ends_unmade disk course.start now 1 course.way course.base history store work
        (played 1 course.way course.base history lanes (state_of store.core) (so_far_here 1 course.way course.base history lanes store goes none))

    -- there was no memory
    pub ends_short : (lanes : List Left) → IsUnderWay 1 course.way course.base history lanes store → IsCut disk now course history end.NoMemory
    ends_short lanes goes = record { run = unmade lanes goes; over = tt }

    -- there are as many entries as there can be
    pub ends_spent : (lanes : List Left) → IsUnderWay 1 course.way course.base history lanes store → 2 ^ 32 ≤ length history → IsCut disk now course history end.Spent
    ends_spent lanes goes many = record { run = unmade lanes goes; over = many }

    -- the event was refused
    pub refused_ends : (before : List Left) (why : Refusal) → IsAlone why → StaysOut 1 course.way course.base history before course.lanes store why → IsCut disk now course history (refused_by why)
    refused_ends before (refusal.NoRoom kept) alone stays = absurd alone
    refused_ends before (refusal.Full happened from needed) alone stays = record {
      run = ends_full disk course.start now 1 course.way course.base history store work course.lanes happened from needed stays;
      over = tt;
    }
    refused_ends before refusal.NoMemory alone stays = ends_short before stays

-- ---- what is due

-- a forget that is due comes next
pub due_comes : (forgets : Kept → List Entry → State → Option Event) {D : Type 0} (course : Course D) (history : List Entry) (state : State) (happened : Event)
    → Heeds forgets course.base course.way → IsForget happened → Some happened ≡ forgets course.base history state
    → ComesNext 1 course.way course.base history course.lanes course.lanes state happened
due_comes forgets course history state happened heeds is due =
    subst (λ (e : Event). ComesNext 1 course.way course.base history course.lanes course.lanes state e) (sym is.1)
    (forgotten 1 course.way course.base history course.lanes state is.0 heeds.may
    (heeds.first history state happened (sym due) ∙ ap (λ (e : Event). Some e) is.1))

-- what was added where it was due is the forget that was due
pub may_forget : (forgets : Kept → List Entry → State → Option Event) (base : Kept) (history longer : List Entry) (happened : Event)
    → Some happened ≡ forgets base history (after base history) → MayAdd happened history longer → MayForget forgets base history longer
may_forget forgets base history longer happened due (inl same) = inl same
may_forget forgets base history longer happened due (inr (entry, is, longer_is)) = inr (entry, sym due ∙ ap (λ (e : Event). Some e) (sym is), longer_is)

-- ---- an event that was noted

module _ {D B : Type 0} (disk : disks.Ghosts D) (bound : bounds.Ghosts B) (now : D) (of next : B) (same : bound.forgets next ≡ bound.forgets of) where
  -- a bound that forgets the same is heeded all the same
  heeds_on : (course : Course D) → Heeds (bound.forgets of) course.base course.way → Heeds (bound.forgets next) course.base course.way
  heeds_on course heeds = subst (λ (forgets : Kept → List Entry → State → Option Event). Heeds forgets course.base course.way) (sym same) heeds

  module _ (old : D) (course : Course D) (left : List Left) (history longer : List Entry) (was store : StoreState) (entry : Entry) (changes : List ℕ)
      (between : IsBetween disk bound old of course history was) (longer_is : longer ≡ history ++ entry ∷ [])
      (spelled : spelled_all (changes_of (state_of was.core) entry.event) ≡ Some changes) (wrote : IsWrittenOn disk old now (with_lanes course left) history longer store changes) where
    before_is : IsSoFar 1 course.way course.base history course.lanes (state_of was.core)
    before_is = so_far_here 1 course.way course.base history course.lanes was between.under_way between.quiet.staged

    longer_so_far : IsSoFar 1 course.way course.base (history ++ entry ∷ []) left (state_of store.core)
    longer_so_far =
        subst (λ (entries : List Entry). IsSoFar 1 course.way course.base entries left (state_of store.core)) longer_is
        (so_far_here 1 course.way course.base longer left store wrote.under_way wrote.quiet.staged)

    -- the run goes on
    pub goes_between : ((base : Kept) (before : List Entry) (last : Entry) → longer ≡ before ++ last ∷ [] → bound.notes of base before → Legal base (before ++ last ∷ [])
        → after base (before ++ last ∷ []) ≡ state_of store.core → spelled_all (changes_of (after base before) last.event) ≡ Some changes → bound.notes next base (before ++ last ∷ []))
        → IsBetween disk bound now next (with_lanes course left) longer store
    goes_between notes = record {
      heeds = heeds_on course between.heeds;
      under_way = wrote.under_way;
      quiet = wrote.quiet;
      at_work = wrote.at_work;
      notes =
          subst (λ (entries : List Entry). bound.notes next course.base entries) (sym longer_is)
          (notes course.base history entry longer_is between.notes longer_so_far.legal longer_so_far.state_is
          (ap (λ (state : State). spelled_all (changes_of state entry.event)) before_is.state_is ∙ spelled));
    }
