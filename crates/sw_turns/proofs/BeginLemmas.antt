-- A host that was just opened: its history is the restart, and no pass has taken up anything.
use Rattle.std.proofs.Common.{◌≡◌, ◌∙◌, ◌⊎◌, inl, inr, ℕ, zero, suc, ◌+◌, ◌<◌, ◌≤◌, ◌-◌, ◌^◌, List, [], ◌∷◌, ◌++◌, filter, length, map, replicate, slice_get, Option, Some, None, refl, sym, ap, subst, arith}
use Rattle.std.specs.List.{enumerate_from, list_all}
use Rattle.std.proofs.lemmas.List.{length-replicate}
use Rattle.std.proofs.lemmas.List.Elements.{All-nil, All-push}
use Rattle.sw_data.specs.declared.answers.Answer.TheVariants as answer
use Rattle.sw_data.specs.declared.histories.Entry.{Entry}
use Rattle.sw_data.specs.declared.histories.Task.{Task}
use Rattle.sw_data.specs.declared.recordings.Recording.{Recording}
use Rattle.sw_data.specs.declared.storage.Kept.{Kept}
use Rattle.sw_data.specs.declared.storage.KeptRegistration.{KeptRegistration}
use Rattle.sw_disk.specs.declared.disk.Disk.{Ghosts}
use Rattle.sw_disk.specs.Image.{Image}
use Rattle.sw_disk.specs.Meanings.{LeavesOnly}
use Rattle.sw_disk.proofs.Images.{told_at, told_some}
use Rattle.sw_journal.specs.Journal.{Since}
use Rattle.sw_kept.specs.Stored.{HasKept, Keeps}
use Rattle.sw_lane.specs.Left.{Left}
use Rattle.sw_lane.specs.Picked.{in_flight, is_fetch}
use Rattle.sw_lane.specs.Recorded.{AreLanesOf}
use Rattle.sw_lane.proofs.Following.{stays}
use Rattle.sw_laws.specs.Laws.{changes_along}
use Rattle.sw_codec.specs.Spelling.{spelled_all}
use Rattle.sw_turns.specs.Flights.{AreInFlight, Flies, IsDue}
use Rattle.sw_turns.specs.Groups.{IsUnderWay}
use Rattle.sw_turns.specs.Playing.{IsSoFar, opening_of}
use Rattle.sw_turns.specs.Surviving.{IsAtWork, KeepsPrefix, Survives}
use Rattle.sw_turns.specs.Turns.{IsGoing}
use Rattle.sw_turns.specs.Ways.{Way, recorded_way}
use Rattle.sw_turns.specs.declared.progress.Progress.{Progress}
use Rattle.sw_rules.specs.History.{IsOpening, after_entries}
use Rattle.sw_rules.specs.Restart.{restart, restored_registration}
use Rattle.sw_rules.specs.State.{Registration, State}
use Rattle.sw_store.specs.Opened.{CanRestart, HasNotedOn, HasOpened, IsFresh, IsLeft, kept_restarted}
use Rattle.sw_store.specs.Stores.{StoreState, all_stamped}
use Rattle.sw_state.specs.Hosted.{state_of}

-- ---- the history of a restart

-- each kept registration is mapped
all_mapped : (rows : List KeptRegistration) (from : ℕ) → length (filter (λ (row : Registration). row.mapped) (map restored_registration (enumerate_from from rows))) ≡ length rows
all_mapped [] from = refl
all_mapped (row ∷ rows) from = ap suc (all_mapped rows (from + 1))

opens : (base : Kept) (clock : ℕ) → IsOpening base (opening_of base clock)
opens base clock = record {
  event = refl;
  maker = refl;
  answer = ap (λ (n : ℕ). answer.Restarted n (length base.caches)) (sym (all_mapped base.registrations 0));
  notices = refl;
}

module _ (workers : ℕ) (some : 0 < workers) (way : Way) (clock : ℕ) (lanes : List Left) (store : StoreState) (fresh : IsFresh (2 ^ 32) store) (ours : AreLanesOf way.recording [] lanes) where
  abbrev opening : Entry
  opening = opening_of store.base clock

  -- nothing has happened but the restart
  begins : IsSoFar workers way store.base (opening ∷ []) lanes (state_of store.core)
  begins = record {
    legal = record { made = fresh.made; opens = opens store.base clock; steps = tt };
    follows = tt;
    picked = λ alone. tt;
    passes = All-push (λ (entry : Entry). entry.pass < workers) [] opening (All-nil (λ (entry : Entry). entry.pass < workers)) some;
    lanes_are = stays way.recording [] lanes opening ours refl;
    state_is = sym fresh.state;
  }

  goes : IsUnderWay workers way store.base (opening ∷ []) lanes store
  goes = record {
    so_far = λ now.
        subst (λ (staged : List Entry). IsSoFar workers way store.base ((opening ∷ []) ++ all_stamped now staged) lanes (state_of store.core))
        (sym fresh.quiet.staged) begins;
    group = record {
      now = ap (after_entries (restart store.base)) fresh.quiet.staged ∙ sym fresh.state;
      spelled = ap (λ (staged : List Entry). spelled_all (changes_along (restart store.base) staged)) fresh.quiet.staged
          ∙ ap (λ (payload : List ℕ). Some payload) (sym fresh.quiet.payload);
    };
    few = omega (arith, ap length fresh.quiet.staged);
    since = fresh.quiet.since;
  }

-- a recording of which nothing has happened is under way
pub under_way : (workers : ℕ) (way : Way) (base : Kept) (clock : ℕ) (lanes : List Left) (store : StoreState) (history : List Entry)
    → 0 < workers → IsFresh (2 ^ 32) store → AreLanesOf way.recording [] lanes → base ≡ store.base → history ≡ opening_of base clock ∷ []
    → IsUnderWay workers way store.base history lanes store
under_way workers way base clock lanes store history some fresh ours same is =
    subst (λ (h : List Entry). IsUnderWay workers way store.base h lanes store)
    (sym (is ∙ ap (λ (b : Kept). opening_of b clock ∷ []) same)) (goes workers some way clock lanes store fresh ours)

-- ---- the disk of a restart

-- what an image keeps is one content
one_kept : (kept other : Kept) (image : Image) → HasKept kept image → HasKept other image → kept ≡ other
one_kept kept other image is was = let same : Keeps kept ≡ Keeps other = sym is ∙ was in cc

module _ {D : Type 0} (disk : Ghosts D) (start now : D) (store : StoreState) (opened : HasOpened disk start now store) where
  abbrev base : Kept
  base = store.base

  abbrev history : List Entry
  history = opening_of base (disk.clock now) ∷ []

  -- what keeps the base as it is, or restarted, keeps what a prefix of the history makes of it
  as_it_is : (c : Image) → HasKept base c → KeepsPrefix base history 0 c
  as_it_is c keeps = record { count = 0; at_least = omega arith; within = omega arith; keeps = keeps }

  restarted : (least : ℕ) (c : Image) → least ≤ 1 → HasKept (kept_restarted base) c → KeepsPrefix base history least c
  restarted least c few keeps = record { count = 1; at_least = few; within = omega arith; keeps = keeps }

  prefix : (image c : Image) → HasKept base image → IsLeft image c → KeepsPrefix base history 0 c
  prefix image c keeps (inl same) = as_it_is c (subst (HasKept base) (sym same) keeps)
  prefix image c keeps (inr (kept, keeps_too, inl stays)) =
      as_it_is c (subst (λ (k : Kept). HasKept k c) (one_kept kept base image keeps_too keeps) stays)
  prefix image c keeps (inr (kept, keeps_too, inr goes)) =
      restarted 0 c (omega arith) (subst (λ (k : Kept). HasKept (kept_restarted k) c) (one_kept kept base image keeps_too keeps) goes)

  module _ (image : Image) (is : disk.seen start ≡ Some image) where
    keeps_base : HasKept base image
    keeps_base = told_at (disk.seen start) (HasKept base) image is opened.kept

    last : Since disk now now (HasKept (kept_restarted base))
    last = told_at (disk.seen start) (λ image. Since disk now now (HasKept (kept_restarted base))) image is opened.acknowledged

    only : LeavesOnly disk start now (λ c. disk.may_leave start c ⊎ IsLeft image c)
    only = told_at (disk.seen start) (λ image. LeavesOnly disk start now (λ c. disk.may_leave start c ⊎ IsLeft image c)) image is opened.any_moment

    first : disk.clock start + 1 < 2 ^ 64 - 1 → (c : Image) → disk.left_since now (disk.clock start + 1) c → IsLeft image c
    first = told_at (disk.seen start) (λ image. disk.clock start + 1 < 2 ^ 64 - 1 → (c : Image) → disk.left_since now (disk.clock start + 1) c → IsLeft image c) image is opened.first

    here : (t : ℕ) (c : Image) → disk.left_since start t c ⊎ (disk.may_leave start c ⊎ IsLeft image c)
        → disk.left_since start t c ⊎ (disk.may_leave start c ⊎ KeepsPrefix base history 0 c)
    here t c (inl before) = inl before
    here t c (inr (inl left)) = inr (inl left)
    here t c (inr (inr left)) = inr (inr (prefix image c keeps_base left))

    acknowledged : (k : ℕ) (entry : Entry) → slice_get history k ≡ Some entry → entry.stamp < 2 ^ 64 - 1 → (c : Image)
        → disk.left_since now entry.stamp c → KeepsPrefix base history (k + 1) c
    acknowledged zero entry got soon c left =
        let its : opening_of base (disk.clock now) ≡ entry = cc in
        let at : entry.stamp ≡ disk.clock now = ap (λ (e : Entry). e.stamp) (sym its) in
        restarted 1 c (omega arith) (last (omega (arith, soon, at)) c (subst (λ (t : ℕ). disk.left_since now t c) at left))
    acknowledged (suc k) entry got soon c left = absurd cc

    survives : Survives disk start now base history []
    survives = record {
      any_moment = λ soon c left. prefix image c keeps_base (first soon c left);
      at_entry = λ t c early left. here t c (only.before t c early left);
      acknowledged = acknowledged;
    }

  can_restart : store.twin.journal.limit ≡ 2 ^ 32 → (image : Image) → disk.seen start ≡ Some image → CanRestart (2 ^ 32) base image
  can_restart limit image is =
      let on : HasNotedOn base store.twin image = told_at (disk.seen start) (HasNotedOn base store.twin) image is opened.noted in
      record {
        kept = told_at (disk.seen start) (HasKept base) image is opened.kept;
        before = on.before;
        stands = on.stands;
        newer = λ format. omega (arith, (on.noted.appended format).1, on.noted.fits, limit);
        older = λ format. (
          (on.noted.anew format).0,
          (on.noted.anew format).1,
          omega (arith, (on.noted.anew format).2, on.noted.fits, limit),
        );
      }

  works : store.twin.journal.limit ≡ 2 ^ 32 → IsAtWork disk start now base history store
  works limit = record {
    told = opened.told;
    clock = opened.later;
    calls = opened.calls;
    faults = opened.faults;
    keeps = opened.keeps;
    opened = told_some (disk.seen start) (CanRestart (2 ^ 32) base) (can_restart limit);
    survives = told_some (disk.seen start) (λ image. Survives disk start now base history []) survives;
    stamped = ((opened.later, omega arith), λ k entry got. absurd cc);
    paced = omega arith;
    limit = limit;
  }

-- a host whose disk was just opened is at work on it
pub at_work : {D : Type 0} (disk : Ghosts D) (start now : D) (clock : ℕ) (kept : Kept) (store : StoreState) (entries : List Entry)
    → IsFresh (2 ^ 32) store → kept ≡ store.base → clock ≡ disk.clock now → entries ≡ opening_of kept clock ∷ []
    → HasOpened disk start now store → IsAtWork disk start now store.base entries store
at_work disk start now clock kept store entries fresh same at is opened =
    subst (λ (h : List Entry). IsAtWork disk start now store.base h store)
    (sym (is ∙ ap (λ (b : Kept). opening_of b clock ∷ []) same ∙ ap (λ (t : ℕ). opening_of store.base t ∷ []) at))
    (works disk start now store opened fresh.limit_is)

-- ---- passes that have taken up nothing

none_fly : (passes : ℕ) → in_flight (replicate passes None) ≡ []
none_fly zero = refl
none_fly (suc passes) = none_fly passes

nobody_flies : (passes pass : ℕ) (flown : Task) → Flies (replicate passes None) pass flown → ⊥
nobody_flies zero pass flown flies = absurd cc
nobody_flies (suc passes) zero flown flies = absurd cc
nobody_flies (suc passes) (suc pass) flown flies = nobody_flies passes pass flown flies

module _ (passes : ℕ) (many : passes ≤ 64) (flights : List (Option Task)) (free : flights ≡ replicate passes None) where
  flies_not : (pass : ℕ) (flown : Task) → Flies flights pass flown → ⊥
  flies_not pass flown flies =
      nobody_flies passes pass flown (ap (λ (all : List (Option Task)). slice_get all pass) (sym free) ∙ flies)

  free_flights : (state : State) → AreInFlight state flights
  free_flights state = record {
    few = omega (arith, many, ap length free, length-replicate {A = Option Task} passes None);
    fetches = ap (λ (all : List (Option Task)). list_all is_fetch (in_flight all)) free ∙ ap (list_all is_fetch) (none_fly passes);
    ready = λ pass flown flies. absurd (flies_not pass flown flies);
    apart = λ pass other one two flies also same. absurd (flies_not pass one flies);
  }

  free_due : (state : State) (lanes : List Left) → IsDue state lanes flights
  free_due state lanes alone flown flies = absurd (flies_not 0 flown flies)

-- ---- a host that was just opened

pub is_going : {D : Type 0} (disk : Ghosts D) (start now : D) (recording : Recording) (passes : ℕ) (p : Progress)
    → passes ≤ 64 → IsFresh (2 ^ 32) p.store → ((way : Way) → way.recording ≡ recording → IsUnderWay passes way p.store.base p.history.items p.lanes p.store)
    → IsAtWork disk start now p.store.base p.history.items p.store → p.net ≡ recording.fetches → p.flights.items ≡ replicate passes None
    → IsGoing disk start now recording p.store.base p
is_going disk start now recording passes p many fresh goes works lines free = record {
  lines = sym lines;
  under_way =
      subst (λ (workers : ℕ). IsUnderWay workers (recorded_way recording) p.store.base p.history.items p.lanes p.store)
      (sym (ap length free ∙ length-replicate {A = Option Task} passes None)) (goes (recorded_way recording) refl);
  quiet = fresh.quiet;
  at_work = works;
  tended = inl (λ grown. omega (arith, grown, fresh.mark));
  flights = free_flights passes many p.flights.items free (state_of p.store.core);
  due = free_due passes many p.flights.items free (state_of p.store.core) p.lanes;
}
