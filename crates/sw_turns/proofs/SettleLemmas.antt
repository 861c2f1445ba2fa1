-- A group is written, or is refused; and what is kept is written anew.
use Rattle.std.proofs.Common.{◌≡◌, ◌≢◌, ◌∙◌, ◌⊎◌, ⊎_elim, inl, inr, ℕ, ◌+◌, ◌≤◌, Bool, true, false, List, [], ◌∷◌, ◌++◌, Option, Some, Vec, Global, refl, sym, ap, subst, arith, append-nil}
use Rattle.sw_codec.specs.Spelling.{spelled_all}
use Rattle.sw_data.specs.declared.events.Event.{Event}
use Rattle.sw_data.specs.declared.histories.Entry.{Entry}
use Rattle.sw_data.specs.declared.histories.Task.{Task}
use Rattle.sw_data.specs.declared.storage.Change.{Change}
use Rattle.sw_data.specs.declared.storage.Kept.{Kept}
use Rattle.sw_data.specs.Faults.{Rose}
use Rattle.sw_disk.proofs.Images.{told_at, told_next, told_some, told_then}
use Rattle.sw_disk.proofs.Moments.{weaker}
use Rattle.sw_disk.specs.declared.disk.Disk.{Ghosts}
use Rattle.sw_disk.specs.DiskRule.{ForTold}
use Rattle.sw_disk.specs.Image.{Image}
use Rattle.sw_disk.specs.Meanings.{LeavesOnly}
use Rattle.sw_journal.specs.Journal.{Since}
use Rattle.sw_kept.specs.Keeping.{KeepsNow, LeavesEither, StaysTold}
use Rattle.sw_kept.specs.Stored.{HasKept}
use Rattle.sw_lane.specs.Left.{Left}
use Rattle.sw_lane.specs.Picked.{in_flight, picked}
use Rattle.sw_lane.specs.declared.picks.Pick.TheVariants as pick
use Rattle.sw_laws.specs.Laws.{changes_along}
use Rattle.sw_turns.proofs.ChangeLemmas.{kept_durable, kept_stamped, made_kept, opens_more}
use Rattle.sw_turns.proofs.EndLemmas.{IsPlayed, ends_unmade, goes_on, played, played_front, run_on, so_far_here}
use Rattle.sw_turns.proofs.PaceLemmas.{latest_grows, latest_leaps, stamp_at, stamped_group, stamped_later}
use Rattle.sw_turns.proofs.SurvivalLemmas.{refused_survives, written_survives}
use Rattle.sw_turns.specs.Ends.{EndedBy, GoesOn, IsRunOn}
use Rattle.sw_turns.specs.Groups.{IsHeld, IsUnderWay, Stops}
use Rattle.sw_turns.specs.Playing.{ComesNext, IsSoFar}
use Rattle.sw_turns.specs.Settling.{HasStopped, IsAnew, IsNotFull, Standing}
use Rattle.sw_turns.specs.Surviving.{IsAtWork, Survives, kept_of, latest}
use Rattle.sw_turns.specs.Ways.{Way}
use Rattle.sw_turns.specs.declared.ends.DriveEnd.TheVariants as drive_end
use Rattle.sw_turns.specs.declared.ends.Stop.{Stop}
use Rattle.sw_turns.specs.declared.ends.Stop.TheVariants as stop
use Rattle.sw_rules.specs.Durable.{durable}
use Rattle.sw_rules.specs.History.{Stamped, after, after_entries}
use Rattle.sw_rules.specs.State.{State}
use Rattle.sw_rules.specs.Step.{changes_of}
use Rattle.sw_rules.specs.Storage.{IsMade, kept_after}
use Rattle.sw_store.proofs.Appends.{same_kept}
use Rattle.sw_store.specs.Groups.{IsTooLong}
use Rattle.sw_store.specs.Stores.{HasGrown, WaitsForNothing, IsTended, IsWrittenAnew, StoreState, all_stamped}
use Rattle.sw_twin.specs.Twin.{TwinState}
use Rattle.sw_state.specs.Hosted.{Hosted, state_of}

-- ---- what stopped a group

-- what waits is under way
pub under_way : (workers : ℕ) (way : Way) (base : Kept) (history : List Entry) (lanes : List Left) (flights : List (Option Task)) (store : StoreState) (stopped : Stop)
    → Stops workers way base history lanes flights store stopped → (before : List Left) × IsUnderWay workers way base history before store
under_way workers way base history lanes flights store stop.Whole stops = (lanes, stops)
under_way workers way base history lanes flights store stop.NoRoom stops = (lanes, stops)
under_way workers way base history lanes flights store (stop.Fetch taken fetches) stops = (lanes, stops)
under_way workers way base history lanes flights store stop.Idle stops = (lanes, stops.0)
under_way workers way base history lanes flights store stop.Done stops = (lanes, stops.0)
under_way workers way base history lanes flights store (stop.Stalled lane) stops = (lanes, stops.0)
under_way workers way base history lanes flights store (stop.Full happened from needed) stops = (stops.held.before, stops.held.under_way)
under_way workers way base history lanes flights store stop.NoMemory stops = stops

-- where it stopped idle, nothing is ready but what is in flight
pub rests : (workers : ℕ) (way : Way) (base : Kept) (history : List Entry) (lanes : List Left) (flights : List (Option Task)) (store : StoreState) (stopped : Stop)
    → Stops workers way base history lanes flights store stopped → stopped ≡ stop.Idle → picked (state_of store.core) (in_flight flights) lanes ≡ pick.Idle
rests workers way base history lanes flights store stopped stops is =
    (subst (λ (reason : Stop). Stops workers way base history lanes flights store reason) is stops).1

-- where nothing waits the payload is empty
nothing_waits : (state : State) (staged : List Entry) (payload : List ℕ) → staged ≡ [] → spelled_all (changes_along state staged) ≡ Some payload → payload ≡ []
nothing_waits state staged payload none spelled =
    let is : spelled_all [] ≡ Some payload = sym (ap (λ (entries : List Entry). spelled_all (changes_along state entries)) none) ∙ spelled in
    cc

-- want of room on the disk stops a group that has no changes to write
is_room : (workers : ℕ) (way : Way) (base : Kept) (history : List Entry) (lanes : List Left) (flights : List (Option Task)) (store : StoreState) (stopped : Stop)
    → Stops workers way base history lanes flights store stopped → store.payload ≢ [] → IsNotFull stopped
is_room workers way base history lanes flights store stop.Whole stops some = tt
is_room workers way base history lanes flights store stop.NoRoom stops some = tt
is_room workers way base history lanes flights store (stop.Fetch taken fetches) stops some = tt
is_room workers way base history lanes flights store stop.Idle stops some = tt
is_room workers way base history lanes flights store stop.Done stops some = tt
is_room workers way base history lanes flights store (stop.Stalled lane) stops some = tt
is_room workers way base history lanes flights store (stop.Full happened from needed) stops some =
    absurd (some (nothing_waits (after base history) store.staged store.payload stops.none stops.held.under_way.group.spelled))
is_room workers way base history lanes flights store stop.NoMemory stops some = tt

pub has_room : {D : Type 0} (disk : Ghosts D) (now : D) (s : Standing) (history : List Entry) (store : StoreState) → HasStopped disk now s history store → store.payload ≢ [] → IsNotFull s.stopped
has_room disk now s history store halted some =
    is_room s.workers s.way s.base history s.lanes s.flights store s.stopped halted.stops some

module _ (workers : ℕ) (way : Way) (base : Kept) (history : List Entry) (store next : StoreState) (clock : ℕ) (core : next.core ≡ store.core) (quiet : WaitsForNothing next) where
  way_on : (lanes : List Left) → IsUnderWay workers way base history lanes store → IsUnderWay workers way base (history ++ all_stamped clock store.staged) lanes next
  way_on lanes goes =
      let entries = history ++ all_stamped clock store.staged in
      record {
        so_far = λ other.
            subst (λ (host : Hosted). IsSoFar workers way base (entries ++ all_stamped other next.staged) lanes (state_of host)) (sym core)
            (subst (λ (all : List Entry). IsSoFar workers way base all lanes (state_of store.core))
            (sym (ap (λ (staged : List Entry). entries ++ all_stamped other staged) quiet.staged ∙ append-nil entries)) (goes.so_far clock));
        group = record {
          now = ap (after_entries (after base entries)) quiet.staged ∙ (goes.so_far clock).state_is ∙ ap state_of (sym core);
          spelled = ap (λ (staged : List Entry). spelled_all (changes_along (after base entries) staged)) quiet.staged ∙ ap (λ (bytes : List ℕ). Some bytes) (sym quiet.payload);
        };
        few = rw quiet.staged (omega arith);
        since = quiet.since;
      }

  held_on : (lanes : List Left) (happened : Event) → IsHeld workers way base history lanes store happened → IsHeld workers way base (history ++ all_stamped clock store.staged) lanes next happened
  held_on lanes happened held = record {
    before = held.before;
    under_way = way_on held.before held.under_way;
    next = λ other.
        let entries = history ++ all_stamped clock store.staged in
        subst (λ (host : Hosted). ComesNext workers way base (entries ++ all_stamped other next.staged) held.before lanes (state_of host) happened) (sym core)
        (subst (λ (all : List Entry). ComesNext workers way base all held.before lanes (state_of store.core) happened)
        (sym (ap (λ (staged : List Entry). entries ++ all_stamped other staged) quiet.staged ∙ append-nil entries)) (held.next clock));
  }

  -- what stopped a group stands once the group is written
  stops_on : (lanes : List Left) (flights : List (Option Task)) (stopped : Stop) → ((IsNotFull stopped → ⊥) → store.payload ≡ [] → next.twin ≡ store.twin)
      → Stops workers way base history lanes flights store stopped → Stops workers way base (history ++ all_stamped clock store.staged) lanes flights next stopped
  stops_on lanes flights stop.Whole same stops = way_on lanes stops
  stops_on lanes flights stop.NoRoom same stops = way_on lanes stops
  stops_on lanes flights (stop.Fetch taken fetches) same stops = way_on lanes stops
  stops_on lanes flights stop.Idle same stops = (way_on lanes stops.0, rw core stops.1)
  stops_on lanes flights stop.Done same stops = (way_on lanes stops.0, rw core stops.1)
  stops_on lanes flights (stop.Stalled lane) same stops = (way_on lanes stops.0, rw core stops.1)
  stops_on lanes flights (stop.Full happened from needed) same stops =
      let still : next.twin ≡ store.twin = same (λ none. none) (nothing_waits (after base history) store.staged store.payload stops.none stops.held.under_way.group.spelled) in
      record {
        held = held_on lanes happened stops.held;
        none = quiet.staged;
        offset = stops.offset ∙ ap (λ (twin : TwinState). twin.journal.gate + 1) (sym still);
        long =
            subst (λ (twin : TwinState). IsTooLong (changes_of (state_of next.core) happened) [] twin needed) (sym still)
            (subst (λ (host : Hosted). IsTooLong (changes_of (state_of host) happened) [] store.twin needed) (sym core) stops.long);
      }
  stops_on lanes flights stop.NoMemory same stops = (stops.0, way_on stops.0 stops.1)

-- ---- whether what is kept had to be written anew

-- the part is as long, and the growth is counted from the same offset
pub tended_alike : (kept : Kept) (store next : StoreState) → next.mark ≡ store.mark → next.twin.journal.gate ≡ store.twin.journal.gate → next.twin.journal.limit ≡ store.twin.journal.limit
    → IsTended kept store → IsTended kept next
tended_alike kept store next mark gate limit tended =
    ⊎_elim
    (λ little. inl (λ grown. little (omega (arith, grown, mark, gate))))
    (λ large. inr (record { contents = large.contents; keeps = large.keeps; large = omega (arith, large.large, limit) }))
    tended

-- ---- a group is written

-- the end of a run whose disk refused these events
abbrev HasFailed : {D : Type 0} → Ghosts D → (start now : D) → ℕ → Way → Kept → (history refused : List Entry) → Type 0
HasFailed disk start now workers way base history refused =
    IsRunOn disk start now workers way base history refused (λ entries state. GoesOn workers way base entries refused) × Rose (disk.faults start) (disk.faults now)

-- what a call makes of a store and a disk that has written what waited
pub record HasWritten {D : Type 0} (disk : Ghosts D) (old new : D) (store next : StoreState) : Type 0 where
  pub quiet : WaitsForNothing next
  pub core : next.core ≡ store.core
  pub mark : next.mark ≡ store.mark
  pub limit : next.twin.journal.limit ≡ store.twin.journal.limit
  pub keeps : (kept : Kept) (all : List Change) → spelled_all all ≡ Some store.payload → KeepsNow store.twin kept disk old → KeepsNow next.twin (kept_after kept all) disk new
  pub any_moment : (kept : Kept) (all : List Change) → spelled_all all ≡ Some store.payload → KeepsNow store.twin kept disk old → LeavesEither disk old new kept (kept_after kept all)
  pub acknowledged : (kept : Kept) (all : List Change) → spelled_all all ≡ Some store.payload → KeepsNow store.twin kept disk old
      → ForTold (disk.seen old) (λ image. Since disk new new (HasKept (kept_after kept all)))
  pub told : StaysTold disk old new
  pub nothing : store.payload ≡ [] → (new ≡ old) × (next.twin ≡ store.twin)
  pub most : disk.clock new ≤ disk.clock old + 4
  pub later : disk.clock old ≤ disk.clock new
  pub count : disk.faults old ≤ disk.faults new

module _ {D : Type 0} (disk : Ghosts D) (old new : D) (s : Standing) (history : List Entry) (store : StoreState)
    (halted : HasStopped disk old s history store) where
  waiting : (before : List Left) × IsUnderWay s.workers s.way s.base history before store
  waiting = under_way s.workers s.way s.base history s.lanes s.flights store s.stopped halted.stops

  is_spelled : spelled_all (changes_along (after s.base history) store.staged) ≡ Some store.payload
  is_spelled = waiting.1.group.spelled

  kept_is : kept_after (kept_of s.base history) (changes_along (after s.base history) store.staged) ≡ kept_of s.base (history ++ all_stamped (disk.clock new) store.staged)
  kept_is = kept_stamped s.base (disk.clock new) history store.staged halted.opens

  either : LeavesEither disk old new (kept_of s.base history) (kept_after (kept_of s.base history) (changes_along (after s.base history) store.staged))
      → LeavesEither disk old new (kept_of s.base history) (kept_of s.base (history ++ all_stamped (disk.clock new) store.staged))
  either run = subst (λ (kept : Kept). LeavesEither disk old new (kept_of s.base history) kept) kept_is run

  module _ (start : D) (work : IsAtWork disk start old s.base history store) where
    told_old : (image : Image) → disk.seen start ≡ Some image → (next : Image) × (disk.seen old ≡ Some next) × Unit {0}
    told_old image is = told_next (disk.seen start) (disk.seen old) (λ before after. Unit {0}) image is work.told

    run_at : (image seen : Image) → disk.seen old ≡ Some seen → LeavesEither disk old new (kept_of s.base history) (kept_after (kept_of s.base history) (changes_along (after s.base history) store.staged))
        → LeavesOnly disk old new (λ c. HasKept (kept_of s.base history) c ⊎ HasKept (kept_of s.base (history ++ all_stamped (disk.clock new) store.staged)) c)
    run_at image seen is run =
        told_at (disk.seen old) (λ image. LeavesOnly disk old new (λ c. HasKept (kept_of s.base history) c ⊎ HasKept (kept_of s.base (history ++ all_stamped (disk.clock new) store.staged)) c)) seen is (either run)

    survives_at : (image : Image) → disk.seen start ≡ Some image → Survives disk start old s.base history []
    survives_at image is = told_at (disk.seen start) (λ image. Survives disk start old s.base history []) image is work.survives

    -- the disk refused it
    pub ends_refused : (refused : Vec Entry Global) → refused.items ≡ all_stamped (disk.clock new) store.staged → Rose (disk.faults old) (disk.faults new) → disk.clock old ≤ disk.clock new
        → ((kept : Kept) (all : List Change) → spelled_all all ≡ Some store.payload → KeepsNow store.twin kept disk old → LeavesEither disk old new kept (kept_after kept all))
        → EndedBy disk start new s.workers s.way s.base history (drive_end.DiskFault refused)
    ends_refused refused is rose later any_moment =
        let entries = all_stamped (disk.clock new) store.staged in
        let whole = played s.workers s.way s.base (history ++ entries) waiting.0 (state_of store.core) (waiting.1.so_far (disk.clock new)) in
        let run = any_moment (kept_of s.base history) (changes_along (after s.base history) store.staged) is_spelled halted.keeps in
        subst (λ (all : List Entry). HasFailed disk start new s.workers s.way s.base history all) (sym is) (
          run_on s.workers s.way s.base disk start new history entries (λ front state. GoesOn s.workers s.way s.base front entries) (played_front s.workers s.way s.base history entries halted.opens whole)
              (stamped_later (disk.clock start) (disk.clock old) (disk.clock new) history later work.stamped.0, work.stamped.1) work.opened
              (told_some (disk.seen start) (λ image. Survives disk start new s.base history entries)
              (λ image at. let seen = told_old image at in
              refused_survives disk start old new s.base history entries (survives_at image at) (run_at image seen.0 seen.1 run) work.clock work.calls work.stamped.0))
              (goes_on s.workers s.way s.base history entries whole),
          λ below. omega (arith, work.faults, rose below),
        )

    module _ (next : StoreState) (wrote : HasWritten disk old new store next) where
      paced_by : (payload : List ℕ) → store.payload ≡ payload → (disk.clock new ≤ latest s.base (history ++ all_stamped (disk.clock new) store.staged))
          × (store.payload ≢ [] → disk.clock new + 7 ≤ latest s.base (history ++ all_stamped (disk.clock new) store.staged))
      paced_by [] is =
          let same : disk.clock new ≡ disk.clock old = ap disk.clock (wrote.nothing is).0 in
          (omega (arith, same, work.paced, latest_grows s.base history store.staged halted.opens (disk.clock new)), λ some. absurd (some is))
      paced_by (byte ∷ payload) is =
          let some : store.payload ≢ [] = λ none. (let clash : byte ∷ payload ≡ [] = sym is ∙ none in cc) in
          let leap = latest_leaps s.base history store.staged halted.opens (disk.clock new) store.payload is_spelled some in
          (omega (arith, leap, work.paced, wrote.most), λ none. omega (arith, leap, work.paced, wrote.most))

      -- the clock is so far behind what is allowed
      pub ahead : store.payload ≢ [] → disk.clock new + 7 ≤ latest s.base (history ++ all_stamped (disk.clock new) store.staged)
      ahead some = (paced_by store.payload refl).1 some

      pub works_on : IsAtWork disk start new s.base (history ++ all_stamped (disk.clock new) store.staged) next
      works_on =
          let entries = all_stamped (disk.clock new) store.staged in
          let changes = changes_along (after s.base history) store.staged in
          let run = wrote.any_moment (kept_of s.base history) changes is_spelled halted.keeps in
          record {
            told = told_then (disk.seen start) (disk.seen old) (disk.seen new) (λ before after. Unit {0}) (λ before after. Unit {0}) (λ before after. Unit {0}) (λ a b c at one two. tt) work.told wrote.told;
            clock = omega (arith, work.clock, wrote.later);
            calls = omega (arith, work.calls, wrote.later);
            faults = omega (arith, work.faults, wrote.count);
            keeps = subst (λ (kept : Kept). KeepsNow next.twin kept disk new) kept_is (wrote.keeps (kept_of s.base history) changes is_spelled halted.keeps);
            opened = work.opened;
            survives =
                told_some (disk.seen start) (λ image. Survives disk start new s.base (history ++ entries) [])
                (λ image at. let seen = told_old image at in
                written_survives disk start old new s.base history entries (survives_at image at) (run_at image seen.0 seen.1 run) work.clock work.calls work.stamped.0
                (stamp_at (disk.clock new) store.staged)
                (subst (λ (kept : Kept). Since disk new new (HasKept kept)) kept_is
                (told_at (disk.seen old) (λ image. Since disk new new (HasKept (kept_after (kept_of s.base history) changes))) seen.0 seen.1
                (wrote.acknowledged (kept_of s.base history) changes is_spelled halted.keeps))));
            stamped =
                stamped_group s.base history store.staged (disk.clock start) (disk.clock old) (disk.clock new) halted.opens waiting.1.few wrote.later work.stamped
                (paced_by store.payload refl).0;
            paced = (paced_by store.payload refl).0;
            limit = wrote.limit ∙ work.limit;
          }

  -- where there were no changes, what is kept stays
  pub tended_on : (next : StoreState) → HasWritten disk old new store next → store.payload ≡ [] → IsTended (kept_of s.base history) store
      → IsTended (kept_of s.base (history ++ all_stamped (disk.clock new) store.staged)) next
  tended_on next wrote none tended =
      let twin : next.twin ≡ store.twin = (wrote.nothing none).1 in
      subst (λ (kept : Kept). IsTended kept next)
      (sym (same_kept (changes_along (after s.base history) store.staged) store.payload is_spelled (kept_of s.base history) none) ∙ kept_is)
      (tended_alike (kept_of s.base history) store next wrote.mark (ap (λ (t : TwinState). t.journal.gate) twin) (ap (λ (t : TwinState). t.journal.limit) twin) tended)

  -- what stopped the group stands behind it
  pub stopped_on : (next : StoreState) → HasWritten disk old new store next → HasStopped disk new s (history ++ all_stamped (disk.clock new) store.staged) next
  stopped_on next wrote = record {
    opens = opens_more s.base history (all_stamped (disk.clock new) store.staged) halted.opens;
    stops = stops_on s.workers s.way s.base history store next (disk.clock new) wrote.core wrote.quiet s.lanes s.flights s.stopped (λ full empty. (wrote.nothing empty).1) halted.stops;
    keeps =
        subst (λ (kept : Kept). KeepsNow next.twin kept disk new) kept_is
        (wrote.keeps (kept_of s.base history) (changes_along (after s.base history) store.staged) is_spelled halted.keeps);
  }

-- ---- what is kept is written anew

-- it was written anew, or no call was made
pub anew_by : {D : Type 0} (disk : Ghosts D) (old new : D) (store next : StoreState) (did : Bool) → next.core ≡ store.core
    → (did ≡ true → HasGrown store × IsWrittenAnew (durable (state_of store.core)) next)
    → (did ≡ false → (next ≡ store) × (new ≡ old) × IsTended (durable (state_of store.core)) store)
    → (new ≡ old) ⊎ IsAnew (disk.clock new) next
anew_by disk old new store next true core did not = inr (inl (subst (λ (host : Hosted). IsWrittenAnew (durable (state_of host)) next) (sym core) (did refl).1))
anew_by disk old new store next false core did not = inl (not refl).1

-- what a call makes of a store and a disk that keeps the durable part of the state, written anew or not
pub record HasTended {D : Type 0} (disk : Ghosts D) (old new : D) (store next : StoreState) : Type 0 where
  pub quiet : WaitsForNothing next
  pub core : next.core ≡ store.core
  pub limit : next.twin.journal.limit ≡ store.twin.journal.limit
  pub keeps : KeepsNow store.twin (durable (state_of store.core)) disk old → KeepsNow next.twin (durable (state_of store.core)) disk new
  pub told : StaysTold disk old new

module _ {D : Type 0} (disk : Ghosts D) (old new : D) (s : Standing) (history : List Entry) (store : StoreState)
    (halted : HasStopped disk old s history store) (none : store.staged ≡ []) where
  gone : (before : List Left) × IsUnderWay s.workers s.way s.base history before store
  gone = under_way s.workers s.way s.base history s.lanes s.flights store s.stopped halted.stops

  so_far : IsSoFar s.workers s.way s.base history gone.0 (state_of store.core)
  so_far = so_far_here s.workers s.way s.base history gone.0 store gone.1 none

  is_played : IsPlayed s.workers s.way s.base history
  is_played = played s.workers s.way s.base history gone.0 (state_of store.core) so_far

  is_durable : kept_of s.base history ≡ durable (state_of store.core)
  is_durable = kept_durable s.base history so_far.legal ∙ ap durable so_far.state_is

  -- changes of nothing made what is kept
  pub is_made : IsMade (durable (state_of store.core))
  is_made = subst IsMade is_durable (made_kept s.base history so_far.legal.made)

  keeps_durable : KeepsNow store.twin (durable (state_of store.core)) disk old
  keeps_durable = subst (λ (kept : Kept). KeepsNow store.twin kept disk old) is_durable halted.keeps

  -- what was written anew where it had to be is what the history makes of the base
  pub tended_still : (next : StoreState) → IsTended (durable (state_of store.core)) next → IsTended (kept_of s.base history) next
  tended_still next tended = subst (λ (kept : Kept). IsTended kept next) (sym is_durable) tended

  pub stopped_still : (next : StoreState) → IsNotFull s.stopped → HasTended disk old new store next → HasStopped disk new s history next
  stopped_still next room tended = record {
    opens = halted.opens;
    stops =
        subst (λ (entries : List Entry). Stops s.workers s.way s.base entries s.lanes s.flights next s.stopped)
        (ap (λ (staged : List Entry). history ++ all_stamped 0 staged) none ∙ append-nil history)
        (stops_on s.workers s.way s.base history store next 0 tended.core tended.quiet s.lanes s.flights s.stopped (λ full empty. absurd (full room)) halted.stops);
    keeps = subst (λ (kept : Kept). KeepsNow next.twin kept disk new) (sym is_durable) (tended.keeps keeps_durable);
  }

  module _ (start : D) (work : IsAtWork disk start old s.base history store) where
    -- there was no memory
    pub ends_untended : new ≡ old → EndedBy disk start new s.workers s.way s.base history drive_end.NoMemory
    ends_untended same =
        subst (λ (now : D). EndedBy disk start now s.workers s.way s.base history drive_end.NoMemory) (sym same) (ends_unmade disk start old s.workers s.way s.base history store work is_played)

    module _ (later : disk.clock old ≤ disk.clock new)
        (any_moment : KeepsNow store.twin (durable (state_of store.core)) disk old → ForTold (disk.seen old) (λ image. LeavesOnly disk old new (HasKept (durable (state_of store.core))))) where
      stamps_on : Stamped s.base (disk.clock start) (disk.clock new) history
      stamps_on = (stamped_later (disk.clock start) (disk.clock old) (disk.clock new) history later work.stamped.0, work.stamped.1)

      survives_on : ForTold (disk.seen start) (λ image. Survives disk start new s.base history [])
      survives_on =
          told_some (disk.seen start) (λ image. Survives disk start new s.base history [])
          (λ image at. let seen = told_next (disk.seen start) (disk.seen old) (λ before after. Unit {0}) image at work.told in
          refused_survives disk start old new s.base history [] (told_at (disk.seen start) (λ image. Survives disk start old s.base history []) image at work.survives)
          (weaker disk old new (HasKept (durable (state_of store.core))) (λ c. HasKept (kept_of s.base history) c ⊎ HasKept (kept_of s.base (history ++ [])) c)
          (λ c kept. inl (subst (λ (content : Kept). HasKept content c) (sym is_durable) kept))
          (told_at (disk.seen old) (λ image. LeavesOnly disk old new (HasKept (durable (state_of store.core)))) seen.0 seen.1 (any_moment keeps_durable)))
          work.clock work.calls work.stamped.0)

      -- the disk refused it
      pub ends_spoilt : (refused : Vec Entry Global) → refused.items ≡ [] → Rose (disk.faults old) (disk.faults new) → EndedBy disk start new s.workers s.way s.base history (drive_end.DiskFault refused)
      ends_spoilt refused is rose =
          subst (λ (all : List Entry). HasFailed disk start new s.workers s.way s.base history all) (sym is) (
            run_on s.workers s.way s.base disk start new history [] (λ front state. GoesOn s.workers s.way s.base front []) is_played stamps_on work.opened survives_on
                (goes_on s.workers s.way s.base history [] (subst (λ (entries : List Entry). IsPlayed s.workers s.way s.base entries) (sym (append-nil history)) is_played)),
            λ below. omega (arith, work.faults, rose below),
          )

      pub works_still : (next : StoreState) → HasTended disk old new store next → disk.clock new ≤ disk.clock old + 7 → disk.faults old ≤ disk.faults new → disk.clock old + 7 ≤ latest s.base history
          → IsAtWork disk start new s.base history next
      works_still next tended most count ahead = record {
        told = told_then (disk.seen start) (disk.seen old) (disk.seen new) (λ before after. Unit {0}) (λ before after. Unit {0}) (λ before after. Unit {0}) (λ a b c at one two. tt) work.told tended.told;
        clock = omega (arith, work.clock, later);
        calls = omega (arith, work.calls, later);
        faults = omega (arith, work.faults, count);
        keeps = subst (λ (kept : Kept). KeepsNow next.twin kept disk new) (sym is_durable) (tended.keeps keeps_durable);
        opened = work.opened;
        survives = survives_on;
        stamped = stamps_on;
        paced = omega (arith, most, ahead);
        limit = tended.limit ∙ work.limit;
      }
