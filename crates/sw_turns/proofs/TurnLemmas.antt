-- A turn: a group has stopped and is written, and the run goes on or has ended.
use Rattle.std.proofs.Common.{◌≡◌, ◌∙◌, ◌↔◌, ◌⊎◌, ⊎_elim, inl, inr, ℕ, ◌≤◌, Bool, true, false, List, [], ◌∷◌, ◌++◌, length, Option, Some, None, IfErr, IfOk, slice_get, option_map, All, Vec, Global, refl, sym, ap, subst, arith, append-nil}
use Rattle.std.specs.Prelude.{nat_lt}
use Rattle.std.specs.Vec.{with_items}
use Rattle.std.proofs.lemmas.Bool.Decides.{nat_tests}
use Rattle.std.proofs.lemmas.List.{length-map, nil_from_length, with_items_is}
use Rattle.std.proofs.lemmas.List.Elements.{All-cons, All-head, All-nil, All-tail}
use Rattle.sw_codec.specs.Spelling.{spelled_all}
use Rattle.sw_next.specs.Fetching.{fetches_of}
use Rattle.sw_data.specs.declared.histories.Entry.{Entry}
use Rattle.sw_data.specs.declared.histories.Task.{Task}
use Rattle.sw_data.specs.declared.recordings.Recording.{Recording}
use Rattle.sw_data.specs.declared.storage.Change.{Change}
use Rattle.sw_data.specs.declared.storage.Kept.{Kept}
use Rattle.sw_disk.proofs.Images.{told_at, told_some}
use Rattle.sw_disk.specs.declared.disk.Disk.{Ghosts}
use Rattle.sw_disk.specs.Image.{Image}
use Rattle.sw_kept.specs.Keeping.{KeepsNow}
use Rattle.sw_lane.specs.Left.{Left}
use Rattle.sw_lane.specs.Picked.{in_flight, picked}
use Rattle.sw_lane.specs.declared.picks.Pick.TheVariants as pick
use Rattle.sw_lane.specs.declared.picks.Work.TheVariants as work
use Rattle.sw_laws.proofs.LawProofs.{after-coherent}
use Rattle.sw_laws.specs.Coherent.{Coherent}
use Rattle.sw_lock.specs.Entries.{ThenOwn}
use Rattle.sw_rules.specs.History.{Opens}
use Rattle.sw_rules.specs.State.{State}
use Rattle.sw_store.specs.Groups.{IsGroup}
use Rattle.sw_store.specs.Stores.{WaitsForNothing, IsSameTwin, IsTended, StoreState, all_stamped, stamped}
use Rattle.sw_turns.proofs.ChangeLemmas.{along_stamped}
use Rattle.sw_turns.proofs.ComingLemmas.{of_turn_none, of_turn_stamped}
use Rattle.sw_turns.proofs.EndLemmas.{ends_done, ends_full, ends_stalled, ends_unmade, played, so_far_here}
use Rattle.sw_turns.proofs.SettleLemmas.{tended_alike, under_way}
use Rattle.sw_turns.specs.Coming.{AreOfTurn, NextHasNoRoom}
use Rattle.sw_turns.specs.Ends.{IsCutShort, IsTurnEnd}
use Rattle.sw_turns.specs.Flights.{AreInFlight, Flies, IsDue}
use Rattle.sw_turns.specs.Groups.{Begins, HasSome, IsBarren, IsUnderWay, KeepsLanes, LacksRoom, Leaves, Stops, over_by}
use Rattle.sw_turns.specs.Settling.{HasStopped, IsWritten, Standing}
use Rattle.sw_turns.specs.Surviving.{IsAtWork, kept_of}
use Rattle.sw_turns.specs.Turns.{HadNoRoom, HasPicked, HasTurned, IsAtRest, IsGoing, IsLanding, IsTurn, standing_of}
use Rattle.sw_turns.specs.Ways.{Way, recorded_way}
use Rattle.sw_turns.specs.declared.ends.DriveEnd.{DriveEnd}
use Rattle.sw_turns.specs.declared.ends.DriveEnd.TheVariants as drive_end
use Rattle.sw_turns.specs.declared.ends.Stop.{Stop}
use Rattle.sw_turns.specs.declared.ends.Stop.TheVariants as stop
use Rattle.sw_turns.specs.declared.ends.Turn.TheVariants as turn
use Rattle.sw_turns.specs.declared.progress.Progress.{Progress}
use Rattle.sw_twin.specs.Twin.{StandsIn, TwinState}
use Rattle.sw_state.specs.Hosted.{Hosted, state_of}

-- ---- what is under way

module _ (workers : ℕ) (way : Way) (base : Kept) (history : List Entry) (lanes : List Left) (store : StoreState)
    (goes : IsUnderWay workers way base history lanes store) (none : store.staged ≡ []) where
  pub sound : Coherent (state_of store.core)
  sound =
      let so_far = so_far_here workers way base history lanes store goes none in
      subst Coherent so_far.state_is (after-coherent base history so_far.legal.made)

  pub opens : Opens base history
  opens = (so_far_here workers way base history lanes store goes none).legal.opens

-- ---- room for a record

stands_in : (twin : TwinState) (spare : ℕ) (image : Image) → StandsIn twin image → StandsIn (record twin { journal = record twin.journal { spare = spare } }) image
stands_in twin spare image stands = record { ones = stands.ones; part = stands.part; journal = stands.journal }

-- room makes no difference to what a disk keeps
pub keeps_roomy : {D : Type 0} (disk : Ghosts D) (now : D) (kept : Kept) (twin next : TwinState) → IsSameTwin twin next → KeepsNow twin kept disk now → KeepsNow next kept disk now
keeps_roomy disk now kept twin next same keeps =
    subst (λ (other : TwinState). KeepsNow other kept disk now) (sym same)
    (record {
      stands =
          told_some (disk.seen now)
          (λ image. StandsIn (record twin { journal = record twin.journal { spare = next.journal.spare } }) image
          × ((c : Image) → disk.may_leave now c → StandsIn (record twin { journal = record twin.journal { spare = next.journal.spare } }) c))
          (λ image is. let all = told_at (disk.seen now) (λ image. StandsIn twin image × ((c : Image) → disk.may_leave now c → StandsIn twin c)) image is keeps.stands in
          (stands_in twin next.journal.spare image all.0, λ c left. stands_in twin next.journal.spare c (all.1 c left)));
      kept_is = keeps.kept_is;
    })

-- nor to the work behind a history
pub works_roomy : {D : Type 0} (disk : Ghosts D) (start now : D) (base : Kept) (history entries : List Entry) (store next : StoreState) → entries ≡ history → IsSameTwin store.twin next.twin
    → IsAtWork disk start now base history store → IsAtWork disk start now base entries next
works_roomy disk start now base history entries store next is same work =
    subst (λ (all : List Entry). IsAtWork disk start now base all next) (sym is)
    (record {
      told = work.told;
      clock = work.clock;
      calls = work.calls;
      faults = work.faults;
      keeps = keeps_roomy disk now (kept_of base history) store.twin next.twin same work.keeps;
      opened = work.opened;
      survives = work.survives;
      stamped = work.stamped;
      paced = work.paced;
      limit = ap (λ (twin : TwinState). twin.journal.limit) same ∙ work.limit;
    })

-- nor to whether what is kept had to be written anew
pub tended_roomy : (kept : Kept) (store next : StoreState) → IsSameTwin store.twin next.twin → next.mark ≡ store.mark → IsTended kept store → IsTended kept next
tended_roomy kept store next same mark tended =
    tended_alike kept store next mark (ap (λ (twin : TwinState). twin.journal.gate) same) (ap (λ (twin : TwinState). twin.journal.limit) same) tended

-- ---- what stopped the group

-- a group has stopped
pub begun : {D : Type 0} (disk : Ghosts D) (now : D) (s : Standing) (history entries : List Entry) (was store : StoreState) → entries ≡ history → IsSameTwin was.twin store.twin
    → Opens s.base history → KeepsNow was.twin (kept_of s.base history) disk now → Stops s.workers s.way s.base history s.lanes s.flights store s.stopped → HasStopped disk now s entries store
begun disk now s history entries was store is same opened keeps stops =
    subst (λ (all : List Entry). HasStopped disk now s all store) (sym is)
    (record {
      opens = opened;
      stops = stops;
      keeps = keeps_roomy disk now (kept_of s.base history) was.twin store.twin same keeps;
    })

-- the host of a turn with this in place of what it had
abbrev pub begun_host : Progress → Vec Entry Global → List Left → StoreState → List (Option Task) → Progress
begun_host before entries lanes store flights = record {
  store = store;
  lanes = lanes;
  net = before.net;
  flights = with_items before.flights flights;
  history = entries;
}

pub flights_are : (before : Progress) (flights : List (Option Task)) → length flights ≡ length before.flights.items → (with_items before.flights flights).items ≡ flights
flights_are before flights count = with_items_is before.flights flights (count ∙ sym before.flights.ok.0)

-- the group of a turn has stopped
module _ {D : Type 0} (disk : Ghosts D) (start now : D) (recording : Recording) (base : Kept) (before : Progress) (entries : Vec Entry Global) (lanes : List Left) (store : StoreState)
    (flights : List (Option Task)) (stopped : Stop) (going : IsGoing disk start now recording base before) (same : entries.items ≡ before.history.items)
    (count : length flights ≡ length before.flights.items) (twin : IsSameTwin before.store.twin store.twin)
    (goes_on : (recording : Recording) (base : Kept) (history : List Entry) → recording.fetches ≡ before.net → IsUnderWay (length before.flights.items) (recorded_way recording) base history before.lanes before.store
    → Stops (length before.flights.items) (recorded_way recording) base history lanes flights store stopped) where
  pub halted : HasStopped disk now (standing_of recording base (begun_host before entries lanes store flights) stopped) entries.items store
  halted =
      begun disk now (standing_of recording base (begun_host before entries lanes store flights) stopped) before.history.items entries.items before.store store same twin
      (opens (length before.flights.items) (recorded_way recording) base before.history.items before.lanes before.store going.under_way going.quiet.staged) going.at_work.keeps
      (subst (λ (all : List (Option Task)). Stops (length all) (recorded_way recording) base before.history.items lanes all store stopped) (sym (flights_are before flights count))
      (subst (λ (workers : ℕ). Stops workers (recorded_way recording) base before.history.items lanes flights store stopped) (sym count)
      (goes_on recording base before.history.items going.lines going.under_way)))

  pub working : IsAtWork disk start now base entries.items store
  working = works_roomy disk start now base before.history.items entries.items before.store store same twin going.at_work

  pub tending : store.mark ≡ before.store.mark → IsTended (kept_of base entries.items) store
  tending mark =
      subst (λ (all : List Entry). IsTended (kept_of base all) store) (sym same)
      (tended_roomy (kept_of base before.history.items) before.store store twin mark going.tended)

  -- what waits began at the state before
  pub grouped : IsGroup (state_of before.store.core) store
  grouped =
      let workers = length before.flights.items in
      let history = before.history.items in
      subst (λ (state : State). IsGroup state store)
      (so_far_here workers (recorded_way recording) base history before.lanes before.store going.under_way going.quiet.staged).state_is
      (under_way workers (recorded_way recording) base history lanes flights store stopped (goes_on recording base history going.lines going.under_way)).1.group

-- no turn comes to an end for want of turns
pub over_kept : (stopped : Stop) (some : Bool) → IfErr (over_by stopped some) IsTurnEnd
over_kept stop.Whole some = tt
over_kept stop.NoRoom some = tt
over_kept (stop.Fetch flown fetches) some = tt
over_kept stop.Idle true = tt
over_kept stop.Idle false = tt
over_kept stop.Done some = tt
over_kept (stop.Stalled lane) some = tt
over_kept (stop.Full happened from needed) some = tt
over_kept stop.NoMemory some = tt

-- a run that was cut short has an end that is kept
pub cut_kept : (ended : DriveEnd) → IsCutShort ended → IsTurnEnd ended
cut_kept drive_end.Done cut = tt
cut_kept (drive_end.Stalled lane) cut = tt
cut_kept (drive_end.DiskFault refused) cut = tt
cut_kept (drive_end.Full happened from needed) cut = tt
cut_kept drive_end.NoMemory cut = tt
cut_kept (drive_end.Spent spent) cut = cut

-- and has come to no other end
pub cut_rests : (ended : DriveEnd) (base : Kept) (p : Progress) → IsCutShort ended → IsAtRest ended base p
cut_rests drive_end.Done base p cut = absurd cut
cut_rests (drive_end.Stalled lane) base p cut = absurd cut
cut_rests (drive_end.DiskFault refused) base p cut = tt
cut_rests (drive_end.Full happened from needed) base p cut = absurd cut
cut_rests drive_end.NoMemory base p cut = tt
cut_rests (drive_end.Spent spent) base p cut = tt

module _ {D : Type 0} (disk : Ghosts D) (start now : D) (recording : Recording) (base : Kept) (p : Progress) (work : IsAtWork disk start now base p.history.items p.store) where
  abbrev workers : ℕ
  workers = length p.flights.items

  abbrev way : Way
  way = recorded_way recording

  -- where nothing waits, what was refused ends the run
  pub turned_barren : (stopped : Stop) (some : Bool) → IsBarren stopped → p.store.staged ≡ [] → Stops workers way base p.history.items p.lanes p.flights.items p.store stopped
      → HasTurned disk start now recording base p (over_by stopped some)
  turned_barren stop.Whole some barren none stops = absurd barren
  turned_barren stop.NoRoom some barren none stops = absurd barren
  turned_barren (stop.Fetch flown fetches) some barren none stops = absurd barren
  turned_barren stop.Idle some barren none stops = absurd barren
  turned_barren stop.Done some barren none stops = absurd barren
  turned_barren (stop.Stalled lane) some barren none stops = absurd barren
  turned_barren (stop.Full happened from needed) some barren none stops =
      let so_far = so_far_here workers way base p.history.items stops.held.before p.store stops.held.under_way none in
      (ends_full disk start now workers way base p.history.items p.store work p.lanes happened from needed stops, so_far.state_is)
  turned_barren stop.NoMemory some barren none stops = (
    ends_unmade disk start now workers way base p.history.items p.store work
        (played workers way base p.history.items stops.0 (state_of p.store.core) (so_far_here workers way base p.history.items stops.0 p.store stops.1 none)),
    tt,
  )

  module _ (lines : recording.fetches ≡ p.net) (quiet : WaitsForNothing p.store) (tended : IsTended (kept_of base p.history.items) p.store) (flights : AreInFlight (state_of p.store.core) p.flights.items) (due : IsDue (state_of p.store.core) p.lanes p.flights.items) where
    pub going : IsUnderWay workers way base p.history.items p.lanes p.store → IsGoing disk start now recording base p
    going goes = record { lines = lines; under_way = goes; quiet = quiet; at_work = work; tended = tended; flights = flights; due = due }

    -- the run goes on, or has ended
    pub turned : (stopped : Stop) (some : Bool) → Stops workers way base p.history.items p.lanes p.flights.items p.store stopped
        → HasTurned disk start now recording base p (over_by stopped some)
    turned stop.Whole some stops = going stops
    turned stop.NoRoom some stops = going stops
    turned (stop.Fetch flown fetches) some stops = going stops
    turned stop.Idle true stops = going stops.0
    turned stop.Idle false stops = going stops.0
    turned stop.Done some stops =
        let so_far = so_far_here workers way base p.history.items p.lanes p.store stops.0 quiet.staged in
        (ends_done disk start now workers way base p.history.items p.store work p.lanes (in_flight p.flights.items) so_far stops.1, so_far.state_is)
    turned (stop.Stalled lane) some stops =
        let so_far = so_far_here workers way base p.history.items p.lanes p.store stops.0 quiet.staged in
        (ends_stalled disk start now workers way base p.history.items p.store work p.lanes (in_flight p.flights.items) so_far lane stops.1, so_far.state_is)
    turned (stop.Full happened from needed) some stops = turned_barren (stop.Full happened from needed) some tt quiet.staged stops
    turned stop.NoMemory some stops = turned_barren stop.NoMemory some tt quiet.staged stops

-- ---- whose entries a turn adds

module _ (pass : ℕ) where
  all_stamped_own : (clock : ℕ) (entries : List Entry) → All (λ entry. entry.pass ≡ pass) entries → All (λ entry. entry.pass ≡ pass) (all_stamped clock entries)
  all_stamped_own clock [] own = All-nil (λ (entry : Entry). entry.pass ≡ pass)
  all_stamped_own clock (entry ∷ entries) own =
      All-cons (λ (entry : Entry). entry.pass ≡ pass) (stamped clock entry) (all_stamped clock entries)
      (All-head (λ (entry : Entry). entry.pass ≡ pass) entry entries own)
      (all_stamped_own clock entries (All-tail (λ (entry : Entry). entry.pass ≡ pass) entry entries own))

  pub own_same : (before after : List Entry) → after ≡ before → ThenOwn (λ entry. entry.pass) pass before after
  own_same before after is = ([], is ∙ sym (append-nil before), All-nil (λ (entry : Entry). entry.pass ≡ pass))

  pub own_written : (before after staged : List Entry) → ThenOwn (λ entry. entry.pass) pass [] staged → IsWritten before after staged → ThenOwn (λ entry. entry.pass) pass before after
  own_written before after staged own wrote = (
    all_stamped wrote.0 staged,
    wrote.1,
    all_stamped_own wrote.0 staged (subst (λ (entries : List Entry). All (λ entry. entry.pass ≡ pass) entries) (sym own.1) own.2),
  )

  pub own_either : (before after staged : List Entry) → ThenOwn (λ entry. entry.pass) pass [] staged → (after ≡ before) ⊎ IsWritten before after staged → ThenOwn (λ entry. entry.pass) pass before after
  own_either before after staged own wrote = ⊎_elim (own_same before after) (own_written before after staged own) wrote

-- ---- what a turn makes

-- the first entry of a group stands behind the history
first_there : (front staged : List Entry) (clock : ℕ) (entry : Entry) → slice_get staged 0 ≡ Some entry
    → slice_get (front ++ all_stamped clock staged) (length front) ≡ Some (stamped clock entry)
first_there [] [] clock entry got = absurd cc
first_there [] (first ∷ staged) clock entry got = ap (option_map (stamped clock)) got
first_there (one ∷ front) staged clock entry got = first_there front staged clock entry got

-- some wait whatever their stamps
some_stamped : (clock : ℕ) (staged : List Entry) → (staged ≡ [] → ⊥) → all_stamped clock staged ≡ [] → ⊥
some_stamped clock staged some none = some (nil_from_length staged (sym (length-map staged (stamped clock)) ∙ ap length none))

-- a turn that adds nothing
pub picked_none : (pass : ℕ) (before after : Progress) → after.history.items ≡ before.history.items → HasPicked pass before after before.lanes
picked_none pass before after same = record {
  added = [];
  history = same ∙ sym (append-nil before.history.items);
  few = omega arith;
  entries = of_turn_none before.net (state_of before.store.core) before.flights.items before.lanes pass [] refl;
}

-- one that adds what waited
pub picked_written : (pass : ℕ) (before after : Progress) (staged : List Entry) (left : List Left) → length staged ≤ 16
    → AreOfTurn before.net (state_of before.store.core) before.flights.items before.lanes pass staged left
    → IsWritten before.history.items after.history.items staged → HasPicked pass before after left
picked_written pass before after staged left few made wrote = record {
  added = all_stamped wrote.0 staged;
  history = wrote.1;
  few = omega (arith, few, length-map staged (stamped wrote.0));
  entries = of_turn_stamped before.net (state_of before.store.core) before.flights.items before.lanes pass wrote.0 staged left made;
}

-- one whose group was written, or was refused
pub picked_either : (pass : ℕ) (before after : Progress) (staged : List Entry) (left : List Left) → length staged ≤ 16
    → AreOfTurn before.net (state_of before.store.core) before.flights.items before.lanes pass staged left
    → (after.history.items ≡ before.history.items) ⊎ IsWritten before.history.items after.history.items staged
    → (left : List Left) × HasPicked pass before after left
picked_either pass before after staged left few made wrote =
    ⊎_elim (λ same. (before.lanes, picked_none pass before after same)) (λ written. (left, picked_written pass before after staged left few made written)) wrote

-- whether any wait
pub waiting_tells : (n : ℕ) (staged : List Entry) → n ≡ length staged → (nat_lt 0 n ≡ true → staged ≡ [] → ⊥) × (nat_lt 0 n ≡ false → staged ≡ [])
waiting_tells n [] is = (λ more none. absurd (grind (arith, nat_tests, more, is)), λ less. refl)
waiting_tells n (entry ∷ staged) is = (λ more none. absurd cc, λ less. absurd (grind (arith, nat_tests, less, is)))

-- where what comes next had no room in a group that began in a state, it had none in the record of the entries
had_no_room : (clock : ℕ) (before after : Progress) (store : StoreState) → IsGroup (state_of before.store.core) store → IsSameTwin before.store.twin store.twin → after.store.core ≡ store.core
    → LacksRoom stop.NoRoom before.net after.lanes after.flights.items store → HadNoRoom before after (all_stamped clock store.staged)
had_no_room clock before after store group same core lacks =
    let flights = after.flights.items in
    let long = lacks.long in
    record {
      payload = store.payload;
      spelled = ap (λ (all : List Change). spelled_all all) (along_stamped clock (state_of before.store.core) store.staged) ∙ group.spelled;
      lacks =
          subst (λ (host : Hosted). NextHasNoRoom before.net (state_of host) flights after.lanes store.payload before.store.twin) (sym core)
          (record {
            happened = lacks.happened;
            left = lacks.left;
            next = lacks.next;
            needed = lacks.needed;
            long = record {
              more = long.more;
              spelled = long.spelled;
              some = long.some;
              needs = long.needs;
              passes = omega (arith, long.passes, ap (λ (t : TwinState). t.journal.gate) same, ap (λ (t : TwinState). t.journal.limit) same);
            };
          });
    }

-- a group has stopped that began in a state, and its entries are the history's
module _ (pass : ℕ) (before after : Progress) (store : StoreState) (stopped : Stop) (wrote : IsWritten before.history.items after.history.items store.staged)
    (group : IsGroup (state_of before.store.core) store) (twin : IsSameTwin before.store.twin store.twin) (core : after.store.core ≡ store.core)
    (left : List Left) (few : length store.staged ≤ 16)
    (adds : AreOfTurn before.net (state_of before.store.core) before.flights.items before.lanes pass store.staged left) (keeps : KeepsLanes stopped left after.lanes)
    (first : (flown : Task) → Flies before.flights.items pass flown → Begins before.net (state_of before.store.core) flown store.staged stopped)
    (idle : ((stopped ≡ stop.Idle) × (store.staged ≡ [])) ↔ ((slice_get before.flights.items pass ≡ Some None)
    × (picked (state_of before.store.core) (in_flight before.flights.items) before.lanes ≡ pick.Idle)))
    (others : (other : ℕ) → (other ≡ pass → ⊥) → slice_get after.flights.items other ≡ slice_get before.flights.items other)
    (leaves : Leaves pass after.flights.items after.lanes (state_of after.store.core) stopped)
    (idles : stopped ≡ stop.Idle → picked (state_of after.store.core) (in_flight after.flights.items) after.lanes ≡ pick.Idle)
    (lacks : LacksRoom stopped before.net after.lanes after.flights.items store) where
  abbrev staged : List Entry
  staged = store.staged

  -- they leave this of the lanes, where the turn doesn't end the run
  grouped_by : (reason : Stop) → stopped ≡ reason → (KeepsLanes reason left after.lanes → after.lanes ≡ left) → HasPicked pass before after after.lanes
  grouped_by reason is same =
      subst (HasPicked pass before after) (sym (same (subst (λ (s : Stop). KeepsLanes s left after.lanes) is keeps)))
      (picked_written pass before after staged left few adds wrote)

  -- the event of the fetch that the pass had taken up is the first entry
  landed : (IsBarren stopped → ⊥) → (flown : Task) → Flies before.flights.items pass flown → IsLanding before after flown
  landed fruitful flown flies =
      ⊎_elim (λ barren. absurd (fruitful barren))
      (λ its. record {
        entry = stamped wrote.0 its.0;
        there = ap (λ (entries : List Entry). slice_get entries (length before.history.items)) wrote.1
            ∙ first_there before.history.items staged wrote.0 its.0 its.1;
        event = its.2;
      })
      (first flown flies)

  left_by : (reason : Stop) → stopped ≡ reason → Leaves pass after.flights.items after.lanes (state_of after.store.core) reason
  left_by reason is = subst (λ (s : Stop). Leaves pass after.flights.items after.lanes (state_of after.store.core) s) is leaves

  -- a turn that added entries
  entering : HasPicked pass before after after.lanes → (IsBarren stopped → ⊥) → (staged ≡ [] → ⊥) → slice_get after.flights.items pass ≡ Some None
      → (length staged ≡ 16) ⊎ ((picked (state_of after.store.core) (in_flight after.flights.items) after.lanes ≡ pick.Idle)
      ⊎ HadNoRoom before after (all_stamped wrote.0 staged)) → IsTurn pass before after turn.Entered
  entering picks fruitful some free until = record {
    group = picks;
    first = landed fruitful;
    entered = λ is. record {
      added = all_stamped wrote.0 staged;
      some = some_stamped wrote.0 staged some;
      history = wrote.1;
      free = free;
      until = ⊎_elim (λ whole. inl (length-map staged (stamped wrote.0) ∙ whole)) inr until;
    };
    fetch = λ flown fetches is. absurd cc;
    idle = (λ is. absurd cc, λ both. (let stays = idle.1 both in absurd (some stays.1)));
    still = λ is. absurd cc;
    others = others;
  }

  -- a turn that ended with a fetch
  fetching : (flown : Task) (fetches : Vec (List ℕ × ℕ) Global) → stopped ≡ stop.Fetch flown fetches → IsTurn pass before after (turn.Fetch flown fetches)
  fetching flown fetches is =
      let its = left_by (stop.Fetch flown fetches) is in
      record {
        group = grouped_by (stop.Fetch flown fetches) is (λ same. same);
        first = landed (λ barren. subst IsBarren is barren);
        entered = λ made. absurd cc;
        fetch = λ other gets made.
            let one : flown ≡ other = cc in
            let two : fetches ≡ gets = cc in (
              subst (Flies after.flights.items pass) one its.0,
              ap (λ (got : Vec (List ℕ × ℕ) Global). got.items) (sym two) ∙ its.1 ∙ ap (fetches_of (state_of after.store.core)) one,
              its.2 ∙ ap (λ (task : Task). pick.Work (work.Task task)) one,
            );
        idle = (λ made. absurd cc, λ both. (let clash : stop.Fetch flown fetches ≡ stop.Idle = sym is ∙ (idle.1 both).0 in absurd cc));
        still = λ made. absurd cc;
        others = others;
      }

  -- a turn without an entry, where nothing is ready but what is in flight
  idling : stopped ≡ stop.Idle → staged ≡ [] → IsTurn pass before after turn.Idle
  idling is none = record {
    group = grouped_by stop.Idle is (λ same. same);
    first = landed (λ barren. subst IsBarren is barren);
    entered = λ made. absurd cc;
    fetch = λ flown fetches made. absurd cc;
    idle = (λ made. idle.0 (is, none), λ both. refl);
    still = λ made. wrote.1 ∙ ap (λ (entries : List Entry). before.history.items ++ all_stamped wrote.0 entries) none ∙ append-nil before.history.items;
    others = others;
  }

  some_wait : length staged ≡ 16 → staged ≡ [] → ⊥
  some_wait whole none = let clash : 0 ≡ 16 = sym (ap length none) ∙ whole in cc

  -- whatever stopped the group
  pub made_by : (reason : Stop) (some : Bool) → stopped ≡ reason → HasSome reason staged → (some ≡ true → staged ≡ [] → ⊥) → (some ≡ false → staged ≡ [])
      → IfOk (over_by reason some) (IsTurn pass before after)
  made_by stop.Whole some is has full empty =
      entering (grouped_by stop.Whole is (λ same. same)) (λ barren. subst IsBarren is barren) (some_wait has) (left_by stop.Whole is) (inl has)
  made_by stop.NoRoom some is has full empty =
      entering (grouped_by stop.NoRoom is (λ same. same)) (λ barren. subst IsBarren is barren) has (left_by stop.NoRoom is)
      (inr (inr (had_no_room wrote.0 before after store group twin core
      (subst (λ (s : Stop). LacksRoom s before.net after.lanes after.flights.items store) is lacks))))
  made_by (stop.Fetch flown fetches) some is has full empty = fetching flown fetches is
  made_by stop.Idle true is has full empty =
      entering (grouped_by stop.Idle is (λ same. same)) (λ barren. subst IsBarren is barren) (full refl) (left_by stop.Idle is) (inr (inl (idles is)))
  made_by stop.Idle false is has full empty = idling is (empty refl)
  made_by stop.Done some is has full empty = tt
  made_by (stop.Stalled lane) some is has full empty = tt
  made_by (stop.Full happened from needed) some is has full empty = tt
  made_by stop.NoMemory some is has full empty = tt
