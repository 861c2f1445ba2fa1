-- Events that join a group.
use Rattle.std.proofs.Common.{◌≡◌, ◌≢◌, ◌∙◌, ℕ, ◌+◌, ◌<◌, List, [], ◌∷◌, ◌++◌, length, length-append, append_assoc, Option, Some, None, slice_get, refl, sym, ap, subst, arith}
use Rattle.std.specs.Option.{option_map_or}
use Rattle.std.proofs.lemmas.List.{append-nil, map_push}
use Rattle.std.proofs.lemmas.List.Elements.{All-append, All-nil, All-push}
use Rattle.sw_data.specs.declared.events.Event.{Event}
use Rattle.sw_data.specs.declared.histories.Entry.{Entry}
use Rattle.sw_data.specs.declared.histories.Task.{Task}
use Rattle.sw_data.specs.declared.recordings.FetchLine.{FetchLine}
use Rattle.sw_data.specs.declared.recordings.Recording.{Recording}
use Rattle.sw_data.specs.declared.storage.Kept.{Kept}
use Rattle.sw_codec.specs.Spelling.{spelled_all}
use Rattle.sw_journal.specs.Format.{format_2, needed_length}
use Rattle.sw_lane.specs.declared.picks.Pick.{Pick}
use Rattle.sw_lane.specs.Left.{Left}
use Rattle.sw_lane.specs.Picked.{picked}
use Rattle.sw_laws.specs.Coherent.{Coherent}
use Rattle.sw_laws.specs.Laws.{changes_along}
use Rattle.sw_laws.proofs.LawProofs.{is_always_coherent}
use Rattle.sw_lock.specs.Entries.{ThenOwn}
use Rattle.sw_turns.specs.Flights.{AreInFlight, Spares}
use Rattle.sw_turns.specs.Coming.{NextHasNoRoom, IsPickedNext}
use Rattle.sw_turns.specs.Groups.{ComesBehind, HasSome, IsBarren, IsByPick, IsHeld, IsRefused, IsTaken, IsUnderWay, KeepsLanes, LacksRoom, Leaves, StaysOut, Stops, stop_by}
use Rattle.sw_turns.specs.Playing.{ComesByPick, ComesNext, IsSoFar}
use Rattle.sw_turns.specs.Ways.{Way, recorded_way}
use Rattle.sw_turns.specs.declared.ends.Refusal.{Refusal}
use Rattle.sw_turns.specs.declared.ends.Refusal.TheVariants as refusal
use Rattle.sw_turns.specs.declared.ends.Stop.{Stop}
use Rattle.sw_turns.specs.declared.ends.Stop.TheVariants as stop
use Rattle.sw_rules.specs.History.{after, after_entries}
use Rattle.sw_rules.specs.State.{State}
use Rattle.sw_turns.proofs.FlightLemmas.{spared_fly}
use Rattle.sw_rules.specs.Step.{changes_of, state_after}
use Rattle.sw_rules.specs.Told.{Outcome}
use Rattle.sw_store.specs.Groups.{IsEntry, IsGroup, IsStaged, IsTooLong}
use Rattle.sw_store.specs.Stores.{IsSame, IsSameTwin, StoreState, all_stamped, stamped}
use Rattle.sw_twin.specs.Twin.{TwinState}
use Rattle.sw_state.specs.Hosted.{Hosted, state_of}

-- ---- an event has joined

module _ (happened : Event) (pass : ℕ) (old new : StoreState) (has : IsStaged happened pass old new) where
  staged_is : new.staged ≡ old.staged ++ has.entry ∷ []
  staged_is = ap (λ (s : StoreState). s.staged) has.rest

  one_more_waits : length new.staged ≡ length old.staged + 1
  one_more_waits = ap length staged_is ∙ length-append old.staged (has.entry ∷ [])

  pub leaves_state : state_after (state_of old.core) happened ≡ state_of new.core
  leaves_state = ap (λ (r : Option Outcome). option_map_or (λ outcome. outcome.told.state) r (state_of old.core)) has.is_entry.step.1

  -- the state that the event leaves is coherent
  pub stays_coherent : Coherent (state_of old.core) → Coherent (state_of new.core)
  stays_coherent sound = subst Coherent leaves_state (is_always_coherent.steps (state_of old.core) happened sound)

  -- what the event spares stays in flight
  pub stays_flying : (flights : List (Option Task)) → Coherent (state_of old.core) → Spares happened flights → AreInFlight (state_of old.core) flights → AreInFlight (state_of new.core) flights
  stays_flying flights sound spares flying =
      subst (λ (state : State). AreInFlight state flights) leaves_state (spared_fly (state_of old.core) happened flights sound spares flying)

  -- it waits behind the others
  pub entry_waits : (entry : Entry) × (entry.event ≡ happened) × (new.staged ≡ old.staged ++ entry ∷ [])
  entry_waits = (has.entry, has.is_entry.event, staged_is)

  -- the entry that joins is this pass's
  pub adds_own : ThenOwn (λ (entry : Entry). entry.pass) pass old.staged new.staged
  adds_own = (has.entry ∷ [], staged_is, All-push (λ (entry : Entry). entry.pass ≡ pass) [] has.entry (All-nil (λ (entry : Entry). entry.pass ≡ pass)) has.is_entry.pass_is)

  module _ (workers : ℕ) (below : pass < workers) (way : Way) (base : Kept) (history : List Entry) (lanes : List Left) (held : IsHeld workers way base history lanes old happened) where
    -- behind the history and what waits, whatever clock they will be stamped with
    goes_on_by : (clock : ℕ) → IsSoFar workers way base (history ++ all_stamped clock new.staged) lanes (state_of new.core)
    goes_on_by clock =
        let entry : Entry = has.entry in
        let is_entry : IsEntry happened pass (state_of old.core) (stamped clock entry) (state_of new.core) = record {
          pass_is = has.is_entry.pass_is;
          maker = has.is_entry.maker;
          event = has.is_entry.event;
          step = has.is_entry.step;
        } in
        let waits : all_stamped clock new.staged ≡ all_stamped clock old.staged ++ stamped clock entry ∷ [] =
        ap (all_stamped clock) staged_is ∙ map_push (stamped clock) old.staged entry in
        let whole : history ++ all_stamped clock new.staged ≡ (history ++ all_stamped clock old.staged) ++ stamped clock entry ∷ [] =
        ap (λ (xs : List Entry). history ++ xs) waits ∙ sym (append_assoc history (all_stamped clock old.staged) (stamped clock entry ∷ [])) in
        subst (λ (h : List Entry). IsSoFar workers way base h lanes (state_of new.core)) (sym whole)
        ((held.next clock).goes_on pass (stamped clock entry) (state_of new.core) below (held.under_way.so_far clock) is_entry)

    goes_on_with : length old.staged < 16 → IsGroup (after base history) new → IsUnderWay workers way base history lanes new
    goes_on_with few group = record {
      so_far = goes_on_by;
      group = group;
      few = omega (arith, few, one_more_waits);
      since = ap (λ (s : StoreState). s.since) has.rest ∙ held.under_way.since;
    }

-- ---- a call left all as it was

module _ (old new : StoreState) (same : IsSame old new) where
  pub same_staged : new.staged ≡ old.staged
  same_staged = ap (λ (s : StoreState). s.staged) same.rest

  same_payload : new.payload ≡ old.payload
  same_payload = ap (λ (s : StoreState). s.payload) same.rest

  same_gate : new.twin.journal.gate ≡ old.twin.journal.gate
  same_gate = ap (λ (s : StoreState). s.twin.journal.gate) same.rest

  same_limit : new.twin.journal.limit ≡ old.twin.journal.limit
  same_limit = ap (λ (s : StoreState). s.twin.journal.limit) same.rest

  -- the event has no room all the same
  pub still_too_long : (happened : Event) (needed : ℕ) → IsTooLong (changes_of (state_of old.core) happened) old.payload old.twin needed
      → IsTooLong (changes_of (state_of new.core) happened) new.payload new.twin needed
  still_too_long happened needed long = record {
    more = long.more;
    spelled = ap (λ (state : State). spelled_all (changes_of state happened)) same.state ∙ long.spelled;
    some = long.some;
    needs = long.needs ∙ ap (λ (payload : List ℕ). needed_length format_2 (length (payload ++ long.more))) (sym same_payload);
    passes = omega (arith, long.passes, same_gate, same_limit);
  }

  pub same_flying : (flights : List (Option Task)) → AreInFlight (state_of old.core) flights → AreInFlight (state_of new.core) flights
  same_flying flights flying = subst (λ (state : State). AreInFlight state flights) (sym same.state) flying

  pub same_own : (pass : ℕ) → ThenOwn (λ (entry : Entry). entry.pass) pass old.staged new.staged
  same_own pass = ([], same_staged ∙ sym (append-nil old.staged), All-nil (λ (entry : Entry). entry.pass ≡ pass))

  module _ (workers : ℕ) (way : Way) (base : Kept) (history : List Entry) where
    pub stays_under_way : (lanes : List Left) → IsUnderWay workers way base history lanes old → IsUnderWay workers way base history lanes new
    stays_under_way lanes goes = record {
      so_far = λ clock.
          subst (λ (staged : List Entry). IsSoFar workers way base (history ++ all_stamped clock staged) lanes (state_of new.core)) (sym same_staged)
          (subst (λ (state : State). IsSoFar workers way base (history ++ all_stamped clock old.staged) lanes state) (sym same.state) (goes.so_far clock));
      group = record {
        now = ap (after_entries (after base history)) same_staged ∙ goes.group.now ∙ sym same.state;
        spelled = ap (λ (staged : List Entry). spelled_all (changes_along (after base history) staged)) same_staged
            ∙ goes.group.spelled ∙ ap (λ (payload : List ℕ). Some payload) (sym same_payload);
      };
      few = omega (arith, goes.few, ap length same_staged);
      since = ap (λ (s : StoreState). s.since) same.rest ∙ goes.since;
    }

    -- the event comes next all the same
    stays_held : (lanes : List Left) (happened : Event) → IsHeld workers way base history lanes old happened → IsHeld workers way base history lanes new happened
    stays_held lanes happened held = record {
      before = held.before;
      under_way = stays_under_way held.before held.under_way;
      next = λ clock.
          subst (λ (staged : List Entry). ComesNext workers way base (history ++ all_stamped clock staged) held.before lanes (state_of new.core) happened) (sym same_staged)
          (subst (λ (state : State). ComesNext workers way base (history ++ all_stamped clock old.staged) held.before lanes state happened) (sym same.state) (held.next clock));
    }

    -- the event has no room, though nothing waits
    pub is_refused : (lanes : List Left) (happened : Event) (from needed : ℕ) → IsHeld workers way base history lanes old happened → old.staged ≡ []
        → from ≡ old.twin.journal.gate + 1 → IsTooLong (changes_of (state_of old.core) happened) old.payload old.twin needed
        → IsRefused workers way base history lanes new happened from needed
    is_refused lanes happened from needed held none at long =
        let empty : old.payload ≡ [] =
        (let both : Some [] ≡ Some old.payload =
        ap (λ (staged : List Entry). spelled_all (changes_along (after base history) staged)) (sym none) ∙ held.under_way.group.spelled in sym cc) in
        record {
          held = stays_held lanes happened held;
          none = same_staged ∙ none;
          offset = omega (arith, at, same_gate);
          long =
              subst (λ (payload : List ℕ). IsTooLong (changes_of (state_of new.core) happened) payload new.twin needed) (same_payload ∙ empty)
              (still_too_long happened needed long);
        }

-- ---- what the calls answer

-- an event comes next behind what waits
pub holds : (workers : ℕ) (way : Way) (base : Kept) (history : List Entry) (before lanes : List Left) (store : StoreState) (happened : Event)
    → IsUnderWay workers way base history before store → ComesBehind workers way base history before lanes store happened
    → IsHeld workers way base history lanes store happened
holds workers way base history before lanes store happened goes next = record { before = before; under_way = goes; next = next }

-- the event that comes next has joined the group
pub joined : (happened : Event) (pass : ℕ) (old new : StoreState) → IsStaged happened pass old new → length old.staged < 16
    → ((begun : State) → IsGroup begun old → IsGroup begun new)
    → (workers : ℕ) (way : Way) (base : Kept) (history : List Entry) (lanes : List Left) → pass < workers → IsHeld workers way base history lanes old happened
    → IsUnderWay workers way base history lanes new
joined happened pass old new has few group workers way base history lanes below held =
    goes_on_with happened pass old new has workers below way base history lanes held few (group (after base history) held.under_way.group)

-- the event of what was picked comes next behind what waits, of whatever recording with these fetch lines
pub next_of : (workers : ℕ) (lines : List FetchLine) (lanes left : List Left) (host : Hosted) (store : StoreState) (happened : Event) → host ≡ store.core
    → ComesByPick workers lines lanes left (state_of host) happened → (recording : Recording) (base : Kept) (history : List Entry) → recording.fetches ≡ lines
    → ComesBehind workers (recorded_way recording) base history lanes left store happened
next_of workers lines lanes left host store happened same next recording base history gives = λ clock.
    subst (λ (h : Hosted). ComesNext workers (recorded_way recording) base (history ++ all_stamped clock store.staged) lanes left (state_of h) happened) same
    (next.next (recorded_way recording) base (history ++ all_stamped clock store.staged) gives refl)

-- and is that of what the pick order has next
pub next_pick : (lines : List FetchLine) (flights : List (Option Task)) (lanes left : List Left) (host now : Hosted) (happened : Event) → host ≡ now
    → IsPickedNext lines (state_of host) flights lanes happened left → IsPickedNext lines (state_of now) flights lanes happened left
next_pick lines flights lanes left host now happened same next =
    subst (λ (h : Hosted). IsPickedNext lines (state_of h) flights lanes happened left) same next

-- ---- an event that didn't join

-- why a group stops then
module _ (stopped : Stop) (why : Refusal) (is : stopped ≡ stop_by why) where
  by_why : (P : Stop → Type 0) → P (stop_by why) → P stopped
  by_why P holds = subst P (sym is) holds

  pub stop_picks : IsByPick stopped
  stop_picks = by_why IsByPick (each why)
    where
      each : (why : Refusal) → IsByPick (stop_by why)
      each (refusal.NoRoom kept) = tt
      each (refusal.Full kept from needed) = tt
      each refusal.NoMemory = tt

  pub stop_takes : (pass : ℕ) (flights : List (Option Task)) → IsTaken pass flights flights stopped
  stop_takes pass flights = by_why (IsTaken pass flights flights) (each why)
    where
      each : (why : Refusal) → IsTaken pass flights flights (stop_by why)
      each (refusal.NoRoom kept) = refl
      each (refusal.Full kept from needed) = refl
      each refusal.NoMemory = refl

  pub stop_leaves : (pass : ℕ) (flights : List (Option Task)) (lanes : List Left) (state : State) → slice_get flights pass ≡ Some None → Leaves pass flights lanes state stopped
  stop_leaves pass flights lanes state free = by_why (Leaves pass flights lanes state) (each why)
    where
      each : (why : Refusal) → Leaves pass flights lanes state (stop_by why)
      each (refusal.NoRoom kept) = free
      each (refusal.Full kept from needed) = free
      each refusal.NoMemory = tt

  pub stop_keeps : (lanes : List Left) → KeepsLanes stopped lanes lanes
  stop_keeps lanes = by_why (λ s. KeepsLanes s lanes lanes) (each why)
    where
      each : (why : Refusal) → KeepsLanes (stop_by why) lanes lanes
      each (refusal.NoRoom kept) = refl
      each (refusal.Full kept from needed) = tt
      each refusal.NoMemory = tt

  pub stop_some : (staged : List Entry) → ((kept : Event) → why ≡ refusal.NoRoom kept → staged ≢ []) → HasSome stopped staged
  stop_some staged some = by_why (λ s. HasSome s staged) (each why some)
    where
      each : (why : Refusal) → ((kept : Event) → why ≡ refusal.NoRoom kept → staged ≢ []) → HasSome (stop_by why) staged
      each (refusal.NoRoom kept) some = some kept refl
      each (refusal.Full kept from needed) some = tt
      each refusal.NoMemory some = tt

  pub stop_lacks : (lines : List FetchLine) (lanes : List Left) (flights : List (Option Task)) (store : StoreState)
      → ((kept : Event) → why ≡ refusal.NoRoom kept → NextHasNoRoom lines (state_of store.core) flights lanes store.payload store.twin)
      → LacksRoom stopped lines lanes flights store
  stop_lacks lines lanes flights store lacks = by_why (λ s. LacksRoom s lines lanes flights store) (each why lacks)
    where
      each : (why : Refusal) → ((kept : Event) → why ≡ refusal.NoRoom kept → NextHasNoRoom lines (state_of store.core) flights lanes store.payload store.twin)
          → LacksRoom (stop_by why) lines lanes flights store
      each (refusal.NoRoom kept) lacks = lacks kept refl
      each (refusal.Full kept from needed) lacks = tt
      each refusal.NoMemory lacks = tt

  -- where nothing waited the group is barren
  pub stop_barren : IsBarren (stop_by why) → IsBarren stopped
  stop_barren barren = by_why IsBarren barren

  module _ (workers : ℕ) (way : Way) (base : Kept) (history : List Entry) (flights : List (Option Task)) (store : StoreState) where
    -- an event that leaves the lanes as they are
    pub stop_stays : (lanes : List Left) → StaysOut workers way base history lanes lanes store why → Stops workers way base history lanes flights store stopped
    stop_stays lanes stays = by_why (Stops workers way base history lanes flights store) (each why stays)
      where
        each : (why : Refusal) → StaysOut workers way base history lanes lanes store why → Stops workers way base history lanes flights store (stop_by why)
        each (refusal.NoRoom kept) stays = stays
        each (refusal.Full kept from needed) stays = stays
        each refusal.NoMemory stays = (lanes, stays)

-- a barren group lacks no room
pub barren_lacks : (stopped : Stop) (lines : List FetchLine) (lanes : List Left) (flights : List (Option Task)) (store : StoreState) → IsBarren stopped → LacksRoom stopped lines lanes flights store
barren_lacks stop.Whole lines lanes flights store barren = tt
barren_lacks stop.NoRoom lines lanes flights store barren = absurd barren
barren_lacks (stop.Fetch flown fetches) lines lanes flights store barren = tt
barren_lacks stop.Idle lines lanes flights store barren = tt
barren_lacks stop.Done lines lanes flights store barren = tt
barren_lacks (stop.Stalled lane) lines lanes flights store barren = tt
barren_lacks (stop.Full happened from needed) lines lanes flights store barren = tt
barren_lacks stop.NoMemory lines lanes flights store barren = tt

-- what the pick order has next has no room
pub no_room : (lines : List FetchLine) (flights : List (Option Task)) (lanes left : List Left) (happened : Event) (old new : StoreState) (needed : ℕ)
    → IsPickedNext lines (state_of old.core) flights lanes happened left → state_of new.core ≡ state_of old.core
    → IsTooLong (changes_of (state_of new.core) happened) new.payload new.twin needed
    → NextHasNoRoom lines (state_of new.core) flights lanes new.payload new.twin
no_room lines flights lanes left happened old new needed next still long = record {
  happened = happened;
  left = left;
  next = subst (λ (state : State). IsPickedNext lines state flights lanes happened left) (sym still) next;
  needed = needed;
  long = long;
}

-- what is picked in the state of a store
pub picked_by : (host now : Hosted) (flying : List Task) (lanes : List Left) (got : Pick) → host ≡ now → got ≡ picked (state_of host) flying lanes → picked (state_of now) flying lanes ≡ got
picked_by host now flying lanes got same is = subst (λ (h : Hosted). picked (state_of h) flying lanes ≡ got) same (sym is)

-- a journal that differs in its room from one that does from another
pub same_twins : (old middle new : TwinState) → IsSameTwin old middle → IsSameTwin middle new → IsSameTwin old new
same_twins old middle new is was =
    was ∙ ap (λ (twin : TwinState). record twin { journal = record twin.journal { spare = new.journal.spare } }) is

-- a pass that adds nothing
pub none_own : (pass : ℕ) (entries : List Entry) → ThenOwn (λ (entry : Entry). entry.pass) pass entries entries
none_own pass entries = ([], sym (append-nil entries), All-nil (λ (entry : Entry). entry.pass ≡ pass))

-- what a pass adds twice it adds
pub further_own : (pass : ℕ) (old middle new : List Entry) → ThenOwn (λ (entry : Entry). entry.pass) pass old middle → ThenOwn (λ (entry : Entry). entry.pass) pass middle new
    → ThenOwn (λ (entry : Entry). entry.pass) pass old new
further_own pass old middle new one more = (
  one.0 ++ more.0,
  more.1 ∙ (ap (λ (entries : List Entry). entries ++ more.0) one.1 ∙ append_assoc old one.0 more.0),
  All-append (λ (entry : Entry). entry.pass ≡ pass) one.0 more.0 one.2 more.2,
)

-- the first that joins a group in which nothing waited is its first
pub first_waits : (pass : ℕ) (old middle new : List Entry) (entry : Entry) → old ≡ [] → middle ≡ old ++ entry ∷ [] → ThenOwn (λ (other : Entry). other.pass) pass middle new
    → slice_get new 0 ≡ Some entry
first_waits pass old middle new entry none joins more =
    ap (λ (all : List Entry). slice_get all 0)
    (more.1 ∙ ap (λ (all : List Entry). all ++ more.0) (joins ∙ ap (λ (all : List Entry). all ++ entry ∷ []) none))
