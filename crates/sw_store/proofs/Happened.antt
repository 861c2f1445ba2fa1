-- An event that has happened goes on with what waits.
use Rattle.std.proofs.Common.{◌≡◌, ◌≢◌, ◌+◌, ◌<◌, List, [], ◌∷◌, ◌++◌, length, ℕ, Option, Some, Bool, false, nat_eq, refl, sym, ◌∙◌, ap, subst, append_assoc, arith, length-append}
use Rattle.std.proofs.lemmas.List.{append-nil}
use Rattle.std.specs.Option.{option_map_or}
use Rattle.sw_codec.specs.Spelling.{spelled_all}
use Rattle.sw_data.specs.declared.events.Event.{Event}
use Rattle.sw_data.specs.declared.histories.Entry.{Entry}
use Rattle.sw_data.specs.declared.storage.Change.{Change}
use Rattle.sw_journal.specs.Format.{format_2, needed_length}
use Rattle.sw_laws.specs.Laws.{changes_along}
use Rattle.sw_rules.proofs.HistoryLemmas.{after_entries-snoc}
use Rattle.sw_rules.specs.History.{after_entries, moved}
use Rattle.sw_rules.specs.State.{State}
use Rattle.sw_rules.specs.Step.{changes_of, state_after}
use Rattle.sw_rules.specs.Told.{Outcome}
use Rattle.sw_data.specs.declared.storage.Kept.{Kept}
use Rattle.sw_twin.specs.Twin.{TwinState}
use Rattle.sw_store.proofs.Appends.{some_byte}
use Rattle.sw_store.proofs.Spelled.{spelled_both}
use Rattle.sw_store.specs.declared.errors.StageError.{StageError}
use Rattle.sw_store.specs.declared.errors.StageError.TheVariants as error
use Rattle.sw_store.specs.Groups.{IsEntry, IsGroup, IsPlaced, IsStaged, IsTooLong}
use Rattle.sw_store.specs.Stores.{GroupState, IsSameTwin, StoreState, store_of}
use Rattle.sw_state.specs.Hosted.{Hosted, state_of}

-- ---- refusals

-- an event is refused by whether another waits
pub full_is : (entries : List Entry) (happened : Event) (from need : ℕ) (told : StageError) → (entries ≡ [] → told ≡ error.Full happened from need) → (entries ≢ [] → told ≡ error.NoRoom happened)
    → (refused : Event) (at needed : ℕ) → told ≡ error.Full refused at needed → (refused ≡ happened) × (entries ≡ []) × (at ≡ from) × (needed ≡ need)
full_is [] happened from need told full no_room refused at needed is =
    let same : error.Full happened from need ≡ error.Full refused at needed = sym (full refl) ∙ is in
    (cc, refl, cc, cc)
full_is (first ∷ rest) happened from need told full no_room refused at needed is =
    let other : error.NoRoom happened ≡ error.Full refused at needed = sym (no_room (λ none. cc)) ∙ is in
    absurd cc

pub no_room_is : (entries : List Entry) (happened : Event) (from need : ℕ) (told : StageError) → (entries ≡ [] → told ≡ error.Full happened from need) → (entries ≢ [] → told ≡ error.NoRoom happened)
    → (refused : Event) → told ≡ error.NoRoom refused → (refused ≡ happened) × (entries ≢ [])
no_room_is [] happened from need told full no_room refused is =
    let other : error.Full happened from need ≡ error.NoRoom refused = sym (full refl) ∙ is in
    absurd cc
no_room_is (first ∷ rest) happened from need told full no_room refused is =
    let same : error.NoRoom happened ≡ error.NoRoom refused = sym (no_room (λ none. cc)) ∙ is in
    (cc, λ none. cc)

-- a record of this length is too long
pub too_long : (changes : List Change) (more before payload : List ℕ) (twin : TwinState) → spelled_all changes ≡ Some more → twin.journal.format ≡ format_2 → (test : Bool) → test ≡ nat_eq (length more) 0 → test ≡ false
    → before ≡ payload
    → twin.journal.limit < twin.journal.gate + 1 + needed_length twin.journal.format (length before + length more)
    → IsTooLong changes payload twin (needed_length twin.journal.format (length before + length more))
too_long changes more before payload twin spelled format test is not_empty same passes = record {
  more = more;
  spelled = spelled;
  some = some_byte more test is not_empty;
  needs = λ i. needed_length (format i) ((ap (λ (l : List ℕ). length l + length more) same ∙ sym (length-append payload more)) i);
  passes = passes;
}

-- and so it was before there was more room
pub too_long_before : (changes : List Change) (before payload : List ℕ) (old new : TwinState) (needed : ℕ) → before ≡ payload → IsSameTwin old new → IsTooLong changes before new needed → IsTooLong changes payload old needed
too_long_before changes before payload old new needed same is long = record {
  more = long.more;
  spelled = long.spelled;
  some = long.some;
  needs = long.needs ∙ ap (λ (l : List ℕ). needed_length format_2 (length (l ++ long.more))) same;
  passes = omega (arith, long.passes, ap (λ (t : TwinState). t.journal.limit) is, ap (λ (t : TwinState). t.journal.gate) is);
}

-- ---- what waits

-- the durable changes of entries with one more behind them
pub changes_along-snoc : (state : State) (entries : List Entry) (entry : Entry)
    → changes_along state (entries ++ entry ∷ []) ≡ changes_along state entries ++ changes_of (after_entries state entries) entry.event
changes_along-snoc state [] entry = append-nil (changes_of state entry.event)
changes_along-snoc state (first ∷ entries) entry =
    let behind = changes_along (moved state first) entries in
    let last = changes_of (after_entries (moved state first) entries) entry.event in
    ap (λ (l : List Change). changes_of state first.event ++ l) (changes_along-snoc (moved state first) entries entry)
    ∙ sym (append_assoc (changes_of state first.event) behind last)

-- an entry leaves the state that its step leaves
pub moved_by : (happened : Event) (pass : ℕ) (old : State) (entry : Entry) (new : State) → IsEntry happened pass old entry new → moved old entry ≡ new
moved_by happened pass old entry new is =
    ap (state_after old) is.event
    ∙ ap (λ (comes : Option Outcome). option_map_or (λ (outcome : Outcome). outcome.told.state) comes old) is.step.1

-- and what waits goes on from the state at which it began
pub goes_on : (begun : State) (happened : Event) (pass : ℕ) (old new : StoreState) → IsStaged happened pass old new → IsGroup begun old → IsGroup begun new
goes_on begun happened pass old new staged group =
    let entry = staged.entry in
    let all : new.staged ≡ old.staged ++ entry ∷ [] = ap (λ (s : StoreState). s.staged) staged.rest in
    let bytes : new.payload ≡ old.payload ++ staged.more = ap (λ (s : StoreState). s.payload) staged.rest in
    let there : changes_of (after_entries begun old.staged) entry.event ≡ changes_of (state_of old.core) happened = λ i. changes_of (group.now i) (staged.is_entry.event i) in
    record {
      now = ap (after_entries begun) all
          ∙ (after_entries-snoc begun old.staged entry
          ∙ (ap (λ (s : State). moved s entry) group.now
          ∙ moved_by happened pass (state_of old.core) entry (state_of new.core) staged.is_entry));
      spelled = ap (λ (entries : List Entry). spelled_all (changes_along begun entries)) all
          ∙ (ap spelled_all (changes_along-snoc begun old.staged entry)
          ∙ (spelled_both (changes_along begun old.staged) (changes_of (after_entries begun old.staged) entry.event) old.payload staged.more group.spelled (ap spelled_all there ∙ staged.spelled)
          ∙ ap (λ (l : List ℕ). Some l) (sym bytes)));
    }

-- an event that has happened on the tables of a store
module _ (happened : Event) (pass : ℕ) (core mid new : Hosted) (twin next : TwinState) (base : Kept) (before after : GroupState) (mark : ℕ) (since : Option ℕ) where
  pub staged_store : state_of mid ≡ state_of core → IsSameTwin twin next → (more : List ℕ) → spelled_all (changes_of (state_of mid) happened) ≡ Some more
      → IsPlaced happened pass (state_of mid) before more after (state_of new)
      → IsStaged happened pass (store_of core twin base before mark since) (store_of new next base after mark since)
  staged_store same is more spelled placed = record {
    entry = placed.entry;
    more = more;
    is_entry = subst (λ (s : State). IsEntry happened pass s placed.entry (state_of new)) same placed.is_entry;
    spelled = ap (λ (s : State). spelled_all (changes_of s happened)) (sym same) ∙ spelled;
    rest = λ i. record { core = new; twin = is i; base = base; staged = placed.entries i; payload = placed.payload i; mark = mark; since = since };
  }
