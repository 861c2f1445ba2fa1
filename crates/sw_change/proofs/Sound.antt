-- What holds of each content that changes make of nothing.
use Rattle.std.proofs.Common.{◌≡◌, ℕ, ◌+◌, ◌≤◌, Bool, true, false, not, cond, leb, List, [], ◌∷◌, ◌++◌, map, filter, Option, Some, None, Result, Ok, Err, refl, sym, ap, subst, arith, append_assoc}
use Rattle.std.specs.Prelude.{◌||◌, ◌&&◌, bytes_eq, is_some, sum_by, fold}
use Rattle.std.specs.List.{list_any, IsDistinct, AllByRecursion}
use Rattle.std.proofs.lemmas.Bool.{leb-true}
use Rattle.std.proofs.lemmas.List.{append-nil}
use Rattle.std.proofs.lemmas.List.Sums.{sum_by-cons}
use Rattle.sw_data.specs.declared.answers.Cause.{Cause}
use Rattle.sw_data.specs.declared.exchange.Op.{Op}
use Rattle.sw_data.specs.declared.exchange.Op.TheVariants as op
use Rattle.sw_data.specs.declared.exchange.Options.{Options}
use Rattle.sw_data.specs.declared.exchange.Request.{Request}
use Rattle.sw_data.specs.declared.storage.Change.{Change}
use Rattle.sw_data.specs.declared.storage.Change.TheVariants as change
use Rattle.sw_data.specs.declared.storage.Kept.{Kept}
use Rattle.sw_data.specs.declared.storage.KeptCache.{KeptCache}
use Rattle.sw_data.specs.declared.storage.KeptRegistration.{KeptRegistration}
use Rattle.sw_data.specs.declared.storage.KeptWorker.{KeptWorker}
use Rattle.sw_data.specs.declared.workers.Mode.{Mode}
use Rattle.sw_data.specs.Exchange.{no_options}
use Rattle.sw_data.specs.Sizes.{op_size}
use Rattle.sw_rules.specs.Batch.{BatchFault, TypeError, InvalidState, Quota, put_fault, matches_added, without_matching, go, quota, within_quota}
use Rattle.sw_rules.specs.Matching.{Pair, matches_pair, finds_nothing}
use Rattle.sw_rules.specs.Storage.{nothing, is_registration, with_registration, first_waiting, promoted, marked_activated, is_cache, pairs_after, with_cache, with_batch, applied, IsMade}
use Rattle.sw_change.proofs.Apart.{all-push, all-filter, all-filter_front, all-map, none-all, apart-push, apart-filter_front, apart-filter, apart-map}

-- ---- pairs

-- a pair that may be put alone
pub record IsSoundPair (pair : Pair) : Type 0 where
  pub allowed : put_fault pair.0 pair.1 ≡ None
  pub small : op_size (op.Put pair.0 pair.1) ≤ quota

-- a later request matches an earlier pair
abbrev pub meets_pair : Pair → Pair → Bool
meets_pair earlier later = matches_pair later.0 no_options earlier

pub record AreSoundPairs (pairs : List Pair) : Type 0 where
  pub apart : IsDistinct meets_pair pairs
  pub each : AllByRecursion IsSoundPair pairs

no_pairs : AreSoundPairs []
unfolding IsDistinct
no_pairs = record { apart = tt; each = tt }

-- what a filter keeps doesn't pass the test that it leaves out
kept_by : {X : Type 0} (test : X → Bool) (b : Bool) (x : X) (xs ys : List X) → test x ≡ b → AllByRecursion (λ y. test y ≡ false) (xs ++ ys) → AllByRecursion (λ y. test y ≡ false) (cond (not b) (x ∷ xs) xs ++ ys)
kept_by test true x xs ys is all = all
kept_by test false x xs ys is all = (is, all)

left_apart : {X : Type 0} (test : X → Bool) (xs ys : List X) → AllByRecursion (λ y. test y ≡ false) ys → AllByRecursion (λ y. test y ≡ false) (filter (λ x. not (test x)) xs ++ ys)
left_apart test [] ys all = all
left_apart test (x ∷ xs) ys all = kept_by test (test x) x (filter (λ x. not (test x)) xs) ys refl (left_apart test xs ys all)

dropped : (old added : List Pair) (request : Request) (options : Options) → AreSoundPairs (old ++ added) → AreSoundPairs (without_matching request options old ++ added)
dropped old added request options sound = record {
  apart = apart-filter_front meets_pair (λ pair. not (matches_pair request options pair)) old added sound.apart;
  each = all-filter_front IsSoundPair (λ pair. not (matches_pair request options pair)) old added sound.each;
}

pushed : (old added : List Pair) (pair : Pair) → IsSoundPair pair → matches_added pair.0 no_options added ≡ false → AreSoundPairs (old ++ added)
    → AreSoundPairs (without_matching pair.0 no_options old ++ (added ++ pair ∷ []))
pushed old added pair one none sound =
    let rest = without_matching pair.0 no_options old in
    let kept = dropped old added pair.0 no_options sound in
    let free = left_apart (matches_pair pair.0 no_options) old added (none-all (matches_pair pair.0 no_options) added none) in
    subst AreSoundPairs (append_assoc rest added (pair ∷ []))
    (record { apart = apart-push meets_pair (rest ++ added) pair kept.apart free; each = all-push IsSoundPair (rest ++ added) pair kept.each one })

abbrev went : List Pair → Result (List Pair) BatchFault
went pairs = Ok pairs

went_is : (one other : List Pair) → went one ≡ went other → one ≡ other
went_is one other e = cc

abbrev Small : Op → Type 0
Small step = op_size step ≤ quota

abbrev Goes : List Op → Type 0
Goes ops = (old added : List Pair) (place : ℕ) (new : List Pair) → AreSoundPairs (old ++ added) → go old added place ops ≡ Ok new → AreSoundPairs new

deleted_by : (request : Request) (options : Options) (ops : List Op) (old added : List Pair) (place : ℕ) (new : List Pair) (test : Bool) → Goes ops → AreSoundPairs (old ++ added)
    → cond test (Err (InvalidState place)) (go (without_matching request options old) added (place + 1) ops) ≡ Ok new → AreSoundPairs new
deleted_by request options ops old added place new true goes sound e = absurd cc
deleted_by request options ops old added place new false goes sound e = goes (without_matching request options old) added (place + 1) new (dropped old added request options sound) e

skipped_by : (request : Request) (options : Options) (ops : List Op) (old added : List Pair) (place : ℕ) (new : List Pair) (test : Bool) → Goes ops → AreSoundPairs (old ++ added)
    → cond test (go old added (place + 1) ops) (cond (matches_added request options added) (Err (InvalidState place)) (go (without_matching request options old) added (place + 1) ops)) ≡ Ok new → AreSoundPairs new
skipped_by request options ops old added place new true goes sound e = goes old added (place + 1) new sound e
skipped_by request options ops old added place new false goes sound e = deleted_by request options ops old added place new (matches_added request options added) goes sound e

put_by : (pair : Pair) (ops : List Op) (old added : List Pair) (place : ℕ) (new : List Pair) (test : Bool) → matches_added pair.0 no_options added ≡ test → IsSoundPair pair → Goes ops → AreSoundPairs (old ++ added)
    → cond test (Err (InvalidState place)) (go (without_matching pair.0 no_options old) (added ++ pair ∷ []) (place + 1) ops) ≡ Ok new → AreSoundPairs new
put_by pair ops old added place new true is one goes sound e = absurd cc
put_by pair ops old added place new false is one goes sound e =
    goes (without_matching pair.0 no_options old) (added ++ pair ∷ []) (place + 1) new (pushed old added pair one is sound) e

-- how a batch goes on at a put that is refused for this, or for nothing
abbrev pub put_goes : Pair → List Op → List Pair → List Pair → ℕ → Option Cause → Result (List Pair) BatchFault
put_goes pair ops old added place fault =
    elim fault [
      | Some why ↦ Err (TypeError place why)
      | None ↦ cond (matches_added pair.0 no_options added) (Err (InvalidState place)) (go (without_matching pair.0 no_options old) (added ++ pair ∷ []) (place + 1) ops)
    ]

allowed_by : (pair : Pair) (ops : List Op) (old added : List Pair) (place : ℕ) (new : List Pair) (fault : Option Cause) → put_fault pair.0 pair.1 ≡ fault → op_size (op.Put pair.0 pair.1) ≤ quota → Goes ops → AreSoundPairs (old ++ added)
    → put_goes pair ops old added place fault ≡ Ok new → AreSoundPairs new
allowed_by pair ops old added place new (Some why) is small goes sound e = absurd cc
allowed_by pair ops old added place new None is small goes sound e =
    put_by pair ops old added place new (matches_added pair.0 no_options added) refl (record { allowed = is; small = small }) goes sound e

goes_sound : (ops : List Op) → AllByRecursion Small ops → Goes ops
goes_sound [] small old added place new sound e = subst AreSoundPairs (went_is (old ++ added) new e) sound
goes_sound (op.Delete request options ∷ ops) small old added place new sound e =
    skipped_by request options ops old added place new (finds_nothing request options) (goes_sound ops small.1) sound e
goes_sound (op.Put request response ∷ ops) small old added place new sound e =
    allowed_by (request, response) ops old added place new (put_fault request response) refl small.0 (goes_sound ops small.1) sound e

all_small : (limit : ℕ) (ops : List Op) → sum_by op_size ops ≤ limit → AllByRecursion (λ step. op_size step ≤ limit) ops
all_small limit [] below = tt
all_small limit (step ∷ ops) below =
    (omega (arith, sum_by-cons op_size step ops, below), all_small limit ops (omega (arith, sum_by-cons op_size step ops, below)))

-- what a batch leaves that went so
abbrev settled : ℕ → Result (List Pair) BatchFault → Result (List Pair) BatchFault
settled size gone = elim gone [ Ok new ↦ within_quota size new | Err fault ↦ Err fault ]

abbrev pub left : List Pair → Result (List Pair) BatchFault → List Pair
left pairs done = elim done [ Ok new ↦ new | Err fault ↦ pairs ]

abbrev pub outcome : List Pair → ℕ → Result (List Pair) BatchFault → List Pair
outcome pairs size gone = left pairs (settled size gone)

within_by : (pairs new : List Pair) (ops : List Op) (test : Bool) → leb (sum_by op_size ops) quota ≡ test → go pairs [] 0 ops ≡ Ok new → AreSoundPairs pairs
    → AreSoundPairs (left pairs (cond test (went new) (Err (Quota (sum_by op_size ops)))))
within_by pairs new ops true below is sound =
    goes_sound ops (all_small quota ops (leb-true (sum_by op_size ops) quota below)) pairs [] 0 new (subst AreSoundPairs (sym (append-nil pairs)) sound) is
within_by pairs new ops false below is sound = sound

batched_by : (pairs : List Pair) (ops : List Op) (gone : Result (List Pair) BatchFault) → go pairs [] 0 ops ≡ gone → AreSoundPairs pairs → AreSoundPairs (outcome pairs (sum_by op_size ops) gone)
batched_by pairs ops (Ok new) is sound = within_by pairs new ops (leb (sum_by op_size ops) quota) refl is sound
batched_by pairs ops (Err fault) is sound = sound

pub pairs-sound : (pairs : List Pair) (ops : List Op) → AreSoundPairs pairs → AreSoundPairs (pairs_after pairs ops)
pairs-sound pairs ops sound = batched_by pairs ops (go pairs [] 0 ops) refl sound

-- ---- registrations

-- a worker waits or is active, and none is activated where none is active
pub record IsSoundRow (row : KeptRegistration) : Type 0 where
  pub worker : (is_some row.waiting || is_some row.active) ≡ true
  pub idle : (is_some row.active || not row.activated) ≡ true

-- a later registration has the place of an earlier one
abbrev pub meets_row : KeptRegistration → KeptRegistration → Bool
meets_row earlier later = is_registration later.key later.scope earlier

pub record AreSoundRows (rows : List KeptRegistration) : Type 0 where
  pub apart : IsDistinct meets_row rows
  pub each : AllByRecursion IsSoundRow rows

-- a change of a registration that leaves its place and what holds of it
record IsSoundEdit (f : KeptRegistration → KeptRegistration) : Type 0 where
  pub key : (row : KeptRegistration) → (f row).key ≡ row.key
  pub scope : (row : KeptRegistration) → (f row).scope ≡ row.scope
  pub sound : (row : KeptRegistration) → IsSoundRow row → IsSoundRow (f row)

mapped_sound : (f : KeptRegistration → KeptRegistration) (rows : List KeptRegistration) → IsSoundEdit f → AreSoundRows rows → AreSoundRows (map f rows)
mapped_sound f rows edit sound = record {
  apart = apart-map meets_row f (λ x y i. bytes_eq (edit.key x i) (edit.key y i) && bytes_eq (edit.scope x i) (edit.scope y i)) rows sound.apart;
  each = all-map IsSoundRow f edit.sound rows sound.each;
}

key_by : (f : KeptRegistration → KeptRegistration) (row : KeptRegistration) (test : Bool) → (f row).key ≡ row.key → (cond test (f row) row).key ≡ row.key
key_by f row true is = is
key_by f row false is = refl

scope_by : (f : KeptRegistration → KeptRegistration) (row : KeptRegistration) (test : Bool) → (f row).scope ≡ row.scope → (cond test (f row) row).scope ≡ row.scope
scope_by f row true is = is
scope_by f row false is = refl

sound_by : (f : KeptRegistration → KeptRegistration) (row : KeptRegistration) (test : Bool) → IsSoundRow (f row) → IsSoundRow row → IsSoundRow (cond test (f row) row)
sound_by f row true changed same = changed
sound_by f row false changed same = same

edited_sound : (key scope : List ℕ) (f : KeptRegistration → KeptRegistration) (rows : List KeptRegistration) → IsSoundEdit f → AreSoundRows rows → AreSoundRows (with_registration key scope f rows)
edited_sound key scope f rows edit sound =
    mapped_sound (λ row. cond (is_registration key scope row) (f row) row) rows
    (record {
      key = λ row. key_by f row (is_registration key scope row) (edit.key row);
      scope = λ row. scope_by f row (is_registration key scope row) (edit.scope row);
      sound = λ row one. sound_by f row (is_registration key scope row) (edit.sound row one) one;
    }) sound

promoted_by : KeptRegistration → Option KeptWorker → KeptRegistration
promoted_by row waiting = elim waiting [ Some worker ↦ record row { waiting = None; active = Some worker; activated = false } | None ↦ row ]

promoted_key : (row : KeptRegistration) (waiting : Option KeptWorker) → (promoted_by row waiting).key ≡ row.key
unfolding promoted_by
promoted_key row (Some worker) = refl
promoted_key row None = refl

promoted_scope : (row : KeptRegistration) (waiting : Option KeptWorker) → (promoted_by row waiting).scope ≡ row.scope
unfolding promoted_by
promoted_scope row (Some worker) = refl
promoted_scope row None = refl

promoted_sound : (row : KeptRegistration) (waiting : Option KeptWorker) → IsSoundRow row → IsSoundRow (promoted_by row waiting)
unfolding promoted_by
promoted_sound row (Some worker) sound = record { worker = refl; idle = refl }
promoted_sound row None sound = sound

promotes : IsSoundEdit promoted
unfolding promoted_by
promotes = record {
  key = λ row. promoted_key row row.waiting;
  scope = λ row. promoted_scope row row.waiting;
  sound = λ row sound. promoted_sound row row.waiting sound;
}

marked_by : KeptRegistration → Option KeptWorker → KeptRegistration
marked_by row active = elim active [ Some worker ↦ record row { activated = true } | None ↦ row ]

marked_key : (row : KeptRegistration) (active : Option KeptWorker) → (marked_by row active).key ≡ row.key
unfolding marked_by
marked_key row (Some worker) = refl
marked_key row None = refl

marked_scope : (row : KeptRegistration) (active : Option KeptWorker) → (marked_by row active).scope ≡ row.scope
unfolding marked_by
marked_scope row (Some worker) = refl
marked_scope row None = refl

marked_sound : (row : KeptRegistration) (active : Option KeptWorker) → row.active ≡ active → IsSoundRow row → IsSoundRow (marked_by row active)
unfolding marked_by
marked_sound row (Some worker) is sound = record { worker = sound.worker; idle = ap (λ (a : Option KeptWorker). is_some a || false) is }
marked_sound row None is sound = sound

marks : IsSoundEdit marked_activated
unfolding marked_by
marks = record {
  key = λ row. marked_key row row.active;
  scope = λ row. marked_scope row row.active;
  sound = λ row sound. marked_sound row row.active refl sound;
}

waits : (mode : Mode) (worker : KeptWorker) → IsSoundEdit (λ row. record row { mode = mode; waiting = Some worker })
waits mode worker = record { key = λ row. refl; scope = λ row. refl; sound = λ row sound. record { worker = refl; idle = sound.idle } }

moded : (mode : Mode) → IsSoundEdit (λ row. record row { mode = mode })
moded mode = record { key = λ row. refl; scope = λ row. refl; sound = λ row sound. record { worker = sound.worker; idle = sound.idle } }

preloads : (on : Bool) (text : List ℕ) → IsSoundEdit (λ row. record row { preload = on; preload_value = text })
preloads on text = record { key = λ row. refl; scope = λ row. refl; sound = λ row sound. record { worker = sound.worker; idle = sound.idle } }

waiting_by : (key scope : List ℕ) (mode : Mode) (worker : KeptWorker) (rows : List KeptRegistration) (test : Bool) → list_any (is_registration key scope) rows ≡ test → AreSoundRows rows
    → AreSoundRows (cond test (with_registration key scope (λ row. record row { mode = mode; waiting = Some worker }) rows) (rows ++ first_waiting key scope mode worker ∷ []))
waiting_by key scope mode worker rows true is sound = edited_sound key scope (λ row. record row { mode = mode; waiting = Some worker }) rows (waits mode worker) sound
waiting_by key scope mode worker rows false is sound = record {
  apart = apart-push meets_row rows (first_waiting key scope mode worker) sound.apart (none-all (is_registration key scope) rows is);
  each = all-push IsSoundRow rows (first_waiting key scope mode worker) sound.each (record { worker = refl; idle = refl });
}

filtered_sound : (p : KeptRegistration → Bool) (rows : List KeptRegistration) → AreSoundRows rows → AreSoundRows (filter p rows)
filtered_sound p rows sound = record { apart = apart-filter meets_row p rows sound.apart; each = all-filter IsSoundRow p rows sound.each }

-- ---- caches

-- a later cache has the place of an earlier one
abbrev pub meets_cache : KeptCache → KeptCache → Bool
meets_cache earlier later = is_cache later.key later.name earlier

abbrev pub IsSoundCache : KeptCache → Type 0
IsSoundCache row = AreSoundPairs row.pairs

pub record AreSoundCaches (rows : List KeptCache) : Type 0 where
  pub apart : IsDistinct meets_cache rows
  pub each : AllByRecursion IsSoundCache rows

abbrev batched : List Op → KeptCache → KeptCache
batched ops row = record row { pairs = pairs_after row.pairs ops }

all_by : (P : KeptCache → Type 0) (f : KeptCache → KeptCache) (row : KeptCache) (rows changed : List KeptCache) (test : Bool) → P (f row) → P row → AllByRecursion P rows → AllByRecursion P changed
    → AllByRecursion P (cond test (f row ∷ rows) (row ∷ changed))
all_by P f row rows changed true here same rest later = (here, rest)
all_by P f row rows changed false here same rest later = (same, later)

batched_all : (P : KeptCache → Type 0) (key name : List ℕ) (ops : List Op) (rows : List KeptCache) → ((row : KeptCache) → P row → P (batched ops row)) → AllByRecursion P rows → AllByRecursion P (with_cache key name (batched ops) rows)
batched_all P key name ops [] keeps all = tt
batched_all P key name ops (row ∷ rows) keeps all =
    all_by P (batched ops) row rows (with_cache key name (batched ops) rows) (is_cache key name row) (keeps row all.0) all.0 all.1 (batched_all P key name ops rows keeps all.1)

apart_by : (ops : List Op) (row : KeptCache) (rows changed : List KeptCache) (test : Bool) → IsDistinct meets_cache (row ∷ rows) → AllByRecursion (λ y. meets_cache row y ≡ false) changed → IsDistinct meets_cache changed
    → IsDistinct meets_cache (cond test (batched ops row ∷ rows) (row ∷ changed))
unfolding IsDistinct
apart_by ops row rows changed true apart all later = (apart.0, apart.1)
apart_by ops row rows changed false apart all later = (all, later)

batched_apart : (key name : List ℕ) (ops : List Op) (rows : List KeptCache) → IsDistinct meets_cache rows → IsDistinct meets_cache (with_cache key name (batched ops) rows)
unfolding IsDistinct
batched_apart key name ops [] apart = tt
batched_apart key name ops (row ∷ rows) apart =
    apart_by ops row rows (with_cache key name (batched ops) rows) (is_cache key name row) apart
    (batched_all (λ y. meets_cache row y ≡ false) key name ops rows (λ y none. none) apart.0) (batched_apart key name ops rows apart.1)

batch_sound : (key name : List ℕ) (ops : List Op) (rows : List KeptCache) → AreSoundCaches rows → AreSoundCaches (with_batch key name ops rows)
batch_sound key name ops rows sound = record {
  apart = batched_apart key name ops rows sound.apart;
  each = batched_all IsSoundCache key name ops rows (λ row one. pairs-sound row.pairs ops one) sound.each;
}

caches_filtered : (p : KeptCache → Bool) (rows : List KeptCache) → AreSoundCaches rows → AreSoundCaches (filter p rows)
caches_filtered p rows sound = record { apart = apart-filter meets_cache p rows sound.apart; each = all-filter IsSoundCache p rows sound.each }

-- ---- contents

pub record IsSound (kept : Kept) : Type 0 where
  pub rows : AreSoundRows kept.registrations
  pub caches : AreSoundCaches kept.caches

new_by : (key name : List ℕ) (kept : Kept) (test : Bool) → list_any (is_cache key name) kept.caches ≡ test → IsSound kept
    → IsSound (cond test kept (record kept { caches = kept.caches ++ record { key = key; name = name; pairs = [] } ∷ [] }))
new_by key name kept true is sound = sound
new_by key name kept false is sound =
    let one : KeptCache = record { key = key; name = name; pairs = [] } in
    record {
      rows = sound.rows;
      caches = record {
        apart = apart-push meets_cache kept.caches one sound.caches.apart (none-all (is_cache key name) kept.caches is);
        each = all-push IsSoundCache kept.caches one sound.caches.each no_pairs;
      };
    }

applied_sound : (kept : Kept) (one : Change) → IsSound kept → IsSound (applied kept one)
applied_sound kept (change.Waiting key scope mode worker) sound = record {
  rows = waiting_by key scope mode worker kept.registrations (list_any (is_registration key scope) kept.registrations) refl sound.rows;
  caches = sound.caches;
}
applied_sound kept (change.Active key scope) sound = record { rows = edited_sound key scope promoted kept.registrations promotes sound.rows; caches = sound.caches }
applied_sound kept (change.Activated key scope) sound = record { rows = edited_sound key scope marked_activated kept.registrations marks sound.rows; caches = sound.caches }
applied_sound kept (change.Mode key scope mode) sound = record { rows = edited_sound key scope (λ row. record row { mode = mode }) kept.registrations (moded mode) sound.rows; caches = sound.caches }
applied_sound kept (change.Gone key scope) sound = record { rows = filtered_sound (λ row. not (is_registration key scope row)) kept.registrations sound.rows; caches = sound.caches }
applied_sound kept (change.CacheNew key name) sound = new_by key name kept (list_any (is_cache key name) kept.caches) refl sound
applied_sound kept (change.CacheDrop key name) sound = record { rows = sound.rows; caches = caches_filtered (λ row. not (is_cache key name row)) kept.caches sound.caches }
applied_sound kept (change.CacheOps key name ops) sound = record { rows = sound.rows; caches = batch_sound key name ops kept.caches sound.caches }
applied_sound kept (change.Forgot key) sound = record {
  rows = filtered_sound (λ row. not (bytes_eq row.key key)) kept.registrations sound.rows;
  caches = caches_filtered (λ row. not (bytes_eq row.key key)) kept.caches sound.caches;
}
applied_sound kept change.Restarted sound = record { rows = mapped_sound promoted kept.registrations promotes sound.rows; caches = sound.caches }
applied_sound kept (change.Preload key scope on text) sound = record {
  rows = edited_sound key scope (λ row. record row { preload = on; preload_value = text }) kept.registrations (preloads on text) sound.rows;
  caches = sound.caches;
}

folded_sound : (changes : List Change) (kept : Kept) → IsSound kept → IsSound (fold applied kept changes)
folded_sound [] kept sound = sound
folded_sound (one ∷ changes) kept sound = folded_sound changes (applied kept one) (applied_sound kept one sound)

nothing_sound : IsSound nothing
unfolding IsDistinct
nothing_sound = record { rows = record { apart = tt; each = tt }; caches = record { apart = tt; each = tt } }

pub made_sound : (kept : Kept) → IsMade kept → IsSound kept
made_sound kept made = subst IsSound (sym made.1) (folded_sound made.0 nothing nothing_sound)
