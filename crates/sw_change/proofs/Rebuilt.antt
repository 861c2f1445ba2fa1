-- The changes of a checkpoint make each registration and each cache again.
use Rattle.std.proofs.Common.{◌≡◌, ◌∙◌, ℕ, ◌≤◌, Bool, true, false, not, cond, List, [], ◌∷◌, ◌++◌, map, filter, Option, Some, None, Ok, Err, refl, sym, ap, subst, arith, append_assoc}
use Rattle.std.specs.Prelude.{◌||◌, ◌&&◌, bytes_eq, codes, sum_by, fold, flat_map}
use Rattle.std.specs.List.{list_any, IsDistinct, AllByRecursion}
use Rattle.std.specs.Cmp.Lexicographic.{bytes_decides}
use Rattle.std.proofs.lemmas.Bool.{and_parts, and_from, le-leb, not-true}
use Rattle.std.proofs.lemmas.List.{append-nil}
use Rattle.std.proofs.lemmas.List.Concat.{flat_map-cons}
use Rattle.std.proofs.lemmas.List.Sums.{fold-append}
use Rattle.sw_data.specs.declared.answers.Cause.{Cause}
use Rattle.sw_data.specs.declared.exchange.Op.{Op}
use Rattle.sw_data.specs.declared.exchange.Op.TheVariants as op
use Rattle.sw_data.specs.declared.storage.Change.TheVariants as change
use Rattle.sw_data.specs.declared.storage.Kept.{Kept}
use Rattle.sw_data.specs.declared.storage.KeptCache.{KeptCache}
use Rattle.sw_data.specs.declared.storage.KeptRegistration.{KeptRegistration}
use Rattle.sw_data.specs.declared.storage.KeptWorker.{KeptWorker}
use Rattle.sw_data.specs.declared.workers.Mode.{Mode}
use Rattle.sw_data.specs.Exchange.{no_options}
use Rattle.sw_data.specs.Sizes.{op_size}
use Rattle.sw_rules.specs.Batch.{Quota, without_matching, quota}
use Rattle.sw_rules.specs.Durable.{preload_changes, registration_changes, pair_change, cache_changes}
use Rattle.sw_rules.specs.Matching.{Pair, matches_pair}
use Rattle.sw_rules.specs.Storage.{is_registration, with_registration, first_waiting, promoted, marked_activated, is_cache, pairs_after, with_cache, applied}
use Rattle.sw_change.proofs.Apart.{none-any, apart-before}
use Rattle.sw_change.proofs.Sound.{put_goes, left, outcome, IsSoundPair, meets_pair, AreSoundPairs, IsSoundRow, meets_row, meets_cache, IsSoundCache}

abbrev kept_of : List KeptRegistration → List KeptCache → Kept
kept_of rows caches = record { registrations = rows; caches = caches }

same_bytes : (bytes : List ℕ) → bytes_eq bytes bytes ≡ true
same_bytes bytes = (bytes_decides bytes bytes).1 refl

-- ---- one registration, which is the last

module _ (key scope : List ℕ) (mode : Mode) (front : List KeptRegistration) (caches : List KeptCache)
    (free : AllByRecursion (λ row. is_registration key scope row ≡ false) front) where
  abbrev row : Option KeptWorker → Option KeptWorker → Bool → Bool → List ℕ → KeptRegistration
  row waiting active activated preload text = record {
    key = key;
    scope = scope;
    mode = mode;
    waiting = waiting;
    active = active;
    activated = activated;
    preload = preload;
    preload_value = text;
  }

  abbrev with_last : KeptRegistration → Kept
  with_last last = kept_of (front ++ last ∷ []) caches

  here : (bytes_eq key key && bytes_eq scope scope) ≡ true
  here = and_from (bytes_eq key key) (bytes_eq scope scope) (same_bytes key) (same_bytes scope)

  edited_in : (rows : List KeptRegistration) (f : KeptRegistration → KeptRegistration) (last : KeptRegistration) → AllByRecursion (λ row. is_registration key scope row ≡ false) rows
      → is_registration key scope last ≡ true → with_registration key scope f (rows ++ last ∷ []) ≡ rows ++ f last ∷ []
  edited_in [] f last none is = ap (λ (test : Bool). cond test (f last) last ∷ []) is
  edited_in (one ∷ rows) f last none is =
      ap (λ (test : Bool). cond test (f one) one ∷ with_registration key scope f (rows ++ last ∷ [])) none.0
      ∙ ap (λ (rest : List KeptRegistration). one ∷ rest) (edited_in rows f last none.1 is)

  any_in : (rows : List KeptRegistration) (last : KeptRegistration) → AllByRecursion (λ row. is_registration key scope row ≡ false) rows → is_registration key scope last ≡ true
      → list_any (is_registration key scope) (rows ++ last ∷ []) ≡ true
  any_in [] last none is = ap (λ (test : Bool). test || false) is
  any_in (one ∷ rows) last none is =
      ap (λ (test : Bool). test || list_any (is_registration key scope) (rows ++ last ∷ [])) none.0 ∙ any_in rows last none.1 is

  edited_last : (f : KeptRegistration → KeptRegistration) (last : KeptRegistration) → is_registration key scope last ≡ true
      → kept_of (with_registration key scope f (front ++ last ∷ [])) caches ≡ with_last (f last)
  edited_last f last is = ap (λ (rows : List KeptRegistration). kept_of rows caches) (edited_in front f last free is)

  waits_first : (worker : KeptWorker) → applied (kept_of front caches) (change.Waiting key scope mode worker) ≡ with_last (row (Some worker) None false false (codes "true"))
  waits_first worker =
      ap (λ (test : Bool). kept_of (cond test (with_registration key scope (λ row. record row { mode = mode; waiting = Some worker }) front) (front ++ first_waiting key scope mode worker ∷ [])) caches)
      (none-any (is_registration key scope) front free)

  module _ (waiting active : Option KeptWorker) (activated preload : Bool) (text : List ℕ) where
    waits_last : (worker : KeptWorker) → applied (with_last (row waiting active activated preload text)) (change.Waiting key scope mode worker) ≡ with_last (row (Some worker) active activated preload text)
    waits_last worker =
        let last = row waiting active activated preload text in
        ap (λ (test : Bool). kept_of (cond test (with_registration key scope (λ row. record row { mode = mode; waiting = Some worker }) (front ++ last ∷ [])) ((front ++ last ∷ []) ++ first_waiting key scope mode worker ∷ [])) caches)
        (any_in front last free here)
        ∙ edited_last (λ row. record row { mode = mode; waiting = Some worker }) last here

    preloads_last : (on : Bool) (value : List ℕ) → applied (with_last (row waiting active activated preload text)) (change.Preload key scope on value) ≡ with_last (row waiting active activated on value)
    preloads_last on value = edited_last (λ row. record row { preload = on; preload_value = value }) (row waiting active activated preload text) here

  activates_last : (worker : KeptWorker) (active : Option KeptWorker) (activated preload : Bool) (text : List ℕ)
      → applied (with_last (row (Some worker) active activated preload text)) (change.Active key scope) ≡ with_last (row None (Some worker) false preload text)
  activates_last worker active activated preload text = edited_last promoted (row (Some worker) active activated preload text) here

  marks_last : (waiting : Option KeptWorker) (worker : KeptWorker) (activated preload : Bool) (text : List ℕ)
      → applied (with_last (row waiting (Some worker) activated preload text)) (change.Activated key scope) ≡ with_last (row waiting (Some worker) true preload text)
  marks_last waiting worker activated preload text = edited_last marked_activated (row waiting (Some worker) activated preload text) here

  preloaded_by : (waiting active : Option KeptWorker) (activated preload : Bool) (text : List ℕ) (test : Bool) → (not preload && bytes_eq text (codes "true")) ≡ test
      → fold applied (with_last (row waiting active activated false (codes "true"))) (cond test [] (change.Preload key scope preload text ∷ [])) ≡ with_last (row waiting active activated preload text)
  preloaded_by waiting active activated preload text true is =
      let parts = and_parts (not preload) (bytes_eq text (codes "true")) is in
      let off : preload ≡ false = not-true preload parts.0 in
      let same : text ≡ codes "true" = (bytes_decides text (codes "true")).0 parts.1 in
      λ i. with_last (row waiting active activated (sym off i) (sym same i))
  preloaded_by waiting active activated preload text false is = preloads_last waiting active activated false (codes "true") preload text

  preloaded : (waiting active : Option KeptWorker) (activated preload : Bool) (text : List ℕ)
      → fold applied (with_last (row waiting active activated false (codes "true"))) (preload_changes (row waiting active activated preload text)) ≡ with_last (row waiting active activated preload text)
  preloaded waiting active activated preload text = preloaded_by waiting active activated preload text (not preload && bytes_eq text (codes "true")) refl

  row_rebuilt : (waiting active : Option KeptWorker) (activated preload : Bool) (text : List ℕ) → IsSoundRow (row waiting active activated preload text)
      → fold applied (kept_of front caches) (registration_changes (row waiting active activated preload text)) ≡ with_last (row waiting active activated preload text)
  row_rebuilt None None activated preload text sound = let none = sound.worker in absurd cc
  row_rebuilt (Some waiting) None true preload text sound = let none = sound.idle in absurd cc
  row_rebuilt (Some waiting) None false preload text sound =
      ap (λ (kept : Kept). fold applied kept (preload_changes (row (Some waiting) None false preload text))) (waits_first waiting)
      ∙ preloaded (Some waiting) None false preload text
  row_rebuilt None (Some active) false preload text sound =
      ap (λ (kept : Kept). fold applied kept (preload_changes (row None (Some active) false preload text)))
      (ap (λ (kept : Kept). applied kept (change.Active key scope)) (waits_first active) ∙ activates_last active None false false (codes "true"))
      ∙ preloaded None (Some active) false preload text
  row_rebuilt None (Some active) true preload text sound =
      ap (λ (kept : Kept). fold applied kept (preload_changes (row None (Some active) true preload text)))
      (ap (λ (kept : Kept). applied (applied kept (change.Active key scope)) (change.Activated key scope)) (waits_first active)
      ∙ ap (λ (kept : Kept). applied kept (change.Activated key scope)) (activates_last active None false false (codes "true"))
      ∙ marks_last None active false false (codes "true"))
      ∙ preloaded None (Some active) true preload text
  row_rebuilt (Some waiting) (Some active) false preload text sound =
      ap (λ (kept : Kept). fold applied kept (preload_changes (row (Some waiting) (Some active) false preload text)))
      (ap (λ (kept : Kept). applied (applied kept (change.Active key scope)) (change.Waiting key scope mode waiting)) (waits_first active)
      ∙ ap (λ (kept : Kept). applied kept (change.Waiting key scope mode waiting)) (activates_last active None false false (codes "true"))
      ∙ waits_last None (Some active) false false (codes "true") waiting)
      ∙ preloaded (Some waiting) (Some active) false preload text
  row_rebuilt (Some waiting) (Some active) true preload text sound =
      ap (λ (kept : Kept). fold applied kept (preload_changes (row (Some waiting) (Some active) true preload text)))
      (ap (λ (kept : Kept). applied (applied (applied kept (change.Active key scope)) (change.Activated key scope)) (change.Waiting key scope mode waiting)) (waits_first active)
      ∙ ap (λ (kept : Kept). applied (applied kept (change.Activated key scope)) (change.Waiting key scope mode waiting)) (activates_last active None false false (codes "true"))
      ∙ ap (λ (kept : Kept). applied kept (change.Waiting key scope mode waiting)) (marks_last None active false false (codes "true"))
      ∙ waits_last None (Some active) true false (codes "true") waiting)
      ∙ preloaded (Some waiting) (Some active) true preload text

pub rows_rebuilt : (front rows : List KeptRegistration) (caches : List KeptCache) → IsDistinct meets_row (front ++ rows) → AllByRecursion IsSoundRow rows
    → fold applied (kept_of front caches) (flat_map registration_changes rows) ≡ kept_of (front ++ rows) caches
rows_rebuilt front [] caches apart sound = ap (λ (rows : List KeptRegistration). kept_of rows caches) (sym (append-nil front))
rows_rebuilt front (row ∷ rows) caches apart sound =
    let next : front ++ (row ∷ rows) ≡ (front ++ row ∷ []) ++ rows = sym (append_assoc front (row ∷ []) rows) in
    ap (fold applied (kept_of front caches)) (flat_map-cons registration_changes row rows)
    ∙ fold-append applied (kept_of front caches) (registration_changes row) (flat_map registration_changes rows)
    ∙ ap (λ (kept : Kept). fold applied kept (flat_map registration_changes rows))
    (row_rebuilt row.key row.scope row.mode front caches (apart-before meets_row front row rows apart) row.waiting row.active row.activated row.preload row.preload_value sound.0)
    ∙ rows_rebuilt (front ++ row ∷ []) rows caches (subst (IsDistinct meets_row) next apart) sound.1
    ∙ ap (λ (all : List KeptRegistration). kept_of all caches) (sym next)

-- ---- one cache, which is the last

filter_all : (test : Pair → Bool) (pairs : List Pair) → AllByRecursion (λ pair. test pair ≡ false) pairs → filter (λ pair. not (test pair)) pairs ≡ pairs
filter_all test [] none = refl
filter_all test (pair ∷ pairs) none =
    ap (λ (b : Bool). cond (not b) (pair ∷ filter (λ pair. not (test pair)) pairs) (filter (λ pair. not (test pair)) pairs)) none.0
    ∙ ap (λ (rest : List Pair). pair ∷ rest) (filter_all test pairs none.1)

pair_put : (pairs : List Pair) (pair : Pair) → IsSoundPair pair → AllByRecursion (λ earlier. meets_pair earlier pair ≡ false) pairs → pairs_after pairs (op.Put pair.0 pair.1 ∷ []) ≡ pairs ++ pair ∷ []
pair_put pairs pair sound none =
    let size = sum_by op_size (op.Put pair.0 pair.1 ∷ []) in
    let rest = without_matching pair.0 no_options pairs in
    let small : size ≤ quota = omega (arith, sound.small) in
    ap (λ (fault : Option Cause). outcome pairs size (put_goes pair [] pairs [] 0 fault)) sound.allowed
    ∙ ap (λ (test : Bool). left pairs (cond test (Ok (rest ++ pair ∷ [])) (Err (Quota size)))) (le-leb size quota small)
    ∙ ap (λ (kept : List Pair). kept ++ pair ∷ []) (filter_all (matches_pair pair.0 no_options) pairs none)

module _ (key name : List ℕ) (rows : List KeptRegistration) (front : List KeptCache) (free : AllByRecursion (λ row. is_cache key name row ≡ false) front) where
  abbrev cache : List Pair → KeptCache
  cache pairs = record { key = key; name = name; pairs = pairs }

  there : (bytes_eq key key && bytes_eq name name) ≡ true
  there = and_from (bytes_eq key key) (bytes_eq name name) (same_bytes key) (same_bytes name)

  cached_in : (caches : List KeptCache) (f : KeptCache → KeptCache) (pairs : List Pair) → AllByRecursion (λ row. is_cache key name row ≡ false) caches
      → with_cache key name f (caches ++ cache pairs ∷ []) ≡ caches ++ f (cache pairs) ∷ []
  cached_in [] f pairs none = ap (λ (test : Bool). cond test (f (cache pairs) ∷ []) (cache pairs ∷ [])) there
  cached_in (one ∷ caches) f pairs none =
      ap (λ (test : Bool). cond test (f one ∷ (caches ++ cache pairs ∷ [])) (one ∷ with_cache key name f (caches ++ cache pairs ∷ []))) none.0
      ∙ ap (λ (rest : List KeptCache). one ∷ rest) (cached_in caches f pairs none.1)

  cache_made : applied (kept_of rows front) (change.CacheNew key name) ≡ kept_of rows (front ++ cache [] ∷ [])
  cache_made = ap (λ (test : Bool). cond test (kept_of rows front) (kept_of rows (front ++ cache [] ∷ []))) (none-any (is_cache key name) front free)

  pairs_rebuilt : (done pairs : List Pair) → IsDistinct meets_pair (done ++ pairs) → AllByRecursion IsSoundPair pairs → (all : List Pair)
      → fold applied (kept_of rows (front ++ cache done ∷ [])) (map (pair_change (cache all)) pairs) ≡ kept_of rows (front ++ cache (done ++ pairs) ∷ [])
  pairs_rebuilt done [] apart sound all = ap (λ (pairs : List Pair). kept_of rows (front ++ cache pairs ∷ [])) (sym (append-nil done))
  pairs_rebuilt done (pair ∷ pairs) apart sound all =
      let next : done ++ (pair ∷ pairs) ≡ (done ++ pair ∷ []) ++ pairs = sym (append_assoc done (pair ∷ []) pairs) in
      let ops : List Op = op.Put pair.0 pair.1 ∷ [] in
      ap (λ (kept : Kept). fold applied kept (map (pair_change (cache all)) pairs))
      (ap (λ (caches : List KeptCache). kept_of rows caches) (cached_in front (λ row. record row { pairs = pairs_after row.pairs ops }) done free)
      ∙ ap (λ (after : List Pair). kept_of rows (front ++ cache after ∷ [])) (pair_put done pair sound.0 (apart-before meets_pair done pair pairs apart)))
      ∙ pairs_rebuilt (done ++ pair ∷ []) pairs (subst (IsDistinct meets_pair) next apart) sound.1 all
      ∙ ap (λ (after : List Pair). kept_of rows (front ++ cache after ∷ [])) (sym next)

  cache_rebuilt : (pairs : List Pair) → AreSoundPairs pairs → fold applied (kept_of rows front) (cache_changes (cache pairs)) ≡ kept_of rows (front ++ cache pairs ∷ [])
  cache_rebuilt pairs sound =
      ap (λ (kept : Kept). fold applied kept (map (pair_change (cache pairs)) pairs)) cache_made ∙ pairs_rebuilt [] pairs sound.apart sound.each pairs

pub caches_rebuilt : (rows : List KeptRegistration) (front caches : List KeptCache) → IsDistinct meets_cache (front ++ caches) → AllByRecursion IsSoundCache caches
    → fold applied (kept_of rows front) (flat_map cache_changes caches) ≡ kept_of rows (front ++ caches)
caches_rebuilt rows front [] apart sound = ap (λ (caches : List KeptCache). kept_of rows caches) (sym (append-nil front))
caches_rebuilt rows front (one ∷ caches) apart sound =
    let next : front ++ (one ∷ caches) ≡ (front ++ one ∷ []) ++ caches = sym (append_assoc front (one ∷ []) caches) in
    ap (fold applied (kept_of rows front)) (flat_map-cons cache_changes one caches)
    ∙ fold-append applied (kept_of rows front) (cache_changes one) (flat_map cache_changes caches)
    ∙ ap (λ (kept : Kept). fold applied kept (flat_map cache_changes caches))
    (cache_rebuilt one.key one.name rows front (apart-before meets_cache front one caches apart) one.pairs sound.0)
    ∙ caches_rebuilt rows (front ++ one ∷ []) caches (subst (IsDistinct meets_cache) next apart) sound.1
    ∙ ap (λ (all : List KeptCache). kept_of rows all) (sym next)
