-- The parts of kept registrations, and what changes do to them.
use Rattle.std.proofs.Common.{◌≡◌, ◌∙◌, ℕ, ◌+◌, Bool, true, false, not, List, [], ◌∷◌, ◌++◌, map, Option, Some, None, option_map, refl, sym, ap, arith, if◌then◌else◌}
use Rattle.std.specs.Prelude.{◌&&◌, ◌||◌, bytes_eq, codes, is_some, sum_by}
use Rattle.std.specs.List.{list_any}
use Rattle.std.proofs.lemmas.List.{map-append}
use Rattle.std.proofs.lemmas.List.Sums.{sum_by-append, sum_by-cons}
use Rattle.sw_data.specs.declared.storage.Change.{Change}
use Rattle.sw_data.specs.declared.storage.Change.TheVariants as change
use Rattle.sw_data.specs.declared.storage.Kept.{Kept}
use Rattle.sw_data.specs.declared.storage.KeptCache.{KeptCache}
use Rattle.sw_data.specs.declared.storage.KeptRegistration.{KeptRegistration}
use Rattle.sw_data.specs.declared.storage.KeptWorker.{KeptWorker}
use Rattle.sw_data.specs.declared.workers.Mode.{Mode}
use Rattle.sw_data.specs.Sizes.{text_size}
use Rattle.sw_caches.proofs.TableLemmas.{filter_mapped}
use Rattle.sw_caches.specs.Changes.{change_size}
use Rattle.sw_list.specs.Named.{is_at, is_of}
use Rattle.sw_rules.specs.Durable.{active_changes, preload_changes, waiting_changes}
use Rattle.sw_rules.specs.Storage.{applied, first_waiting, is_cache, is_registration, marked_activated, promoted, with_registration, with_waiting as with_waiting_worker}
use Rattle.sw_sizes.specs.declared.row.Edit.TheVariants as edit
use Rattle.sw_sizes.specs.declared.row.Parts.{Parts}
use Rattle.sw_sizes.specs.Rows.{ArePartsOf, Row, active_bytes, activated_by, bytes_at, edited, noted, parts_of, preload_bytes, preload_size, promoted_by, row_bytes, rows_bytes, waiting_bytes, with_parts, with_waiting, worker_size}
use Rattle.sw_sizes.specs.Usage.{registration_bytes, registration_size, registrations_of}

-- ---- bytes

waiting_weighs : (row : KeptRegistration) (worker : Option KeptWorker) → sum_by change_size (waiting_changes row worker) ≡ waiting_bytes (text_size row.key + text_size row.scope) (option_map worker_size worker)
unfolding change_size
waiting_weighs row None = refl
waiting_weighs row (Some worker) =
    let one = sum_by-cons change_size (change.Waiting row.key row.scope row.mode worker) [] in
    omega (arith, one)

-- the changes that mark a worker active, and activated
marked_weighs : (row : KeptRegistration) (activated : Bool)
    → sum_by change_size (change.Active row.key row.scope ∷ (if activated then change.Activated row.key row.scope ∷ [] else []))
    ≡ 1 + (text_size row.key + text_size row.scope) + (if activated then 1 + (text_size row.key + text_size row.scope) else 0)
unfolding change_size
marked_weighs row true =
    let one = sum_by-cons change_size (change.Active row.key row.scope) (change.Activated row.key row.scope ∷ []) in
    let two = sum_by-cons change_size (change.Activated row.key row.scope) [] in
    omega (arith, one, two)
marked_weighs row false =
    let one = sum_by-cons change_size (change.Active row.key row.scope) [] in
    omega (arith, one)

active_weighs : (row : KeptRegistration) (worker : Option KeptWorker)
    → sum_by change_size (waiting_changes row worker)
    + sum_by change_size (if is_some worker then change.Active row.key row.scope ∷ (if row.activated then change.Activated row.key row.scope ∷ [] else []) else [])
    ≡ active_bytes (text_size row.key + text_size row.scope) row.activated (option_map worker_size worker)
active_weighs row None = refl
active_weighs row (Some worker) =
    let waits = waiting_weighs row (Some worker) in
    let marked = marked_weighs row row.activated in
    omega (arith, waits, marked)

preload_weighs : (row : KeptRegistration) (first : Bool)
    → sum_by change_size (if first then [] else change.Preload row.key row.scope row.preload row.preload_value ∷ [])
    ≡ preload_bytes (text_size row.key + text_size row.scope) (if first then None else Some (text_size row.preload_value))
unfolding change_size
preload_weighs row true = refl
preload_weighs row false =
    let one = sum_by-cons change_size (change.Preload row.key row.scope row.preload row.preload_value) [] in
    omega (arith, one)

pub parts_weigh : (row : KeptRegistration) → row_bytes (parts_of row) ≡ registration_size row
parts_weigh row =
    let one = waiting_changes row row.active in
    let two = active_changes row in
    let three = waiting_changes row row.waiting in
    let four = preload_changes row in
    let a = sum_by-append change_size ((one ++ two) ++ three) four in
    let b = sum_by-append change_size (one ++ two) three in
    let c = sum_by-append change_size one two in
    let active = active_weighs row row.active in
    let waiting = waiting_weighs row row.waiting in
    let preload = preload_weighs row (not row.preload && bytes_eq row.preload_value (codes "true")) in
    omega (arith, a, b, c, active, waiting, preload)

all_weigh : (rows : List KeptRegistration) → rows_bytes (map parts_of rows) ≡ registration_bytes rows
all_weigh [] = refl
all_weigh (row ∷ rows) =
    let left = sum_by-cons row_bytes (parts_of row) (map parts_of rows) in
    let right = sum_by-cons registration_size row rows in
    let here = parts_weigh row in
    let rest = all_weigh rows in
    omega (arith, left, right, here, rest)

-- the bytes of a content's registrations
pub bytes_are : (kept : Kept) (rows : List Row) (bytes : ℕ) → bytes ≡ rows_bytes rows → ArePartsOf kept rows → bytes ≡ registration_bytes kept.registrations
bytes_are kept rows bytes is parts = is ∙ (ap rows_bytes parts ∙ all_weigh kept.registrations)

-- and those of a key
pub key_bytes_are : (kept : Kept) (rows : List Row) (key : List ℕ) (bytes : ℕ) → bytes ≡ bytes_at key rows → ArePartsOf kept rows → bytes ≡ registration_bytes (registrations_of key kept.registrations)
key_bytes_are kept rows key bytes is parts =
    is
    ∙ (ap (bytes_at key) parts
    ∙ (ap rows_bytes (sym (filter_mapped parts_of (is_of key) kept.registrations)) ∙ all_weigh (registrations_of key kept.registrations)))

-- ---- edits

module _ (key scope : List ℕ) (f : KeptRegistration → KeptRegistration) (g : Parts → Parts) (same : (row : KeptRegistration) → parts_of (f row) ≡ ((parts_of row).0, g (parts_of row).1)) where
  changed_by : (row : KeptRegistration) (here : Bool) → parts_of (if here then f row else row) ≡ (if here then ((parts_of row).0, g (parts_of row).1) else parts_of row)
  changed_by row true = same row
  changed_by row false = refl

  changed_parts : (rows : List KeptRegistration) → with_parts key scope g (map parts_of rows) ≡ map parts_of (with_registration key scope f rows)
  changed_parts [] = refl
  changed_parts (row ∷ rows) = λ i. sym (changed_by row (is_registration key scope row)) i ∷ changed_parts rows i

-- a change that no part sees
unseen : (key scope : List ℕ) (f : KeptRegistration → KeptRegistration) → ((row : KeptRegistration) → parts_of (f row) ≡ parts_of row) → (rows : List KeptRegistration) → map parts_of rows ≡ map parts_of (with_registration key scope f rows)
unseen key scope f same [] = refl
unseen key scope f same (row ∷ rows) = λ i. by (is_registration key scope row) i ∷ unseen key scope f same rows i
  where
    by : (here : Bool) → parts_of row ≡ parts_of (if here then f row else row)
    by true = sym (same row)
    by false = refl

abbrev promoted_if : KeptRegistration → Option KeptWorker → KeptRegistration
promoted_if row waiting = elim waiting [ Some worker ↦ record row { waiting = None; active = Some worker; activated = false } | None ↦ row ]

promotes_by : (row : KeptRegistration) (waiting : Option KeptWorker) → parts_of (promoted_if row waiting) ≡ ((parts_of row).0, promoted_by (parts_of row).1 (option_map worker_size waiting))
promotes_by row None = refl
promotes_by row (Some worker) = refl

promotes : (row : KeptRegistration) → parts_of (promoted row) ≡ ((parts_of row).0, edited edit.Active (parts_of row).1)
promotes row = promotes_by row row.waiting

abbrev activated_if : KeptRegistration → Option KeptWorker → KeptRegistration
activated_if row active = elim active [ Some worker ↦ record row { activated = true } | None ↦ row ]

activates_by : (row : KeptRegistration) (active : Option KeptWorker) → parts_of (activated_if row active) ≡ ((parts_of row).0, activated_by (parts_of row).1 (option_map worker_size active))
activates_by row None = refl
activates_by row (Some worker) = refl

activates : (row : KeptRegistration) → parts_of (marked_activated row) ≡ ((parts_of row).0, edited edit.Activated (parts_of row).1)
activates row = activates_by row row.active

all_promoted : (rows : List KeptRegistration) → map (λ row. (row.0, edited edit.Active row.1)) (map parts_of rows) ≡ map parts_of (map promoted rows)
all_promoted [] = refl
all_promoted (row ∷ rows) = λ i. sym (promotes row) i ∷ all_promoted rows i

any_same : (key scope : List ℕ) (rows : List KeptRegistration) → list_any (is_at key scope) (map parts_of rows) ≡ list_any (is_registration key scope) rows
any_same key scope [] = refl
any_same key scope (row ∷ rows) = ap (λ (rest : Bool). is_registration key scope row || rest) (any_same key scope rows)

waits : (key scope : List ℕ) (mode : Mode) (worker : KeptWorker) (rows : List KeptRegistration) → with_waiting key scope (worker_size worker) (map parts_of rows) ≡ map parts_of (with_waiting_worker key scope mode worker rows)
waits key scope mode worker rows = by (list_any (is_at key scope) (map parts_of rows)) (any_same key scope rows)
  where
    f : KeptRegistration → KeptRegistration
    f row = record row { mode = mode; waiting = Some worker }

    by : (there : Bool) → there ≡ list_any (is_registration key scope) rows
        → (if there then with_parts key scope (edited (edit.Waiting (worker_size worker))) (map parts_of rows) else map parts_of rows ++ parts_of (first_waiting key scope mode worker) ∷ [])
        ≡ map parts_of (with_waiting_worker key scope mode worker rows)
    by true is = rw (← is) (changed_parts key scope f (edited (edit.Waiting (worker_size worker))) (λ row. refl) rows)
    by false is = rw (← is) (sym (map-append parts_of rows (first_waiting key scope mode worker ∷ [])))

-- ---- changes

same_caches : (kept : Kept) (there : Bool) (caches : List KeptCache) → map parts_of kept.registrations ≡ map parts_of (if there then kept else record kept { caches = caches }).registrations
same_caches kept true caches = refl
same_caches kept false caches = refl

noted_parts : (kept : Kept) (change : Change) → noted change (map parts_of kept.registrations) ≡ map parts_of (applied kept change).registrations
noted_parts kept (change.Waiting key scope mode worker) = waits key scope mode worker kept.registrations
noted_parts kept (change.Active key scope) = changed_parts key scope promoted (edited edit.Active) promotes kept.registrations
noted_parts kept (change.Activated key scope) = changed_parts key scope marked_activated (edited edit.Activated) activates kept.registrations
noted_parts kept (change.Mode key scope mode) = unseen key scope (λ row. record row { mode = mode }) (λ row. refl) kept.registrations
noted_parts kept (change.Gone key scope) = sym (filter_mapped parts_of (λ row. not (is_at key scope row)) kept.registrations)
noted_parts kept (change.CacheNew key name) = same_caches kept (list_any (is_cache key name) kept.caches) (kept.caches ++ record { key = key; name = name; pairs = [] } ∷ [])
noted_parts kept (change.CacheDrop key name) = refl
noted_parts kept (change.CacheOps key name ops) = refl
noted_parts kept (change.Forgot key) = sym (filter_mapped parts_of (λ row. not (is_of key row)) kept.registrations)
noted_parts kept change.Restarted = all_promoted kept.registrations
noted_parts kept (change.Preload key scope on text) =
    changed_parts key scope (λ row. record row { preload = on; preload_value = text }) (edited (edit.Preload (preload_size on text))) (λ row. refl) kept.registrations

-- what had the parts of a content has those of the content after a change
pub parts_noted : (kept : Kept) (change : Change) (old new : List Row) → new ≡ noted change old → ArePartsOf kept old → ArePartsOf (applied kept change) new
parts_noted kept change old new is parts = is ∙ (ap (noted change) parts ∙ noted_parts kept change)
