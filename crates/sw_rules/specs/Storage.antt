-- The kept content, and the effect of each durable change.
use Rattle.std.specs.Prelude.{◌≡◌, ℕ, Bool, true, false, not, ◌&&◌, List, [], ◌∷◌, ◌++◌, map, filter, fold, codes, bytes_eq, Some, None, Ok, Err, if◌then◌else◌}
use Rattle.std.specs.List.{list_any}
use Rattle.sw_data.specs.declared.exchange.Op.{Op}
use Rattle.sw_data.specs.declared.storage.Change.{Change}
use Rattle.sw_data.specs.declared.storage.Change.TheVariants as change
use Rattle.sw_data.specs.declared.storage.Kept.{Kept}
use Rattle.sw_data.specs.declared.storage.KeptCache.{KeptCache}
use Rattle.sw_data.specs.declared.storage.KeptRegistration.{KeptRegistration}
use Rattle.sw_data.specs.declared.storage.KeptWorker.{KeptWorker}
use Rattle.sw_data.specs.declared.workers.Mode.{Mode}
use Rattle.sw_rules.specs.Batch.{batch}
use Rattle.sw_rules.specs.Matching.{Pair}

-- nothing is kept
abbrev pub nothing : Kept
nothing = record { registrations = []; caches = [] }

-- ---- registrations

abbrev pub is_registration : List ℕ → List ℕ → KeptRegistration → Bool
is_registration key scope row = bytes_eq row.key key && bytes_eq row.scope scope

-- the registration of a key and a scope, changed
abbrev pub with_registration : List ℕ → List ℕ → (KeptRegistration → KeptRegistration) → List KeptRegistration → List KeptRegistration
with_registration key scope f rows = map (λ row. if is_registration key scope row then f row else row) rows

-- a registration that has just got its first waiting worker (Service Workers, "service worker registration"; preload "true" by "NavigationPreloadManager")
abbrev pub first_waiting : List ℕ → List ℕ → Mode → KeptWorker → KeptRegistration
first_waiting key scope mode worker = record {
  key = key;
  scope = scope;
  mode = mode;
  waiting = Some worker;
  active = None;
  activated = false;
  preload = false;
  preload_value = codes "true";
}

-- the registration gets this mode and this waiting worker, and is added last where it is absent
abbrev pub with_waiting : List ℕ → List ℕ → Mode → KeptWorker → List KeptRegistration → List KeptRegistration
with_waiting key scope mode worker rows =
    if list_any (is_registration key scope) rows
    then with_registration key scope (λ row. record row { mode = mode; waiting = Some worker }) rows
    else rows ++ first_waiting key scope mode worker ∷ []

-- the waiting worker, where there is one, becomes the active one, not activated
abbrev pub promoted : KeptRegistration → KeptRegistration
promoted row =
    elim row.waiting [
      | Some worker ↦ record row { waiting = None; active = Some worker; activated = false }
      | None ↦ row
    ]

-- the active worker, where there is one, is activated
abbrev pub marked_activated : KeptRegistration → KeptRegistration
marked_activated row = elim row.active [ Some worker ↦ record row { activated = true } | None ↦ row ]

-- ---- caches

abbrev pub is_cache : List ℕ → List ℕ → KeptCache → Bool
is_cache key name row = bytes_eq row.key key && bytes_eq row.name name

-- the pairs of a cache after a batch; one that throws changes nothing
abbrev pub pairs_after : List Pair → List Op → List Pair
pairs_after pairs ops = elim (batch pairs ops) [ Ok new ↦ new | Err fault ↦ pairs ]

-- the first cache of a key and a name, changed
abbrev pub with_cache : List ℕ → List ℕ → (KeptCache → KeptCache) → List KeptCache → List KeptCache
with_cache key name f [] = []
with_cache key name f (row ∷ rest) =
    if is_cache key name row then f row ∷ rest else row ∷ with_cache key name f rest

-- the cache of a key and a name after a batch
abbrev pub with_batch : List ℕ → List ℕ → List Op → List KeptCache → List KeptCache
with_batch key name ops rows = with_cache key name (λ row. record row { pairs = pairs_after row.pairs ops }) rows

-- ---- changes

-- the content after a change; one that doesn't fit changes nothing (own)
abbrev pub applied : Kept → Change → Kept
applied kept (change.Waiting key scope mode worker) =
    record kept { registrations = with_waiting key scope mode worker kept.registrations }
applied kept (change.Active key scope) =
    record kept { registrations = with_registration key scope promoted kept.registrations }
applied kept (change.Activated key scope) =
    record kept { registrations = with_registration key scope marked_activated kept.registrations }
applied kept (change.Mode key scope mode) =
    record kept { registrations = with_registration key scope (λ row. record row { mode = mode }) kept.registrations }
applied kept (change.Gone key scope) =
    record kept { registrations = filter (λ row. not (is_registration key scope row)) kept.registrations }
applied kept (change.CacheNew key name) =
    if list_any (is_cache key name) kept.caches then kept
    else record kept { caches = kept.caches ++ record { key = key; name = name; pairs = [] } ∷ [] }
applied kept (change.CacheDrop key name) =
    record kept { caches = filter (λ row. not (is_cache key name row)) kept.caches }
applied kept (change.CacheOps key name ops) = record kept { caches = with_batch key name ops kept.caches }
applied kept (change.Forgot key) = record {
  registrations = filter (λ row. not (bytes_eq row.key key)) kept.registrations;
  caches = filter (λ row. not (bytes_eq row.key key)) kept.caches;
}
applied kept change.Restarted = record kept { registrations = map promoted kept.registrations }
applied kept (change.Preload key scope on text) = record kept {
  registrations = with_registration key scope (λ row. record row { preload = on; preload_value = text }) kept.registrations;
}

-- the content that a list of changes makes of another (own)
abbrev pub kept_after : Kept → List Change → Kept
kept_after kept changes = fold applied kept changes

-- the content is one that some changes make of nothing
abbrev pub IsMade : Kept → Type 0
IsMade kept = (changes : List Change) × (kept ≡ kept_after nothing changes)
