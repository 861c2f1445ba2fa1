-- A restart from a content that changes have made leaves a coherent state.
use Rattle.std.proofs.Common.{◌≡◌, ◌∙◌, ℕ, ◌+◌, ◌<◌, leb, Bool, true, false, not, ◌&&◌, List, [], ◌∷◌, map, Some, length, refl, ap, arith, if◌then◌else◌}
use Rattle.std.specs.List.{list_all, list_any, enumerate_from, range_with_len}
use Rattle.std.specs.Prelude.{nat_lt}
use Rattle.std.proofs.lemmas.Bool.{and_from, and_parts}
use Rattle.std.proofs.lemmas.Bool.Decides.{nat_tests}
use Rattle.std.proofs.lemmas.List.{length-map}
use Rattle.sw_data.specs.declared.storage.Change.{Change}
use Rattle.sw_data.specs.declared.storage.Change.TheVariants as change
use Rattle.sw_data.specs.declared.storage.Kept.{Kept}
use Rattle.sw_data.specs.declared.storage.KeptCache.{KeptCache}
use Rattle.sw_data.specs.declared.storage.KeptRegistration.{KeptRegistration}
use Rattle.sw_rules.specs.Restart.{restart, restored_registration, restored_workers, worker_after_restart}
use Rattle.sw_rules.specs.State.{Worker}
use Rattle.sw_rules.specs.Storage.{IsMade, applied, first_waiting, is_cache, is_registration, kept_after, marked_activated, nothing, promoted, with_cache, with_registration}
use Rattle.sw_laws.specs.Coherent.{Coherent, apart, has_its_handler, is_being_installed, same_cache, same_scope, share_slot}
use Rattle.sw_laws.proofs.Lists.{all_not, all_weaker, apart_changed, by_option, by_test, bytes_eq_symmetric, false_of}
use Rattle.sw_laws.proofs.Places.{apart_filter, apart_pushed}

-- ---- a content that changes have made

abbrev pub same_kept : KeptRegistration → KeptRegistration → Bool
same_kept one other = is_registration one.key one.scope other

-- a key and a scope have one registration, and a key and a name one cache
pub record SoundKept (kept : Kept) : Type 0 where
  pub registrations : apart same_kept kept.registrations ≡ true
  pub caches : apart same_cache kept.caches ≡ true

with_plain : (key scope : List ℕ) (f : KeptRegistration → KeptRegistration) → ((x : KeptRegistration) → (f x).key ≡ x.key) → ((x : KeptRegistration) → (f x).scope ≡ x.scope) → (x y : KeptRegistration) → same_kept x y ≡ false
    → same_kept (if is_registration key scope x then f x else x) (if is_registration key scope y then f y else y) ≡ false
with_plain key scope f keys scopes x y fine =
    by_test (λ row. same_kept row (if is_registration key scope y then f y else y) ≡ false) (is_registration key scope x) _ x
    (λ here. by_test (λ row. same_kept (f x) row ≡ false) (is_registration key scope y) _ y (λ there. rw (keys x, scopes x, keys y, scopes y) fine) (λ other. rw (keys x, scopes x) fine))
    (λ none. by_test (λ row. same_kept x row ≡ false) (is_registration key scope y) _ y (λ there. rw (keys y, scopes y) fine) (λ other. fine))

-- a change of rows that keeps key and scope
with_sound : (key scope : List ℕ) (f : KeptRegistration → KeptRegistration) → ((x : KeptRegistration) → (f x).key ≡ x.key) → ((x : KeptRegistration) → (f x).scope ≡ x.scope) → (rows : List KeptRegistration) → apart same_kept rows ≡ true → apart same_kept (with_registration key scope f rows) ≡ true
with_sound key scope f keys scopes rows is =
    apart_changed same_kept _ (λ x y fine. with_plain key scope f keys scopes x y fine) rows is

clear_of_cache : (key name : List ℕ) (f : KeptCache → KeptCache) → ((x : KeptCache) → (f x).key ≡ x.key) → ((x : KeptCache) → (f x).name ≡ x.name) → (row : KeptCache) (rows : List KeptCache) → list_all (λ y. not (same_cache row y)) rows ≡ true → list_all (λ y. not (same_cache row y)) (with_cache key name f rows) ≡ true
clear_of_cache key name f keys names row [] is = refl
clear_of_cache key name f keys names row (x ∷ xs) is =
    let parts = and_parts (not (same_cache row x)) (list_all (λ y. not (same_cache row y)) xs) is in
    by_test (λ rows. list_all (λ y. not (same_cache row y)) rows ≡ true) (is_cache key name x) _ _
    (λ here. and_from _ _ (rw (keys x, names x) parts.0) parts.1)
    (λ other. and_from _ _ parts.0 (clear_of_cache key name f keys names row xs parts.1))

with_cache_sound : (key name : List ℕ) (f : KeptCache → KeptCache) → ((x : KeptCache) → (f x).key ≡ x.key) → ((x : KeptCache) → (f x).name ≡ x.name) → (rows : List KeptCache) → apart same_cache rows ≡ true → apart same_cache (with_cache key name f rows) ≡ true
with_cache_sound key name f keys names [] is = refl
with_cache_sound key name f keys names (x ∷ xs) is =
    let parts = and_parts (list_all (λ y. not (same_cache x y)) xs) (apart same_cache xs) is in
    by_test (λ rows. apart same_cache rows ≡ true) (is_cache key name x) _ _
    (λ here. and_from _ _ (all_weaker _ _ (λ y clear. rw (keys x, names x) clear) xs parts.0) parts.1)
    (λ other. and_from _ _ (clear_of_cache key name f keys names x xs parts.0) (with_cache_sound key name f keys names xs parts.1))

waiting_sound : (key scope : List ℕ) (row : KeptRegistration) → is_registration key scope row ≡ false → (new : KeptRegistration) → new.key ≡ key → new.scope ≡ scope → not (same_kept row new) ≡ true
waiting_sound key scope row other new keyed scoped = grind (arith, other, keyed, scoped, bytes_eq_symmetric key row.key, bytes_eq_symmetric scope row.scope)

cache_sound : (key name : List ℕ) (row : KeptCache) → is_cache key name row ≡ false → not (same_cache row (record { key = key; name = name; pairs = [] })) ≡ true
cache_sound key name row other = grind (arith, other, bytes_eq_symmetric key row.key, bytes_eq_symmetric name row.name)

promoted_key : (x : KeptRegistration) → (promoted x).key ≡ x.key
promoted_key x = grind arith

promoted_scope : (x : KeptRegistration) → (promoted x).scope ≡ x.scope
promoted_scope x = grind arith

marked_key : (x : KeptRegistration) → (marked_activated x).key ≡ x.key
marked_key x = grind arith

marked_scope : (x : KeptRegistration) → (marked_activated x).scope ≡ x.scope
marked_scope x = grind arith

promoted_apart : (x y : KeptRegistration) → same_kept x y ≡ false → same_kept (promoted x) (promoted y) ≡ false
promoted_apart x y fine = rw (promoted_key x, promoted_scope x, promoted_key y, promoted_scope y) fine

pub applied_sound : (kept : Kept) (c : Change) → SoundKept kept → SoundKept (applied kept c)
applied_sound kept (change.Waiting key scope mode worker) sound = record {
  registrations = by_test (λ rows. apart same_kept rows ≡ true) (list_any (is_registration key scope) kept.registrations) _ _
      (λ there. with_sound key scope _ (λ x. refl) (λ x. refl) kept.registrations sound.registrations)
      (λ none. apart_pushed same_kept kept.registrations _ sound.registrations (all_weaker _ _ (λ row is. waiting_sound key scope row (false_of is) (first_waiting key scope mode worker) refl refl) kept.registrations (all_not (is_registration key scope) kept.registrations none)));
  caches = sound.caches;
}
applied_sound kept (change.Active key scope) sound = record { registrations = with_sound key scope promoted promoted_key promoted_scope kept.registrations sound.registrations; caches = sound.caches }
applied_sound kept (change.Activated key scope) sound = record { registrations = with_sound key scope marked_activated marked_key marked_scope kept.registrations sound.registrations; caches = sound.caches }
applied_sound kept (change.Mode key scope mode) sound = record { registrations = with_sound key scope _ (λ x. refl) (λ x. refl) kept.registrations sound.registrations; caches = sound.caches }
applied_sound kept (change.Gone key scope) sound = record { registrations = apart_filter same_kept _ kept.registrations sound.registrations; caches = sound.caches }
applied_sound kept (change.CacheNew key name) sound =
    by_test SoundKept (list_any (is_cache key name) kept.caches) _ _ (λ there. sound)
    (λ none. record { registrations = sound.registrations; caches = apart_pushed same_cache kept.caches _ sound.caches (all_weaker _ _ (λ row is. cache_sound key name row (false_of is)) kept.caches (all_not (is_cache key name) kept.caches none)) })
applied_sound kept (change.CacheDrop key name) sound = record { registrations = sound.registrations; caches = apart_filter same_cache _ kept.caches sound.caches }
applied_sound kept (change.CacheOps key name ops) sound = record { registrations = sound.registrations; caches = with_cache_sound key name _ (λ x. refl) (λ x. refl) kept.caches sound.caches }
applied_sound kept (change.Forgot key) sound = record { registrations = apart_filter same_kept _ kept.registrations sound.registrations; caches = apart_filter same_cache _ kept.caches sound.caches }
applied_sound kept change.Restarted sound = record { registrations = apart_changed same_kept promoted (λ x y fine. promoted_apart x y fine) kept.registrations sound.registrations; caches = sound.caches }
applied_sound kept (change.Preload key scope on text) sound = record { registrations = with_sound key scope _ (λ x. refl) (λ x. refl) kept.registrations sound.registrations; caches = sound.caches }

folded_sound : (changes : List Change) (kept : Kept) → SoundKept kept → SoundKept (kept_after kept changes)
folded_sound [] kept sound = sound
folded_sound (c ∷ changes) kept sound = folded_sound changes (applied kept c) (applied_sound kept c sound)

pub made_sound : (kept : Kept) → IsMade kept → SoundKept kept
made_sound kept made = rw made.1 (folded_sound made.0 nothing (record { registrations = refl; caches = refl }))

-- ---- the registrations after a restart

restored_numbers : (rows : List KeptRegistration) (from : ℕ) → map (λ row. row.number) (map restored_registration (enumerate_from from rows)) ≡ range_with_len from (length (map restored_registration (enumerate_from from rows)))
restored_numbers [] from = refl
restored_numbers (row ∷ rows) from = ap (λ (ns : List ℕ). from ∷ ns) (restored_numbers rows (from + 1))

restored_clear : (row : KeptRegistration) (at : ℕ) (rows : List KeptRegistration) (from : ℕ) → list_all (λ y. not (same_kept row y)) rows ≡ true → list_all (λ y. not (same_scope (restored_registration (at, row)) y)) (map restored_registration (enumerate_from from rows)) ≡ true
restored_clear row at [] from is = refl
restored_clear row at (x ∷ xs) from is =
    let parts = and_parts (not (same_kept row x)) (list_all (λ y. not (same_kept row y)) xs) is in
    and_from _ _ (grind (arith, parts.0, bytes_eq_symmetric row.key x.key, bytes_eq_symmetric row.scope x.scope)) (restored_clear row at xs (from + 1) parts.1)

restored_scopes : (rows : List KeptRegistration) (from : ℕ) → apart same_kept rows ≡ true → apart same_scope (map restored_registration (enumerate_from from rows)) ≡ true
restored_scopes [] from is = refl
restored_scopes (row ∷ rows) from is =
    let parts = and_parts (list_all (λ y. not (same_kept row y)) rows) (apart same_kept rows) is in
    and_from _ _ (restored_clear row from rows (from + 1) parts.0) (restored_scopes rows (from + 1) parts.1)

-- ---- the workers after a restart

-- a restored worker's registration, handler and state
later : (rows : List KeptRegistration) (number from : ℕ) → list_all (λ row. leb from row.registration) (restored_workers number (enumerate_from from rows)) ≡ true
later [] number from = refl
later (row ∷ rows) number from =
    let lower = λ (n : ℕ). all_weaker (λ (w : Worker). leb (from + 1) w.registration) (λ w. leb from w.registration) (λ w is. grind (arith, nat_tests, is)) (restored_workers n (enumerate_from (from + 1) rows)) (later rows n (from + 1)) in
    grind (arith, nat_tests, lower number, lower (number + 1))

restart-slots : (rows : List KeptRegistration) (number from : ℕ) → apart share_slot (restored_workers number (enumerate_from from rows)) ≡ true
restart-slots [] number from = refl
restart-slots (row ∷ rows) number from =
    let clear = λ (worker : Worker) (here : worker.registration ≡ from). all_weaker (λ (w : Worker). leb (from + 1) w.registration) (λ w. not (share_slot worker w)) (λ w is. grind (arith, nat_tests, here, is)) (restored_workers (number + 1) (enumerate_from (from + 1) rows)) (later rows (number + 1) (from + 1)) in
    by_option (λ (workers : List Worker). apart share_slot workers ≡ true) (worker_after_restart number from row) _ _
    (λ none. restart-slots rows number (from + 1))
    (λ worker is. and_from _ _ (clear worker (grind (arith, is))) (restart-slots rows (number + 1) (from + 1)))

restart-numbers : (rows : List KeptRegistration) (number from : ℕ) → let workers = restored_workers number (enumerate_from from rows) in map (λ row. row.number) workers ≡ range_with_len number (length workers)
restart-numbers [] number from = refl
restart-numbers (row ∷ rows) number from = grind (arith, restart-numbers rows number (from + 1), restart-numbers rows (number + 1) (from + 1))

restored_fits : (row : KeptRegistration) (number from end : ℕ) (worker : Worker) → worker_after_restart number from row ≡ Some worker → from < end → (has_its_handler worker && not (is_being_installed worker) && nat_lt worker.registration end) ≡ true
restored_fits row number from end worker got below = grind (arith, nat_tests, got, below)

restart-fits : (rows : List KeptRegistration) (number from end : ℕ) → from + length rows ≡ end → list_all (λ w. has_its_handler w && not (is_being_installed w) && nat_lt w.registration end) (restored_workers number (enumerate_from from rows)) ≡ true
restart-fits [] number from end is = refl
restart-fits (row ∷ rows) number from end is =
    let more : from + 1 + length rows ≡ end = omega (arith, is) in
    by_option (λ (workers : List Worker). list_all (λ w. has_its_handler w && not (is_being_installed w) && nat_lt w.registration end) workers ≡ true) (worker_after_restart number from row) _ _
    (λ none. restart-fits rows number (from + 1) end more)
    (λ worker got. and_from _ _ (restored_fits row number from end worker got (omega (arith, is))) (restart-fits rows (number + 1) (from + 1) end more))

pub length-enumerate : (rows : List KeptRegistration) (from : ℕ) → length (enumerate_from from rows) ≡ length rows
length-enumerate [] from = refl
length-enumerate (row ∷ rows) from = cc (length-enumerate rows (from + 1))

pub restart-coherent : (kept : Kept) → SoundKept kept → Coherent (restart kept)
restart-coherent kept sound =
    let rows = map restored_registration (enumerate_from 0 kept.registrations) in
    let same : length rows ≡ length kept.registrations = length-map (enumerate_from 0 kept.registrations) restored_registration ∙ length-enumerate kept.registrations 0 in
    let fits = restart-fits kept.registrations 0 0 (length rows) (omega (arith, same)) in
    record {
      registrations = record { numbers = restored_numbers kept.registrations 0; scopes = restored_scopes kept.registrations 0 sound.registrations };
      workers = record {
        numbers = restart-numbers kept.registrations 0 0;
        slots = restart-slots kept.registrations 0 0;
        handlers = all_weaker _ _ (λ w is. grind (arith, is)) (restored_workers 0 (enumerate_from 0 kept.registrations)) fits;
        owners = all_weaker _ _ (λ w is. grind (arith, is)) (restored_workers 0 (enumerate_from 0 kept.registrations)) fits;
      };
      jobs = record { numbers = refl; queues = refl; settled = refl; joined = λ number. tt; workers = refl };
      work = record { keys = refl; made = refl; phases = refl; installing = all_weaker _ _ (λ w is. grind (arith, is)) (restored_workers 0 (enumerate_from 0 kept.registrations)) fits };
      tasks = record { numbers = refl; makers = refl };
      clients = record { numbers = refl; controllers = refl; keys = refl };
      events = record { numbers = refl; activated = refl };
      caches = sound.caches;
      promises = refl;
    }
