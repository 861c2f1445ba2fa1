-- Each key with a kept registration or a cache has usage.
use Rattle.std.proofs.Common.{◌≡◌, ◌∙◌, ℕ, ◌+◌, ◌<◌, Bool, true, ◌&&◌, ◌||◌, List, [], ◌∷◌, ◌++◌, bytes_eq, filter, map, length, length-append, Option, Some, None, IfSome, option_map, refl, arith}
use Rattle.std.specs.Prelude.{filter_map, is_some, nat_lt, sum_by}
use Rattle.std.specs.List.{list_all, list_any, range_with_len}
use Rattle.std.proofs.lemmas.Bool.{and_from, and_parts}
use Rattle.std.proofs.lemmas.Bool.Decides.{nat_tests}
use Rattle.std.proofs.lemmas.List.Folds.{list_all-append, list_all-map}
use Rattle.std.proofs.lemmas.List.Sums.{sum_by-cons}
use Rattle.sw_data.specs.declared.storage.Change.{Change}
use Rattle.sw_data.specs.declared.storage.Change.TheVariants as change
use Rattle.sw_data.specs.declared.storage.Kept.{Kept}
use Rattle.sw_data.specs.declared.storage.KeptCache.{KeptCache}
use Rattle.sw_data.specs.declared.storage.KeptRegistration.{KeptRegistration}
use Rattle.sw_data.specs.declared.storage.KeptWorker.{KeptWorker}
use Rattle.sw_data.specs.declared.workers.Slot.TheVariants as slot
use Rattle.sw_rules.specs.Durable.{active_changes, durable, durable_registration, kept_at, preload_changes, registration_changes, waiting_changes}
use Rattle.sw_rules.specs.Installing.{kept_worker}
use Rattle.sw_rules.specs.Rows.{is_number, slot_worker}
use Rattle.sw_rules.specs.State.{State, Registration, Worker}
use Rattle.sw_rules.specs.Told.{is_kept}
use Rattle.sw_laws.proofs.Lists.{all_members, all_true, all_weaker, by_truth, bytes_eq_same, find_passes, mapped_holds}
use Rattle.sw_caches.specs.Bytes.{cache_size}
use Rattle.sw_caches.specs.Changes.{change_size}
use Rattle.sw_sizes.proofs.Totals.{usage_weighs}
use Rattle.sw_sizes.specs.Usage.{keys_of_kept, of_key, registration_size, usage_of}
use Rattle.sw_bucket.specs.Laws.{HaveUsage}

-- ---- changes

pub some_bytes : (change : Change) → 0 < change_size change
unfolding change_size
some_bytes (change.Waiting key scope mode worker) = omega arith
some_bytes (change.Active key scope) = omega arith
some_bytes (change.Activated key scope) = omega arith
some_bytes (change.Mode key scope mode) = omega arith
some_bytes (change.Gone key scope) = omega arith
some_bytes (change.CacheNew key name) = omega arith
some_bytes (change.CacheDrop key name) = omega arith
some_bytes (change.CacheOps key name ops) = omega arith
some_bytes (change.Forgot key) = omega arith
some_bytes change.Restarted = omega arith
some_bytes (change.Preload key scope on text) = omega arith

-- changes, of which there is one
some_of : (changes : List Change) → 0 < length changes → 0 < sum_by change_size changes
some_of [] some = absurd (omega (arith, some))
some_of (change ∷ changes) some =
    let cons = sum_by-cons change_size change changes in
    let here = some_bytes change in
    omega (arith, cons, here)

-- ---- rows

-- a registration has a worker
abbrev has_worker : KeptRegistration → Bool
has_worker row = is_some row.waiting || is_some row.active

waits : (row : KeptRegistration) (found : Option KeptWorker) → is_some found ≡ true → 0 < length (waiting_changes row found)
waits row None is = absurd cc
waits row (Some worker) is = omega arith

registration_weighs : (row : KeptRegistration) → has_worker row ≡ true → nat_lt 0 (registration_size row) ≡ true
registration_weighs row is = let positive = some_of (registration_changes row) many in grind (arith, nat_tests, positive)
  where
    one : List Change
    one = waiting_changes row row.active

    two : List Change
    two = active_changes row

    three : List Change
    three = waiting_changes row row.waiting

    four : List Change
    four = preload_changes row

    all : length (registration_changes row) ≡ length one + length two + length three + length four
    all =
        let a = length-append ((one ++ two) ++ three) four in
        let b = length-append (one ++ two) three in
        let c = length-append one two in
        omega (arith, a, b, c)

    many : 0 < length (registration_changes row)
    many =
        by_truth (is_some row.active)
        (λ here. let first = waits row row.active here in omega (arith, all, first))
        (λ none. let other : is_some row.waiting ≡ true = grind (arith, is, none) in let third = waits row row.waiting other in omega (arith, all, third))

cache_weighs : (row : KeptCache) → nat_lt 0 (cache_size row) ≡ true
cache_weighs row = let positive : 0 < cache_size row = omega arith in grind (arith, nat_tests, positive)

-- rows of which one passes weigh something, where each does
some_weigh : {X : Type 0} (weight : X → ℕ) (test : X → Bool) (rows : List X) → list_all (λ x. nat_lt 0 (weight x)) rows ≡ true → list_any test rows ≡ true → 0 < sum_by weight (filter test rows)
some_weigh weight test [] weighs is = absurd cc
some_weigh weight test (x ∷ xs) weighs is =
    let parts = and_parts (nat_lt 0 (weight x)) (list_all (λ y. nat_lt 0 (weight y)) xs) weighs in
    by_truth (test x)
    (λ here. rw here (let cons = sum_by-cons weight x (filter test xs) in let own : 0 < weight x = grind (arith, nat_tests, parts.0) in omega (arith, cons, own)))
    (λ other. rw other (some_weigh weight test xs parts.1 (grind (arith, is, other))))

-- each row passes what follows of a row's key being there
each_by_key : {X : Type 0} (key_of : X → List ℕ) (P : X → Bool) (rows : List X) → ((x : X) → list_any (λ y. bytes_eq (key_of y) (key_of x)) rows ≡ true → P x ≡ true) → list_all P rows ≡ true
each_by_key key_of P rows goes =
    all_weaker (λ x. list_any (λ y. bytes_eq (key_of y) (key_of x)) rows) P goes rows
    (all_members (λ y x. bytes_eq (key_of y) (key_of x)) (λ x. bytes_eq_same (key_of x)) rows rows (λ x is. is))

-- ---- contents

module _ (kept : Kept) (weighs : list_all has_worker kept.registrations ≡ true) where
  of_registration : (row : KeptRegistration) → list_any (λ other. bytes_eq other.key row.key) kept.registrations ≡ true → nat_lt 0 (usage_of row.key kept) ≡ true
  of_registration row is =
      let each = all_weaker has_worker (λ (x : KeptRegistration). nat_lt 0 (registration_size x)) registration_weighs kept.registrations weighs in
      let some = some_weigh registration_size (λ (other : KeptRegistration). bytes_eq other.key row.key) kept.registrations each is in
      let whole = usage_weighs (of_key row.key kept) in
      let positive : 0 < usage_of row.key kept = omega (arith, some, whole) in
      grind (arith, nat_tests, positive)

  of_cache : (row : KeptCache) → list_any (λ other. bytes_eq other.key row.key) kept.caches ≡ true → nat_lt 0 (usage_of row.key kept) ≡ true
  of_cache row is =
      let each = all_weaker (λ (x : KeptCache). true) (λ (x : KeptCache). nat_lt 0 (cache_size x)) (λ x any. cache_weighs x) kept.caches (all_true kept.caches) in
      let some = some_weigh cache_size (λ (other : KeptCache). bytes_eq other.key row.key) kept.caches each is in
      let whole = usage_weighs (of_key row.key kept) in
      let positive : 0 < usage_of row.key kept = omega (arith, some, whole) in
      grind (arith, nat_tests, positive)

  all_used : list_all (λ key. nat_lt 0 (usage_of key kept)) (keys_of_kept kept) ≡ true
  all_used =
      let test : List ℕ → Bool = λ key. nat_lt 0 (usage_of key kept) in
      let registration_key : KeptRegistration → List ℕ = λ row. row.key in
      let cache_key : KeptCache → List ℕ = λ row. row.key in
      list_all-append test (map registration_key kept.registrations) (map cache_key kept.caches)
      ∙ and_from _ _
      (list_all-map test registration_key kept.registrations ∙ each_by_key registration_key (λ row. test row.key) kept.registrations of_registration)
      (list_all-map test cache_key kept.caches ∙ each_by_key cache_key (λ row. test row.key) kept.caches of_cache)

-- ---- durable parts

each_made : {A X : Type 0} (f : A → Option X) (P : X → Bool) → ((a : A) → IfSome (f a) (λ x. P x ≡ true)) → (items : List A) → list_all P (filter_map f items) ≡ true
each_made f P each [] = refl
each_made {X = X} f P each (a ∷ rest) = by (f a) refl (each a) (each_made f P each rest)
  where
    by : (o : Option X) → f a ≡ o → IfSome o (λ x. P x ≡ true) → list_all P (filter_map f rest) ≡ true → list_all P (filter_map f (a ∷ rest)) ≡ true
    by None is holds others = grind (arith, is, others)
    by (Some x) is holds others = grind (arith, is, holds, others)

kept_has_worker : (one other : Option Worker) → (is_some one || is_some other) ≡ true → (is_some (option_map kept_worker one) || is_some (option_map kept_worker other)) ≡ true
kept_has_worker None None is = absurd cc
kept_has_worker None (Some worker) is = refl
kept_has_worker (Some worker) other is = refl

place_has_worker : (state : State) (place : ℕ) → IfSome (option_map (durable_registration state) (kept_at state place)) (λ row. has_worker row ≡ true)
place_has_worker state place = mapped_holds (λ row. has_worker row ≡ true) (durable_registration state) (kept_at state place) found
  where
    found : (row : Registration) → kept_at state place ≡ Some row → has_worker (durable_registration state row) ≡ true
    found row is =
        let passes = find_passes (λ row. is_kept state row && is_number row.first place) state.registrations row is in
        let kept = and_parts (is_kept state row) (is_number row.first place) passes in
        let worker = and_parts row.mapped (is_some (slot_worker state slot.Waiting row.number) || is_some (slot_worker state slot.Active row.number)) kept.0 in
        kept_has_worker (slot_worker state slot.Waiting row.number) (slot_worker state slot.Active row.number) worker.1

durable_has_workers : (state : State) → list_all has_worker (durable state).registrations ≡ true
unfolding durable
durable_has_workers state = each_made (λ place. option_map (durable_registration state) (kept_at state place)) has_worker (place_has_worker state) (range_with_len 0 (length state.registrations))

pub have_usage : HaveUsage
have_usage state = all_used (durable state) (durable_has_workers state)
