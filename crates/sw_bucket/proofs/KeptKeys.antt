-- The keys of contents: which have usage, and which changes leave them.
use Rattle.std.proofs.Common.{◌≡◌, ◌∙◌, ℕ, Bool, true, false, not, ◌&&◌, ◌||◌, List, [], ◌∷◌, bytes_eq, filter, map, Option, Some, None, refl, sym, ap, arith, if◌then◌else◌}
use Rattle.std.specs.Prelude.{nat_lt}
use Rattle.std.specs.List.{cons_option, filter_map, list_all, list_any}
use Rattle.std.specs.Option.{option_map_or}
use Rattle.std.proofs.lemmas.Bool.Decides.{nat_tests}
use Rattle.std.proofs.lemmas.List.Folds.{list_any-append}
use Rattle.sw_data.specs.declared.storage.Change.{Change}
use Rattle.sw_data.specs.declared.storage.Change.TheVariants as change
use Rattle.sw_data.specs.declared.storage.Kept.{Kept}
use Rattle.sw_data.specs.declared.storage.KeptCache.{KeptCache}
use Rattle.sw_data.specs.declared.storage.KeptRegistration.{KeptRegistration}
use Rattle.sw_data.specs.declared.storage.KeptWorker.{KeptWorker}
use Rattle.sw_rules.specs.Durable.{checkpoint_changes, durable}
use Rattle.sw_rules.specs.State.{State}
use Rattle.sw_rules.specs.Storage.{applied, is_cache, is_registration, kept_after, marked_activated, promoted, with_cache, with_registration}
use Rattle.sw_laws.proofs.Lists.{by_truth, bytes_eq_equal, bytes_eq_symmetric}
use Rattle.sw_bucket.proofs.Holding.{have_usage}
use Rattle.sw_bucket.specs.Touched.{change_key}
use Rattle.sw_bucket.specs.Turns.{is_among}
use Rattle.sw_sizes.specs.Usage.{keys_of_kept, of_key, usage, usage_of}

-- ---- lists

module _ {X : Type 0} (test : X → Bool) where
  any_mapped : (g : X → X) → ((x : X) → test (g x) ≡ test x) → (xs : List X) → list_any test (map g xs) ≡ list_any test xs
  any_mapped g same [] = refl
  any_mapped g same (x ∷ xs) = λ i. same x i || any_mapped g same xs i

  any_filtered : (gone : X → Bool) → ((x : X) → gone x ≡ true → test x ≡ false) → (xs : List X) → list_any test (filter (λ x. not (gone x)) xs) ≡ list_any test xs
  any_filtered gone other [] = refl
  any_filtered gone other (x ∷ xs) = grind (arith, other x, any_filtered gone other xs)

  none_filtered : (xs : List X) → list_any test xs ≡ false → filter test xs ≡ []
  none_filtered [] none = refl
  none_filtered (x ∷ xs) none = grind (arith, none, none_filtered xs)

any_of_mapped : {X Y : Type 0} (test : Y → Bool) (f : X → Y) (xs : List X) → list_any test (map f xs) ≡ list_any (λ x. test (f x)) xs
any_of_mapped test f [] = refl
any_of_mapped test f (x ∷ xs) = ap (λ (b : Bool). test (f x) || b) (any_of_mapped test f xs)

any_same : {X : Type 0} (one other : X → Bool) → ((x : X) → one x ≡ other x) → (xs : List X) → list_any one xs ≡ list_any other xs
any_same one other same [] = refl
any_same one other same (x ∷ xs) = λ i. same x i || any_same one other same xs i

-- a key that is among others passes what they all pass
pub among_passes : (test : List ℕ → Bool) (key : List ℕ) (keys : List (List ℕ)) → list_all test keys ≡ true → is_among key keys ≡ true → test key ≡ true
among_passes test key [] all is = absurd cc
among_passes test key (own ∷ keys) all is =
    by_truth (bytes_eq key own)
    (λ here. let same = ap test (bytes_eq_equal key own here) in grind (arith, all, same))
    (λ other. let rest : is_among key keys ≡ true = grind (arith, is, other) in let others : list_all test keys ≡ true = grind (arith, all) in among_passes test key keys others rest)

-- which of the keys that pass are among them
pub among_filtered : (test : List ℕ → Bool) (key : List ℕ) (keys : List (List ℕ)) → is_among key (filter test keys) ≡ (is_among key keys && test key)
among_filtered test key [] = refl
among_filtered test key (own ∷ keys) =
    let rest = among_filtered test key keys in
    by_truth (bytes_eq key own)
    (λ here. let same = ap test (bytes_eq_equal key own here) in grind (arith, here, same, rest))
    (λ other. grind (arith, other, rest))

-- ---- usage

abbrev in_registrations : List ℕ → List KeptRegistration → Bool
in_registrations key rows = list_any (λ row. bytes_eq key row.key) rows

abbrev in_caches : List ℕ → List KeptCache → Bool
in_caches key rows = list_any (λ row. bytes_eq key row.key) rows

-- a key of a content is that of a registration or of a cache
among_kept : (key : List ℕ) (kept : Kept) → is_among key (keys_of_kept kept) ≡ (in_registrations key kept.registrations || in_caches key kept.caches)
among_kept key kept =
    let registration_key : KeptRegistration → List ℕ = λ row. row.key in
    let cache_key : KeptCache → List ℕ = λ row. row.key in
    list_any-append (bytes_eq key) (map registration_key kept.registrations) (map cache_key kept.caches)
    ∙ (λ i. any_of_mapped (bytes_eq key) registration_key kept.registrations i || any_of_mapped (bytes_eq key) cache_key kept.caches i)

nothing_kept : usage (record { registrations = []; caches = [] }) ≡ 0
unfolding checkpoint_changes
nothing_kept = refl

unused : (key : List ℕ) (kept : Kept) → in_registrations key kept.registrations ≡ false → in_caches key kept.caches ≡ false → usage_of key kept ≡ 0
unused key kept first second =
    let turned : (rows : List KeptRegistration) → list_any (λ (row : KeptRegistration). bytes_eq row.key key) rows ≡ in_registrations key rows =
    any_same (λ (row : KeptRegistration). bytes_eq row.key key) (λ (row : KeptRegistration). bytes_eq key row.key) (λ row. bytes_eq_symmetric row.key key) in
    let caches_turned : (rows : List KeptCache) → list_any (λ (row : KeptCache). bytes_eq row.key key) rows ≡ in_caches key rows =
    any_same (λ (row : KeptCache). bytes_eq row.key key) (λ (row : KeptCache). bytes_eq key row.key) (λ row. bytes_eq_symmetric row.key key) in
    let none : of_key key kept ≡ record { registrations = []; caches = [] } =
    λ i. record {
      registrations = none_filtered (λ (row : KeptRegistration). bytes_eq row.key key) kept.registrations (turned kept.registrations ∙ first) i;
      caches = none_filtered (λ (row : KeptCache). bytes_eq row.key key) kept.caches (caches_turned kept.caches ∙ second) i;
    } in
    ap usage none ∙ nothing_kept

-- the keys with usage in a state are those of what is kept
pub used_among : (state : State) (key : List ℕ) → nat_lt 0 (usage_of key (durable state)) ≡ is_among key (keys_of_kept (durable state))
used_among state key =
    by_truth {P = nat_lt 0 (usage_of key (durable state)) ≡ is_among key (keys_of_kept (durable state))} (is_among key (keys_of_kept (durable state)))
    (λ is. among_passes (λ own. nat_lt 0 (usage_of own (durable state))) key (keys_of_kept (durable state)) (have_usage state) is ∙ sym is)
    (λ none.
    let both = among_kept key (durable state) in
    let first : in_registrations key (durable state).registrations ≡ false = grind (arith, both, none) in
    let second : in_caches key (durable state).caches ≡ false = grind (arith, both, none) in
    let zero = unused key (durable state) first second in
    let is : nat_lt 0 (usage_of key (durable state)) ≡ false = grind (arith, nat_tests, zero) in is ∙ sym none)

-- ---- changes

module _ (key : List ℕ) where
  -- another key isn't that of a row that is named so
  other_row : (own name of : List ℕ) (same : Bool) → bytes_eq key own ≡ false → (bytes_eq of own && same) ≡ true → bytes_eq key of ≡ false
  other_row own name of same other is =
      let first : bytes_eq of own ≡ true = grind (arith, is) in
      ap (bytes_eq key) (bytes_eq_equal of own first) ∙ other

  registration_same : (own scope : List ℕ) (f : KeptRegistration → KeptRegistration) → ((row : KeptRegistration) → (f row).key ≡ row.key) → (rows : List KeptRegistration) → in_registrations key (with_registration own scope f rows) ≡ in_registrations key rows
  registration_same own scope f same =
      any_mapped (λ (row : KeptRegistration). bytes_eq key row.key) (λ row. if is_registration own scope row then f row else row)
      (λ row. by_truth {P = bytes_eq key (if is_registration own scope row then f row else row).key ≡ bytes_eq key row.key} (is_registration own scope row)
      (λ is. rw is (ap (bytes_eq key) (same row))) (λ other. rw other refl))

  cache_same : (own name : List ℕ) (f : KeptCache → KeptCache) → ((row : KeptCache) → (f row).key ≡ row.key) → (rows : List KeptCache) → in_caches key (with_cache own name f rows) ≡ in_caches key rows
  cache_same own name f same [] = refl
  cache_same own name f same (row ∷ rows) = let here = same row in grind (arith, here, cache_same own name f same rows)

  promoted_key : (row : KeptRegistration) (waiting : Option KeptWorker) → (promoted (record row { waiting = waiting })).key ≡ row.key
  promoted_key row None = refl
  promoted_key row (Some worker) = refl

  activated_key : (row : KeptRegistration) (active : Option KeptWorker) → (marked_activated (record row { active = active })).key ≡ row.key
  activated_key row None = refl
  activated_key row (Some worker) = refl

  abbrev is_other : Option (List ℕ) → Type 0
  is_other own = option_map_or (bytes_eq key) own false ≡ false

  -- a change of another key leaves it whether this one is there
  other_change : (kept : Kept) (change : Change) → is_other (change_key change)
      → (in_registrations key (applied kept change).registrations || in_caches key (applied kept change).caches) ≡ (in_registrations key kept.registrations || in_caches key kept.caches)
  other_change kept (change.Waiting own scope mode worker) other =
      ap (λ (b : Bool). b || in_caches key kept.caches)
      (by_truth {P = in_registrations key (applied kept (change.Waiting own scope mode worker)).registrations ≡ in_registrations key kept.registrations} (list_any (is_registration own scope) kept.registrations)
      (λ there. rw there (registration_same own scope (λ row. record row { mode = mode; waiting = Some worker }) (λ row. refl) kept.registrations))
      (λ none. rw none (list_any-append (λ (row : KeptRegistration). bytes_eq key row.key) kept.registrations _ ∙ grind (arith, other))))
  other_change kept (change.Active own scope) other =
      ap (λ (b : Bool). b || in_caches key kept.caches) (registration_same own scope promoted (λ row. promoted_key row row.waiting) kept.registrations)
  other_change kept (change.Activated own scope) other =
      ap (λ (b : Bool). b || in_caches key kept.caches) (registration_same own scope marked_activated (λ row. activated_key row row.active) kept.registrations)
  other_change kept (change.Mode own scope mode) other =
      ap (λ (b : Bool). b || in_caches key kept.caches) (registration_same own scope (λ row. record row { mode = mode }) (λ row. refl) kept.registrations)
  other_change kept (change.Gone own scope) other =
      ap (λ (b : Bool). b || in_caches key kept.caches)
      (any_filtered (λ (row : KeptRegistration). bytes_eq key row.key) (is_registration own scope) (λ row is. other_row own scope row.key (bytes_eq row.scope scope) other is) kept.registrations)
  other_change kept (change.CacheNew own name) other =
      by_truth {P = (in_registrations key (applied kept (change.CacheNew own name)).registrations || in_caches key (applied kept (change.CacheNew own name)).caches) ≡ (in_registrations key kept.registrations || in_caches key kept.caches)}
      (list_any (is_cache own name) kept.caches)
      (λ there. rw there refl)
      (λ none. rw none (ap (λ (b : Bool). in_registrations key kept.registrations || b) (list_any-append (λ (row : KeptCache). bytes_eq key row.key) kept.caches _ ∙ grind (arith, other))))
  other_change kept (change.CacheDrop own name) other =
      ap (λ (b : Bool). in_registrations key kept.registrations || b)
      (any_filtered (λ (row : KeptCache). bytes_eq key row.key) (is_cache own name) (λ row is. other_row own name row.key (bytes_eq row.name name) other is) kept.caches)
  other_change kept (change.CacheOps own name ops) other =
      ap (λ (b : Bool). in_registrations key kept.registrations || b) (cache_same own name _ (λ row. refl) kept.caches)
  other_change kept (change.Forgot own) other = λ i.
      any_filtered (λ (row : KeptRegistration). bytes_eq key row.key) (λ row. bytes_eq row.key own) (λ row is. ap (bytes_eq key) (bytes_eq_equal row.key own is) ∙ other) kept.registrations i
      || any_filtered (λ (row : KeptCache). bytes_eq key row.key) (λ row. bytes_eq row.key own) (λ row is. ap (bytes_eq key) (bytes_eq_equal row.key own is) ∙ other) kept.caches i
  other_change kept change.Restarted other =
      ap (λ (b : Bool). b || in_caches key kept.caches)
      (any_mapped (λ (row : KeptRegistration). bytes_eq key row.key) promoted (λ row. ap (bytes_eq key) (promoted_key row row.waiting)) kept.registrations)
  other_change kept (change.Preload own scope on text) other =
      ap (λ (b : Bool). b || in_caches key kept.caches) (registration_same own scope (λ row. record row { preload = on; preload_value = text }) (λ row. refl) kept.registrations)

  among_cons : (own : Option (List ℕ)) (keys : List (List ℕ)) → is_among key (cons_option own keys) ≡ (option_map_or (bytes_eq key) own false || is_among key keys)
  among_cons None keys = refl
  among_cons (Some own) keys = refl

  -- and so do changes of others
  pub other_changes : (kept : Kept) (changes : List Change) → is_among key (filter_map change_key changes) ≡ false
      → is_among key (keys_of_kept (kept_after kept changes)) ≡ is_among key (keys_of_kept kept)
  other_changes kept [] none = refl
  other_changes kept (change ∷ changes) none =
      let both = among_cons (change_key change) (filter_map change_key changes) in
      let first : is_other (change_key change) = grind (arith, both, none) in
      let rest : is_among key (filter_map change_key changes) ≡ false = grind (arith, both, none) in
      other_changes (applied kept change) changes rest
      ∙ (among_kept key (applied kept change) ∙ (other_change kept change first ∙ sym (among_kept key kept)))
