-- The usage as a sum over registrations and caches, and so over their keys.
use Rattle.std.proofs.Common.{◌≡◌, ◌∙◌, ℕ, ◌+◌, Bool, true, ◌==◌, List, [], ◌∷◌, bytes_eq, filter, map, refl, sym, ap, arith, if◌then◌else◌}
use Rattle.std.specs.Prelude.{sum_by}
use Rattle.std.specs.List.{flat_map, list_all}
use Rattle.std.proofs.lemmas.Bool.{and_parts}
use Rattle.std.proofs.lemmas.Bool.Decides.{nat_tests}
use Rattle.std.proofs.lemmas.List.Concat.{flat_map-cons}
use Rattle.std.proofs.lemmas.List.Folds.{list_all-append, list_all-map}
use Rattle.std.proofs.lemmas.List.Sums.{sum_by-append, sum_by-cons}
use Rattle.sw_data.specs.declared.storage.Change.{Change}
use Rattle.sw_data.specs.declared.storage.Kept.{Kept}
use Rattle.sw_data.specs.declared.storage.KeptCache.{KeptCache}
use Rattle.sw_data.specs.declared.storage.KeptRegistration.{KeptRegistration}
use Rattle.sw_codec.specs.Spelling.{change_spelling}
use Rattle.sw_rules.specs.Durable.{cache_changes, checkpoint_changes, registration_changes}
use Rattle.sw_caches.proofs.ChangeLemmas.{bytes_of_changes}
use Rattle.sw_caches.specs.Bytes.{bytes_of, cache_size}
use Rattle.sw_caches.specs.Changes.{change_size}
use Rattle.sw_sizes.proofs.Lengths.{all_long, change_long}
use Rattle.sw_sizes.specs.Laws.{AreSpelledSo, IsSumOverKeys}
use Rattle.sw_sizes.specs.Usage.{occurrences, of_key, registration_bytes, registration_size, usage}

-- ---- sums

sum_same : {X : Type 0} (one other : X → ℕ) → ((x : X) → one x ≡ other x) → (xs : List X) → sum_by one xs ≡ sum_by other xs
sum_same one other same [] = refl
sum_same one other same (x ∷ xs) =
    let rest = sum_same one other same xs in let here = same x in
    let left = sum_by-cons one x xs in let right = sum_by-cons other x xs in
    omega (arith, rest, here, left, right)

sum_both : {X : Type 0} (one other : X → ℕ) (xs : List X) → sum_by (λ x. one x + other x) xs ≡ sum_by one xs + sum_by other xs
sum_both one other [] = refl
sum_both one other (x ∷ xs) =
    let rest = sum_both one other xs in let both = sum_by-cons (λ x. one x + other x) x xs in
    let left = sum_by-cons one x xs in let right = sum_by-cons other x xs in
    omega (arith, rest, both, left, right)

-- what stands at one key alone
abbrev at_key : List ℕ → ℕ → List ℕ → ℕ
at_key own weight key = if bytes_eq own key then weight else 0

sum_none : (own : List ℕ) (weight : ℕ) (keys : List (List ℕ)) → occurrences own keys ≡ 0 → sum_by (at_key own weight) keys ≡ 0
sum_none own weight [] none = refl
sum_none own weight (key ∷ keys) none =
    let cons = sum_by-cons (at_key own weight) key keys in grind (arith, cons, none, sum_none own weight keys)

sum_once : (own : List ℕ) (weight : ℕ) (keys : List (List ℕ)) → occurrences own keys ≡ 1 → sum_by (at_key own weight) keys ≡ weight
sum_once own weight [] once = absurd cc
sum_once own weight (key ∷ keys) once =
    let cons = sum_by-cons (at_key own weight) key keys in grind (arith, cons, once, sum_none own weight keys, sum_once own weight keys)

module _ {X : Type 0} (key_of : X → List ℕ) (weight : X → ℕ) where
  of_one : (key : List ℕ) (x : X) (xs : List X)
      → sum_by weight (filter (λ y. bytes_eq (key_of y) key) (x ∷ xs)) ≡ at_key (key_of x) (weight x) key + sum_by weight (filter (λ y. bytes_eq (key_of y) key) xs)
  of_one key x xs = let cons = sum_by-cons weight x (filter (λ y. bytes_eq (key_of y) key) xs) in grind (arith, cons)

  sum_nothing : (keys : List (List ℕ)) → sum_by (λ key. sum_by weight (filter (λ y. bytes_eq (key_of y) key) [])) keys ≡ sum_by weight []
  sum_nothing [] = refl
  sum_nothing (key ∷ keys) =
      let cons = sum_by-cons (λ (own : List ℕ). sum_by weight (filter (λ y. bytes_eq (key_of y) own) [])) key keys in
      let rest = sum_nothing keys in omega (arith, cons, rest)

  -- rows, summed key by key
  by_keys : (keys : List (List ℕ)) (xs : List X) → list_all (λ x. occurrences (key_of x) keys == 1) xs ≡ true
      → sum_by (λ key. sum_by weight (filter (λ y. bytes_eq (key_of y) key) xs)) keys ≡ sum_by weight xs
  by_keys keys [] once = sum_nothing keys
  by_keys keys (x ∷ xs) once =
      let parts = and_parts (occurrences (key_of x) keys == 1) (list_all (λ y. occurrences (key_of y) keys == 1) xs) once in
      let one : occurrences (key_of x) keys ≡ 1 = grind (arith, nat_tests, parts.0) in
      let here = sum_once (key_of x) (weight x) keys one in
      let rest = by_keys keys xs parts.1 in
      let split = sum_same _ _ (λ (key : List ℕ). of_one key x xs) keys in
      let both = sum_both (at_key (key_of x) (weight x)) (λ key. sum_by weight (filter (λ y. bytes_eq (key_of y) key) xs)) keys in
      let whole = sum_by-cons weight x xs in
      omega (arith, here, rest, split, both, whole)

-- ---- usage

-- what rows take, whose changes have these sizes
all_weigh : {X : Type 0} (changes_of : X → List Change) (rows : List X) → sum_by change_size (flat_map changes_of rows) ≡ sum_by (λ row. sum_by change_size (changes_of row)) rows
all_weigh changes_of [] = refl
all_weigh changes_of (row ∷ rows) =
    let split = ap (sum_by change_size) (flat_map-cons changes_of row rows) in
    let both = sum_by-append change_size (changes_of row) (flat_map changes_of rows) in
    let rest = all_weigh changes_of rows in
    let whole = sum_by-cons (λ x. sum_by change_size (changes_of x)) row rows in
    omega (arith, split, both, rest, whole)

-- the usage is the sum of what the registrations take and of what the caches take
pub usage_weighs : (kept : Kept) → usage kept ≡ registration_bytes kept.registrations + bytes_of kept.caches
unfolding checkpoint_changes
usage_weighs kept =
    let first = flat_map registration_changes kept.registrations in
    let second = flat_map cache_changes kept.caches in
    let spelled = all_long change_spelling change_size change_long (checkpoint_changes kept) in
    let both = sum_by-append change_size first second in
    let registrations = all_weigh registration_changes kept.registrations in
    let caches = all_weigh cache_changes kept.caches in
    let same = sum_same cache_size (λ row. sum_by change_size (cache_changes row)) bytes_of_changes kept.caches in
    omega (arith, spelled, both, registrations, caches, same)

pub are_spelled_so : AreSpelledSo
are_spelled_so = record { change = change_long; content = usage_weighs }

pub is_sum_over_keys : IsSumOverKeys
is_sum_over_keys kept keys once =
    let test : List ℕ → Bool = λ key. occurrences key keys == 1 in
    let registration_key : KeptRegistration → List ℕ = λ row. row.key in
    let cache_key : KeptCache → List ℕ = λ row. row.key in
    let both = list_all-append test (map registration_key kept.registrations) (map cache_key kept.caches) in
    let parts = and_parts (list_all test (map registration_key kept.registrations)) (list_all test (map cache_key kept.caches)) (sym both ∙ once) in
    let registrations = by_keys registration_key registration_size keys kept.registrations (sym (list_all-map test registration_key kept.registrations) ∙ parts.0) in
    let caches = by_keys cache_key cache_size keys kept.caches (sym (list_all-map test cache_key kept.caches) ∙ parts.1) in
    let each = sum_same _ _ (λ (key : List ℕ). usage_weighs (of_key key kept)) keys in
    let split = sum_both (λ (key : List ℕ). sum_by registration_size (of_key key kept).registrations) (λ (key : List ℕ). sum_by cache_size (of_key key kept).caches) keys in
    let whole = usage_weighs kept in
    omega (arith, registrations, caches, each, split, whole)
