-- The first of the kept keys that may go is the victim.
use Rattle.std.proofs.Common.{◌≡◌, ◌∙◌, ℕ, Bool, true, ◌&&◌, ◌||◌, ◌==◌, List, [], ◌∷◌, Option, Some, None, filter, fold, refl, sym, ap, arith, if◌then◌else◌}
use Rattle.std.specs.Prelude.{nat_lt}
use Rattle.std.specs.Cmp.Lexicographic.{slice_cmp}
use Rattle.std.specs.List.{list_all}
use Rattle.std.specs.Ordering.{is_lt, nat_cmp}
use Rattle.sw_data.specs.declared.histories.Entry.{Entry}
use Rattle.sw_data.specs.declared.storage.Kept.{Kept}
use Rattle.sw_rules.specs.Durable.{durable}
use Rattle.sw_rules.specs.State.{State}
use Rattle.sw_bucket.proofs.Holding.{have_usage}
use Rattle.sw_bucket.specs.Eviction.{first_of, first_so_far, goes_before, may_go, victim}
use Rattle.sw_bucket.specs.Noted.{IsNotedOf, Noted, last_noted}
use Rattle.sw_sizes.specs.Usage.{keys_of_kept, usage_of}
use Rattle.sw_bucket.specs.Uses.{last_use}

filter_weaker : {X : Type 0} (p q : X → Bool) (xs : List X) → list_all p xs ≡ true → filter (λ x. p x && q x) xs ≡ filter q xs
filter_weaker p q [] all = refl
filter_weaker p q (x ∷ xs) all = grind (arith, all, filter_weaker p q xs)

module _ (before other : List ℕ → List ℕ → Bool) (same : (a b : List ℕ) → before a b ≡ other a b) where
  so_far_same : (first : Option (List ℕ)) (next : List ℕ) → first_so_far before first next ≡ first_so_far other first next
  so_far_same None next = refl
  so_far_same (Some first) next = ap (λ (b : Bool). if b then Some next else Some first) (same next first)

  fold_same : (keys : List (List ℕ)) (first : Option (List ℕ)) → fold (first_so_far before) first keys ≡ fold (first_so_far other) first keys
  fold_same [] first = refl
  fold_same (key ∷ keys) first =
      ap (λ (f : Option (List ℕ)). fold (first_so_far before) f keys) (so_far_same first key) ∙ fold_same keys (first_so_far other first key)

goes_same : (one other : List ℕ → ℕ) → ((key : List ℕ) → one key ≡ other key) → (a b : List ℕ) → goes_before one a b ≡ goes_before other a b
goes_same one other same a b = λ i. nat_lt (same a i) (same b i) || (same a i == same b i && is_lt (slice_cmp nat_cmp a b))

-- the first of keys by what is noted is the first by the last uses
pub first_noted : (base : Kept) (history : List Entry) (noted : Noted) → IsNotedOf base history noted → (keys : List (List ℕ))
    → first_of (goes_before (last_noted noted)) keys ≡ first_of (goes_before (last_use base history)) keys
first_noted base history noted is keys =
    fold_same (goes_before (last_noted noted)) (goes_before (last_use base history)) (goes_same (last_noted noted) (last_use base history) is.last) keys None

pub victim_is : (base : Kept) (history : List Entry) (noted : Noted) (state : State) (keys : List (List ℕ)) (key : Option (List ℕ)) → IsNotedOf base history noted
    → keys ≡ keys_of_kept (durable state) → key ≡ first_of (goes_before (last_noted noted)) (filter (may_go state) keys) → key ≡ victim base history state
victim_is base history noted state keys key is kept first =
    first
    ∙ (ap (λ (all : List (List ℕ)). first_of (goes_before (last_noted noted)) (filter (may_go state) all)) kept
    ∙ (first_noted base history noted is (filter (may_go state) (keys_of_kept (durable state)))
    ∙ ap (first_of (goes_before (last_use base history))) (sym (filter_weaker (λ own. nat_lt 0 (usage_of own (durable state))) (may_go state) (keys_of_kept (durable state)) (have_usage state)))))
