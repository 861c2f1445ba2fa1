-- The first of the keys that may go, found one after the other.
use Rattle.std.proofs.Common.{◌≡◌, ◌∙◌, ℕ, ◌+◌, ◌<◌, Bool, true, false, List, [], ◌∷◌, length, take, get_or, None, cond, filter, fold, refl, ap, if◌then◌else◌}
use Rattle.std.proofs.lemmas.List.Elements.{filter_more}
use Rattle.std.proofs.lemmas.List.Sums.{fold-append}
use Rattle.sw_bucket.specs.Choosing.{first_to_go}
use Rattle.sw_bucket.specs.Eviction.{first_of, first_so_far}

-- one more key
pub first_grown : (before : List ℕ → List ℕ → Bool) (may : List ℕ → Bool) (keys : List (List ℕ)) (at : ℕ) (key : List ℕ) → at < length keys
    → first_of before (filter may (take (at + 1) keys)) ≡ first_to_go before may (first_of before (filter may (take at keys))) (get_or keys at key)
first_grown before may keys at key inside =
    let next = get_or keys at key in
    ap (first_of before) (filter_more may keys at key inside)
    ∙ (fold-append (first_so_far before) None (filter may (take at keys)) (cond (may next) (next ∷ []) []) ∙ by (may next))
  where
    by : (b : Bool) → fold (first_so_far before) (first_of before (filter may (take at keys))) (cond b (get_or keys at key ∷ []) [])
        ≡ (if b then first_so_far before (first_of before (filter may (take at keys))) (get_or keys at key) else first_of before (filter may (take at keys)))
    by true = refl
    by false = refl
