-- The counted lengths after one more scope, and after one less.
use Rattle.std.proofs.Common.{◌≡◌, ◌∙◌, ◌<◌, ◌≤◌, ◌+◌, ◌-◌, ℕ, true, false, List, [], ◌∷◌, length, bytes_eq, Some, None, slice_index_or, slice_set, refl, sym, ap, arith}
use Rattle.std.specs.Prelude.{insert, remove}
use Rattle.std.proofs.lemmas.Bool.Decides.{nat_tests}
use Rattle.std.specs.Map.{lookup}
use Rattle.indexmap.specs.IndexMap.{insert_entry}
use Rattle.sw_scope.specs.declared.lengths.Counted.{Counted}
use Rattle.sw_scope.specs.Counted.{CountsLengths, IsFalling, entries_of, one_less, one_more, place_of, scopes_of, stands}
use Rattle.sw_scope.proofs.Entries.{one_at, entries_few, entries_kept, entries_put}

-- a greater bound serves
pub falls_below : (bound more : ℕ) (counted : List Counted) → bound ≤ more → IsFalling bound counted → IsFalling more counted
falls_below bound more [] at_most falls = tt
falls_below bound more (counted ∷ rest) at_most falls = let first = falls.0 in (omega (arith, first), falls.1, falls.2)

-- no length at the bound or above has a scope
pub none_above : (bound n : ℕ) (counted : List Counted) → bound ≤ n → IsFalling bound counted → scopes_of counted n ≡ 0
none_above bound n [] above falls = refl
none_above bound n (counted ∷ rest) above falls =
    let first = falls.0 in let later = none_above counted.length n rest (omega (arith, first)) falls.2 in grind (arith, nat_tests, first, later)

pub falls_more : (bound n : ℕ) (counted : List Counted) → n < bound → IsFalling bound counted → IsFalling bound (one_more counted n)
falls_more bound n [] below falls = (below, omega arith, tt)
falls_more bound n (counted ∷ rest) below falls =
    let later = λ (l : n < counted.length). falls_more counted.length n rest l falls.2 in
    let first = falls.0 in let some = falls.1 in let others = falls.2 in grind (arith, nat_tests, later, first, some, others)

pub more_of : (bound n at : ℕ) (counted : List Counted) → IsFalling bound counted
    → scopes_of (one_more counted n) at ≡ scopes_of counted at + one_at n at
more_of bound n at [] falls = grind (arith, nat_tests)
more_of bound n at (counted ∷ rest) falls =
    let later = more_of counted.length n at rest falls.2 in
    let above = λ (l : counted.length ≤ at). none_above counted.length at rest l falls.2 in
    grind (arith, nat_tests, later, above)

pub falls_less : (bound n : ℕ) (counted : List Counted) → IsFalling bound counted → IsFalling bound (one_less counted n)
falls_less bound n [] falls = tt
falls_less bound n (counted ∷ rest) falls =
    let later = falls_less counted.length n rest falls.2 in
    let first = falls.0 in let some = falls.1 in let others = falls.2 in
    let further = falls_below counted.length bound rest (omega (arith, first)) others in
    grind (arith, nat_tests, later, first, some, others, further)

pub less_of : (bound n at : ℕ) (counted : List Counted) → IsFalling bound counted → 0 < scopes_of counted n
    → scopes_of (one_less counted n) at + one_at n at ≡ scopes_of counted at
less_of bound n at [] falls has = absurd (omega arith)
less_of bound n at (counted ∷ rest) falls has =
    let later = less_of counted.length n at rest falls.2 in
    let some = falls.1 in
    let above = λ (m : ℕ) (l : counted.length ≤ m). none_above counted.length m rest l falls.2 in
    let above_at = above at in let above_n = above n in
    grind (arith, nat_tests, later, some, above_at, above_n)

-- ---- by the place of a length

pub place_within : (counted : List Counted) (n : ℕ) → place_of counted n ≤ length counted
place_within [] n = omega arith
place_within (counted ∷ rest) n = grind (arith, place_within rest n)

pub stands_within : (counted : List Counted) (n : ℕ) → stands counted n ≡ true → place_of counted n < length counted
stands_within [] n there = absurd cc
stands_within (counted ∷ rest) n there = grind (arith, stands_within rest n)

module _ (one : Counted) (n : ℕ) where
  pub scopes_there : (counted : List Counted) → stands counted n ≡ true → one ≡ slice_index_or counted (place_of counted n) one
      → one.scopes ≡ scopes_of counted n
  scopes_there [] there is = absurd cc
  scopes_there (counted ∷ rest) there is = grind (arith, nat_tests, scopes_there rest)

  pub more_there : (counted : List Counted) → stands counted n ≡ true → one ≡ slice_index_or counted (place_of counted n) one
      → slice_set counted (place_of counted n) (record { length = one.length; scopes = one.scopes + 1 }) ≡ one_more counted n
  more_there [] there is = absurd cc
  more_there (counted ∷ rest) there is = grind (arith, nat_tests, more_there rest)

  pub less_there : (counted : List Counted) → stands counted n ≡ true → one ≡ slice_index_or counted (place_of counted n) one → 1 < one.scopes
      → slice_set counted (place_of counted n) (record { length = one.length; scopes = one.scopes - 1 }) ≡ one_less counted n
  less_there [] there is some = absurd cc
  less_there (counted ∷ rest) there is some = grind (arith, nat_tests, less_there rest)

  pub gone_there : (counted : List Counted) → stands counted n ≡ true → one ≡ slice_index_or counted (place_of counted n) one → one.scopes ≤ 1
      → remove counted (place_of counted n) ≡ one_less counted n
  gone_there [] there is few = absurd cc
  gone_there (counted ∷ rest) there is few = grind (arith, nat_tests, gone_there rest)

module _ (n : ℕ) where
  pub more_new : (counted : List Counted) → stands counted n ≡ false
      → insert counted (place_of counted n) (record { length = n; scopes = 1 }) ≡ one_more counted n
  more_new [] absent = refl
  more_new (counted ∷ rest) absent = grind (arith, nat_tests, more_new rest)

  pub less_absent : (counted : List Counted) → stands counted n ≡ false → counted ≡ one_less counted n
  less_absent [] absent = refl
  less_absent (counted ∷ rest) absent = grind (arith, nat_tests, less_absent rest)

pub ruleset at_place = (place_within, stands_within, scopes_there, more_there, less_there, gone_there, more_new, less_absent)

-- ---- the counted lengths of entries

module _ (counted : List Counted) (entries : List (List ℕ × ℕ)) (scope : List ℕ) (is : CountsLengths counted entries) where
  pub counted_put : (id : ℕ) → lookup (bytes_eq scope) entries ≡ None → CountsLengths (one_more counted (length scope)) (insert_entry bytes_eq entries scope id)
  counted_put id absent = record {
    bound = is.bound + length scope + 1;
    falling = falls_more (is.bound + length scope + 1) (length scope) counted (omega arith)
        (falls_below is.bound (is.bound + length scope + 1) counted (omega arith) is.falling);
    exact = λ n. more_of is.bound (length scope) n counted is.falling
        ∙ (ap (λ k. k + one_at (length scope) n) (is.exact n) ∙ sym (entries_put scope n id entries absent));
  }

  pub counted_kept : (id before : ℕ) → lookup (bytes_eq scope) entries ≡ Some before → CountsLengths counted (insert_entry bytes_eq entries scope id)
  counted_kept id before there = record {
    bound = is.bound;
    falling = is.falling;
    exact = λ n. is.exact n ∙ sym (entries_kept scope n id before entries there);
  }

  pub counted_removed : (left : List (List ℕ × ℕ)) → ((n : ℕ) → entries_of left n + one_at (length scope) n ≡ entries_of entries n)
      → CountsLengths (one_less counted (length scope)) left
  counted_removed left fewer =
      let own = fewer (length scope) in
      let exact = is.exact (length scope) in
      let one : one_at (length scope) (length scope) ≡ 1 = grind (arith, nat_tests) in
      let some : 0 < scopes_of counted (length scope) = omega (arith, own, exact, one) in
      record {
        bound = is.bound;
        falling = falls_less is.bound (length scope) counted is.falling;
        exact = λ n. by n (less_of is.bound (length scope) n counted is.falling some) (fewer n) (is.exact n);
      }
    where
      by : (n : ℕ) → scopes_of (one_less counted (length scope)) n + one_at (length scope) n ≡ scopes_of counted n
          → entries_of left n + one_at (length scope) n ≡ entries_of entries n
          → scopes_of counted n ≡ entries_of entries n
          → scopes_of (one_less counted (length scope)) n ≡ entries_of left n
      by n less fewer_at exact = omega (arith, less, fewer_at, exact)

  pub counted_fits : (id most : ℕ) → lookup (bytes_eq scope) entries ≡ None → length (insert_entry bytes_eq entries scope id) ≤ most
      → scopes_of counted (length scope) < most
  counted_fits id most absent few =
      let own = entries_put scope (length scope) id entries absent in
      let some = entries_few (insert_entry bytes_eq entries scope id) (length scope) in
      let exact = is.exact (length scope) in
      let one : one_at (length scope) (length scope) ≡ 1 = grind (arith, nat_tests) in
      omega (arith, own, some, exact, one, few)
