-- The number of a fetch after further ones.
use Rattle.std.proofs.Common.{◌≡◌, ◌∙◌, ℕ, ◌+◌, Bool, true, false, List, [], ◌∷◌, ◌++◌, bytes_eq, find, map, refl, ap, subst, arith, if◌then◌else◌}
use Rattle.std.specs.Cmp.Lexicographic.{bytes_decides}
use Rattle.std.specs.List.{list_any}
use Rattle.std.specs.Option.{option_map_or}
use Rattle.sw_data.specs.Addresses.{without_fragment}
use Rattle.sw_data.specs.declared.exchange.Request.{Request}
use Rattle.sw_rules.specs.Caching.{with_draws}
use Rattle.sw_rules.specs.Jobs.{is_draw_of, next_draw, with_draw}
use Rattle.sw_rules.specs.Rows.{changed}
use Rattle.sw_rules.specs.State.{Draws}
use Rattle.sw_import.specs.Checking.{with_fetches}
use Rattle.sw_import.specs.Counting.{times}

-- how many fetches of an address without fragment were drawn
abbrev number_of : List ℕ → List Draws → ℕ
number_of address rows = option_map_or (λ row. row.number) (find (is_draw_of address) rows) 0

-- one more fetch of an address without fragment is drawn
abbrev one_more : List ℕ → Bool → List Draws → List Draws
one_more address there rows =
    if there then changed (is_draw_of address) (λ row. record row { number = row.number + 1 }) rows
    else rows ++ record { address = address; number = 1 } ∷ []

is_same : (a : List ℕ) → bytes_eq a a ≡ true
is_same a = (bytes_decides a a).1 refl

module _ (a b : List ℕ) (apart : bytes_eq a b ≡ false) where
  -- no row is of both addresses
  not_both : (c : List ℕ) → bytes_eq c a ≡ true → bytes_eq c b ≡ false
  not_both c is = ap (λ x. bytes_eq x b) ((bytes_decides c a).0 is) ∙ apart

  changed_apart : (rows : List Draws)
      → number_of b (changed (is_draw_of a) (λ row. record row { number = row.number + 1 }) rows) ≡ number_of b rows
  changed_apart [] = refl
  changed_apart (row ∷ rows) = grind (arith, not_both row.address, changed_apart rows)

  added_apart : (rows : List Draws) → number_of b (rows ++ record { address = a; number = 1 } ∷ []) ≡ number_of b rows
  added_apart [] = grind (arith, apart)
  added_apart (row ∷ rows) = grind (arith, added_apart rows)

  -- a fetch of one address leaves the number of another
  drawn_apart : (there : Bool) (rows : List Draws) → number_of b (one_more a there rows) ≡ number_of b rows
  drawn_apart true rows = changed_apart rows
  drawn_apart false rows = added_apart rows

module _ (a : List ℕ) where
  changed_own : (rows : List Draws) → list_any (is_draw_of a) rows ≡ true
      → number_of a (changed (is_draw_of a) (λ row. record row { number = row.number + 1 }) rows) ≡ number_of a rows + 1
  changed_own [] there = absurd cc
  changed_own (row ∷ rows) there = grind (arith, changed_own rows)

  added_own : (rows : List Draws) → list_any (is_draw_of a) rows ≡ false
      → number_of a (rows ++ record { address = a; number = 1 } ∷ []) ≡ number_of a rows + 1
  added_own [] absent = grind (arith, is_same a)
  added_own (row ∷ rows) absent = grind (arith, added_own rows)

  -- a fetch of an address has the next number behind it
  drawn_own : (there : Bool) (rows : List Draws) → list_any (is_draw_of a) rows ≡ there
      → number_of a (one_more a there rows) ≡ number_of a rows + 1
  drawn_own true rows is = changed_own rows is
  drawn_own false rows is = added_own rows is

-- the number of an address after one fetch
drawn_once : (a b : List ℕ) (same : Bool) (rows : List Draws) → bytes_eq a b ≡ same
    → number_of b (one_more a (list_any (is_draw_of a) rows) rows) ≡ number_of b rows + (if same then 1 else 0)
drawn_once a b true rows is =
    subst (λ c. number_of c (one_more a (list_any (is_draw_of a) rows) rows) ≡ number_of c rows + 1)
    ((bytes_decides a b).0 is) (drawn_own a (list_any (is_draw_of a) rows) rows refl)
drawn_once a b false rows is =
    let left = drawn_apart a b is (list_any (is_draw_of a) rows) rows in omega (arith, left)

-- the number of an address after these fetches
pub drawn_after : {X : Type 0} (address_of : X → List ℕ) (made : List X) (rows : List Draws) (address : List ℕ)
    → next_draw (with_fetches rows (map address_of made)) address
    ≡ next_draw rows address + times address_of (without_fragment address) made
drawn_after address_of [] rows address = omega arith
drawn_after address_of (own ∷ made) rows address =
    let once = drawn_once (without_fragment (address_of own)) (without_fragment address) (bytes_eq (without_fragment (address_of own)) (without_fragment address)) rows refl in
    let rest = drawn_after address_of made (with_draw rows (address_of own)) address in
    grind (arith, once, rest)

-- the fetches of requests, one after another
pub fetches_of : (requests : List Request) (rows : List Draws)
    → with_draws rows requests ≡ with_fetches rows (map (λ request. request.url) requests)
fetches_of [] rows = refl
fetches_of (request ∷ requests) rows = fetches_of requests (with_draw rows request.url)
