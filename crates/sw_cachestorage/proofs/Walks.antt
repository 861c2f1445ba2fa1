-- A walk over the registrations of a key: where it stands, what it passes, and that it goes on.
use Rattle.std.proofs.Common.{◌≡◌, ◌∙◌, ◌+◌, ◌-◌, ◌<◌, ◌≤◌, ℕ, zero, suc, Bool, true, false, List, [], ◌∷◌, bytes_eq, map, drop, length, Option, Some, None, option_map, option_and_then, refl, sym, ap, subst, arith, if◌then◌else◌}
use Rattle.std.specs.Prelude.{slice_get}
use Rattle.std.specs.Cmp.Lexicographic.{bytes_decides}
use Rattle.std.specs.List.{position_from, range_with_len}
use Rattle.std.specs.Option.{IfSome, unwrap_or}
use Rattle.std.proofs.lemmas.Iterator.Adapters.{position_from-zero}
use Rattle.std.proofs.lemmas.List.{drop-drop, drop-map, drop_all, drop_more, length-map}
use Rattle.std.proofs.lemmas.Option.{get_or_from_slice_get, slice_get-map, slice_get_within}
use Rattle.sw_data.specs.declared.rows.RegistrationRow.{RegistrationRow}
use Rattle.sw_reg.specs.Table.{first_of, is_of, next_of}
use Rattle.sw_rules.specs.State.{Registration}
use Rattle.sw_state.specs.Hosted.{Hosted, shown_of, state_of}
use Rattle.sw_tables.specs.Linked.{ArePlaces}

-- where a walk stands: at this place, or at the end
abbrev pub place_of : {X : Type 0} → List X → Option ℕ → ℕ
place_of rows at = unwrap_or at (length rows)

pub front : {X : Type 0} (xs : List X) (place : ℕ) (x : X) → slice_get xs place ≡ Some x → drop place xs ≡ x ∷ drop (place + 1) xs
front xs place x is = drop_more xs place x (slice_get_within xs place x is) ∙ ap (λ y. y ∷ drop (place + 1) xs) (get_or_from_slice_get xs place x x is)

-- ---- the first place that passes, from a place on

module _ {X : Type 0} (p : X → Bool) where
  at_place : (n : ℕ) (rows : List X) (x : X) (xs : List X) → drop n rows ≡ x ∷ xs → slice_get rows n ≡ Some x
  at_place zero [] x xs is = absurd cc
  at_place zero (y ∷ rows) x xs is = cc
  at_place (suc n) [] x xs is = absurd cc
  at_place (suc n) (y ∷ rows) x xs is = at_place n rows x xs is

  found_from : (from : ℕ) (rows xs : List X) (n : ℕ) → drop from rows ≡ xs → position_from p from xs ≡ Some n
      → (from ≤ n) × ((x : X) × (slice_get rows n ≡ Some x) × (p x ≡ true))
  found_from from rows [] n left is = absurd cc
  found_from from rows (x ∷ xs) n left is = pick (p x) refl is (found_from (from + 1) rows xs n (sym (drop-drop 1 from rows) ∙ ap (drop 1) left))
    where
      pick : (passes : Bool) → p x ≡ passes → (if passes then Some from else position_from p (from + 1) xs) ≡ Some n
          → (position_from p (from + 1) xs ≡ Some n → (from + 1 ≤ n) × ((y : X) × (slice_get rows n ≡ Some y) × (p y ≡ true)))
          → (from ≤ n) × ((y : X) × (slice_get rows n ≡ Some y) × (p y ≡ true))
      pick true test is rest =
          let same : from ≡ n = cc in
          (omega (arith, same), (x, ap (slice_get rows) (sym same) ∙ at_place from rows x xs left, test))
      pick false test is rest = let later = rest is in (omega (arith, later.0), later.1)

  -- what doesn't tell of the others is the same before and behind them
  passed_from : {Y : Type 0} (F : List X → Y) → ((x : X) (xs : List X) → p x ≡ false → F (x ∷ xs) ≡ F xs) → (from : ℕ) (rows xs : List X) → drop from rows ≡ xs
      → F xs ≡ F (drop (place_of rows (position_from p from xs)) rows)
  passed_from F skips from rows [] left = ap F (sym (drop_all (length rows) rows (omega arith)))
  passed_from F skips from rows (x ∷ xs) left = pick (p x) refl (passed_from F skips (from + 1) rows xs (sym (drop-drop 1 from rows) ∙ ap (drop 1) left))
    where
      pick : (passes : Bool) → p x ≡ passes → F xs ≡ F (drop (place_of rows (position_from p (from + 1) xs)) rows)
          → F (x ∷ xs) ≡ F (drop (place_of rows (if passes then Some from else position_from p (from + 1) xs)) rows)
      pick true test rest = ap F (sym left)
      pick false test rest = skips x xs test ∙ rest

-- ---- on registrations

-- a registration of a key stands at a place
pub record HasKeyAt (key : List ℕ) (rows : List RegistrationRow) (place : ℕ) : Type 0 where
  pub row : RegistrationRow
  pub here : slice_get rows place ≡ Some row
  pub own : is_of key row ≡ true

-- the first registration of a key from a place on
abbrev from_on : List ℕ → ℕ → List RegistrationRow → Option ℕ
from_on key from rows = position_from (is_of key) from (drop from rows)

begins : (key : List ℕ) (rows : List RegistrationRow) → first_of key rows ≡ from_on key 0 rows
begins key rows = position_from-zero (is_of key) rows

goes : (key : List ℕ) (rows : List RegistrationRow) (n : ℕ) → HasKeyAt key rows n → next_of n rows ≡ from_on key (n + 1) rows
goes key rows n stands =
    ap (option_and_then (λ (row : RegistrationRow). position_from (is_of row.key) (n + 1) (drop (n + 1) rows))) stands.here
    ∙ ap (λ (k : List ℕ). position_from (is_of k) (n + 1) (drop (n + 1) rows)) ((bytes_decides stands.row.key key).0 stands.own)

stands_on : (key : List ℕ) (from : ℕ) (rows : List RegistrationRow) → IfSome (from_on key from rows) (HasKeyAt key rows)
stands_on key from rows = by (from_on key from rows) refl
  where
    by : (at : Option ℕ) → from_on key from rows ≡ at → IfSome at (HasKeyAt key rows)
    by None is = tt
    by (Some n) is =
        let found = (found_from (is_of key) from rows (drop from rows) n refl is).1 in
        record { row = found.0; here = found.1; own = found.2 }

-- the walk stands at a registration of the key, at first and behind one
pub first_stands : (key : List ℕ) (rows : List RegistrationRow) (at : Option ℕ) → at ≡ first_of key rows → IfSome at (HasKeyAt key rows)
first_stands key rows at is = subst (λ (o : Option ℕ). IfSome o (HasKeyAt key rows)) (sym (is ∙ begins key rows)) (stands_on key 0 rows)

pub next_stands : (key : List ℕ) (rows : List RegistrationRow) (n : ℕ) (at : Option ℕ) → HasKeyAt key rows n → at ≡ next_of n rows → IfSome at (HasKeyAt key rows)
next_stands key rows n at stands is = subst (λ (o : Option ℕ). IfSome o (HasKeyAt key rows)) (sym (is ∙ goes key rows n stands)) (stands_on key (n + 1) rows)

pub stands_at : (key : List ℕ) (rows : List RegistrationRow) (at : Option ℕ) (n : ℕ) → IfSome at (HasKeyAt key rows) → at ≡ Some n → HasKeyAt key rows n
stands_at key rows at n stand is = subst (λ (o : Option ℕ). IfSome o (HasKeyAt key rows)) is stand

-- it goes on, and not past the end
pub next_further : (key : List ℕ) (rows : List RegistrationRow) (n : ℕ) (at : Option ℕ) → HasKeyAt key rows n → at ≡ next_of n rows → (n < place_of rows at) × (place_of rows at ≤ length rows)
next_further key rows n at stands is = by at (is ∙ goes key rows n stands)
  where
    by : (o : Option ℕ) → o ≡ from_on key (n + 1) rows → (n < place_of rows o) × (place_of rows o ≤ length rows)
    by None is = (slice_get_within rows n stands.row stands.here, omega arith)
    by (Some m) is =
        let found = found_from (is_of key) (n + 1) rows (drop (n + 1) rows) m refl (sym is) in
        let low = slice_get_within rows m found.1.0 found.1.1 in
        (omega (arith, found.0), omega (arith, low))

-- so it is nearer to the end
pub nearer : (key : List ℕ) (rows : List RegistrationRow) (at : Option ℕ) (n : ℕ) (next : Option ℕ) → HasKeyAt key rows n → at ≡ Some n → next ≡ next_of n rows
    → length rows - place_of rows next < length rows - place_of rows at
nearer key rows at n next stands is goes_to =
    let further = next_further key rows n next stands goes_to in
    let place : place_of rows at ≡ n = ap (place_of rows) is in
    omega (arith, further.0, further.1, place)

-- the number of a registration is its place
number_from : (base place : ℕ) (rows : List RegistrationRow) (row : RegistrationRow) → map (λ r. r.number) rows ≡ range_with_len base (length rows) → slice_get rows place ≡ Some row
    → row.number ≡ base + place
number_from base place [] row are is = absurd cc
number_from base zero (first ∷ rows) row are is =
    let here : first.number ≡ base = cc in
    let same : first ≡ row = cc in
    let own : row.number ≡ base = cc in
    omega (arith, own)
number_from base (suc place) (first ∷ rows) row are is = let later = number_from (base + 1) place rows row (cc) is in omega (arith, later)

pub own_number : (key : List ℕ) (rows : List RegistrationRow) (n : ℕ) (stands : HasKeyAt key rows n) → ArePlaces (λ row. row.number) rows → stands.row.number ≡ n
own_number key rows n stands are = let own = number_from 0 n rows stands.row are stands.here in omega (arith, own)

-- ---- on the registrations of a host

-- those from where the walk stands on
abbrev pub ahead : Hosted → Option ℕ → List Registration
ahead host at = drop (place_of host.registrations.rows at) (state_of host).registrations

pub shown_here : (host : Hosted) (n : ℕ) (row : RegistrationRow) → slice_get host.registrations.rows n ≡ Some row → slice_get (state_of host).registrations n ≡ Some (shown_of host row)
shown_here host n row here = slice_get-map (shown_of host) host.registrations.rows n ∙ ap (option_map (shown_of host)) here

-- the one where it stands is the first of them, and at the end there is none
pub at_one : (key : List ℕ) (host : Hosted) (at : Option ℕ) (n : ℕ) (stands : HasKeyAt key host.registrations.rows n) → at ≡ Some n
    → ahead host at ≡ shown_of host stands.row ∷ drop (n + 1) (state_of host).registrations
at_one key host at n stands is =
    ap (ahead host) is ∙ front (state_of host).registrations n (shown_of host stands.row) (shown_here host n stands.row stands.here)

pub at_end : (host : Hosted) (at : Option ℕ) → at ≡ None → ahead host at ≡ []
at_end host at is =
    let many = length-map host.registrations.rows (shown_of host) in
    ap (ahead host) is ∙ drop_all (length host.registrations.rows) (state_of host).registrations (omega (arith, many))

module _ {Y : Type 0} (key : List ℕ) (host : Hosted) (F : List Registration → Y) (skips : (row : Registration) (rows : List Registration) → bytes_eq row.key key ≡ false → F (row ∷ rows) ≡ F rows) where
  passed : (from : ℕ) (at : Option ℕ) → at ≡ from_on key from host.registrations.rows → F (drop from (state_of host).registrations) ≡ F (ahead host at)
  passed from at is =
      let rows = host.registrations.rows in
      ap F (drop-map (shown_of host) from rows)
      ∙ (passed_from (is_of key) (λ (xs : List RegistrationRow). F (map (shown_of host) xs)) (λ row xs other. skips (shown_of host row) (map (shown_of host) xs) other) from rows (drop from rows) refl
      ∙ (ap (λ (o : Option ℕ). F (map (shown_of host) (drop (place_of rows o) rows))) (sym is)
      ∙ ap F (sym (drop-map (shown_of host) (place_of rows at) rows))))

  -- what doesn't tell of registrations of other keys is the same where the walk comes to the next one
  pub first_passed : (at : Option ℕ) → at ≡ first_of key host.registrations.rows → F (state_of host).registrations ≡ F (ahead host at)
  first_passed at is = passed 0 at (is ∙ begins key host.registrations.rows)

  pub next_passed : (n : ℕ) (at : Option ℕ) → HasKeyAt key host.registrations.rows n → at ≡ next_of n host.registrations.rows → F (drop (n + 1) (state_of host).registrations) ≡ F (ahead host at)
  next_passed n at stands is = passed (n + 1) at (is ∙ goes key host.registrations.rows n stands)
