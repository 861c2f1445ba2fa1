-- The caches of a key, or of a key and a name, one after another.
use Rattle.std.proofs.Common.{◌≡◌, ℕ, ◌+◌, ◌<◌, ◌≤◌, Bool, true, false, List, [], ◌∷◌, map, length, drop, Some, None, refl, inl, inr, sym, ap, ◌∙◌, arith, suc}
use Rattle.std.specs.Prelude.{◌^◌, ◌&&◌, bytes_eq, cond, filter, is_some, MatchOption, Option, option_map, position, slice_get, nat_lt}
use Rattle.std.specs.List.{list_any, position_or_len}
use Rattle.std.proofs.lemmas.Bool.{cases_Bool}
use Rattle.std.proofs.lemmas.Bool.Decides.{nat_tests}
use Rattle.std.proofs.lemmas.List.{drop-drop, get_or-drop}
use Rattle.std.proofs.lemmas.Option.{get_or_from_slice_get, slice_get-get_or}
use Rattle.sw_data.specs.declared.storage.KeptCache.{KeptCache}
use Rattle.sw_caches.specs.Hits.{is_asked}
use Rattle.sw_caches.proofs.TableLemmas.{none_left, one_left}
use Rattle.sw_caches.specs.Tables.{IsNextCache, IsNextBy, Row, caches_from, kept_row, passing_from}

module _ (test : KeptCache → Bool) where
  -- where the first that passes stands
  abbrev at_first : List Row → ℕ
  at_first rows = position_or_len (λ row. test (kept_row row)) rows

  -- the first that passes begins those that do
  begins_here : (rows : List Row) → at_first rows < length rows → (row : Row) → slice_get rows (at_first rows) ≡ Some row
      → passing_from test 0 rows ≡ kept_row row ∷ passing_from test (at_first rows + 1) rows
  begins_here [] low row is = absurd (omega arith)
  begins_here (x ∷ rows) low row is = elim (cases_Bool (test (kept_row x))) [
    | inl e ↦
        let z : at_first (x ∷ rows) ≡ 0 = rw e refl in
        let same : Some x ≡ Some row = ap (slice_get (x ∷ rows)) (sym z) ∙ is in
        let here : passing_from test 0 (x ∷ rows) ≡ kept_row x ∷ passing_from test 0 rows = rw e refl in
        here ∙ ((λ i. kept_row (got x row same i) ∷ passing_from test 0 rows) ∙ ap (λ n. kept_row row ∷ passing_from test (n + 1) (x ∷ rows)) (sym z))
    | inr e ↦
        let z : at_first (x ∷ rows) ≡ 1 + at_first rows = rw e refl in
        let s : at_first (x ∷ rows) ≡ suc (at_first rows) = omega (arith, z) in
        let more : suc (at_first rows + 1) ≡ at_first (x ∷ rows) + 1 = omega (arith, s) in
        let there : passing_from test 0 (x ∷ rows) ≡ passing_from test 0 rows = rw e refl in
        there ∙ (begins_here rows (omega (arith, s, low)) row (ap (slice_get (x ∷ rows)) (sym s) ∙ is)
        ∙ ap (λ n. kept_row row ∷ passing_from test n (x ∷ rows)) more)
  ]
    where
      got : (a b : Row) → Some a ≡ Some b → a ≡ b
      got a b h = cc

  none_here : (rows : List Row) → length rows ≤ at_first rows → passing_from test 0 rows ≡ []
  none_here [] past = refl
  none_here (x ∷ rows) past = elim (cases_Bool (test (kept_row x))) [
    | inl e ↦ absurd (let z : at_first (x ∷ rows) ≡ 0 = rw e refl in omega (arith, z))
    | inr e ↦ rw e (none_here rows (let z : at_first (x ∷ rows) ≡ 1 + at_first rows = rw e refl in omega (arith, z)))
  ]

  -- the next place of those that pass is that of the next cache
  pub next_reads : (rows : List Row) (from place : ℕ) (row : Row) → Some place ≡ option_map (λ n. from + n) (position (λ row. test (kept_row row)) (drop from rows)) → slice_get rows place ≡ Some row
      → place < length rows → length rows < 2 ^ 32 → IsNextBy test from rows (kept_row row) (place + 1)
  next_reads rows from place row at stands within few = elim (cases_Bool (nat_lt first (length (drop from rows)))) [
    | inl e ↦
        let is : place ≡ from + first = some_is place (from + first) (at ∙ ap (λ b. option_map (λ n. from + n) (cond b (Some first) None)) e) in
        let low : first < length (drop from rows) = grind (arith, nat_tests) in
        let here : slice_get (drop from rows) first ≡ Some row =
        slice_get-get_or (drop from rows) first row low ∙ ap (λ item. Some item) (get_or-drop from rows first row ∙ get_or_from_slice_get rows (from + first) row row (ap (slice_get rows) (sym is) ∙ stands)) in
        let next : from + (first + 1) ≡ place + 1 = omega (arith, is) in
        record {
          later = omega (arith, is);
          within = omega arith;
          few = omega arith;
          caches = begins_here (drop from rows) low row here
              ∙ ap (λ rest. kept_row row ∷ filter test (map kept_row rest)) (drop-drop (first + 1) from rows ∙ ap (λ n. drop n rows) next);
        }
    | inr e ↦ absurd (some_none place (at ∙ ap (λ b. option_map (λ n. from + n) (cond b (Some first) None)) e))
  ]
    where
      first : ℕ
      first = at_first (drop from rows)

      some_is : (m n : ℕ) → Some m ≡ Some n → m ≡ n
      some_is m n h = cc

      some_none : (n : ℕ) → Some n ≡ None → ⊥
      some_none n h = cc

  pub none_reads : (rows : List Row) (from : ℕ) → None ≡ option_map (λ n. from + n) (position (λ row. test (kept_row row)) (drop from rows)) → passing_from test from rows ≡ []
  none_reads rows from at = elim (cases_Bool (nat_lt first (length (drop from rows)))) [
    | inl e ↦ absurd (none_some (from + first) (at ∙ ap (λ b. option_map (λ n. from + n) (cond b (Some first) None)) e))
    | inr e ↦ none_here (drop from rows) (grind (arith, nat_tests))
  ]
    where
      first : ℕ
      first = at_first (drop from rows)

      none_some : (n : ℕ) → None ≡ Some n → ⊥
      none_some n h = cc

-- a key has a cache where there is a next one
pub any_next : {A : Type 0} (key : List ℕ) (rows : List Row) (cache : A → KeptCache) (next : A → ℕ) (found : Option A) → MatchOption found (caches_from key 0 rows ≡ []) (λ item. IsNextCache key 0 rows (cache item) (next item))
    → is_some found ≡ list_any (λ row. bytes_eq row.key key) (map kept_row rows)
any_next key rows cache next None left = sym (none_left (λ row. bytes_eq row.key key) (map kept_row rows) left)
any_next key rows cache next (Some item) left = sym (one_left (λ row. bytes_eq row.key key) (map kept_row rows) (cache item) (caches_from key (next item) rows) left.caches)

-- where no name is given, all caches of the key are asked
pub asked_key : (key : List ℕ) → (λ row. bytes_eq row.key key) ≡ is_asked key None
asked_key key = λ i row. all (bytes_eq row.key key) i
  where
    all : (b : Bool) → b ≡ b && true
    all true = refl
    all false = refl
