-- Rows of a table, by their places.
use Rattle.std.proofs.Common.{◌≡◌, ℕ, ◌+◌, ◌<◌, ◌≤◌, Bool, true, false, List, [], ◌∷◌, map, length, set, Some, None, refl, inl, inr, sym, ap, subst, ◌∙◌, arith, suc, zero}
use Rattle.std.specs.Prelude.{◌^◌, All, filter, Option, Result, Ok, Err, IfOk, IfErr, MatchOption, option_map, position, slice_get, nat_lt, sum_by}
use Rattle.std.specs.List.{list_any, position_or_len}
use Rattle.std.specs.Option.{option_map_or}
use Rattle.std.proofs.lemmas.Bool.{cases_Bool}
use Rattle.std.proofs.lemmas.Bool.Decides.{nat_tests}
use Rattle.std.proofs.lemmas.List.{map-set}
use Rattle.std.proofs.lemmas.List.Elements.{All-get_or, All-set}
use Rattle.std.proofs.lemmas.Option.{get_or_from_slice_get, slice_get-map, slice_get_within}
use Rattle.sw_data.specs.declared.storage.KeptCache.{KeptCache}
use Rattle.sw_data.specs.declared.exchange.Op.{Op}
use Rattle.sw_rules.specs.Batch.{batch}
use Rattle.sw_rules.specs.Caching.{pairs_of, with_pairs}
use Rattle.sw_rules.specs.Matching.{Pair}
use Rattle.sw_rules.specs.Storage.{with_cache}
use Rattle.sw_list.specs.Named.{is_at, values, with_value}
use Rattle.sw_caches.specs.declared.fault.BatchFault.{BatchFault}
use Rattle.sw_caches.specs.declared.table.CachePlan.{CachePlan}
use Rattle.sw_caches.specs.Bytes.{puts_size}
use Rattle.sw_caches.specs.Entries.{pairs}
use Rattle.sw_caches.specs.Plans.{FitsCache, Indexed, IsThrown, carried}
use Rattle.sw_caches.specs.Tables.{FitsTable, HasNames, IsBatch, IsBatchOf, IsRefused, IsRefusedOf, Row, carried_row, carried_rows, index_size, kept_row}

none_some : {A : Type 0} (x : A) → None ≡ Some x → ⊥
none_some x e = cc

pub some_is : {A : Type 0} (x y : A) → Some x ≡ Some y → x ≡ y
some_is x y e = cc

module _ (key name : List ℕ) where
  -- the cache of a key and a name is the row at this place
  pub record IsPlace (rows : List Row) (place : ℕ) : Type 0 where
    pub row : Row
    pub stands : slice_get rows place ≡ Some row
    pub found : pairs_of key name (map kept_row rows) ≡ Some row.1.pairs
    pub changed : (f : KeptCache → KeptCache) → with_cache key name f (map kept_row rows) ≡ set (map kept_row rows) place (f (kept_row row))

  place_here : (row : Row) (rows : List Row) → is_at key name row ≡ true → IsPlace (row ∷ rows) 0
  place_here row rows e = record {
    row = row;
    stands = refl;
    found = rw e refl;
    changed = λ f. rw e refl;
  }

  place_there : (row : Row) (rows : List Row) (place : ℕ) → is_at key name row ≡ false → IsPlace rows place → IsPlace (row ∷ rows) (suc place)
  place_there row rows place e at = record {
    row = at.row;
    stands = at.stands;
    found = rw e at.found;
    changed = λ f. rw e (ap (λ rest. kept_row row ∷ rest) (at.changed f));
  }

  place_or_len : (rows : List Row) → position_or_len (is_at key name) rows < length rows → IsPlace rows (position_or_len (is_at key name) rows)
  place_or_len [] within = absurd (omega arith)
  place_or_len (row ∷ rows) within = elim (cases_Bool (is_at key name row)) [
    | inl e ↦ (let is : 0 ≡ position_or_len (is_at key name) (row ∷ rows) = rw e refl in subst (IsPlace (row ∷ rows)) is (place_here row rows e))
    | inr e ↦
        let is : 1 + position_or_len (is_at key name) rows ≡ position_or_len (is_at key name) (row ∷ rows) = rw e refl in
        let next : suc (position_or_len (is_at key name) rows) ≡ position_or_len (is_at key name) (row ∷ rows) = omega (arith, is) in
        subst (IsPlace (row ∷ rows)) next (place_there row rows (position_or_len (is_at key name) rows) e (place_or_len rows (omega (arith, is))))
  ]

  none_past : (rows : List Row) → length rows ≤ position_or_len (is_at key name) rows → pairs_of key name (map kept_row rows) ≡ None
  none_past [] past = refl
  none_past (row ∷ rows) past = elim (cases_Bool (is_at key name row)) [
    | inl e ↦ absurd (let is : 0 ≡ position_or_len (is_at key name) (row ∷ rows) = rw e refl in omega (arith, is))
    | inr e ↦ rw e (none_past rows (let is : 1 + position_or_len (is_at key name) rows ≡ position_or_len (is_at key name) (row ∷ rows) = rw e refl in omega (arith, is)))
  ]

  -- the first place is that of the cache
  place_reads : (rows : List Row) → MatchOption (position (is_at key name) rows) (pairs_of key name (map kept_row rows) ≡ None) (IsPlace rows)
  place_reads rows = elim (cases_Bool (nat_lt (position_or_len (is_at key name) rows) (length rows))) [
    | inl e ↦ rw e (place_or_len rows (grind (arith, nat_tests)))
    | inr e ↦ rw e (none_past rows (grind (arith, nat_tests)))
  ]

  pub place_at : (rows : List Row) (place : ℕ) → Some place ≡ position (is_at key name) rows → IsPlace rows place
  place_at rows place at = subst (λ (found : Option ℕ). MatchOption found (pairs_of key name (map kept_row rows) ≡ None) (IsPlace rows)) (sym at) (place_reads rows)

  pub place_low : (rows : List Row) (place : ℕ) → Some place ≡ position (is_at key name) rows → place < length rows
  place_low rows place at = let is = place_at rows place at in slice_get_within rows place is.row is.stands

  pub none_at : (rows : List Row) → None ≡ position (is_at key name) rows → None ≡ pairs_of key name (map kept_row rows)
  none_at rows at = sym (subst (λ (found : Option ℕ). MatchOption found (pairs_of key name (map kept_row rows) ≡ None) (IsPlace rows)) (sym at) (place_reads rows))

  -- what stands at the place has the pairs
  pub pairs_at : (rows : List Row) (place : ℕ) (row : Row) → Some place ≡ position (is_at key name) rows → slice_get rows place ≡ Some row → Some row.1.pairs ≡ pairs_of key name (map kept_row rows)
  pairs_at rows place row at stands =
      let is = place_at rows place at in
      ap (λ (item : Row). Some item.1.pairs) (some_is row is.row (sym stands ∙ is.stands)) ∙ sym is.found

-- a filter of the images is the images of a filter
pub filter_mapped : {X Y : Type 0} (f : X → Y) (test : Y → Bool) (xs : List X) → map f (filter (λ x. test (f x)) xs) ≡ filter test (map f xs)
filter_mapped f test [] = refl
filter_mapped f test (x ∷ xs) = elim (cases_Bool (test (f x))) [
  | inl e ↦ rw e (ap (λ rest. f x ∷ rest) (filter_mapped f test xs))
  | inr e ↦ rw e (filter_mapped f test xs)
]

-- none passes where a filter leaves nothing, and one where it leaves one
pub none_left : {X : Type 0} (test : X → Bool) (xs : List X) → filter test xs ≡ [] → list_any test xs ≡ false
none_left test [] none = refl
none_left test (x ∷ xs) none = elim (cases_Bool (test x)) [
  | inl e ↦ absurd (empty_not x (filter test xs) (rw e at none))
  | inr e ↦ rw e (none_left test xs (rw e at none))
]
  where
    empty_not : {X : Type 0} (x : X) (xs : List X) → x ∷ xs ≡ [] → ⊥
    empty_not x xs h = cc

pub one_left : {X : Type 0} (test : X → Bool) (xs : List X) (y : X) (rest : List X) → filter test xs ≡ y ∷ rest → list_any test xs ≡ true
one_left test [] y rest one = absurd (empty_not y rest one)
  where
    empty_not : {X : Type 0} (x : X) (xs : List X) → [] ≡ x ∷ xs → ⊥
    empty_not x xs h = cc
one_left test (x ∷ xs) y rest one = elim (cases_Bool (test x)) [
  | inl e ↦ rw e refl
  | inr e ↦ rw e (one_left test xs y rest (rw e at one))
]

-- what stands at a place of a list, written there again or anew
set_same : {X : Type 0} (xs : List X) (place : ℕ) (x : X) → slice_get xs place ≡ Some x → set xs place x ≡ xs
set_same [] place x is = refl
set_same (y ∷ xs) zero x is = ap (λ z. z ∷ xs) (sym (some_is y x is))
set_same (y ∷ xs) (suc place) x is = ap (λ rest. y ∷ rest) (set_same xs place x is)

pub set_stands : {X : Type 0} (xs : List X) (place : ℕ) (x : X) → place < length xs → slice_get (set xs place x) place ≡ Some x
set_stands [] place x low = absurd (omega arith)
set_stands (y ∷ xs) zero x low = refl
set_stands (y ∷ xs) (suc place) x low = set_stands xs place x (omega arith)

-- a plan is carried out on what stands at its place
pub carried_at : (rows : List KeptCache) (plan : CachePlan) (place : ℕ) (kept : KeptCache) → plan.place ≡ place → slice_get rows place ≡ Some kept → carried_rows plan rows ≡ set rows place (carried_row plan kept)
carried_at rows plan place kept at stands =
    ap (λ n. option_map_or (λ row. set rows n (carried_row plan row)) (slice_get rows n) rows) at
    ∙ ap (λ found. option_map_or (λ row. set rows place (carried_row plan row)) found rows) stands

-- the pairs that a plan adds
abbrev added_pairs : CachePlan → List Pair
added_pairs plan = pairs plan.change.added.items

module _ (rows : List Row) (place : ℕ) (pairs : Indexed) (is : slice_get (values rows) place ≡ Some pairs) where
  pub row_at : (row : Row) × (slice_get rows place ≡ Some row) × (row.1 ≡ pairs)
  row_at = reads (slice_get rows place) refl (sym (slice_get-map (λ row. row.1) rows place) ∙ is)
    where
      reads : (found : Option Row) → slice_get rows place ≡ found → option_map (λ (row : Row). row.1) found ≡ Some pairs → (row : Row) × (slice_get rows place ≡ Some row) × (row.1 ≡ pairs)
      reads None e h = absurd (none_some pairs h)
      reads (Some row) e h = (row, e, some_is row.1 pairs h)

  written : (new : Indexed) → with_value place new rows ≡ set rows place (row_at.0.0, new)
  written new = ap (λ (found : Option Row). option_map_or (λ row. set rows place (row.0, new)) found rows) row_at.1

  kept_stands : slice_get (map kept_row rows) place ≡ Some (kept_row row_at.0)
  kept_stands = slice_get-map kept_row rows place ∙ ap (option_map kept_row) row_at.1

  kept_written : (new : Indexed) (kept : KeptCache) → kept_row (row_at.0.0, new) ≡ kept → map kept_row (with_value place new rows) ≡ set (map kept_row rows) place kept
  kept_written new kept same = ap (map kept_row) (written new) ∙ (map-set kept_row rows place (row_at.0.0, new) ∙ ap (set (map kept_row rows) place) same)

  -- a cache that keeps its pairs is kept as it was
  pub same_row : (new : Indexed) → new.pairs ≡ pairs.pairs → map kept_row (with_value place new rows) ≡ map kept_row rows
  same_row new same =
      kept_written new (kept_row row_at.0) (λ i. kept_row (row_at.0.0, record new { pairs = (same ∙ ap (λ (item : Indexed). item.pairs) (sym row_at.2)) i }))
      ∙ set_same (map kept_row rows) place (kept_row row_at.0) kept_stands

  -- what is written stands at its place
  index_stands : (new : Indexed) → slice_get (values (with_value place new rows)) place ≡ Some new
  index_stands new =
      ap (λ (list : List Row). slice_get (values list) place) (written new)
      ∙ (slice_get-map (λ row. row.1) (set rows place (row_at.0.0, new)) place
      ∙ ap (option_map (λ (row : Row). row.1)) (set_stands rows place (row_at.0.0, new) (slice_get_within rows place row_at.0 row_at.1)))

  row_read : (kept : KeptCache) → slice_get (map kept_row rows) place ≡ Some kept → pairs.pairs ≡ kept.pairs
  row_read kept stands =
      ap (λ (item : Indexed). item.pairs) (sym row_at.2)
      ∙ ap (λ (item : KeptCache). item.pairs) (some_is (kept_row row_at.0) kept (sym kept_stands ∙ stands))

  -- what counts the bytes of its pairs counts those of its row
  pub row_counts : (f : Indexed → ℕ) (row : Row) → slice_get rows place ≡ Some row → f pairs ≡ f row.1
  row_counts f row stands = ap f (sym row_at.2) ∙ ap (λ (item : Row). f item.1) (some_is row_at.0 row (sym row_at.1 ∙ stands))

  -- a cache that keeps its names has the bytes of its key and name
  pub named_written : (new : Indexed) → new.names ≡ pairs.names → All HasNames rows → All HasNames (with_value place new rows)
  named_written new same all =
      subst (All HasNames) (sym (written new))
      (All-set HasNames rows place (row_at.0.0, new)
      (same ∙ (ap (λ (item : Indexed). item.names) (sym row_at.2)
      ∙ subst HasNames (get_or_from_slice_get rows place row_at.0 row_at.0 row_at.1) (All-get_or HasNames rows place row_at.0 (slice_get_within rows place row_at.0 row_at.1) all))) all)

  -- the cache after its plan
  pub row_carried : (plan : CachePlan) (new : Indexed) → plan.place ≡ place → new.pairs ≡ carried plan.change pairs.pairs → map kept_row (with_value place new rows) ≡ carried_rows plan (map kept_row rows)
  row_carried plan new at same =
      kept_written new (carried_row plan (kept_row row_at.0)) (λ i. kept_row (row_at.0.0, record new { pairs = (same ∙ ap (λ (item : Indexed). carried plan.change item.pairs) (sym row_at.2)) i }))
      ∙ sym (carried_at (map kept_row rows) plan place (kept_row row_at.0) at kept_stands)

  -- what is said of the pairs is said of what is kept at their place
  pub planned_row : (ops : List Op) (result : Result CachePlan BatchFault) → IfOk result (λ plan. batch pairs.pairs ops ≡ Ok (carried plan.change pairs.pairs))
      → IfOk result (λ plan. (kept : KeptCache) → slice_get (map kept_row rows) place ≡ Some kept → batch kept.pairs ops ≡ Ok (carried plan.change kept.pairs))
  planned_row ops (Ok plan) planned = λ kept stands. subst (λ list. batch list ops ≡ Ok (carried plan.change list)) (row_read kept stands) planned
  planned_row ops (Err why) planned = tt

  pub thrown_row : (ops : List Op) (result : Result CachePlan BatchFault) → IfErr result (λ why. IsThrown why (batch pairs.pairs ops))
      → IfErr result (λ why. (kept : KeptCache) → slice_get (map kept_row rows) place ≡ Some kept → IsThrown why (batch kept.pairs ops))
  thrown_row ops (Ok plan) thrown = tt
  thrown_row ops (Err why) thrown = λ kept stands. subst (λ list. IsThrown why (batch list ops)) (row_read kept stands) thrown

  pub fits_row : (new : Indexed) (total : ℕ) (result : Result CachePlan BatchFault) → IfOk result (λ plan. plan.place ≡ place) → IfOk result (λ plan. FitsCache plan.change new)
      → new.names ≡ pairs.names → IfOk result (λ plan. plan.bytes ≡ puts_size pairs.names (added_pairs plan)) → sum_by index_size (values (with_value place new rows)) ≡ total → IfOk result (λ plan. total + plan.bytes < 2 ^ 64)
      → IfOk result (λ plan. FitsTable plan (values (with_value place new rows)))
  fits_row new total (Ok plan) at fits names bytes all room = record {
    index = new;
    stands = ap (slice_get (values (with_value place new rows))) at ∙ index_stands new;
    fits = fits;
    bytes = bytes ∙ ap (λ n. puts_size n (added_pairs plan)) (sym names);
    room = omega (arith, all, room);
  }
  fits_row new total (Err why) at fits names bytes all room = tt

module _ (key name : List ℕ) (ops : List Op) (rows : List Row) (place : ℕ) (at : IsPlace key name rows place) where
  place_stands : slice_get (map kept_row rows) place ≡ Some (kept_row at.row)
  place_stands = slice_get-map kept_row rows place ∙ ap (option_map kept_row) at.stands

  -- a plan of the cache's pairs is a plan of the batch
  batch_at : (plan : CachePlan) → plan.place ≡ place → ((row : KeptCache) → slice_get (map kept_row rows) place ≡ Some row → batch row.pairs ops ≡ Ok (carried plan.change row.pairs))
      → IsBatch key name ops (map kept_row rows) (carried_rows plan (map kept_row rows))
  batch_at plan is planned =
      let after = carried plan.change at.row.1.pairs in
      let new : carried_rows plan (map kept_row rows) ≡ with_pairs key name after (map kept_row rows) =
      carried_at (map kept_row rows) plan place (kept_row at.row) is place_stands ∙ sym (at.changed (λ row. record row { pairs = after })) in
      subst (λ found. IsBatchOf found key name ops (map kept_row rows) (carried_rows plan (map kept_row rows))) (sym at.found)
      (after, planned (kept_row at.row) place_stands, new)

  pub planned_at : (result : Result CachePlan BatchFault) → IfOk result (λ plan. plan.place ≡ place)
      → IfOk result (λ plan. (row : KeptCache) → slice_get (map kept_row rows) place ≡ Some row → batch row.pairs ops ≡ Ok (carried plan.change row.pairs))
      → IfOk result (λ plan. IsBatch key name ops (map kept_row rows) (carried_rows plan (map kept_row rows)))
  planned_at (Ok plan) is planned = batch_at plan is planned
  planned_at (Err why) is planned = tt

  -- a fault of the cache's pairs is a fault of the batch
  pub thrown_at : (result : Result CachePlan BatchFault)
      → IfErr result (λ why. (row : KeptCache) → slice_get (map kept_row rows) place ≡ Some row → IsThrown why (batch row.pairs ops))
      → IfErr result (IsRefused key name ops (map kept_row rows))
  thrown_at (Ok plan) thrown = tt
  thrown_at (Err why) thrown = subst (λ found. IsRefusedOf found ops why) (sym at.found) (thrown (kept_row at.row) place_stands)
