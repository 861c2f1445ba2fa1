-- The rows of a key and a scope: where they are found, and what is left where one is changed or taken out.
use Rattle.std.proofs.Common.{◌≡◌, ◌∙◌, ℕ, ◌+◌, ◌<◌, Bool, cond, true, false, List, [], ◌∷◌, ◌++◌, map, filter, take, drop, length, get_or, set, zero, suc, Option, Some, None, refl, inl, inr, sym, ap, subst, arith, if◌then◌else◌}
use Rattle.std.specs.Prelude.{◌&&◌, ◌||◌, MatchOption, not, bytes_eq, is_some, position, slice_get}
use Rattle.std.specs.List.{AllByRecursion, IsDistinct, list_any}
use Rattle.std.specs.Map.{keys_of}
use Rattle.std.specs.Option.{option_map_or}
use Rattle.std.specs.Cmp.Lexicographic.{bytes_decides}
use Rattle.std.proofs.lemmas.Bool.{and_parts, cases_Bool}
use Rattle.std.proofs.lemmas.List.{map-append}
use Rattle.std.proofs.lemmas.List.Quantifiers.{position-Some}
use Rattle.std.proofs.lemmas.List.Sums.{sum_by-cons}
use Rattle.std.proofs.lemmas.Option.{get_or_from_slice_get, slice_get_within}
use Rattle.sw_change.proofs.Apart.{apart-push, none-all}
use Rattle.sw_list.proofs.FindLemmas.{found_any, found_position, none_position}
use Rattle.sw_list.specs.Named.{Label, is_at, values, with_value}
use Rattle.sw_sizes.specs.declared.row.Edit.TheVariants as edit
use Rattle.sw_sizes.specs.declared.row.Parts.{Parts}
use Rattle.sw_sizes.specs.Counted.{StandsAt, StandsNowhere, is_same}
use Rattle.sw_sizes.specs.Rows.{Row, edited, parts_bytes, row_bytes, rows_bytes, with_parts}

-- ---- one row

-- another value at a place where this row stands
pub value_at : (rows : List Row) (at : ℕ) (row : Row) (parts : Parts) → slice_get rows at ≡ Some row → with_value at parts rows ≡ set rows at (row.0, parts)
value_at rows at row parts is = ap (λ (found : Option Row). option_map_or (λ row. set rows at (row.0, parts)) found rows) is

set_keys : (rows : List Row) (at : ℕ) (row : Row) (parts : Parts) → slice_get rows at ≡ Some row → keys_of (set rows at (row.0, parts)) ≡ keys_of rows
set_keys [] at row parts is = let low = slice_get_within [] at row is in absurd (omega (arith, low))
set_keys (first ∷ rows) zero row parts is = (let same : first ≡ row = cc in λ i. (sym same i).0 ∷ keys_of rows)
set_keys (first ∷ rows) (suc at) row parts is = ap (λ (keys : List Label). first.0 ∷ keys) (set_keys rows at row parts is)

-- another value leaves the keys and scopes
pub same_keys : (rows : List Row) (at : ℕ) (row : Row) (parts : Parts) → slice_get rows at ≡ Some row → keys_of (with_value at parts rows) ≡ keys_of rows
same_keys rows at row parts is = ap keys_of (value_at rows at row parts is) ∙ set_keys rows at row parts is

-- the row of a value
value_row : (rows : List Row) (at : ℕ) (parts : Parts) → slice_get (values rows) at ≡ Some parts → (label : Label) × (slice_get rows at ≡ Some (label, parts))
value_row [] at parts is = let low = slice_get_within [] at parts is in absurd (omega (arith, low))
value_row (row ∷ rows) zero parts is = (row.0, (let same : row.1 ≡ parts = cc in λ i. Some (row.0, same i)))
value_row (row ∷ rows) (suc at) parts is = value_row rows at parts is

-- ---- the rows of a key and a scope

module _ (key scope : List ℕ) where
  abbrev IsAbsent : List Row → Type 0
  IsAbsent rows = AllByRecursion (λ (label : Label). is_same (key, scope) label ≡ false) (keys_of rows)

  -- no row is of the key and the scope behind one that is
  absent_behind : (row : Row) (rows : List Row) → is_at key scope row ≡ true → AllByRecursion (λ label. is_same row.0 label ≡ false) (keys_of rows) → IsAbsent rows
  absent_behind row rows here apart =
      let parts = and_parts (bytes_eq row.0.0 key) (bytes_eq row.0.1 scope) here in
      let same : row.0 ≡ (key, scope) = λ i. ((bytes_decides row.0.0 key).0 parts.0 i, (bytes_decides row.0.1 scope).0 parts.1 i) in
      subst (λ (own : Label). AllByRecursion (λ label. is_same own label ≡ false) (keys_of rows)) same apart

  none_changed : (f : Parts → Parts) (rows : List Row) → IsAbsent rows → with_parts key scope f rows ≡ rows
  none_changed f [] all = refl
  none_changed f (row ∷ rows) all =
      (λ i. (if all.0 i then (row.0, f row.1) else row) ∷ with_parts key scope f rows)
      ∙ ap (λ (rest : List Row). row ∷ rest) (none_changed f rows all.1)

  none_left : (rows : List Row) → IsAbsent rows → filter (is_at key scope) rows ≡ []
  none_left [] all = refl
  none_left (row ∷ rows) all = (λ i. cond (all.0 i) (row ∷ filter (is_at key scope) rows) (filter (is_at key scope) rows)) ∙ none_left rows all.1

  any_label : (rows : List Row) → list_any (λ label. is_same (key, scope) label) (keys_of rows) ≡ list_any (is_at key scope) rows
  any_label [] = refl
  any_label (row ∷ rows) = ap (λ (rest : Bool). is_at key scope row || rest) (any_label rows)

  absent : (rows : List Row) → list_any (is_at key scope) rows ≡ false → IsAbsent rows
  absent rows none = none-all (λ label. is_same (key, scope) label) (keys_of rows) (any_label rows ∙ none)

  -- whether a row is found
  pub there : (rows : List Row) → is_some (position (is_at key scope) rows) ≡ list_any (is_at key scope) rows
  there rows = by (position (is_at key scope) rows) refl
    where
      by : (at : Option ℕ) → at ≡ position (is_at key scope) rows → is_some at ≡ list_any (is_at key scope) rows
      by None is = ap is_some (none_position (is_at key scope) rows is) ∙ sym (found_any (is_at key scope) rows)
      by (Some at) is = ap is_some (found_position (is_at key scope) rows at is).1 ∙ sym (found_any (is_at key scope) rows)

  -- none is changed where none is found
  none_edited : (f : Parts → Parts) (rows : List Row) → None ≡ position (is_at key scope) rows → with_parts key scope f rows ≡ rows
  none_edited f rows none = none_changed f rows (absent rows (sym (there rows) ∙ ap is_some (sym none)))

  all_kept : (rows : List Row) → IsAbsent rows → filter (λ row. not (is_at key scope row)) rows ≡ rows
  all_kept [] all = refl
  all_kept (row ∷ rows) all =
      (λ i. cond (not (all.0 i)) (row ∷ filter (λ other. not (is_at key scope other)) rows) (filter (λ other. not (is_at key scope other)) rows))
      ∙ ap (λ (rest : List Row). row ∷ rest) (all_kept rows all.1)

  none_taken : (rows : List Row) → None ≡ position (is_at key scope) rows → filter (λ row. not (is_at key scope row)) rows ≡ rows
  none_taken rows none = all_kept rows (absent rows (sym (there rows) ∙ ap is_some (sym none)))

  -- a row stands at a place, and none of the key and the scope before it
  record IsFirst (rows : List Row) (at : ℕ) (row : Row) : Type 0 where
    pub stands : slice_get rows at ≡ Some row
    pub here : is_at key scope row ≡ true
    pub before : (k : ℕ) → k < at → is_at key scope (get_or rows k row) ≡ false

  first_at : (rows : List Row) (at : ℕ) (row : Row) → position (is_at key scope) rows ≡ Some at → slice_get rows at ≡ Some row → IsFirst rows at row
  first_at rows at row found is =
      let facts = position-Some (is_at key scope) rows at row found in record {
        stands = is;
        here = subst (λ (r : Row). is_at key scope r ≡ true) (get_or_from_slice_get rows at row row is) facts.1;
        before = facts.2;
      }

  behind : (first : Row) (rows : List Row) (at : ℕ) (row : Row) → IsFirst (first ∷ rows) (suc at) row → IsFirst rows at row
  behind first rows at row is = record { stands = is.stands; here = is.here; before = λ k low. is.before (suc k) (omega (arith, low)) }

  set_first : (f : Parts → Parts) (rows : List Row) (at : ℕ) (row : Row) → IsDistinct is_same (keys_of rows) → IsFirst rows at row → set rows at (row.0, f row.1) ≡ with_parts key scope f rows
  unfolding IsDistinct
  set_first f [] at row apart is = let low = slice_get_within [] at row is.stands in absurd (omega (arith, low))
  set_first f (first ∷ rows) zero row apart is =
      let same : row ≡ first = (let stands = is.stands in cc) in
      let here : is_at key scope first ≡ true = subst (λ (r : Row). is_at key scope r ≡ true) same is.here in
      (λ i. ((same i).0, f (same i).1) ∷ sym (none_changed f rows (absent_behind first rows here apart.0)) i)
      ∙ (λ i. (if sym here i then (first.0, f first.1) else first) ∷ with_parts key scope f rows)
  set_first f (first ∷ rows) (suc at) row apart is =
      let other : is_at key scope first ≡ false = is.before zero (omega arith) in
      ap (λ (rest : List Row). first ∷ rest) (set_first f rows at row apart.1 (behind first rows at row is))
      ∙ (λ i. (if sym other i then (first.0, f first.1) else first) ∷ with_parts key scope f rows)

  -- the first row with other parts
  first_edited : (f : Parts → Parts) (rows : List Row) (at : ℕ) (parts : Parts) → IsDistinct is_same (keys_of rows) → Some at ≡ position (is_at key scope) rows → slice_get (values rows) at ≡ Some parts
      → with_value at (f parts) rows ≡ with_parts key scope f rows
  first_edited f rows at parts apart found is =
      let here = value_row rows at parts is in
      let row : Row = (here.0, parts) in
      value_at rows at row (f parts) here.1 ∙ set_first f rows at row apart (first_at rows at row (sym found) here.1)

  one_left : (rows : List Row) (at : ℕ) (row : Row) → IsDistinct is_same (keys_of rows) → IsFirst rows at row → filter (is_at key scope) rows ≡ row ∷ []
  unfolding IsDistinct
  one_left [] at row apart is = let low = slice_get_within [] at row is.stands in absurd (omega (arith, low))
  one_left (first ∷ rows) zero row apart is =
      let same : first ≡ row = (let stands = is.stands in cc) in
      let here : is_at key scope first ≡ true = subst (λ (r : Row). is_at key scope r ≡ true) (sym same) is.here in
      (λ i. cond (here i) (first ∷ filter (is_at key scope) rows) (filter (is_at key scope) rows))
      ∙ (λ i. same i ∷ none_left rows (absent_behind first rows here apart.0) i)
  one_left (first ∷ rows) (suc at) row apart is =
      let other : is_at key scope first ≡ false = is.before zero (omega arith) in
      (λ i. cond (other i) (first ∷ filter (is_at key scope) rows) (filter (is_at key scope) rows))
      ∙ one_left rows at row apart.1 (behind first rows at row is)

  -- the bytes of the only row
  one_taken : (rows : List Row) (at : ℕ) (parts : Parts) (bytes : ℕ) → IsDistinct is_same (keys_of rows) → Some at ≡ position (is_at key scope) rows → slice_get (values rows) at ≡ Some parts
      → bytes ≡ parts_bytes parts → bytes ≡ rows_bytes (filter (is_at key scope) rows)
  one_taken rows at parts bytes apart found is size =
      let here = value_row rows at parts is in
      let row : Row = (here.0, parts) in
      let all = ap rows_bytes (one_left rows at row apart (first_at rows at row (sym found) here.1)) in
      let one = sum_by-cons row_bytes row [] in
      omega (arith, all, one, size)

  -- where a row of the key and the scope is found
  pub found_or_not : (rows : List Row) (found : Option ℕ) → IsDistinct is_same (keys_of rows) → found ≡ position (is_at key scope) rows → MatchOption found (StandsNowhere key scope rows) (StandsAt key scope rows)
  found_or_not rows None apart is = record { edits = λ f. none_edited f rows is; removal = none_taken rows is }
  found_or_not rows (Some at) apart is = record {
    edits = λ parts f value. first_edited f rows at parts apart is value;
    bytes = λ parts value. one_taken rows at parts (parts_bytes parts) apart is value refl;
  }

  flipped : (one other : Label) → is_same one other ≡ is_same other one
  flipped one other = λ i. bytes_same other.0 one.0 i && bytes_same other.1 one.1 i
    where
      bytes_same : (xs ys : List ℕ) → bytes_eq xs ys ≡ bytes_eq ys xs
      bytes_same xs ys = elim (cases_Bool (bytes_eq xs ys)) [
        | inl e ↦ (let same = (bytes_decides xs ys).0 e in λ i. bytes_eq (same i) (sym same i))
        | inr e ↦ (elim (cases_Bool (bytes_eq ys xs)) [
          | inr o ↦ e ∙ sym o
          | inl o ↦ (let same = (bytes_decides ys xs).0 o in λ i. bytes_eq (sym same i) (same i))
        ])
      ]

  absent_either : (labels : List Label) → AllByRecursion (λ label. is_same (key, scope) label ≡ false) labels → AllByRecursion (λ label. is_same label (key, scope) ≡ false) labels
  absent_either [] all = tt
  absent_either (label ∷ labels) all = (flipped label (key, scope) ∙ all.0, absent_either labels all.1)

  -- one more row
  pub added_apart : (parts : Parts) (rows : List Row) → IsDistinct is_same (keys_of rows) → list_any (is_at key scope) rows ≡ false → IsDistinct is_same (keys_of (rows ++ ((key, scope), parts) ∷ []))
  added_apart parts rows apart none =
      subst (IsDistinct is_same) (sym (map-append (λ (row : Row). row.0) rows (((key, scope), parts) ∷ [])))
      (apart-push is_same (keys_of rows) (key, scope) apart (absent_either (keys_of rows) (absent rows none)))

-- ---- all rows

abbrev pub promoted_row : Row → Row
promoted_row row = (row.0, edited edit.Active row.1)

-- the first rows with their waiting workers promoted, and the others
abbrev pub promoted_to : ℕ → List Row → List Row
promoted_to count rows = map promoted_row (take count rows) ++ drop count rows

set_promoted : (rows : List Row) (at : ℕ) (row : Row) → slice_get (promoted_to at rows) at ≡ Some row → at < length rows → set (promoted_to at rows) at (promoted_row row) ≡ promoted_to (at + 1) rows
set_promoted [] at row is low = absurd (omega (arith, low))
set_promoted (first ∷ rows) zero row is low = (let same : row ≡ first = cc in λ i. promoted_row (same i) ∷ rows)
set_promoted (first ∷ rows) (suc at) row is low =
    let next : suc (at + 1) ≡ suc at + 1 = omega arith in
    ap (λ (rest : List Row). promoted_row first ∷ rest) (set_promoted rows at row is (omega (arith, low))) ∙ ap (λ n. promoted_to n (first ∷ rows)) next

-- one more row is promoted
pub one_promoted : (rows : List Row) (at : ℕ) (parts : Parts) → slice_get (values (promoted_to at rows)) at ≡ Some parts → at < length rows → with_value at (edited edit.Active parts) (promoted_to at rows) ≡ promoted_to (at + 1) rows
one_promoted rows at parts is low =
    let found = value_row (promoted_to at rows) at parts is in
    let row : Row = (found.0, parts) in
    value_at (promoted_to at rows) at row (edited edit.Active parts) found.1 ∙ set_promoted rows at row found.1 low

pub all_promoted : (rows : List Row) → promoted_to (length rows) rows ≡ map promoted_row rows
all_promoted [] = refl
all_promoted (row ∷ rows) = ap (λ (rest : List Row). promoted_row row ∷ rest) (all_promoted rows)

pub as_many : (rows : List Row) (count : ℕ) → length (promoted_to count rows) ≡ length rows
as_many [] zero = refl
as_many [] (suc count) = refl
as_many (row ∷ rows) zero = refl
as_many (row ∷ rows) (suc count) = let rest = as_many rows count in omega (arith, rest)
