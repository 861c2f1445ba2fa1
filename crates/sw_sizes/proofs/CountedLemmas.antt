-- The bytes of registrations, of each key and in all, as rows come, change and go.
use Rattle.std.proofs.Common.{◌≡◌, ◌∙◌, ℕ, ◌+◌, ◌≤◌, Bool, true, List, [], ◌∷◌, ◌++◌, filter, set, Some, refl, inl, inr, sym, ap, arith}
use Rattle.std.specs.Prelude.{bytes_eq, not, slice_get, sum_by}
use Rattle.std.specs.Cmp.Lexicographic.{bytes_decides}
use Rattle.std.proofs.lemmas.Bool.{and_parts, cases_Bool}
use Rattle.std.proofs.lemmas.List.Filters.{sum_by-filter_both}
use Rattle.std.proofs.lemmas.List.Sums.{get_or-le-sum_by, sum_by-cons, sum_by-le-sum_by, sum_by-set, sum_by_push}
use Rattle.std.proofs.lemmas.Option.{get_or_from_slice_get, slice_get_within}
use Rattle.sw_list.specs.Named.{is_at, is_of, with_value}
use Rattle.sw_sizes.specs.declared.row.Parts.{Parts}
use Rattle.sw_sizes.specs.declared.sums.Sums.{Sums}
use Rattle.sw_sizes.specs.Counted.{CountsSizes, at_key, held}
use Rattle.sw_sizes.specs.Rows.{Row, bytes_at, parts_bytes, row_bytes, rows_bytes}
use Rattle.sw_sizes.proofs.RowLemmas.{value_at}

-- the bytes of a row at its key alone
abbrev key_size : List ℕ → Row → ℕ
key_size other row = at_key row.0.0 other (row_bytes row)

by_key : (other : List ℕ) (rows : List Row) → bytes_at other rows ≡ sum_by (key_size other) rows
by_key other [] = refl
by_key other (row ∷ rows) =
    let here = sum_by-cons (key_size other) row rows in
    let rest = by_key other rows in
    elim (cases_Bool (bytes_eq row.0.0 other)) [
      | inl e ↦
          let size : key_size other row ≡ row_bytes row = rw e refl in
          let split : bytes_at other (row ∷ rows) ≡ row_bytes row + bytes_at other rows = rw e (sum_by-cons row_bytes row (filter (is_of other) rows)) in
          omega (arith, here, rest, size, split)
      | inr e ↦
          let size : key_size other row ≡ 0 = rw e refl in
          let same : bytes_at other (row ∷ rows) ≡ bytes_at other rows = rw e refl in
          omega (arith, here, rest, size, same)
    ]

at_none : (key other : List ℕ) → at_key key other 0 ≡ 0
at_none key other = elim (cases_Bool (bytes_eq key other)) [ inl e ↦ rw e refl | inr e ↦ rw e refl ]

at_own : (key : List ℕ) (bytes : ℕ) → at_key key key bytes ≡ bytes
at_own key bytes = rw ((bytes_decides key key).1 refl) refl

-- a key has no more bytes than all
key_within : (other : List ℕ) (rows : List Row) → bytes_at other rows ≤ rows_bytes rows
key_within other rows =
    let less = sum_by-le-sum_by (key_size other) row_bytes rows (λ row. elim (cases_Bool (bytes_eq row.0.0 other)) [ inl e ↦ rw e (omega arith) | inr e ↦ rw e (omega arith) ]) in
    let same = by_key other rows in
    omega (arith, less, same)

-- and so as they are counted
pub held_within : (rows : List Row) (sums : Sums) (key : List ℕ) → CountsSizes rows sums → held sums key ≤ sums.total
held_within rows sums key counted =
    let less = key_within key rows in
    let total = counted.total in
    let has = counted.held key in
    omega (arith, less, total, has)

-- the counts where the rows stay
pub counted_same : (rows : List Row) (before after : Sums) → CountsSizes rows before → after.total ≡ before.total → ((key : List ℕ) → held after key ≡ held before key) → CountsSizes rows after
counted_same rows before after counted total at = record { total = total ∙ counted.total; held = λ key. at key ∙ counted.held key }

-- the test passes rows of one key alone
module _ (key : List ℕ) (test : Row → Bool) (of : (row : Row) → test row ≡ true → bytes_eq row.0.0 key ≡ true) where
  only_key : (other : List ℕ) (rows : List Row) → sum_by (key_size other) (filter test rows) ≡ at_key key other (rows_bytes (filter test rows))
  only_key other [] = sym (at_none key other)
  only_key other (row ∷ rows) = elim (cases_Bool (test row)) [
    | inr e ↦ rw e (only_key other rows)
    | inl e ↦
        let rest = only_key other rows in
        let own : bytes_eq row.0.0 other ≡ bytes_eq key other = ap (λ k. bytes_eq k other) ((bytes_decides row.0.0 key).0 (of row e)) in
        let here = sum_by-cons (key_size other) row (filter test rows) in
        let all = sum_by-cons row_bytes row (filter test rows) in
        rw e (elim (cases_Bool (bytes_eq key other)) [
          | inl f ↦
              let size : key_size other row ≡ row_bytes row = rw (own, f) refl in
              let behind : sum_by (key_size other) (filter test rows) ≡ rows_bytes (filter test rows) = rest ∙ rw f refl in
              rw f (omega (arith, here, all, size, behind))
          | inr f ↦
              let size : key_size other row ≡ 0 = rw (own, f) refl in
              let behind : sum_by (key_size other) (filter test rows) ≡ 0 = rest ∙ rw f refl in
              rw f (omega (arith, here, size, behind))
        ])
  ]

  key_taken : (other : List ℕ) (rows : List Row) → bytes_at other (filter (λ row. not (test row)) rows) + at_key key other (rows_bytes (filter test rows)) ≡ bytes_at other rows
  key_taken other rows =
      let both = sum_by-filter_both test (λ row. not (test row)) (λ row. refl) (key_size other) rows in
      let left = by_key other (filter (λ row. not (test row)) rows) in
      let all = by_key other rows in
      let gone = only_key other rows in
      omega (arith, both, left, all, gone)

  -- what is taken is among the bytes of its key
  pub taken_within : (rows : List Row) → rows_bytes (filter test rows) ≤ bytes_at key rows
  taken_within rows =
      let own = at_own key (rows_bytes (filter test rows)) in
      let split = key_taken key rows in
      omega (arith, own, split)

  -- the counts after rows are taken out
  pub counted_taken : (rows new : List Row) (before after : Sums) (bytes : ℕ) → CountsSizes rows before → new ≡ filter (λ row. not (test row)) rows → bytes ≡ rows_bytes (filter test rows)
      → after.total + bytes ≡ before.total + 0 → ((other : List ℕ) → held after other + at_key key other bytes ≡ held before other + at_key key other 0) → CountsSizes new after
  counted_taken rows new before after bytes counted left is total at = record {
    total =
        let now = ap rows_bytes left in
        let split = sum_by-filter_both test (λ row. not (test row)) (λ row. refl) row_bytes rows in
        let was = counted.total in
        omega (arith, total, now, split, was, is);
    held = λ other.
        let now = ap (bytes_at other) left in
        let split = key_taken other rows in
        let was = counted.held other in
        let none = at_none key other in
        let same = ap (at_key key other) is in
        let here = at other in
        omega (arith, here, now, split, was, none, same);
  }

pub of_key : (key scope : List ℕ) (row : Row) → is_at key scope row ≡ true → bytes_eq row.0.0 key ≡ true
of_key key scope row is = (and_parts (bytes_eq row.0.0 key) (bytes_eq row.0.1 scope) is).0

-- the counts after a row comes
pub counted_put : (rows new : List Row) (before after : Sums) (row : Row) (bytes : ℕ) → CountsSizes rows before → new ≡ rows ++ row ∷ [] → bytes ≡ row_bytes row
    → after.total + 0 ≡ before.total + bytes → ((other : List ℕ) → held after other + at_key row.0.0 other 0 ≡ held before other + at_key row.0.0 other bytes) → CountsSizes new after
counted_put rows new before after row bytes counted new_is is total at = record {
  total =
      let now = ap rows_bytes new_is in
      let push = sum_by_push row_bytes rows row in
      let was = counted.total in
      omega (arith, total, now, push, was, is);
  held = λ other.
      let now = ap (bytes_at other) new_is in
      let left = by_key other (rows ++ row ∷ []) in
      let push = sum_by_push (key_size other) rows row in
      let right = by_key other rows in
      let was = counted.held other in
      let none = at_none row.0.0 other in
      let same = ap (at_key row.0.0 other) is in
      let here = at other in
      omega (arith, here, now, left, push, right, was, none, same);
}

-- a sum after the row at a place is changed
sum_set : (f : Row → ℕ) (rows : List Row) (at : ℕ) (old new : Row) → slice_get rows at ≡ Some old → sum_by f (set rows at new) + f old ≡ sum_by f rows + f new
sum_set f rows at old new is =
    let low = slice_get_within rows at old is in
    let both = sum_by-set f rows at new old low in
    let here = ap f (get_or_from_slice_get rows at old old is) in
    omega (arith, both, here)

-- the row at a place is among the bytes of its key
pub row_within : (rows : List Row) (at : ℕ) (row : Row) → slice_get rows at ≡ Some row → row_bytes row ≤ bytes_at row.0.0 rows
row_within rows at row is =
    let low = slice_get_within rows at row is in
    let less = get_or-le-sum_by (key_size row.0.0) rows at row low in
    let here = ap (key_size row.0.0) (get_or_from_slice_get rows at row row is) in
    let own = at_own row.0.0 (row_bytes row) in
    let same = by_key row.0.0 rows in
    omega (arith, less, here, own, same)

-- the counts after the row at a place gets other parts
pub counted_set : (rows new : List Row) (before after : Sums) (at : ℕ) (row : Row) (parts : Parts) (gone come : ℕ) → CountsSizes rows before → slice_get rows at ≡ Some row → new ≡ with_value at parts rows
    → gone ≡ row_bytes row → come ≡ parts_bytes parts → after.total + gone ≡ before.total + come
    → ((other : List ℕ) → held after other + at_key row.0.0 other gone ≡ held before other + at_key row.0.0 other come) → CountsSizes new after
counted_set rows new before after at row parts gone come counted stands new_is was_gone has_come total here = record {
  total =
      let now = ap rows_bytes (new_is ∙ value_at rows at row parts stands) in
      let split = sum_set row_bytes rows at row (row.0, parts) stands in
      let was = counted.total in
      omega (arith, total, now, split, was, was_gone, has_come);
  held = λ other.
      let now = ap (bytes_at other) (new_is ∙ value_at rows at row parts stands) in
      let left = by_key other (set rows at (row.0, parts)) in
      let right = by_key other rows in
      let split = sum_set (key_size other) rows at row (row.0, parts) stands in
      let old = ap (at_key row.0.0 other) was_gone in
      let new = ap (at_key row.0.0 other) has_come in
      let was = counted.held other in
      let is = here other in
      omega (arith, is, now, left, right, split, old, new, was);
}
