-- The bytes of caches, of each key and in all, as rows come, change and go.
use Rattle.std.proofs.Common.{◌≡◌, ◌∙◌, ℕ, ◌+◌, ◌<◌, ◌≤◌, Bool, true, List, [], ◌∷◌, ◌++◌, map, set, Some, refl, inl, inr, sym, ap, subst, arith}
use Rattle.std.specs.Prelude.{◌^◌, All, bytes_eq, filter, not, slice_get, sum_by}
use Rattle.std.specs.List.{AllByRecursion}
use Rattle.std.specs.Cmp.Lexicographic.{bytes_decides}
use Rattle.std.proofs.lemmas.Bool.{and_parts, cases_Bool}
use Rattle.std.proofs.lemmas.List.{map-append}
use Rattle.std.proofs.lemmas.List.Elements.{All-filter, All-get_or, All-push, recursion_from_All}
use Rattle.std.proofs.lemmas.List.Filters.{sum_by-filter_both}
use Rattle.std.proofs.lemmas.List.Sums.{get_or-le-sum_by, sum_by-cons, sum_by-le-sum_by, sum_by-set, sum_by_push}
use Rattle.std.proofs.lemmas.Option.{get_or_from_slice_get, slice_get_within}
use Rattle.sw_data.specs.declared.storage.KeptCache.{KeptCache}
use Rattle.sw_rules.specs.Storage.{is_cache}
use Rattle.sw_list.specs.Named.{values}
use Rattle.sw_caches.specs.declared.sums.Sums.{Sums}
use Rattle.sw_caches.specs.Bytes.{bytes_of, cache_size, key_bytes, made_size}
use Rattle.sw_caches.specs.Sums.{at_key, held}
use Rattle.sw_caches.specs.Tables.{HasNames, CountsBytes, IsNextBy, Row, index_size, kept_row, passing_from}

-- the bytes of a row at its key alone
abbrev key_size : List ℕ → KeptCache → ℕ
key_size other row = at_key row.key other (cache_size row)

by_key : (other : List ℕ) (rows : List KeptCache) → key_bytes other rows ≡ sum_by (key_size other) rows
by_key other [] = refl
by_key other (row ∷ rows) =
    let here = sum_by-cons (key_size other) row rows in
    let rest = by_key other rows in
    elim (cases_Bool (bytes_eq row.key other)) [
      | inl e ↦
          let size : key_size other row ≡ cache_size row = rw e refl in
          let split : key_bytes other (row ∷ rows) ≡ cache_size row + key_bytes other rows = rw e (sum_by-cons cache_size row (filter (λ r. bytes_eq r.key other) rows)) in
          omega (arith, here, rest, size, split)
      | inr e ↦
          let size : key_size other row ≡ 0 = rw e refl in
          let same : key_bytes other (row ∷ rows) ≡ key_bytes other rows = rw e refl in
          omega (arith, here, rest, size, same)
    ]

-- a key has no more bytes than all
pub key_within : (other : List ℕ) (rows : List KeptCache) → key_bytes other rows ≤ bytes_of rows
key_within other rows =
    let less = sum_by-le-sum_by (key_size other) cache_size rows (λ row. elim (cases_Bool (bytes_eq row.key other)) [ inl e ↦ rw e (omega arith) | inr e ↦ rw e (omega arith) ]) in
    let same = by_key other rows in
    omega (arith, less, same)

-- the test passes caches of one key alone
module _ (key : List ℕ) (test : KeptCache → Bool) (of : (row : KeptCache) → test row ≡ true → bytes_eq row.key key ≡ true) where
  only_key : (other : List ℕ) (rows : List KeptCache) → sum_by (key_size other) (filter test rows) ≡ at_key key other (bytes_of (filter test rows))
  only_key other [] = elim (cases_Bool (bytes_eq key other)) [ inl e ↦ rw e refl | inr e ↦ rw e refl ]
  only_key other (row ∷ rows) = elim (cases_Bool (test row)) [
    | inr e ↦ rw e (only_key other rows)
    | inl e ↦
        let rest = only_key other rows in
        let own : bytes_eq row.key other ≡ bytes_eq key other = ap (λ k. bytes_eq k other) ((bytes_decides row.key key).0 (of row e)) in
        let here = sum_by-cons (key_size other) row (filter test rows) in
        let all = sum_by-cons cache_size row (filter test rows) in
        rw e (elim (cases_Bool (bytes_eq key other)) [
          | inl f ↦
              let size : key_size other row ≡ cache_size row = rw (own, f) refl in
              let behind : sum_by (key_size other) (filter test rows) ≡ bytes_of (filter test rows) = rest ∙ rw f refl in
              rw f (omega (arith, here, all, size, behind))
          | inr f ↦
              let size : key_size other row ≡ 0 = rw (own, f) refl in
              let behind : sum_by (key_size other) (filter test rows) ≡ 0 = rest ∙ rw f refl in
              rw f (omega (arith, here, size, behind))
        ])
  ]

  bytes_taken : (rows : List KeptCache) → bytes_of (filter (λ row. not (test row)) rows) + bytes_of (filter test rows) ≡ bytes_of rows
  bytes_taken rows = let both = sum_by-filter_both test (λ row. not (test row)) (λ row. refl) cache_size rows in omega (arith, both)

  key_taken : (other : List ℕ) (rows : List KeptCache) → key_bytes other (filter (λ row. not (test row)) rows) + at_key key other (bytes_of (filter test rows)) ≡ key_bytes other rows
  key_taken other rows =
      let both = sum_by-filter_both test (λ row. not (test row)) (λ row. refl) (key_size other) rows in
      let left = by_key other (filter (λ row. not (test row)) rows) in
      let all = by_key other rows in
      let gone = only_key other rows in
      omega (arith, both, left, all, gone)

  -- what is taken is among the bytes of its key
  pub taken_within : (rows : List KeptCache) → bytes_of (filter test rows) ≤ key_bytes key rows
  taken_within rows =
      let own : at_key key key (bytes_of (filter test rows)) ≡ bytes_of (filter test rows) = rw ((bytes_decides key key).1 refl) refl in
      let split = key_taken key rows in
      omega (arith, own, split)

  -- the counts after caches are taken out
  pub counted_taken : (rows new : List Row) (before after : Sums) → CountsBytes rows before → new ≡ filter (λ row. not (test (kept_row row))) rows → map kept_row new ≡ filter (λ row. not (test row)) (map kept_row rows)
      → after.total + bytes_of (filter test (map kept_row rows)) ≡ before.total + 0
      → ((other : List ℕ) → held after other + at_key key other (bytes_of (filter test (map kept_row rows))) ≡ held before other + at_key key other 0)
      → CountsBytes new after
  counted_taken rows new before after counted left kept total at = record {
    names = subst (All HasNames) (sym left) (All-filter (λ row. not (test (kept_row row))) HasNames rows counted.names);
    few =
        let now = ap bytes_of kept in
        let split = bytes_taken (map kept_row rows) in
        let few = counted.few in
        omega (arith, few, now, split);
    total =
        let now = ap bytes_of kept in
        let split = bytes_taken (map kept_row rows) in
        let was = counted.total in
        omega (arith, total, now, split, was);
    held = λ other.
        let now = ap (key_bytes other) kept in
        let split = key_taken other (map kept_row rows) in
        let was = counted.held other in
        let none : at_key key other 0 ≡ 0 = elim (cases_Bool (bytes_eq key other)) [ inl e ↦ rw e refl | inr e ↦ rw e refl ] in
        let is = at other in
        omega (arith, is, now, split, was, none);
  }

-- the counts after a cache comes
pub counted_put : (rows new : List Row) (before after : Sums) (row : Row) → CountsBytes rows before → HasNames row → new ≡ rows ++ row ∷ [] → bytes_of (map kept_row rows) + cache_size (kept_row row) < 2 ^ 64
    → after.total ≡ before.total + cache_size (kept_row row) → ((other : List ℕ) → held after other ≡ held before other + at_key row.0.0 other (cache_size (kept_row row))) → CountsBytes new after
counted_put rows new before after row counted named is room total at = record {
  names = subst (All HasNames) (sym is) (All-push HasNames rows row counted.names named);
  few =
      let now = ap bytes_of kept in
      let push = sum_by_push cache_size (map kept_row rows) (kept_row row) in
      omega (arith, room, now, push);
  total =
      let now = ap bytes_of kept in
      let push = sum_by_push cache_size (map kept_row rows) (kept_row row) in
      let was = counted.total in
      omega (arith, total, now, push, was);
  held = λ other.
      let now = ap (key_bytes other) kept in
      let left = by_key other (map kept_row rows ++ kept_row row ∷ []) in
      let push = sum_by_push (key_size other) (map kept_row rows) (kept_row row) in
      let right = by_key other (map kept_row rows) in
      let was = counted.held other in
      let here = at other in
      omega (arith, here, now, left, push, right, was);
}
  where
    kept : map kept_row new ≡ map kept_row rows ++ kept_row row ∷ []
    kept = ap (map kept_row) is ∙ map-append kept_row rows (row ∷ [])

-- the counts where the rows stay
pub counted_same : (rows new : List Row) (before after : Sums) → CountsBytes rows before → new ≡ rows → after.total ≡ before.total → ((key : List ℕ) → held after key ≡ held before key) → CountsBytes new after
counted_same rows new before after counted is total at = record {
  names = subst (All HasNames) (sym is) counted.names;
  few = subst (λ (list : List Row). bytes_of (map kept_row list) < 2 ^ 64) (sym is) counted.few;
  total = total ∙ (counted.total ∙ ap (λ (list : List Row). bytes_of (map kept_row list)) (sym is));
  held = λ key. at key ∙ (counted.held key ∙ ap (λ (list : List Row). key_bytes key (map kept_row list)) (sym is));
}

-- the counts where what is kept stays
pub counted_kept : (rows new : List Row) (sums : Sums) → CountsBytes rows sums → All HasNames new → map kept_row new ≡ map kept_row rows → CountsBytes new sums
counted_kept rows new sums counted named kept = record {
  names = named;
  few = let now = ap bytes_of kept in let few = counted.few in omega (arith, few, now);
  total = counted.total ∙ ap bytes_of (sym kept);
  held = λ key. counted.held key ∙ ap (key_bytes key) (sym kept);
}

-- a sum after the row at a place is changed
sum_set : {X : Type 0} (f : X → ℕ) (xs : List X) (place : ℕ) (old new : X) → slice_get xs place ≡ Some old → sum_by f (set xs place new) + f old ≡ sum_by f xs + f new
sum_set f xs place old new is =
    let low = slice_get_within xs place old is in
    let both = sum_by-set f xs place new old low in
    let here = ap f (get_or_from_slice_get xs place old old is) in
    omega (arith, both, here)

pub item_within : {X : Type 0} (f : X → ℕ) (xs : List X) (place : ℕ) (x : X) → slice_get xs place ≡ Some x → f x ≤ sum_by f xs
item_within f xs place x is =
    let low = slice_get_within xs place x is in
    let less = get_or-le-sum_by f xs place x low in
    let here = ap f (get_or_from_slice_get xs place x x is) in
    omega (arith, less, here)

-- the counts after the cache at a place is changed
pub counted_set : (rows new : List Row) (before after : Sums) (place : ℕ) (old changed : KeptCache) → CountsBytes rows before → All HasNames new → slice_get (map kept_row rows) place ≡ Some old → map kept_row new ≡ set (map kept_row rows) place changed
    → changed.key ≡ old.key → before.total + cache_size changed < 2 ^ 64 + cache_size old → after.total + cache_size old ≡ before.total + cache_size changed
    → ((other : List ℕ) → held after other + at_key old.key other (cache_size old) ≡ held before other + at_key old.key other (cache_size changed)) → CountsBytes new after
counted_set rows new before after place old changed counted named stands kept key room total at = record {
  names = named;
  few =
      let now = ap bytes_of kept in
      let split = sum_set cache_size (map kept_row rows) place old changed stands in
      let was = counted.total in
      omega (arith, room, now, split, was);
  total =
      let now = ap bytes_of kept in
      let split = sum_set cache_size (map kept_row rows) place old changed stands in
      let was = counted.total in
      omega (arith, total, now, split, was);
  held = λ other.
      let now = ap (key_bytes other) kept in
      let left = by_key other (set (map kept_row rows) place changed) in
      let right = by_key other (map kept_row rows) in
      let split = sum_set (key_size other) (map kept_row rows) place old changed stands in
      let own = ap (λ k. at_key k other (cache_size changed)) key in
      let was = counted.held other in
      let is = at other in
      omega (arith, is, now, left, right, split, own, was);
}

-- the cache at a place is among the bytes of its key
pub key_item : (rows : List KeptCache) (place : ℕ) (row : KeptCache) → slice_get rows place ≡ Some row → cache_size row ≤ key_bytes row.key rows
key_item rows place row is =
    let less = item_within (key_size row.key) rows place row is in
    let own : key_size row.key row ≡ cache_size row = rw ((bytes_decides row.key row.key).1 refl) refl in
    let same = by_key row.key rows in
    omega (arith, less, own, same)

-- ---- the sizes that plans see

-- a row that stands in a list has what all of them have
pub named_at : (rows : List Row) (place : ℕ) (row : Row) → All HasNames rows → slice_get rows place ≡ Some row → HasNames row
named_at rows place row all is =
    subst HasNames (get_or_from_slice_get rows place row row is) (All-get_or HasNames rows place row (slice_get_within rows place row is) all)

-- the size of a cache is that of its row
pub row_size : (row : Row) → HasNames row → index_size row.1 ≡ cache_size (kept_row row)
row_size row named = ap (λ n. made_size n row.1.pairs) named

sizes_by : (rows : List Row) → AllByRecursion HasNames rows → sum_by index_size (values rows) ≡ bytes_of (map kept_row rows)
sizes_by [] all = refl
sizes_by (row ∷ rows) all =
    let left = sum_by-cons index_size row.1 (values rows) in
    let right = sum_by-cons cache_size (kept_row row) (map kept_row rows) in
    let rest = sizes_by rows all.1 in
    let here = row_size row all.0 in
    omega (arith, left, right, rest, here)

pub sizes_are : (rows : List Row) → All HasNames rows → sum_by index_size (values rows) ≡ bytes_of (map kept_row rows)
sizes_are rows all = sizes_by rows (recursion_from_All HasNames rows all)

-- ---- the caches of a key and a name

module _ (key name : List ℕ) where
  pub of_key : (row : KeptCache) → is_cache key name row ≡ true → bytes_eq row.key key ≡ true
  of_key row is = (and_parts (bytes_eq row.key key) (bytes_eq row.name name) is).0

  -- the bytes of those from a place on
  abbrev pub bytes_from : ℕ → List Row → ℕ
  bytes_from from rows = bytes_of (passing_from (is_cache key name) from rows)

  pub bytes_next : (rows : List Row) (from next size : ℕ) (row : Row) → IsNextBy (is_cache key name) from rows (kept_row row) next → HasNames row → size ≡ index_size row.1 → bytes_from from rows ≡ size + bytes_from next rows
  bytes_next rows from next size row is named sized =
      let all = ap bytes_of is.caches in
      let here = sum_by-cons cache_size (kept_row row) (passing_from (is_cache key name) next rows) in
      let same = row_size row named in
      omega (arith, all, here, sized, same)

  -- they have no more bytes than all
  pub some_within : (rows : List KeptCache) → bytes_of (filter (is_cache key name) rows) ≤ bytes_of rows
  some_within rows = let split = bytes_taken key (is_cache key name) of_key rows in omega (arith, split)
