-- The bytes of the cache on which a plan is carried out.
use Rattle.std.proofs.Common.{◌≡◌, ◌∙◌, ℕ, ◌+◌, ◌<◌, ◌≤◌, List, map, length, set, Some, refl, sym, ap, arith}
use Rattle.std.specs.Prelude.{◌^◌, All, option_map, slice_get}
use Rattle.std.proofs.lemmas.List.{length-map, length-set}
use Rattle.std.proofs.lemmas.List.Sums.{sum_by-append}
use Rattle.std.proofs.lemmas.Option.{slice_get-map, slice_get_within}
use Rattle.sw_data.specs.declared.storage.KeptCache.{KeptCache}
use Rattle.sw_list.specs.Named.{values}
use Rattle.sw_caches.specs.declared.sums.Sums.{Sums}
use Rattle.sw_caches.specs.declared.table.CachePlan.{CachePlan}
use Rattle.sw_caches.specs.Bytes.{cache_size, made_size, put_size, puts_size}
use Rattle.sw_caches.specs.Entries.{pairs}
use Rattle.sw_caches.specs.Plans.{carried, left_by}
use Rattle.sw_caches.specs.Sums.{at_key, held}
use Rattle.sw_caches.specs.Tables.{FitsTable, HasNames, CountsBytes, Row, carried_row, carried_rows, index_size, kept_row}
use Rattle.sw_caches.proofs.BytesLemmas.{bytes_left}
use Rattle.sw_caches.proofs.CountedLemmas.{counted_set, item_within, key_item, key_within, named_at, row_size, sizes_are}
use Rattle.sw_caches.proofs.TableLemmas.{carried_at, row_at, set_stands, some_is}

module _ (rows : List Row) (plan : CachePlan) (fits : FitsTable plan (values rows)) where
  -- the row on which the plan is carried out
  pub carried_on : (row : Row) × (slice_get rows plan.place ≡ Some row) × (row.1 ≡ fits.index)
  carried_on = row_at rows plan.place fits.index fits.stands

  -- there is room for what it adds to this cache
  pub room_here : made_size fits.index.names fits.index.pairs + plan.bytes < 2 ^ 64
  room_here =
      let less = item_within index_size (values rows) plan.place fits.index fits.stands in
      let room = fits.room in
      omega (arith, less, room)

  kept_on : slice_get (map kept_row rows) plan.place ≡ Some (kept_row carried_on.0)
  kept_on = slice_get-map kept_row rows plan.place ∙ ap (option_map kept_row) carried_on.1

  carried_is : carried_rows plan (map kept_row rows) ≡ set (map kept_row rows) plan.place (carried_row plan (kept_row carried_on.0))
  carried_is = carried_at (map kept_row rows) plan plan.place (kept_row carried_on.0) refl kept_on

  module _ (new : List Row) (is : map kept_row new ≡ carried_rows plan (map kept_row rows)) where
    kept_low : plan.place < length (map kept_row rows)
    kept_low = slice_get_within (map kept_row rows) plan.place (kept_row carried_on.0) kept_on

    pub low_after : plan.place < length new
    low_after =
        let same = ap length (is ∙ carried_is) in
        let long = length-set (map kept_row rows) plan.place (carried_row plan (kept_row carried_on.0)) in
        let low = kept_low in
        let count = length-map new kept_row in
        omega (arith, same, long, low, count)

    -- its key is as before
    pub key_after : (row : Row) → slice_get new plan.place ≡ Some row → row.0.0 ≡ carried_on.0.0.0
    key_after row stands =
        ap (λ (kept : KeptCache). kept.key) (some_is (kept_row row) (carried_row plan (kept_row carried_on.0))
        (sym (slice_get-map kept_row new plan.place ∙ ap (option_map kept_row) stands)
        ∙ (ap (λ (list : List KeptCache). slice_get list plan.place) (is ∙ carried_is)
        ∙ set_stands (map kept_row rows) plan.place (carried_row plan (kept_row carried_on.0)) kept_low)))

  -- what it adds is all that the cache has more
  grows : made_size carried_on.0.1.names (carried plan.change carried_on.0.1.pairs) ≤ index_size carried_on.0.1 + plan.bytes
  grows =
      let names = carried_on.0.1.names in
      let old = carried_on.0.1.pairs in
      let added = pairs plan.change.added.items in
      let left = left_by plan.change.deletes.items added old in
      let less = bytes_left names plan.change.deletes.items added old in
      let joined = sum_by-append (λ p. 5 + names + put_size p) left added in
      let come = fits.bytes ∙ ap (λ n. puts_size n added) (sym (ap (λ index. index.names) carried_on.2)) in
      omega (arith, less, joined, come)

  module _ (sums : Sums) (counted : CountsBytes rows sums) (before after : ℕ) (was : before ≡ index_size carried_on.0.1) (now : after ≡ made_size carried_on.0.1.names (carried plan.change carried_on.0.1.pairs)) where
    named : HasNames carried_on.0
    named = named_at rows plan.place carried_on.0 counted.names carried_on.1

    size_before : before ≡ cache_size (kept_row carried_on.0)
    size_before = was ∙ row_size carried_on.0 named

    size_after : after ≡ cache_size (carried_row plan (kept_row carried_on.0))
    size_after = now ∙ ap (λ n. made_size n (carried plan.change carried_on.0.1.pairs)) named

    pub before_had : before ≤ held sums carried_on.0.0.0
    before_had =
        let size = size_before in
        let item = key_item (map kept_row rows) plan.place (kept_row carried_on.0) kept_on in
        let has = counted.held carried_on.0.0.0 in
        omega (arith, size, item, has)

    pub has_some : 0 < before
    has_some = let is = was in omega (arith, is)

    pub has_room : sums.total + after < 2 ^ 64 + before
    has_room =
        let room = fits.room in
        let all = sizes_are rows counted.names in
        let total = counted.total in
        let more = grows in
        omega (arith, room, all, total, more, was, now)

    pub counted_carried : (new : List Row) (done : Sums) → All HasNames new → map kept_row new ≡ carried_rows plan (map kept_row rows) → done.total + before ≡ sums.total + after
        → ((other : List ℕ) → held done other + at_key carried_on.0.0.0 other before ≡ held sums other + at_key carried_on.0.0.0 other after) → CountsBytes new done
    counted_carried new done all is total at =
        counted_set rows new sums done plan.place (kept_row carried_on.0) (carried_row plan (kept_row carried_on.0)) counted all kept_on (is ∙ carried_is) refl
        (let size = size_before in let sized = size_after in let room = has_room in omega (arith, room, size, sized))
        (let size = size_before in let sized = size_after in omega (arith, total, size, sized))
        (λ other.
        let left = ap (at_key carried_on.0.0.0 other) size_before in
        let right = ap (at_key carried_on.0.0.0 other) size_after in
        let here = at other in
        omega (arith, here, left, right))

-- a key has no more bytes than all, as they are counted
pub held_within : (rows : List Row) (sums : Sums) (key : List ℕ) → CountsBytes rows sums → held sums key ≤ sums.total
held_within rows sums key counted =
    let less = key_within key (map kept_row rows) in
    let total = counted.total in
    let has = counted.held key in
    omega (arith, less, total, has)
