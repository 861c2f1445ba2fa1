use Rattle.std.proofs.Common.{◌≡◌, ◌∙◌, ◌+◌, ◌<◌, ap, arith, map}
use Rattle.std.specs.Prelude.{◌^◌}
use Rattle.sw_caches.specs.Bytes.{bytes_of, cache_size, made_size}
use Rattle.sw_caches.specs.Sums.{at_key}
use Rattle.sw_caches.specs.Tables.{Row, kept_row}
use Rattle.sw_caches.proofs.CarryLemmas.{held_within}
use Rattle.sw_caches.proofs.CountedLemmas.{counted_put}
use Rattle.sw_caches.proofs.table.Caches.make_put.Goals.{After-bytes}
use Rattle.sw_caches.proofs.table.Caches.make_put.Goals as goal

-- the bytes of the new cache
size : (c : After-bytes) → c.bytes.result ≡ cache_size (kept_row ((c.new.inside.row.key, c.new.inside.row.name), c.new.inside.pairs))
size c = c.bytes.ensures ∙ ap (λ n. made_size n c.new.inside.pairs.pairs) c.new.invariant.1

-- there is room for them
room : (c : After-bytes) → bytes_of (map kept_row c.self.inside.rows.rows) + cache_size (kept_row ((c.new.inside.row.key, c.new.inside.row.name), c.new.inside.pairs)) < 2 ^ 64
room c =
    let rows = ap (λ table. bytes_of table.rows) c.self.view_is in
    let new = ap cache_size c.new.view_is in
    let fits = c.requires.bytes in
    omega (arith, rows, new, fits)

pub add-requires-clause-fits : goal.add-requires-clause-fits
add-requires-clause-fits c =
    let total = c.self.invariant.total in
    let bytes = size c in
    let fits = room c in
    omega (arith, total, bytes, fits)

pub add-requires-clause-within : goal.add-requires-clause-within
add-requires-clause-within c = held_within c.self.inside.rows.rows c.self.inside.sums c.new.inside.key c.self.invariant

pub invariant_of-self : goal.invariant_of-self
invariant_of-self c =
    let at = (goal.at.invariant_of-self c).After-bytes in
    let row : Row = ((c.new.inside.row.key, c.new.inside.row.name), c.new.inside.pairs) in
    let bytes = size at in
    counted_put c.self.inside.rows.rows c.put.new.self.rows c.self.inside.sums c.add.new.self row c.self.invariant c.new.invariant.1 c.put.ensures (room at)
    (let total = c.add.ensures.total in omega (arith, total, bytes))
    (λ other.
    let held = c.add.ensures.held other in
    let key = ap (λ k. at_key k other c.bytes.result) c.new.invariant.0 in
    let here = ap (at_key c.new.inside.row.key other) bytes in
    omega (arith, held, key, here))
