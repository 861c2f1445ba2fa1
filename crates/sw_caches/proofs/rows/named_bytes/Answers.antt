use Rattle.std.proofs.Common.{◌≡◌, ◌+◌, ap, arith, map}
use Rattle.sw_list.specs.Named.{named_row}
use Rattle.sw_rules.specs.Storage.{is_cache}
use Rattle.sw_caches.specs.Bytes.{bytes_of}
use Rattle.sw_caches.specs.Tables.{IsNextBy, kept_row}
use Rattle.sw_caches.proofs.CountedLemmas.{bytes_from, bytes_next, named_at, some_within}
use Rattle.sw_caches.proofs.WalkLemmas.{next_reads, none_reads}
use Rattle.sw_caches.proofs.rows.named_bytes.Goals.{After-bytes-bytes}
use Rattle.sw_caches.proofs.rows.named_bytes.Goals as goal

-- the next cache of the key and the name
next : (c : After-bytes-bytes) → IsNextBy (is_cache c.args.key.now c.args.name.now) c.loop-place.from c.args.rows.now.rows (kept_row (named_row c.row.result.now)) (c.in-Some.place + 1)
next c =
    next_reads (is_cache c.args.key.now c.args.name.now) c.args.rows.now.rows c.loop-place.from c.in-Some.place (named_row c.row.result.now)
    c.in-Some.ensures.place c.row.ensures c.in-Some.ensures.low c.in-Some.ensures.few

-- its bytes are the next ones
here : (c : After-bytes-bytes) → bytes_from c.args.key.now c.args.name.now c.loop-place.from c.args.rows.now.rows ≡ c.bytes-bytes.result + bytes_from c.args.key.now c.args.name.now (c.in-Some.place + 1) c.args.rows.now.rows
here c =
    let row = named_row c.row.result.now in
    bytes_next c.args.key.now c.args.name.now c.args.rows.now.rows c.loop-place.from (c.in-Some.place + 1) c.bytes-bytes.result row (next c)
    (named_at c.args.rows.now.rows c.in-Some.place row c.requires.names c.row.ensures) c.bytes-bytes.ensures

pub overflow_add-bytes : goal.overflow_add-bytes
overflow_add-bytes c =
    let is = here (goal.at.overflow_add-bytes c).After-bytes-bytes in
    let so_far = c.loop-place.invariant in
    let less = some_within c.args.key.now c.args.name.now (map kept_row c.args.rows.now.rows) in
    let few = c.requires.few in
    omega (arith, is, so_far, less, few)

pub loop-place-preserved : goal.loop-place-preserved
loop-place-preserved c =
    let is = here (goal.at.loop-place-preserved c).After-bytes-bytes in
    let so_far = c.loop-place.invariant in
    omega (arith, is, so_far)

pub loop-place-smaller : goal.loop-place-smaller
loop-place-smaller c = let is = next (goal.at.loop-place-smaller c).After-bytes-bytes in let later = is.later in let within = is.within in omega (arith, later, within)

pub returns : goal.returns
returns c =
    let none = ap bytes_of (none_reads (is_cache c.args.key.now c.args.name.now) c.args.rows.now.rows c.loop-place.from c.in_default.ensures.place) in
    let so_far = c.loop-place.invariant in
    omega (arith, none, so_far)
