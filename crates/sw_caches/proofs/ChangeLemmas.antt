-- The bytes of a cache and those of the changes that make it.
use Rattle.std.proofs.Common.{◌≡◌, List, [], ◌∷◌, map, refl, arith}
use Rattle.std.specs.Prelude.{sum_by}
use Rattle.std.proofs.lemmas.List.Sums.{sum_by-cons}
use Rattle.sw_data.specs.declared.exchange.Op.TheVariants as op
use Rattle.sw_data.specs.declared.storage.Change.TheVariants as change
use Rattle.sw_data.specs.declared.storage.KeptCache.{KeptCache}
use Rattle.sw_data.specs.Sizes.{op_size}
use Rattle.sw_rules.specs.Durable.{pair_change}
use Rattle.sw_rules.specs.Matching.{Pair}
use Rattle.sw_caches.specs.Bytes.{pair_size}
use Rattle.sw_caches.specs.Changes.{AreBytesOfChanges, change_size}

put_of : (row : KeptCache) (pair : Pair) → change_size (pair_change row pair) ≡ pair_size row.key row.name pair
unfolding change_size
put_of row pair =
    let one = sum_by-cons op_size (op.Put pair.0 pair.1) [] in
    omega (arith, one)

puts_of : (row : KeptCache) (pairs : List Pair) → sum_by change_size (map (pair_change row) pairs) ≡ sum_by (pair_size row.key row.name) pairs
puts_of row [] = refl
puts_of row (pair ∷ pairs) =
    let left = sum_by-cons change_size (pair_change row pair) (map (pair_change row) pairs) in
    let right = sum_by-cons (pair_size row.key row.name) pair pairs in
    let rest = puts_of row pairs in
    let here = put_of row pair in
    omega (arith, left, right, rest, here)

pub bytes_of_changes : AreBytesOfChanges
unfolding change_size
bytes_of_changes row =
    let all = sum_by-cons change_size (change.CacheNew row.key row.name) (map (pair_change row) row.pairs) in
    let puts = puts_of row row.pairs in
    omega (arith, all, puts)
