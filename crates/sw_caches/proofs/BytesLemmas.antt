-- The bytes of pairs, as they come and go.
use Rattle.std.proofs.Common.{◌≡◌, ℕ, ◌+◌, ◌<◌, ◌≤◌, List, [], ◌∷◌, ◌++◌, get_or, length, refl, ap, arith}
use Rattle.std.specs.Prelude.{not, remove, sum_by}
use Rattle.std.proofs.lemmas.List.{map-append}
use Rattle.std.proofs.lemmas.List.Filters.{sum_by-filter_both}
use Rattle.std.proofs.lemmas.List.Sums.{sum_by-append, sum_by-cons, sum_by-remove}
use Rattle.sw_data.specs.declared.exchange.Request.{Request}
use Rattle.sw_data.specs.declared.exchange.Options.{Options}
use Rattle.sw_rules.specs.Matching.{Pair}
use Rattle.sw_caches.specs.declared.entry.Entry.{Entry}
use Rattle.sw_caches.specs.Bytes.{made_size, put_size, puts_size}
use Rattle.sw_caches.specs.Entries.{pair, pairs}
use Rattle.sw_caches.specs.Plans.{is_removed, left_by}

module _ (names : ℕ) where
  -- pairs are counted by the sizes that stand beside them
  puts_by_size : (entries : List Entry) → puts_size names (pairs entries) ≡ sum_by (λ entry. 5 + names + entry.size) entries
  puts_by_size [] = refl
  puts_by_size (entry ∷ entries) =
      let left = sum_by-cons (λ p. 5 + names + put_size p) (pair entry) (pairs entries) in
      let right = sum_by-cons (λ (item : Entry). 5 + names + item.size) entry entries in
      let rest = puts_by_size entries in
      let sized = entry.sized in
      omega (arith, left, right, rest, sized)

  -- an entry that is taken out takes its bytes with it
  pub bytes_removed : (entries : List Entry) (place : ℕ) (entry : Entry) → place < length entries → entry ≡ get_or entries place entry
      → made_size names (pairs (remove entries place)) + (5 + names + entry.size) ≡ made_size names (pairs entries)
  bytes_removed entries place entry low is =
      let before = puts_by_size entries in
      let after = puts_by_size (remove entries place) in
      let removed = sum_by-remove (λ (item : Entry). 5 + names + item.size) entries place entry low in
      let size = ap (λ (item : Entry). item.size) is in
      omega (arith, before, after, removed, size)

  -- entries that come behind others bring their bytes
  pub bytes_joined : (entries added : List Entry) → made_size names (pairs (entries ++ added)) ≡ made_size names (pairs entries) + puts_size names (pairs added)
  bytes_joined entries added =
      let both = ap (puts_size names) (map-append pair entries added) in
      let sums = sum_by-append (λ p. 5 + names + put_size p) (pairs entries) (pairs added) in
      omega (arith, both, sums)

  -- what is left has no more bytes
  pub bytes_left : (deletes : List (Request × Options)) (puts old : List Pair) → made_size names (left_by deletes puts old) ≤ made_size names old
  bytes_left deletes puts old =
      let both = sum_by-filter_both (λ p. is_removed deletes puts p) (λ p. not (is_removed deletes puts p)) (λ p. refl) (λ p. 5 + names + put_size p) old in
      omega (arith, both)
