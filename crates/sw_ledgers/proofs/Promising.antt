-- The promises of a map by lane and position: what is found, and what becomes of them where one more is put.
use Rattle.std.proofs.Common.{◌≡◌, ◌∙◌, ℕ, Bool, true, false, ◌&&◌, nat_eq, List, [], ◌∷◌, ◌++◌, option_map, refl, ap, arith}
use Rattle.std.specs.List.{find, list_any, IsDistinct, AllByRecursion}
use Rattle.std.specs.Map.{lookup, remove_entry, keys_of}
use Rattle.std.proofs.lemmas.Bool.Decides.{nat_tests}
use Rattle.indexmap.specs.IndexMap.{insert_entry}
use Rattle.sw_rules.specs.Rows.{is_promise, without}
use Rattle.sw_rules.specs.State.{Promise}
use Rattle.sw_ledgers.specs.declared.promises.Awaited.{Awaited}
use Rattle.sw_ledgers.specs.Promised.{meaning, row_of, rows_of}

-- two actions have the same lane and position
abbrev same_place : ℕ × ℕ → ℕ × ℕ → Bool
same_place one other = nat_eq one.0 other.0 && nat_eq one.1 other.1

pub found_promise : (lane at : ℕ) (entries : List ((ℕ × ℕ) × Awaited))
    → option_map meaning (lookup (same_place (lane, at)) entries)
    ≡ option_map (λ row. row.awaited) (find (is_promise lane at) (rows_of entries))
found_promise lane at [] = refl
found_promise lane at (entry ∷ entries) = grind (arith, nat_tests, found_promise lane at entries)

module _ (place : ℕ × ℕ) where
  -- no other row is one of the lane and position
  others : (other : ℕ × ℕ) (entries : List ((ℕ × ℕ) × Awaited)) → same_place place other ≡ true
      → AllByRecursion (λ k. same_place other k ≡ false) (keys_of entries)
      → without (is_promise place.0 place.1) (rows_of entries) ≡ rows_of entries
  others other [] same apart = refl
  others other (entry ∷ entries) same apart =
      let here = apart.0 in
      grind (arith, nat_tests, others other entries same apart.1)

  removed : (entries : List ((ℕ × ℕ) × Awaited)) → IsDistinct same_place (keys_of entries)
      → rows_of (remove_entry (same_place place) entries) ≡ without (is_promise place.0 place.1) (rows_of entries)
  unfolding IsDistinct
  removed [] apart = refl
  removed (entry ∷ entries) apart =
      grind (arith, nat_tests, removed entries apart.1, λ (same : same_place place entry.0 ≡ true). others entry.0 entries same apart.0)

  added : (awaited : Awaited) (entries : List ((ℕ × ℕ) × Awaited)) → list_any (is_promise place.0 place.1) (rows_of entries) ≡ false
      → rows_of (insert_entry same_place entries place awaited) ≡ rows_of entries ++ row_of (place, awaited) ∷ []
  added awaited [] absent = refl
  added awaited (entry ∷ entries) absent = grind (arith, nat_tests, added awaited entries)

  gone : (rows : List Promise) → list_any (is_promise place.0 place.1) (without (is_promise place.0 place.1) rows) ≡ false
  gone [] = refl
  gone (row ∷ rows) = grind (arith, gone rows)

  pub put_last : (awaited : Awaited) (entries left after : List ((ℕ × ℕ) × Awaited)) → IsDistinct same_place (keys_of entries)
      → left ≡ remove_entry (same_place place) entries → after ≡ insert_entry same_place left place awaited
      → rows_of after ≡ without (is_promise place.0 place.1) (rows_of entries) ++ row_of (place, awaited) ∷ []
  put_last awaited entries left after apart taken is =
      let rest : rows_of left ≡ without (is_promise place.0 place.1) (rows_of entries) = ap rows_of taken ∙ removed entries apart in
      let absent = ap (list_any (is_promise place.0 place.1)) rest ∙ gone (rows_of entries) in
      ap rows_of is ∙ (added awaited left absent ∙ ap (λ (rows : List Promise). rows ++ row_of (place, awaited) ∷ []) rest)
