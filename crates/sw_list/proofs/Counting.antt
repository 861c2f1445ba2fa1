-- The counts of the flags of each block: what a change keeps, and what they tell of the first flag that is set.
use Rattle.std.proofs.Common.{◌≡◌, ◌≢◌, ◌∙◌, ℕ, zero, suc, ◌+◌, ◌-◌, ◌*◌, ◌/◌, ◌%◌, ◌<◌, ◌≤◌, ◌^◌, ◌==◌, inl, inr, Bool, true, false, not, List, [], ◌∷◌, ◌++◌, length, get_or, set, take, drop, Option, Some, None, refl, sym, ap, arith, if◌then◌else◌}
use Rattle.std.specs.Int.{from_bool}
use Rattle.std.specs.List.{count_by, position_from}
use Rattle.std.specs.Option.{option_and_then, option_or}
use Rattle.std.proofs.Math.Seq.{take-set-lt}
use Rattle.std.proofs.lemmas.Bool.{cases_eq, cases_lt}
use Rattle.std.proofs.lemmas.Bool.Decides.{nat_tests}
use Rattle.std.proofs.lemmas.List.{drop-append-le, drop-set-add, drop-set-lt, drop_all, drop_more, get_or-drop, get_or-set_other, get_or-set_same, get_or-take, get_or_append_left, get_or_push, get_or_read, length-append, length-drop, length-set, length-take, take-append-le, take-set-le, take_all}
use Rattle.std.proofs.lemmas.List.Sums.{count_by-le-length, sum_by-cons, sum_by-set, sum_by_push}
use Rattle.sw_list.specs.KeptFlags.{CountsBlocks, set_in}
use Rattle.sw_list.proofs.Placing.{placed_within, split_from}

abbrev is_set : Bool → Bool
is_set flag = flag

abbrev one_if : Bool → ℕ
one_if flag = if flag then 1 else 0

one_of : (flag : Bool) → from_bool flag ≡ one_if flag
one_of true = refl
one_of false = refl

-- ---- how many flags of a block are set

few : (flags : List Bool) (block : ℕ) → set_in flags block ≤ 256
unfolding set_in
few flags block =
    omega (arith, count_by-le-length is_set (take 256 (drop (256 * block) flags)), length-take 256 (drop (256 * block) flags))

set_here : (flags : List Bool) (place block i : ℕ) (flag d : Bool) → place ≡ 256 * block + i → i < 256 → place < length flags
    → set_in (set flags place flag) block + one_if (get_or flags place d) ≡ set_in flags block + one_if flag
unfolding set_in
set_here flags place block i flag d is small inside =
    let xs = drop (256 * block) flags in
    let moved : take 256 (drop (256 * block) (set flags place flag)) ≡ set (take 256 xs) i flag =
    ap (λ n. take 256 (drop (256 * block) (set flags n flag))) is
    ∙ ap (take 256) (drop-set-add (256 * block) flags i flag) ∙ take-set-lt 256 xs i flag small in
    let at_i : get_or (take 256 xs) i d ≡ get_or flags place d =
    get_or-take 256 xs i d small ∙ get_or-drop (256 * block) flags i d ∙ ap (λ n. get_or flags n d) (sym is) in
    let sum = sum_by-set one_if (take 256 xs) i flag d (omega (arith, length-take 256 xs, length-drop (256 * block) flags)) in
    omega (arith, sum, ap (count_by is_set) moved, ap one_if at_i)

set_else : (flags : List Bool) (place block : ℕ) (flag : Bool) → place / 256 ≢ block → set_in (set flags place flag) block ≡ set_in flags block
unfolding set_in
set_else flags place block flag other = elim (cases_lt place (256 * block)) [
  | inl before ↦ ap (λ xs. count_by is_set (take 256 xs)) (drop-set-lt (256 * block) flags place flag before)
  | inr behind ↦
      let is : place ≡ 256 * block + (place - 256 * block) = omega arith in
      let past : 256 ≤ place - 256 * block = omega arith in
      ap (count_by is_set) (ap (λ n. take 256 (drop (256 * block) (set flags n flag))) is
      ∙ ap (take 256) (drop-set-add (256 * block) flags (place - 256 * block) flag)
      ∙ take-set-le 256 (drop (256 * block) flags) (place - 256 * block) flag past)
]

more_before : (flags : List Bool) (flag : Bool) (block : ℕ) → 256 * block + 256 ≤ length flags → set_in (flags ++ flag ∷ []) block ≡ set_in flags block
unfolding set_in
more_before flags flag block long =
    ap (λ xs. count_by is_set (take 256 xs)) (drop-append-le (256 * block) flags (flag ∷ []) (omega arith))
    ∙ ap (count_by is_set) (take-append-le 256 (drop (256 * block) flags) (flag ∷ []) (omega (arith, length-drop (256 * block) flags)))

more_last : (flags : List Bool) (flag : Bool) (block : ℕ) → 256 * block ≤ length flags → length flags < 256 * block + 256
    → set_in (flags ++ flag ∷ []) block ≡ set_in flags block + one_if flag
unfolding set_in
more_last flags flag block begun room =
    let xs = drop (256 * block) flags in
    let short : length xs < 256 = omega (arith, length-drop (256 * block) flags) in
    ap (λ xs. count_by is_set (take 256 xs)) (drop-append-le (256 * block) flags (flag ∷ []) begun)
    ∙ ap (count_by is_set) (take_all 256 (xs ++ flag ∷ []) (omega (arith, length-append xs (flag ∷ []))))
    ∙ sum_by_push one_if xs flag
    ∙ ap (λ ys. count_by is_set ys + one_if flag) (sym (take_all 256 xs (omega arith)))

none_yet : (flags : List Bool) (block : ℕ) → length flags ≤ 256 * block → set_in flags block ≡ 0
unfolding set_in
none_yet flags block past = ap (λ xs. count_by is_set (take 256 xs)) (drop_all (256 * block) flags past)

-- ---- what a change keeps

one_most : (flag : Bool) → from_bool flag ≤ 1
one_most true = omega arith
one_most false = omega arith

-- one more can be counted
pub countable : (flags : List Bool) (counts : List ℕ) (block count : ℕ) (flag : Bool) → CountsBlocks flags counts → block < length counts
    → count ≡ get_or counts block count → count + from_bool flag < 2 ^ 16
countable flags counts block count flag kept inside is =
    omega (arith, one_most flag, few flags block, kept.counted block inside, get_or_read counts block count inside is 0)

-- a flag that is set is counted
pub was_counted : (flags : List Bool) (counts : List ℕ) (place count : ℕ) (was : Bool) → CountsBlocks flags counts → place < length flags
    → was ≡ get_or flags place was → count ≡ get_or counts (place / 256) count → from_bool was ≤ count
was_counted flags counts place count was kept inside was_is is =
    let block_inside : place / 256 < length counts = omega (arith, kept.enough) in
    let sum = set_here flags place (place / 256) (place % 256) false was (omega arith) (omega arith) inside in
    omega (arith, one_of was, ap one_if was_is, sum, kept.counted (place / 256) block_inside, get_or_read counts (place / 256) count block_inside is 0)

-- one count changes, and the others stay
one_changed : (counts : List ℕ) (here new : ℕ) (wanted : ℕ → ℕ) → here < length counts → new ≡ wanted here
    → ((block : ℕ) → block < length counts → block ≢ here → get_or counts block 0 ≡ wanted block)
    → (block : ℕ) → block < length (set counts here new) → get_or (set counts here new) block 0 ≡ wanted block
one_changed counts here new wanted inside is others block within = elim (cases_eq block here) [
  | inl same ↦ ap (λ n. get_or (set counts here new) n 0) same ∙ get_or-set_same counts here new 0 inside ∙ is ∙ ap wanted (sym same)
  | inr other ↦ get_or-set_other counts here block new 0 other ∙ others block (omega (arith, within, length-set counts here new)) other
]

pub kept_set : (flags : List Bool) (counts : List ℕ) (place count : ℕ) (flag was : Bool) → CountsBlocks flags counts → place < length flags
    → was ≡ get_or flags place was → count ≡ get_or counts (place / 256) count
    → CountsBlocks (set flags place flag) (set counts (place / 256) (count + from_bool flag - from_bool was))
kept_set flags counts place count flag was kept inside was_is is =
    let new = count + from_bool flag - from_bool was in
    let begun : place / 256 < length counts = omega (arith, kept.enough, inside) in
    let sum = set_here flags place (place / 256) (place % 256) flag was (omega arith) (omega arith) inside in
    let here : new ≡ set_in (set flags place flag) (place / 256) =
    omega (arith, one_of was, one_of flag, ap one_if was_is, sum, kept.counted (place / 256) begun, get_or_read counts (place / 256) count begun is 0) in
    record {
      enough = omega (arith, kept.enough, length-set flags place flag, length-set counts (place / 256) new);
      no_more = omega (arith, kept.no_more, length-set flags place flag, length-set counts (place / 256) new);
      counted = one_changed counts (place / 256) new (set_in (set flags place flag)) begun here
          (λ block within other. kept.counted block within ∙ sym (set_else flags place block flag (λ same. other (sym same))));
    }

-- a flag more, in a block that has begun
pub kept_more : (flags : List Bool) (counts : List ℕ) (last count : ℕ) (flag : Bool) → CountsBlocks flags counts → last ≡ length flags / 256
    → last < length counts → count ≡ get_or counts last count → CountsBlocks (flags ++ flag ∷ []) (set counts last (count + from_bool flag))
kept_more flags counts last count flag kept is_last begun is =
    let new = count + from_bool flag in
    let here : new ≡ set_in (flags ++ flag ∷ []) last =
    omega (arith, one_of flag, kept.counted last begun, get_or_read counts last count begun is 0, more_last flags flag last (omega arith) (omega arith)) in
    record {
      enough = omega (arith, length-append flags (flag ∷ []), length-set counts last new);
      no_more = omega (arith, kept.no_more, length-append flags (flag ∷ []), length-set counts last new);
      counted = one_changed counts last new (set_in (flags ++ flag ∷ [])) begun here
          (λ block within other. kept.counted block within ∙ sym (more_before flags flag block (omega (arith, kept.no_more, within, other))));
    }

-- a flag more, which begins a block
pub kept_begun : (flags : List Bool) (counts : List ℕ) (flag : Bool) → CountsBlocks flags counts → length counts ≤ length flags / 256
    → CountsBlocks (flags ++ flag ∷ []) (counts ++ from_bool flag ∷ [])
kept_begun flags counts flag kept full = record {
  enough = omega (arith, kept.enough, length-append flags (flag ∷ []), length-append counts (from_bool flag ∷ []));
  no_more = omega (arith, kept.no_more, length-append flags (flag ∷ []), length-append counts (from_bool flag ∷ []));
  counted = λ block within. each block (omega (arith, within, length-append counts (from_bool flag ∷ [])));
}
  where
    each : (block : ℕ) → block < length counts + 1 → get_or (counts ++ from_bool flag ∷ []) block 0 ≡ set_in (flags ++ flag ∷ []) block
    each block within = elim (cases_lt block (length counts)) [
      | inl before ↦
          get_or_append_left counts (from_bool flag ∷ []) 0 block before
          ∙ kept.counted block before ∙ sym (more_before flags flag block (omega (arith, kept.enough, full)))
      | inr behind ↦
          let last : length counts ≡ block = omega (arith, behind, within) in
          let whole : length flags ≡ 256 * block = omega (arith, kept.enough, full, last) in
          get_or_push counts (from_bool flag) 0 block last
          ∙ one_of flag
          ∙ omega (arith, more_last flags flag block (omega arith) (omega arith), none_yet flags block (omega arith))
    ]

-- ---- what the counts tell

abbrev is_counted : ℕ → Bool
is_counted count = not (count == 0)

none_of : (xs : List Bool) (from : ℕ) → count_by is_set xs ≡ 0 → position_from is_set from xs ≡ None
none_of [] from none = refl
none_of (true ∷ xs) from none = absurd (omega (arith, none, sum_by-cons one_if true xs))
none_of (false ∷ xs) from none = none_of xs (from + 1) (omega (arith, none, sum_by-cons one_if false xs))

some_of : (xs : List Bool) (from : ℕ) → 0 < count_by is_set xs → (place : ℕ) × (position_from is_set from xs ≡ Some place)
some_of [] from some = absurd (omega (arith, some))
some_of (true ∷ xs) from some = (from, refl)
some_of (false ∷ xs) from some = some_of xs (from + 1) (omega (arith, some, sum_by-cons one_if false xs))

-- the first flag of a block that is set
abbrev in_block : List Bool → ℕ → Option ℕ
in_block flags block = position_from is_set (256 * block) (take 256 (drop (256 * block) flags))

none_in : (flags : List Bool) (block : ℕ) → set_in flags block ≡ 0 → in_block flags block ≡ None
unfolding set_in
none_in flags block none = none_of (take 256 (drop (256 * block) flags)) (256 * block) none

some_in : (flags : List Bool) (block : ℕ) → 0 < set_in flags block → (place : ℕ) × (in_block flags block ≡ Some place)
unfolding set_in
some_in flags block some = some_of (take 256 (drop (256 * block) flags)) (256 * block) some

module _ (flags : List Bool) (counts : List ℕ) (kept : CountsBlocks flags counts) where
  -- the first flag that is set at or behind a block, by the counts
  abbrev Told : ℕ → Type 0
  Told block = position_from is_set (256 * block) (drop (256 * block) flags)
      ≡ option_and_then (in_block flags) (position_from is_counted block (drop block counts))

  told_past : (block : ℕ) → length counts ≤ block → Told block
  told_past block past =
      ap (position_from is_set (256 * block)) (drop_all (256 * block) flags (omega (arith, past, kept.enough)))
      ∙ sym (ap (λ xs. option_and_then (in_block flags) (position_from is_counted block xs)) (drop_all block counts past))

  told_here : (block : ℕ) → block < length counts → Told (block + 1) → Told block
  told_here block inside later =
      split_from is_set 256 (256 * block) (256 * (block + 1)) flags (omega arith)
      ∙ pick (is_counted (get_or counts block 0)) refl
      ∙ ap (λ xs. option_and_then (in_block flags) (position_from is_counted block xs)) (sym (drop_more counts block 0 inside))
    where
      pick : (test : Bool) → is_counted (get_or counts block 0) ≡ test
          → option_or (in_block flags block) (position_from is_set (256 * (block + 1)) (drop (256 * (block + 1)) flags))
          ≡ option_and_then (in_block flags) (if test then Some block else position_from is_counted (block + 1) (drop (block + 1) counts))
      pick true is =
          let some : 0 < get_or counts block 0 = grind (arith, nat_tests) in
          let found = some_in flags block (omega (arith, some, kept.counted block inside)) in
          ap (λ o. option_or o (position_from is_set (256 * (block + 1)) (drop (256 * (block + 1)) flags))) found.1 ∙ sym found.1
      pick false is =
          let none : get_or counts block 0 ≡ 0 = grind (arith, nat_tests) in
          ap (λ o. option_or o (position_from is_set (256 * (block + 1)) (drop (256 * (block + 1)) flags)))
          (none_in flags block (omega (arith, none, kept.counted block inside)))
          ∙ later

  told : (more block : ℕ) → length counts ≤ block + more → Told block
  told zero block past = told_past block (omega (arith, past))
  told (suc more) block within = elim (cases_lt block (length counts)) [
    | inr past ↦ told_past block past
    | inl inside ↦ told_here block inside (told more (block + 1) (omega (arith, within)))
  ]

  -- in the rest of its own block a flag is set
  pub found_near : (from place : ℕ) → position_from is_set from (take (256 - from % 256) (drop from flags)) ≡ Some place
      → position_from is_set from (drop from flags) ≡ Some place
  found_near from place near =
      split_from is_set (256 - from % 256) from (256 * (from / 256 + 1)) flags (omega arith)
      ∙ ap (λ o. option_or o (position_from is_set (256 * (from / 256 + 1)) (drop (256 * (from / 256 + 1)) flags))) near

  none_near : (from : ℕ) → position_from is_set from (take (256 - from % 256) (drop from flags)) ≡ None
      → position_from is_set from (drop from flags)
      ≡ option_and_then (in_block flags) (position_from is_counted (from / 256 + 1) (drop (from / 256 + 1) counts))
  none_near from near =
      split_from is_set (256 - from % 256) from (256 * (from / 256 + 1)) flags (omega arith)
      ∙ ap (λ o. option_or o (position_from is_set (256 * (from / 256 + 1)) (drop (256 * (from / 256 + 1)) flags))) near
      ∙ told (length counts) (from / 256 + 1) (omega arith)

  -- a flag is set in a later block
  pub found_later : (from block : ℕ) → position_from is_set from (take (256 - from % 256) (drop from flags)) ≡ None
      → position_from is_counted (from / 256 + 1) (drop (from / 256 + 1) counts) ≡ Some block
      → position_from is_set from (drop from flags)
      ≡ position_from is_set (256 * block) (take (256 - 256 * block % 256) (drop (256 * block) flags))
  found_later from block near later =
      let whole : 256 ≡ 256 - 256 * block % 256 = omega arith in
      none_near from near ∙ ap (option_and_then (in_block flags)) later
      ∙ ap (λ n. position_from is_set (256 * block) (take n (drop (256 * block) flags))) whole

  -- no flag is set
  pub found_none : (from : ℕ) → position_from is_set from (take (256 - from % 256) (drop from flags)) ≡ None
      → position_from is_counted (from / 256 + 1) (drop (from / 256 + 1) counts) ≡ None
      → position_from is_set from (drop from flags) ≡ None
  found_none from near later = none_near from near ∙ ap (option_and_then (in_block flags)) later

  -- a block that has a count begins within the flags
  pub begins_within : (block next : ℕ) → position_from is_counted next (drop next counts) ≡ Some block → 256 * block < length flags
  begins_within block next is = elim (cases_lt next (length counts)) [
    | inl inside ↦ omega (arith, kept.no_more, placed_within is_counted next (drop next counts) block is, length-drop next counts)
    | inr past ↦ let none = ap (position_from is_counted next) (drop_all next counts past) in absurd cc
  ]
