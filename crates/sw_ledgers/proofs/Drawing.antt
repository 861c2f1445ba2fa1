-- The rows of a map of drawn fetches: what is found, and what becomes of them where one more is drawn.
use Rattle.std.proofs.Common.{◌≡◌, ◌∙◌, fold, length, ◌+◌, ◌≤◌, ℕ, suc, Bool, true, false, List, [], ◌∷◌, ◌++◌, append_assoc, get_or, bytes_eq, refl, sym, ap, arith, if◌then◌else◌}
use Rattle.std.specs.Cmp.Lexicographic.{bytes_decides, nat_list_eq_equiv}
use Rattle.std.specs.List.{list_any, IsDistinct, AllByRecursion}
use Rattle.std.specs.Option.{option_map_or}
use Rattle.std.specs.Map.{lookup, keys_of}
use Rattle.indexmap.specs.IndexMap.{insert_entry}
use Rattle.sw_data.specs.declared.exchange.Request.{Request}
use Rattle.sw_rules.specs.Caching.{drawn_numbers, with_draws}
use Rattle.sw_rules.specs.Jobs.{is_draw_of, next_draw, with_draw}
use Rattle.sw_rules.specs.Rows.{changed}
use Rattle.sw_rules.specs.State.{Draws}
use Rattle.sw_ledgers.specs.Drawn.{Table, FitsDraw, FitsDraws, addresses_of, drawn_of, one_more, rows_of}

module _ {K : Type 0} (bytes : K → List ℕ) where
  pub found_drawn : (address : List ℕ) (entries : List (K × ℕ))
      → drawn_of (rows_of bytes entries) address ≡ option_map_or (λ number. number) (lookup (λ key. bytes_eq address (bytes key)) entries) 0
  found_drawn address [] = refl
  found_drawn address (entry ∷ entries) =
      grind (arith, nat_list_eq_equiv.symm address (bytes entry.0), found_drawn address entries)

module _ {K : Type 0} (bytes : K → List ℕ) (eq : K → K → Bool) (decides : (x y : K) → eq x y ≡ bytes_eq (bytes x) (bytes y)) (key : K) where
  -- behind the row of an address no row is one of it
  others_apart : (other : K) (entries : List (K × ℕ)) → bytes_eq (bytes other) (bytes key) ≡ true
      → AllByRecursion (λ k. eq other k ≡ false) (keys_of entries)
      → changed (is_draw_of (bytes key)) (λ row. record row { number = row.number + 1 }) (rows_of bytes entries) ≡ rows_of bytes entries
  others_apart other [] same apart = refl
  others_apart other (entry ∷ entries) same apart =
      let here = sym (decides other entry.0) ∙ apart.0 in
      let is = (bytes_decides (bytes other) (bytes key)).0 same in
      let turned = nat_list_eq_equiv.symm (bytes key) (bytes entry.0) in
      let not_here = sym turned ∙ ap (λ a. bytes_eq a (bytes entry.0)) (sym is) ∙ here in
      grind (arith, not_here, others_apart other entries same apart.1)

  -- the row of an address that is there counts one more
  drawn_again : (entries : List (K × ℕ)) → IsDistinct eq (keys_of entries)
      → list_any (is_draw_of (bytes key)) (rows_of bytes entries) ≡ true
      → rows_of bytes (insert_entry eq entries key (drawn_of (rows_of bytes entries) (bytes key) + 1))
      ≡ changed (is_draw_of (bytes key)) (λ row. record row { number = row.number + 1 }) (rows_of bytes entries)
  unfolding IsDistinct
  drawn_again [] apart there = absurd cc
  drawn_again (entry ∷ entries) apart there =
      let turned = decides key entry.0 ∙ nat_list_eq_equiv.symm (bytes key) (bytes entry.0) in
      grind (arith, turned, drawn_again entries apart.1, λ (same : bytes_eq (bytes entry.0) (bytes key) ≡ true). others_apart entry.0 entries same apart.0)

  -- an address that isn't there stands last
  drawn_first : (entries : List (K × ℕ)) → list_any (is_draw_of (bytes key)) (rows_of bytes entries) ≡ false
      → rows_of bytes (insert_entry eq entries key (drawn_of (rows_of bytes entries) (bytes key) + 1))
      ≡ rows_of bytes entries ++ record { address = bytes key; number = 1 } ∷ []
  drawn_first [] absent = grind arith
  drawn_first (entry ∷ entries) absent =
      let turned = decides key entry.0 ∙ nat_list_eq_equiv.symm (bytes key) (bytes entry.0) in
      grind (arith, turned, drawn_first entries)

  pub drawn_once : (entries after : List (K × ℕ)) (number : ℕ) → IsDistinct eq (keys_of entries)
      → number ≡ drawn_of (rows_of bytes entries) (bytes key) → after ≡ insert_entry eq entries key (number + 1)
      → rows_of bytes after ≡ one_more (rows_of bytes entries) (bytes key)
  drawn_once entries after number apart counted is =
      ap (rows_of bytes) (is ∙ ap (λ n. insert_entry eq entries key (n + 1)) counted) ∙ by (list_any (is_draw_of (bytes key)) (rows_of bytes entries)) refl
    where
      by : (b : Bool) → list_any (is_draw_of (bytes key)) (rows_of bytes entries) ≡ b
          → rows_of bytes (insert_entry eq entries key (drawn_of (rows_of bytes entries) (bytes key) + 1))
          ≡ (if b then changed (is_draw_of (bytes key)) (λ row. record row { number = row.number + 1 }) (rows_of bytes entries)
          else rows_of bytes entries ++ record { address = bytes key; number = 1 } ∷ [])
      by true there = drawn_again entries apart there
      by false absent = drawn_first entries absent

-- ---- several draws

-- the rows after a fetch of each of these addresses without fragment
abbrev pub all_drawn : List Draws → List (List ℕ) → List Draws
all_drawn rows addresses = fold one_more rows addresses

-- the numbers of these fetches
abbrev pub numbers_drawn : List Draws → List (List ℕ) → List ℕ
numbers_drawn rows [] = []
numbers_drawn rows (address ∷ rest) = drawn_of rows address ∷ numbers_drawn (one_more rows address) rest

-- some of the fetches are drawn, and there is room for the rest of them
pub record HaveDrawn (all : List (List ℕ)) (before : Table) (rest : List (List ℕ)) (now : Table) (numbers : List ℕ) : Type 0 where
  pub rows : all_drawn now.rows rest ≡ all_drawn before.rows all
  pub drawn : numbers ++ numbers_drawn now.rows rest ≡ numbers_drawn before.rows all
  pub fits : FitsDraws rest now
  pub room : before.spare + length rest ≤ now.spare + length all

module _ (a b : List ℕ) where
  grows_changed : (rows : List Draws) → drawn_of (changed (is_draw_of a) (λ row. record row { number = row.number + 1 }) rows) b ≤ drawn_of rows b + 1
  grows_changed [] = omega arith
  grows_changed (row ∷ rows) = grind (arith, grows_changed rows)

  grows_added : (rows : List Draws) → drawn_of (rows ++ record { address = a; number = 1 } ∷ []) b ≤ drawn_of rows b + 1
  grows_added [] = grind arith
  grows_added (row ∷ rows) = grind (arith, grows_added rows)

  -- one more draw counts at most one more fetch of each address
  grows : (rows : List Draws) → drawn_of (one_more rows a) b ≤ drawn_of rows b + 1
  grows rows = by (list_any (is_draw_of a) rows)
    where
      by : (there : Bool) → drawn_of (if there then changed (is_draw_of a) (λ row. record row { number = row.number + 1 }) rows
          else rows ++ record { address = a; number = 1 } ∷ []) b ≤ drawn_of rows b + 1
      by true = grows_changed rows
      by false = grows_added rows

pub fits_first : (a : List ℕ) (rest : List (List ℕ)) (table : Table) → FitsDraws (a ∷ rest) table → FitsDraw a table
fits_first a rest table fits = let here = fits.counts 0 a (omega arith) in record {
  room = omega (arith, fits.room);
  count = omega (arith, here);
}

fits_rest : (a : List ℕ) (rest : List (List ℕ)) (now after : Table) → FitsDraws (a ∷ rest) now → after.rows ≡ one_more now.rows a
    → now.spare ≤ after.spare + 1 → FitsDraws rest after
fits_rest a rest now after fits is room = record {
  room = omega (arith, fits.room, room);
  counts = λ k d below.
      let one = get_or rest k d in
      let before = fits.counts (suc k) d (omega (arith, below)) in
      let more = grows a one now.rows in
      let same = ap (λ rows. drawn_of rows one) is in
      omega (arith, before, more, same);
}

pub drawn_begun : (all : List (List ℕ)) (table : Table) → FitsDraws all table → HaveDrawn all table all table []
drawn_begun all table fits = record { rows = refl; drawn = refl; fits = fits; room = omega arith }

pub drawn_next : (all : List (List ℕ)) (before : Table) (a : List ℕ) (rest : List (List ℕ)) (now after : Table) (numbers : List ℕ) (number : ℕ)
    → HaveDrawn all before (a ∷ rest) now numbers → after.rows ≡ one_more now.rows a → now.spare ≤ after.spare + 1
    → number ≡ drawn_of now.rows a → HaveDrawn all before rest after (numbers ++ number ∷ [])
drawn_next all before a rest now after numbers number so_far is room counted = record {
  rows = ap (λ rows. all_drawn rows rest) is ∙ so_far.rows;
  drawn =
      append_assoc numbers (number ∷ []) (numbers_drawn after.rows rest)
      ∙ (ap (λ n. numbers ++ n ∷ numbers_drawn after.rows rest) counted
      ∙ (ap (λ rows. numbers ++ drawn_of now.rows a ∷ numbers_drawn rows rest) is ∙ so_far.drawn));
  fits = fits_rest a rest now after so_far.fits is room;
  room = omega (arith, so_far.room, room);
}

-- drawn by their requests
pub drawn_rows_are : (requests : List Request) (rows : List Draws) → all_drawn rows (addresses_of requests) ≡ with_draws rows requests
drawn_rows_are [] rows = refl
drawn_rows_are (request ∷ requests) rows = drawn_rows_are requests (with_draw rows request.url)

pub drawn_numbers_are : (requests : List Request) (rows : List Draws) → numbers_drawn rows (addresses_of requests) ≡ drawn_numbers rows requests
drawn_numbers_are [] rows = refl
drawn_numbers_are (request ∷ requests) rows =
    ap (λ (numbers : List ℕ). next_draw rows request.url ∷ numbers) (drawn_numbers_are requests (with_draw rows request.url))
