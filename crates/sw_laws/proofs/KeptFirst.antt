-- What is kept where a registration gets its first waiting worker.
use Rattle.std.proofs.Common.{◌≡◌, ◌∙◌, ℕ, zero, suc, ◌+◌, ◌<◌, ◌≤◌, Bool, true, false, not, ◌&&◌, ◌||◌, ◌==◌, List, [], ◌∷◌, ◌++◌, map, filter, Option, Some, None, length, refl, sym, ap, arith, if◌then◌else◌}
use Rattle.std.specs.List.{cons_option, list_all, filter_map, range_with_len}
use Rattle.std.specs.Prelude.{bytes_eq, codes, find, is_none, is_some}
use Rattle.std.specs.Option.{option_map_or, option_or}
use Rattle.std.proofs.lemmas.Bool.{and_parts}
use Rattle.std.proofs.lemmas.Bool.Decides.{nat_tests}
use Rattle.std.proofs.lemmas.List.{length-map}
use Rattle.sw_data.specs.declared.storage.KeptRegistration.{KeptRegistration}
use Rattle.sw_data.specs.declared.storage.KeptWorker.{KeptWorker}
use Rattle.sw_data.specs.declared.workers.Slot.TheVariants as slot
use Rattle.sw_rules.specs.Installing.{first_counter, placed}
use Rattle.sw_rules.specs.Rows.{changed, is_number, is_registration}
use Rattle.sw_rules.specs.State.{Registration, Worker}
use Rattle.sw_rules.specs.Storage.{first_waiting}
use Rattle.sw_laws.specs.Coherent.{SoundRegistrations, apart}
use Rattle.sw_laws.proofs.Contents.{Slots, contents, found_in, is_worked, kept_in, kept_with, mapped_same, placed_at, same_first, slots_in, slots_of}
use Rattle.sw_laws.proofs.KeptRows.{counted_few, never_placed}
use Rattle.sw_laws.proofs.Lists.{all_both, all_true, all_weaker, by_truth, bytes_eq_equal, false_of, find_passes}
use Rattle.sw_laws.proofs.Ordered.{Ordered, has_place, is_below, is_fresh}
use Rattle.sw_laws.proofs.Places.{all_as_found, all_at_found, all_known, apart_both, apart_known, places_apart}
use Rattle.sw_laws.proofs.SlotMoves.{slots_with}

-- ---- one more item of a range

none_after : {Y : Type 0} (h : ℕ → Option Y) (least : ℕ) → ((p : ℕ) → least ≤ p → h p ≡ None) → (a n : ℕ) → least ≤ a → filter_map h (range_with_len a n) ≡ []
none_after h least none a zero low = refl
none_after h least none a (suc n) low = grind (arith, none a low, none_after h least none (a + 1) n (omega (arith, low)))

abbrev with_one : {Y : Type 0} → (ℕ → Option Y) → ℕ → Y → ℕ → Option Y
with_one h count y place = if place == count then Some y else h place

one_after : {Y : Type 0} (h : ℕ → Option Y) (count : ℕ) (y : Y) → ((p : ℕ) → count ≤ p → h p ≡ None) → (p : ℕ) → count + 1 ≤ p → with_one h count y p ≡ None
one_after h count y none p low = let other : (p == count) ≡ false = grind (arith, nat_tests, low) in grind (arith, other, none p (omega (arith, low)))

longer_by : {Y : Type 0} (o : Option Y) (y : Y) (xs ys : List Y) → xs ≡ ys ++ y ∷ [] → cons_option o xs ≡ cons_option o ys ++ y ∷ []
longer_by None y xs ys is = is
longer_by (Some x) y xs ys is = ap (λ rest. x ∷ rest) is

longer : {Y : Type 0} (h : ℕ → Option Y) (a count : ℕ) (y : Y) → (a == count) ≡ false → (xs ys : List Y) → xs ≡ ys ++ y ∷ [] → cons_option (with_one h count y a) xs ≡ cons_option (h a) ys ++ y ∷ []
longer h a count y other xs ys is = ap (λ b. cons_option (if b then Some y else h a) xs) other ∙ longer_by (h a) y xs ys is

inserted : {Y : Type 0} (h : ℕ → Option Y) (count : ℕ) (y : Y) → ((p : ℕ) → count ≤ p → h p ≡ None) → (n a : ℕ) → a ≤ count → count < a + n → filter_map (with_one h count y) (range_with_len a n) ≡ filter_map h (range_with_len a n) ++ y ∷ []
inserted h count y none zero a low high = absurd (omega (arith, low, high))
inserted h count y none (suc n) a low high =
    by_truth (a == count)
    (λ here.
    let at : a ≡ count = grind (arith, nat_tests, here) in
    let rest = none_after (with_one h count y) (count + 1) (one_after h count y none) (a + 1) n (omega (arith, at)) in
    let before = none_after h count none (a + 1) n (omega (arith, at)) in
    let gone = none a (omega (arith, at)) in
    grind (arith, here, rest, before, gone))
    (λ other.
    let below : a + 1 ≤ count = grind (arith, nat_tests, other, low) in
    let next = inserted h count y none n (a + 1) below (omega (arith, high)) in
    longer h a count y other (filter_map (with_one h count y) (range_with_len (a + 1) n)) (filter_map h (range_with_len (a + 1) n)) next)

-- ---- the registration that gets its place

fewer_by : (b : Bool) (x : Registration) (ys : List Registration) (n : ℕ) → length ys < n → length (if b then x ∷ ys else ys) < suc n
fewer_by true x ys n is = omega (arith, is)
fewer_by false x ys n is = omega (arith, is)

more_by : (b : Bool) (x : Registration) (ys zs : List Registration) → length ys ≡ length zs + 1 → length (if b then x ∷ ys else ys) ≡ length (if b then x ∷ zs else zs) + 1
more_by true x ys zs is = omega (arith, is)
more_by false x ys zs is = omega (arith, is)

counted_less : (q : Registration → Bool) (rows : List Registration) (row : Registration) → find q rows ≡ Some row → row.first ≡ None → first_counter rows < length rows
counted_less q [] row found none = absurd cc
counted_less q (x ∷ xs) row found none =
    by_truth (q x)
    (λ here. let same : x ≡ row = grind (arith, found, here) in let gone : x.first ≡ None = ap (λ (r : Registration). r.first) same ∙ none in let few = counted_few xs in let is : first_counter (x ∷ xs) ≡ first_counter xs = grind (arith, gone) in omega (arith, few, is))
    (λ other. let few = counted_less q xs row (grind (arith, found, other)) none in fewer_by (is_some x.first) x (filter (λ r. is_some r.first) xs) (length xs) few)

counted_as : (number count : ℕ) (rows : List Registration) → list_all (λ x. not (x.number == number)) rows ≡ true → changed (is_registration number) (placed count) rows ≡ rows
counted_as number count [] is = refl
counted_as number count (x ∷ xs) is = grind (arith, is, counted_as number count xs)

counted_placed : (number count : ℕ) (rows : List Registration) (row : Registration) → apart (λ x y. x.number == y.number) rows ≡ true → find (is_registration number) rows ≡ Some row → row.first ≡ None → first_counter (changed (is_registration number) (placed count) rows) ≡ first_counter rows + 1
counted_placed number count [] row fine found none = absurd cc
counted_placed number count (x ∷ xs) row fine found none =
    let parts = and_parts (list_all (λ y. not (x.number == y.number)) xs) (apart (λ x y. x.number == y.number) xs) fine in
    by_truth (x.number == number)
    (λ here.
    let same : x ≡ row = grind (arith, found, here) in
    let gone : x.first ≡ None = ap (λ (r : Registration). r.first) same ∙ none in
    let rest = counted_as number count xs (all_weaker (λ y. not (x.number == y.number)) _ (λ y is. grind (arith, nat_tests, is, here)) xs parts.0) in
    let was : first_counter (x ∷ xs) ≡ first_counter xs = grind (arith, gone) in
    let now : first_counter (changed (is_registration number) (placed count) (x ∷ xs)) ≡ first_counter xs + 1 = grind (arith, here, gone, rest) in
    now ∙ ap (λ n. n + 1) (sym was))
    (λ other.
    let now : first_counter (changed (is_registration number) (placed count) (x ∷ xs)) ≡ first_counter (x ∷ changed (is_registration number) (placed count) xs) = grind (arith, other) in
    now ∙ more_by (is_some x.first) x (filter (λ r. is_some r.first) (changed (is_registration number) (placed count) xs)) (filter (λ r. is_some r.first) xs) (counted_placed number count xs row parts.1 (grind (arith, found, other)) none))

-- ---- its content and order

is_gone : (o : Option ℕ) → is_none o ≡ true → o ≡ None
is_gone None is = refl
is_gone (Some n) is = absurd cc

some_or : (o : Option ℕ) (n : ℕ) → is_some (option_or o (Some n)) ≡ true
some_or None n = refl
some_or (Some m) n = refl

firsts_by : (count number n m : ℕ) (first other : Option ℕ) → is_below count first ≡ true → is_below count other ≡ true → ((n == number) ≡ true → first ≡ None) → ((m == number) ≡ true → other ≡ None) → (option_map_or (is_number other) first false || n == m) ≡ false
    → option_map_or (is_number (if m == number then option_or other (Some count) else other)) (if n == number then option_or first (Some count) else first) false ≡ false
firsts_by count number n m None None below under one two fine = grind (arith, nat_tests, fine)
firsts_by count number n m None (Some b) below under one two fine = grind (arith, nat_tests, fine, under, one, two)
firsts_by count number n m (Some a) None below under one two fine = grind (arith, nat_tests, fine, below, one, two)
firsts_by count number n m (Some a) (Some b) below under one two fine = grind (arith, nat_tests, fine, below, under, one, two)

below_by : (count : ℕ) (here : Bool) (first : Option ℕ) → is_below count first ≡ true → is_below (count + 1) (if here then option_or first (Some count) else first) ≡ true
below_by count true None is = grind (arith, nat_tests)
below_by count true (Some n) is = grind (arith, nat_tests, is)
below_by count false None is = refl
below_by count false (Some n) is = grind (arith, nat_tests, is)

not_at : (count place : ℕ) (first : Option ℕ) → is_below count first ≡ true → (place == count) ≡ true → is_number first place ≡ false
not_at count place None below at = refl
not_at count place (Some n) below at = grind (arith, nat_tests, below, at)

idle_by : (waiting active : Option Worker) → is_worked (slots_of waiting active) ≡ false → slots_of waiting active ≡ slots_with None None false
idle_by None None is = refl
idle_by None (Some a) is = absurd cc
idle_by (Some w) None is = absurd cc
idle_by (Some w) (Some a) is = absurd cc

pub idle_slots : (workers : List Worker) (number : ℕ) → is_worked (slots_in workers number) ≡ false → slots_in workers number ≡ slots_with None None false
unfolding slots_in
idle_slots workers number is = idle_by (found_in workers slot.Waiting number) (found_in workers slot.Active number) is

preload_of : (preload : Bool) (value : List ℕ) → (not preload && bytes_eq value (codes "true")) ≡ true → preload ≡ false
preload_of preload value is = grind (arith, is)

value_of : (preload : Bool) (value : List ℕ) → (not preload && bytes_eq value (codes "true")) ≡ true → value ≡ codes "true"
value_of preload value is = bytes_eq_equal value (codes "true") (grind (arith, is))

fresh_kept : (row : Registration) (count : ℕ) (k : KeptWorker) → row.mapped ≡ true → row.preload ≡ false → row.preload_value ≡ codes "true" → kept_with (placed count row) (slots_with (Some k) None false) ≡ Some (first_waiting row.key row.scope row.mode k)
fresh_kept row count k mapped preload value = grind (arith, mapped, preload, value)

module _ (workers now : List Worker) (number : ℕ) (rows : List Registration) (row : Registration) (k : KeptWorker) (found : find (is_registration number) rows ≡ Some row) (mapped : row.mapped ≡ true) (none : row.first ≡ None) (order : Ordered rows workers)
    (here : (n : ℕ) → (n == number) ≡ true → slots_in now n ≡ slots_with (Some k) (slots_in workers n).active (slots_in workers n).activated) (others : (n : ℕ) → (n == number) ≡ false → slots_in now n ≡ slots_in workers n) where
  abbrev count : ℕ
  count = first_counter rows

  abbrev g : Registration → Registration
  g x = if is_registration number x then placed count x else x

  numbered : apart (λ x y. x.number == y.number) rows ≡ true
  numbered = places_apart (λ (x : Registration). x.number) rows order.sound.numbers

  -- the registrations of this number are mapped, and have no place
  abbrev is_new : Registration → Bool
  is_new x = is_none x.first && x.mapped

  news : list_all (λ x. not (x.number == number) || is_new x) rows ≡ true
  news = all_as_found (λ x y. x.number == y.number) (is_registration number) is_new (λ x y one other. grind (arith, nat_tests, one, other)) rows row numbered found (grind (arith, none, mapped))

  abbrev known : Registration → Bool
  known x = (is_below count x.first && (has_place workers x && is_fresh x)) && (not (x.number == number) || is_new x)

  knows : list_all known rows ≡ true
  knows = all_both _ _ rows (all_both _ _ rows order.below (all_both _ _ rows order.placed order.fresh)) news

  -- ---- order

  first_of : (x : Registration) → (g x).first ≡ (if x.number == number then option_or x.first (Some count) else x.first)
  first_of x = by_truth (x.number == number) (λ same. grind (arith, same)) (λ other. grind (arith, other))

  none_of : (x : Registration) → known x ≡ true → (x.number == number) ≡ true → x.first ≡ None
  none_of x know same = is_gone x.first (grind (arith, know, same))

  apart_plain : (x y : Registration) → known x ≡ true → known y ≡ true → (same_first x y || x.number == y.number) ≡ false → same_first (g x) (g y) ≡ false
  apart_plain x y one other fine =
      rw (first_of x, first_of y) (firsts_by count number x.number y.number x.first y.first (grind (arith, one)) (grind (arith, other)) (none_of x one) (none_of y other) fine)

  placed_in : (x : Registration) → known x ≡ true → has_place now (g x) ≡ true
  placed_in x know =
      by_truth (x.number == number)
      (λ same. grind (arith, same, here x.number same, some_or x.first count))
      (λ other. grind (arith, know, other, others x.number other))

  below_in : (x : Registration) → known x ≡ true → is_below (count + 1) (g x).first ≡ true
  below_in x know = rw (first_of x) (below_by count (x.number == number) x.first (grind (arith, know)))

  fresh_in : (x : Registration) → known x ≡ true → is_fresh (g x) ≡ true
  fresh_in x know =
      by_truth (x.number == number)
      (λ same. grind (arith, same, some_or x.first count))
      (λ other. grind (arith, know, other))

  pub first_ordered : SoundRegistrations (changed (is_registration number) (placed count) rows) → Ordered (changed (is_registration number) (placed count) rows) now
  first_ordered sound = record {
    sound = sound;
    firsts = apart_known known (λ x y. same_first x y || x.number == y.number) same_first g apart_plain rows knows (apart_both same_first _ rows order.firsts numbered);
    below = rw (counted_placed number count rows row numbered found none) (all_known known (λ x. true) _ g (λ x know is. below_in x know) rows knows (all_true rows));
    placed = all_known known (λ x. true) _ g (λ x know is. placed_in x know) rows knows (all_true rows);
    fresh = all_known known (λ x. true) _ g (λ x know is. fresh_in x know) rows knows (all_true rows);
  }

  -- ---- content

  abbrev new_row : KeptRegistration
  new_row = first_waiting row.key row.scope row.mode k

  row_known : known row ≡ true
  row_known = all_at_found (is_registration number) known rows row found knows

  unworked : is_worked (slots_in workers row.number) ≡ false
  unworked = grind (arith, row_known, mapped, none)

  was_not : kept_in workers row ≡ None
  was_not = grind (arith, unworked)

  is_new_row : kept_in now (placed count row) ≡ Some new_row
  is_new_row =
      let same : (row.number == number) ≡ true = find_passes (is_registration number) rows row found in
      let idle = idle_slots workers row.number unworked in
      let fresh_row : (not row.preload && bytes_eq row.preload_value (codes "true")) ≡ true = grind (arith, row_known, mapped, none) in
      ap (kept_with (placed count row)) (here row.number same)
      ∙ (ap (λ (slots : Slots). kept_with (placed count row) (slots_with (Some k) slots.active slots.activated)) idle
      ∙ fresh_kept row count k mapped (preload_of row.preload row.preload_value fresh_row) (value_of row.preload row.preload_value fresh_row))

  tail_same : (place : ℕ) (xs : List Registration) → list_all (λ x. not (x.number == number)) xs ≡ true → placed_at (kept_in now) place (map g xs) ≡ placed_at (kept_in workers) place xs
  tail_same place [] clear = refl
  tail_same place (x ∷ xs) clear =
      let parts = and_parts (not (x.number == number)) (list_all (λ y. not (y.number == number)) xs) clear in
      let other : (x.number == number) ≡ false = false_of parts.0 in
      let stays : kept_in now x ≡ kept_in workers x = ap (kept_with x) (others x.number other) in
      grind (arith, other, stays, tail_same place xs parts.1)

  head_placed : (place : ℕ) (x : Registration) (xs : List Registration) → (x.number == number) ≡ true → x ≡ row → placed_at (kept_in now) place (map g xs) ≡ placed_at (kept_in workers) place xs
      → placed_at (kept_in now) place (map g (x ∷ xs)) ≡ with_one (λ p. placed_at (kept_in workers) p (x ∷ xs)) count new_row place
  head_placed place x xs same one rest =
      let gone : kept_in workers x ≡ None = ap (kept_in workers) one ∙ was_not in
      let there : kept_in now (placed count x) ≡ Some new_row = ap (λ (r : Registration). kept_in now (placed count r)) one ∙ is_new_row in
      let first : (placed count x).first ≡ Some count = ap (λ (r : Registration). option_or r.first (Some count)) one ∙ ap (λ o. option_or o (Some count)) none in
      grind (arith, nat_tests, same, gone, there, first, rest)

  tail_placed : (place : ℕ) (x : Registration) (xs : List Registration) → (x.number == number) ≡ false → is_below count x.first ≡ true → placed_at (kept_in now) place (map g xs) ≡ with_one (λ p. placed_at (kept_in workers) p xs) count new_row place
      → placed_at (kept_in now) place (map g (x ∷ xs)) ≡ with_one (λ p. placed_at (kept_in workers) p (x ∷ xs)) count new_row place
  tail_placed place x xs other below rest =
      let stays : kept_in now x ≡ kept_in workers x = ap (kept_with x) (others x.number other) in
      let apart_from : (place == count) ≡ true → is_number x.first place ≡ false = λ at. not_at count place x.first below at in
      grind (arith, other, stays, apart_from, rest)

  placed_new : (place : ℕ) (xs : List Registration) → list_all known xs ≡ true → apart (λ x y. x.number == y.number) xs ≡ true → find (is_registration number) xs ≡ Some row
      → placed_at (kept_in now) place (map g xs) ≡ with_one (λ p. placed_at (kept_in workers) p xs) count new_row place
  placed_new place [] know fine is = absurd cc
  placed_new place (x ∷ xs) know fine is =
      let parts = and_parts (list_all (λ y. not (x.number == y.number)) xs) (apart (λ x y. x.number == y.number) xs) fine in
      let knows_both = and_parts (known x) (list_all known xs) know in
      by_truth (x.number == number)
      (λ same.
      let one : x ≡ row = grind (arith, is, same) in
      let rest = tail_same place xs (all_weaker (λ y. not (x.number == y.number)) _ (λ y clear. grind (arith, nat_tests, clear, same)) xs parts.0) in
      head_placed place x xs same one rest)
      (λ other. tail_placed place x xs other (grind (arith, knows_both.0)) (placed_new place xs knows_both.1 parts.1 (grind (arith, is, other))))

  pub first_contents : contents now (changed (is_registration number) (placed count) rows) ≡ contents workers rows ++ new_row ∷ []
  first_contents =
      ap (λ n. filter_map (λ place. placed_at (kept_in now) place (map g rows)) (range_with_len 0 n)) (length-map rows g)
      ∙ (mapped_same _ _ (λ place. placed_new place rows knows numbered found) (range_with_len 0 (length rows))
      ∙ inserted (λ place. placed_at (kept_in workers) place rows) count new_row (λ place above. never_placed (kept_in workers) place rows above order.below) (length rows) 0 (omega arith) (omega (arith, counted_less (is_registration number) rows row found none)))
