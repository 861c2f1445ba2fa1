-- What is kept where an installing worker becomes the waiting one.
use Rattle.std.proofs.Common.{◌≡◌, ◌∙◌, ℕ, zero, suc, ◌+◌, ◌<◌, ◌≤◌, Bool, true, false, not, ◌&&◌, ◌||◌, ◌==◌, List, [], ◌∷◌, ◌++◌, Option, Some, None, option_map, length, refl, sym, ap, subst, true≢false, arith, if◌then◌else◌}
use Rattle.std.specs.List.{cons_option, list_all, list_any, filter_map, range_with_len}
use Rattle.std.specs.Prelude.{bytes_eq, find, is_some, option_and_then}
use Rattle.std.specs.Option.{option_map_or, option_or}
use Rattle.std.proofs.lemmas.Bool.{and_parts}
use Rattle.std.proofs.lemmas.Bool.Decides.{nat_tests}
use Rattle.sw_data.specs.declared.storage.Kept.{Kept}
use Rattle.sw_data.specs.declared.storage.KeptRegistration.{KeptRegistration}
use Rattle.sw_data.specs.declared.storage.KeptWorker.{KeptWorker}
use Rattle.sw_data.specs.declared.workers.Mode.{Mode}
use Rattle.sw_data.specs.declared.workers.Mode.TheVariants as mode_of
use Rattle.sw_data.specs.declared.workers.Slot.TheVariants as slot
use Rattle.sw_rules.specs.Installing.{become_waiting, first_counter, kept_worker, owe_try_activate, placed}
use Rattle.sw_rules.specs.Jobs.{same_mode}
use Rattle.sw_rules.specs.Rows.{changed, is_mapped_to, is_number, is_registration, registration_row}
use Rattle.sw_rules.specs.State.{State, Registration, Worker}
use Rattle.sw_rules.specs.Storage.{first_waiting, kept_after, with_waiting}
use Rattle.sw_rules.specs.Storage as storage
use Rattle.sw_laws.specs.Coherent.{SoundRegistrations, apart}
use Rattle.sw_laws.proofs.AtOnce.{install_state, shift, waiting_changes}
use Rattle.sw_laws.proofs.Contents.{Slots, contents, found_in, is_worked, kept_in, kept_row, kept_with, placed_at, same_first, slots_in}
use Rattle.sw_laws.proofs.KeptFirst.{first_contents, first_ordered}
use Rattle.sw_laws.proofs.KeptRechecks.{KeepsRows, number_is}
use Rattle.sw_laws.proofs.KeptRows.{counted_few, same_mode_equal}
use Rattle.sw_laws.proofs.Lists.{all_both, all_weaker, by_test, by_truth, bytes_eq_same, find_passes, found_clear}
use Rattle.sw_laws.proofs.Ordered.{ChangesOne, Ordered, has_place, is_below, is_fresh, mapped_alone, moves_kept, only, ordered_moved, with_only}
use Rattle.sw_laws.proofs.Places.{all_as_found, all_at_found, places_apart}
use Rattle.sw_laws.proofs.SlotMoves.{slots_apart, slots_installed, slots_with}

-- ---- what is listed

listed_behind : {Y : Type 0} (test : Y → Bool) (o : Option Y) (ys : List Y) → list_any test ys ≡ true → list_any test (cons_option o ys) ≡ true
listed_behind test None ys is = is
listed_behind test (Some y) ys is = grind (arith, is)

unlisted_by : {Y : Type 0} (test : Y → Bool) (o : Option Y) (ys : List Y) → option_map_or test o false ≡ false → list_any test ys ≡ false → list_any test (cons_option o ys) ≡ false
unlisted_by test None ys none is = is
unlisted_by test (Some y) ys none is = grind (arith, none, is)

not_first : (first other : Option ℕ) (place : ℕ) → option_map_or (is_number other) first false ≡ false → other ≡ Some place → is_number first place ≡ false
not_first None other place clear is = refl
not_first (Some n) other place clear is = grind (arith, nat_tests, clear, is)

-- an item of a place in a range is listed
listed : {Y : Type 0} (test : Y → Bool) (h : ℕ → Option Y) (place : ℕ) (y : Y) → h place ≡ Some y → test y ≡ true → (n a : ℕ) → a ≤ place → place < a + n → list_any test (filter_map h (range_with_len a n)) ≡ true
listed test h place y is passes zero a low high = absurd (omega (arith, low, high))
listed test h place y is passes (suc n) a low high =
    by_truth (a == place)
    (λ here. let at : h a ≡ Some y = ap h (number_is a place here) ∙ is in grind (arith, at, passes))
    (λ other. listed_behind test (h a) (filter_map h (range_with_len (a + 1) n)) (listed test h place y is passes n (a + 1) (grind (arith, nat_tests, other, low)) (omega (arith, high))))

-- where no item passes, none is listed
unlisted : {Y : Type 0} (test : Y → Bool) (h : ℕ → Option Y) → ((p : ℕ) → option_map_or test (h p) false ≡ false) → (xs : List ℕ) → list_any test (filter_map h xs) ≡ false
unlisted test h none [] = refl
unlisted test h none (x ∷ xs) = unlisted_by test (h x) (filter_map h xs) (none x) (unlisted test h none xs)

-- where no registration passes, none that is placed does
unplaced : (test : KeptRegistration → Bool) (kept : Registration → Option KeptRegistration) (place : ℕ) (rows : List Registration) → list_all (λ row. not (option_map_or test (kept row) false)) rows ≡ true → option_map_or test (placed_at kept place rows) false ≡ false
unplaced test kept place [] none = refl
unplaced test kept place (row ∷ rows) none = grind (arith, none, unplaced test kept place rows)

-- the registration that is found stands at its place
stands : (kept : Registration → Option KeptRegistration) (q : Registration → Bool) (place : ℕ) (k : KeptRegistration) (rows : List Registration) (row : Registration) → apart same_first rows ≡ true → find q rows ≡ Some row → row.first ≡ Some place → kept row ≡ Some k → placed_at kept place rows ≡ Some k
stands kept q place k [] row fine found first is = absurd cc
stands kept q place k (x ∷ xs) row fine found first is =
    let parts = and_parts (list_all (λ y. not (same_first x y)) xs) (apart same_first xs) fine in
    by_truth (q x)
    (λ here. let one : x ≡ row = grind (arith, found, here) in
    let at : x.first ≡ Some place = ap (λ (r : Registration). r.first) one ∙ first in
    let own : kept x ≡ Some k = ap kept one ∙ is in
    grind (arith, nat_tests, at, own))
    (λ other.
    let later : find q xs ≡ Some row = grind (arith, found, other) in
    let clear : same_first x row ≡ false = found_clear same_first q x xs row parts.0 later in
    let apart_from = not_first x.first row.first place clear first in
    grind (arith, apart_from, stands kept q place k xs row parts.1 later first is))

-- ---- the installing worker becomes the waiting one

same_mode_own : (mode : Mode) → same_mode mode mode ≡ true
same_mode_own mode_of.Imports = refl
same_mode_own mode_of.All = refl
same_mode_own mode_of.Never = refl

abbrev in_debt : Registration → Registration
in_debt row = record row { owed = true }

some_first : (first : Option ℕ) (count : ℕ) → is_some first ≡ true → option_or first (Some count) ≡ first
some_first None count is = absurd cc
some_first (Some n) count is = refl

placed_by : (here : Bool) (count : ℕ) (x : Registration) (ys zs : List Registration) → (not here || is_some x.first) ≡ true → ys ≡ zs → (if here then placed count x else x) ∷ ys ≡ (if here then in_debt x else x) ∷ zs
placed_by false count x ys zs is same = ap (λ rest. x ∷ rest) same
placed_by true count x ys zs is same = let own : placed count x ≡ in_debt x = ap (λ o. record x { first = o; owed = true }) (some_first x.first count is) in cc (own, same)

-- a registration that has its place keeps it
placed_alike : (number count : ℕ) (rows : List Registration) → list_all (λ x. not (x.number == number) || is_some x.first) rows ≡ true → changed (is_registration number) (placed count) rows ≡ changed (is_registration number) in_debt rows
placed_alike number count [] is = refl
placed_alike number count (x ∷ xs) is = placed_by (x.number == number) count x _ _ (and_parts _ _ is).0 (placed_alike number count xs (and_parts _ _ is).1)

waiting_kept : (x : Registration) (waiting active : Option KeptWorker) (activated : Bool) (k : KeptWorker) (mode : Mode) → x.mode ≡ mode → (not x.mapped || (is_some waiting || is_some active)) ≡ true
    → kept_with (in_debt x) (slots_with (Some k) active activated) ≡ option_and_then (λ (old : KeptRegistration). Some (record old { mode = mode; waiting = Some k })) (kept_with x (slots_with waiting active activated))
waiting_kept x waiting active activated k mode same worked = grind (arith, same, worked)

unseen : (test : KeptRegistration → Bool) (o : Option KeptRegistration) → is_some o ≡ false → not (option_map_or test o false) ≡ true
unseen test None is = refl
unseen test (Some k) is = absurd cc

unkeyed : (key scope : List ℕ) (x : Registration) (slots : Slots) → is_mapped_to key scope x ≡ false → not (option_map_or (storage.is_registration key scope) (kept_with x slots) false) ≡ true
unkeyed key scope x slots is = grind (arith, is)

lower_than : (place count n : ℕ) (first : Option ℕ) → first ≡ Some place → is_below count first ≡ true → count ≤ n → place < n
lower_than place count n None is below few = absurd cc
lower_than place count n (Some m) is below few = let same : m ≡ place = cc in grind (arith, nat_tests, same, below, few)

module _ (state : State) (number : ℕ) (worker : Worker) (row : Registration) (found : registration_row state number ≡ Some row) (mapped : row.mapped ≡ true)
    (installs : option_map kept_worker (found_in state.workers slot.Installing number) ≡ Some (kept_worker worker)) (order : Ordered state.registrations state.workers) where
  abbrev rows : List Registration
  rows = state.registrations

  abbrev now : List Worker
  now = shift number install_state state.workers

  abbrev k : KeptWorker
  k = kept_worker worker

  abbrev now_rows : List Registration
  now_rows = changed (is_registration number) (placed (first_counter rows)) rows

  here : (n : ℕ) → (n == number) ≡ true → slots_in now n ≡ slots_with (Some k) (slots_in state.workers n).active (slots_in state.workers n).activated
  here n same =
      subst (λ m. slots_in now m ≡ slots_with (Some k) (slots_in state.workers m).active (slots_in state.workers m).activated) (sym (number_is n number same))
      (slots_installed state.workers number ∙ ap (λ (o : Option KeptWorker). slots_with o (slots_in state.workers number).active (slots_in state.workers number).activated) installs)

  others : (n : ℕ) → (n == number) ≡ false → slots_in now n ≡ slots_in state.workers n
  others n other = slots_apart number (λ x. record x { state = install_state x.state }) (λ x. refl) state.workers n other

  numbered : apart (λ x y. x.number == y.number) rows ≡ true
  numbered = places_apart (λ (x : Registration). x.number) rows order.sound.numbers

  abbrev makes : Kept → Type 0
  makes kept = with_waiting row.key row.scope row.mode k kept.registrations ≡ contents now now_rows

  of_key : (bytes_eq row.key row.key && bytes_eq row.scope row.scope) ≡ true
  of_key = grind (arith, bytes_eq_same row.key, bytes_eq_same row.scope)

  -- where it has a place already
  module _ (place : ℕ) (first : row.first ≡ Some place) where
    abbrev is_old : Registration → Bool
    is_old x = is_some x.first && (same_mode x.mode row.mode && x.mapped)

    olds : list_all (λ x. not (x.number == number) || is_old x) rows ≡ true
    olds = all_as_found (λ x y. x.number == y.number) (is_registration number) is_old (λ x y one other. grind (arith, nat_tests, one, other)) rows row numbered found (grind (arith, first, mapped, same_mode_own row.mode))

    abbrev known : Registration → Bool
    known x = has_place state.workers x && (not (x.number == number) || is_old x)

    knows : list_all known rows ≡ true
    knows = all_both _ _ rows order.placed olds

    rows_are : now_rows ≡ changed (is_registration number) in_debt rows
    rows_are = placed_alike number (first_counter rows) rows (all_weaker (λ x. not (x.number == number) || is_old x) _ (λ x is. grind (arith, is)) rows olds)

    worked_of : (x : Registration) → known x ≡ true → (x.number == number) ≡ true → is_worked (slots_in state.workers x.number) ≡ true
    worked_of x know same = grind (arith, know, same)

    waits : ChangesOne state.workers now number in_debt (λ old. Some (record old { mode = row.mode; waiting = Some k })) known
    waits = record {
      here = λ x same know. ap (kept_with (in_debt x)) (here x.number same)
          ∙ waiting_kept x (slots_in state.workers x.number).waiting (slots_in state.workers x.number).active (slots_in state.workers x.number).activated k row.mode (same_mode_equal x.mode row.mode (grind (arith, know, same))) (grind (arith, worked_of x know same));
      others = others;
    }

    again_ordered : SoundRegistrations (changed (is_registration number) in_debt rows) → Ordered (changed (is_registration number) in_debt rows) now
    again_ordered sound =
        ordered_moved (λ x. if is_registration number x then in_debt x else x) state.workers now known (record {
          first = λ x. by_test (λ (r : Registration). r.first ≡ x.first) (is_registration number x) _ x (λ same. refl) (λ other. refl);
          worked = λ x know. by_test (λ (r : Registration). r.mapped ≡ true → (x.mapped ≡ true) × (is_worked (slots_in now r.number) ≡ is_worked (slots_in state.workers x.number))) (is_registration number x) _ x
              (λ same is. (is, ap is_worked (here x.number same) ∙ sym (worked_of x know same))) (λ other is. (is, ap is_worked (others x.number other)));
          fresh = λ x know was. by_test (λ (r : Registration). is_fresh r ≡ true) (is_registration number x) _ x (λ same. was) (λ other. was);
        }) rows knows sound order

    row_known : known row ≡ true
    row_known = all_at_found (is_registration number) known rows row found knows

    row_same : (row.number == number) ≡ true
    row_same = find_passes (is_registration number) rows row found

    was_kept : kept_in state.workers row ≡ Some (kept_row row (slots_in state.workers row.number))
    was_kept = grind (arith, mapped, worked_of row row_known row_same)

    below_row : place < length rows
    below_row = lower_than place (first_counter rows) (length rows) row.first first (all_at_found (is_registration number) (λ x. is_below (first_counter rows) x.first) rows row found order.below) (counted_few rows)

    is_listed : list_any (storage.is_registration row.key row.scope) (contents state.workers rows) ≡ true
    is_listed = listed (storage.is_registration row.key row.scope) (λ p. placed_at (kept_in state.workers) p rows) place (kept_row row (slots_in state.workers row.number)) (stands (kept_in state.workers) (is_registration number) place _ rows row order.firsts found first was_kept) of_key (length rows) 0 (omega arith) (omega (arith, below_row))

    again_makes : (kept : Kept) → kept.registrations ≡ contents state.workers rows → makes kept
    again_makes kept same =
        by_test (λ (list : List KeptRegistration). list ≡ contents now now_rows) (list_any (storage.is_registration row.key row.scope) kept.registrations) _ _
        (λ there. with_only row.key row.scope (λ old. record old { mode = row.mode; waiting = Some k }) kept.registrations
        ∙ (ap (filter_map (only row.key row.scope (λ old. Some (record old { mode = row.mode; waiting = Some k })))) same
        ∙ (sym (moves_kept state now number in_debt (λ old. Some (record old { mode = row.mode; waiting = Some k })) known waits (λ x. refl) knows order row found (ap is_some was_kept)) ∙ ap (contents now) (sym rows_are))))
        (λ none. absurd (true≢false (sym is_listed ∙ (ap (list_any (storage.is_registration row.key row.scope)) (sym same) ∙ none))))

  -- where it gets its first waiting worker
  module _ (first : row.first ≡ None) where
    row_placed : has_place state.workers row ≡ true
    row_placed = all_at_found (is_registration number) (has_place state.workers) rows row found order.placed

    not_worked : is_worked (slots_in state.workers row.number) ≡ false
    not_worked = grind (arith, row_placed, mapped, first)

    was_not : kept_in state.workers row ≡ None
    was_not = grind (arith, not_worked)

    abbrev test : KeptRegistration → Bool
    test = storage.is_registration row.key row.scope

    none_keyed : list_all (λ x. not (option_map_or test (kept_in state.workers x) false)) rows ≡ true
    none_keyed =
        all_weaker (λ x. (not (is_mapped_to row.key row.scope x) || x.number == number) && (not (x.number == number) || not (is_some (kept_in state.workers x)))) _
        (λ x is. by_truth (is_mapped_to row.key row.scope x) (λ keyed. unseen test (kept_in state.workers x) (grind (arith, is, keyed))) (λ other. unkeyed row.key row.scope x (slots_in state.workers x.number) other))
        rows
        (all_both _ _ rows (mapped_alone number rows row order.sound.scopes found mapped)
        (all_as_found (λ x y. x.number == y.number) (is_registration number) (λ x. not (is_some (kept_in state.workers x))) (λ x y one other. grind (arith, nat_tests, one, other)) rows row numbered found (grind (arith, was_not))))

    not_listed : list_any test (contents state.workers rows) ≡ false
    not_listed = unlisted test (λ place. placed_at (kept_in state.workers) place rows) (λ place. unplaced test (kept_in state.workers) place rows none_keyed) (range_with_len 0 (length rows))

    first_makes : (kept : Kept) → kept.registrations ≡ contents state.workers rows → makes kept
    first_makes kept same =
        by_test (λ (list : List KeptRegistration). list ≡ contents now now_rows) (list_any test kept.registrations) _ _
        (λ there. absurd (true≢false (sym there ∙ (ap (list_any test) same ∙ not_listed))))
        (λ none. ap (λ (list : List KeptRegistration). list ++ first_waiting row.key row.scope row.mode k ∷ []) same ∙ sym (first_contents state.workers now number rows row k found mapped first order here others))

  both_ways : (first : Option ℕ) → row.first ≡ first → SoundRegistrations now_rows → Ordered now_rows now × ((kept : Kept) → kept.registrations ≡ contents state.workers rows → makes kept)
  both_ways None first sound = (first_ordered state.workers now number rows row k found mapped first order here others sound, first_makes first)
  both_ways (Some place) first sound = (subst (λ xs. Ordered xs now) (sym (rows_are place first)) (again_ordered place first (subst SoundRegistrations (rows_are place first) sound)), again_makes place first)

  pub waiting_keeps : (become_waiting state number worker).state ≡ record state { registrations = now_rows; workers = now } → SoundRegistrations now_rows
      → Ordered (become_waiting state number worker).state.registrations (become_waiting state number worker).state.workers × KeepsRows state (become_waiting state number worker)
  unfolding owe_try_activate
  waiting_keeps at_once sound =
      let both = both_ways row.first refl sound in
      let makes_it : (kept : Kept) → kept.registrations ≡ contents state.workers rows → (kept_after kept (owe_try_activate state number worker).changes).registrations ≡ contents now now_rows = λ kept same. rw found (both.1 kept same) in (
        subst (λ (s : State). Ordered s.registrations s.workers) (sym at_once) both.0,
        λ kept same. ap (λ changes. (kept_after kept changes).registrations) (waiting_changes state number worker) ∙ (makes_it kept same ∙ ap (λ (s : State). contents s.workers s.registrations) (sym at_once)),
      )
