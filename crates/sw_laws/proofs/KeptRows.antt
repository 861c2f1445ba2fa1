-- What is kept where registrations are mapped, leave the map, and get a mode or a preload.
use Rattle.std.proofs.Common.{◌≡◌, ◌∙◌, ℕ, suc, ◌+◌, ◌≤◌, Bool, true, false, not, ◌&&◌, ◌||◌, ◌==◌, List, [], ◌∷◌, ◌++◌, filter, Option, Some, None, option_map, length, refl, sym, ap, subst, true≢false, arith, if◌then◌else◌}
use Rattle.std.specs.List.{list_all, filter_map, range_with_len}
use Rattle.std.specs.Prelude.{codes, find, is_some, nat_lt, option_and_then}
use Rattle.std.specs.Option.{option_map_or}
use Rattle.std.proofs.lemmas.Bool.Decides.{nat_tests}
use Rattle.std.proofs.lemmas.List.{append-nil}
use Rattle.std.proofs.lemmas.List.Elements.{filter_map-append}
use Rattle.sw_data.specs.Sameness.{same_truth}
use Rattle.sw_data.specs.declared.rows.Job.{Job}
use Rattle.sw_data.specs.declared.storage.Change.{Change}
use Rattle.sw_data.specs.declared.storage.Change.TheVariants as change
use Rattle.sw_data.specs.declared.storage.Kept.{Kept}
use Rattle.sw_data.specs.declared.storage.KeptRegistration.{KeptRegistration}
use Rattle.sw_data.specs.declared.workers.Slot.TheVariants as slot
use Rattle.sw_data.specs.declared.workers.Mode.{Mode}
use Rattle.sw_data.specs.declared.workers.Mode.TheVariants as mode_of
use Rattle.sw_rules.specs.Activating.{paid}
use Rattle.sw_rules.specs.Installing.{first_counter}
use Rattle.sw_rules.specs.Jobs.{same_mode}
use Rattle.sw_rules.specs.Preloading.{has_preload, set_preload}
use Rattle.sw_rules.specs.Registrations.{map_registration, new_registration, set_mode, unmap}
use Rattle.sw_rules.specs.Rows.{active_worker_number, changed, in_slot, is_number, is_registration, registration_row}
use Rattle.sw_rules.specs.State.{State, Registration, Worker}
use Rattle.sw_rules.specs.Storage.{applied, kept_after}
use Rattle.sw_rules.specs.Told.{kept_change}
use Rattle.sw_laws.specs.Coherent.{SoundRegistrations, apart}
use Rattle.sw_laws.proofs.Contents.{Slots, contents, contents_moved, found_in, is_worked, kept_in, kept_with, mapped_same, none_placed, placed_at, same_first, slots_in}
use Rattle.sw_laws.proofs.KeptRechecks.{KeepsRows, number_is}
use Rattle.sw_laws.proofs.Lists.{all_true, all_weaker, by_test, bytes_eq_equal, bytes_eq_same, length_pushed}
use Rattle.sw_laws.proofs.Ordered.{ChangesOne, Ordered, all_stay, has_place, is_below, is_fresh, only, ordered_moved, recorded, then_some, with_only, without_only}
use Rattle.sw_laws.proofs.Places.{all_as_found, all_not_found, all_pushed, apart_pushed, places_apart, range_pushed}
use Rattle.sw_laws.proofs.SlotMoves.{slots_with}

-- ---- changes of registrations alone

-- a change of some registrations that keeps their places and maps none
pub ordered_plain : (workers : List Worker) (test : Registration → Bool) (g : Registration → Registration) → ((x : Registration) → (g x).first ≡ x.first) → ((x : Registration) → (g x).number ≡ x.number) → ((x : Registration) → (g x).mapped ≡ true → x.mapped ≡ true) → (known : Registration → Bool) → ((x : Registration) → known x ≡ true → test x ≡ true → is_fresh x ≡ true → is_fresh (g x) ≡ true)
    → (rows : List Registration) → list_all known rows ≡ true → SoundRegistrations (changed test g rows) → Ordered rows workers → Ordered (changed test g rows) workers
ordered_plain workers test g first number mapped known fresh rows knows sound order =
    ordered_moved (λ row. if test row then g row else row) workers workers known (record {
      first = λ x. by_test (λ (row : Registration). row.first ≡ x.first) (test x) _ x (λ here. first x) (λ other. refl);
      worked = λ x know. by_test (λ (row : Registration). row.mapped ≡ true → (x.mapped ≡ true) × (is_worked (slots_in workers row.number) ≡ is_worked (slots_in workers x.number))) (test x) _ x
          (λ here is. (mapped x is, ap (λ n. is_worked (slots_in workers n)) (number x))) (λ other is. (is, refl));
      fresh = λ x know was. by_test (λ (row : Registration). is_fresh row ≡ true) (test x) _ x (λ here. fresh x know here was) (λ other. was);
    }) rows knows sound order

-- a change of the registration of a number, of which what is kept changes as is recorded
changes_plain : (workers : List Worker) (number : ℕ) (g : Registration → Registration) (f : KeptRegistration → Option KeptRegistration) → ((x : Registration) (slots : Slots) → kept_with (g x) slots ≡ option_and_then f (kept_with x slots)) → ((x : Registration) → (g x).number ≡ x.number)
    → ChangesOne workers workers number g f (λ x. true)
changes_plain workers number g f is same = record {
  here = λ x at know. ap (λ n. kept_with (g x) (slots_in workers n)) (same x) ∙ is x (slots_in workers x.number);
  others = λ n other. refl;
}

recorded_plain : (state : State) (number : ℕ) (g : Registration → Registration) (f : KeptRegistration → Option KeptRegistration) (change_of : Registration → Change)
    → ((x : Registration) (slots : Slots) → kept_with (g x) slots ≡ option_and_then f (kept_with x slots)) → ((x : Registration) → (g x).number ≡ x.number) → ((x : Registration) → (g x).first ≡ x.first)
    → ((row : Registration) (kept : Kept) → (applied kept (change_of row)).registrations ≡ filter_map (only row.key row.scope f) kept.registrations) → Ordered state.registrations state.workers
    → (kept : Kept) → kept.registrations ≡ contents state.workers state.registrations → (kept_after kept (kept_change state number change_of)).registrations ≡ contents state.workers (changed (is_registration number) g state.registrations)
recorded_plain state number g f change_of is same first does order kept rows =
    recorded state state.workers number g f (λ x. true) (changes_plain state.workers number g f is same) first (all_true state.registrations) order change_of does kept rows

-- ---- leaving the map

gone_of : (x : Registration) (slots : Slots) → kept_with (record x { mapped = false }) slots ≡ option_and_then (λ k. None) (kept_with x slots)
gone_of x slots = grind arith

pub unmap_ordered : (state : State) (registration : ℕ) → SoundRegistrations (unmap state registration).state.registrations → Ordered state.registrations state.workers → Ordered (unmap state registration).state.registrations state.workers
unfolding unmap
unmap_ordered state registration sound order = ordered_plain state.workers (is_registration registration) (λ row. record row { mapped = false }) (λ x. refl) (λ x. refl) (λ x is. absurd (true≢false (sym is))) (λ x. true) (λ x know here was. refl) state.registrations (all_true state.registrations) sound order

pub unmap_rows : (state : State) (registration : ℕ) → Ordered state.registrations state.workers → KeepsRows state (unmap state registration)
unfolding unmap
unmap_rows state registration order = recorded_plain state registration (λ row. record row { mapped = false }) (λ k. None) (λ row. change.Gone row.key row.scope) gone_of (λ x. refl) (λ x. refl) (λ row kept. without_only row.key row.scope kept.registrations) order

-- ---- mode and preload

changed_same : (test q : Registration → Bool) (g : Registration → Registration) → ((x : Registration) → q x ≡ true → g x ≡ x) → (rows : List Registration) → list_all (λ x. not (test x) || q x) rows ≡ true → changed test g rows ≡ rows
changed_same test q g same [] is = refl
changed_same test q g same (row ∷ rows) is = grind (arith, is, same row, changed_same test q g same rows)

as_found : (q : Registration → Bool) (number : ℕ) (rows : List Registration) → apart (λ x y. x.number == y.number) rows ≡ true → (found : Option Registration) → find (is_registration number) rows ≡ found → option_map_or q found true ≡ true → list_all (λ x. not (x.number == number) || q x) rows ≡ true
as_found q number rows fine None found is = all_not_found (is_registration number) q rows found
as_found q number rows fine (Some row) found is = all_as_found (λ x y. x.number == y.number) (is_registration number) q (λ x y one other. grind (arith, nat_tests, one, other)) rows row fine found is

-- a registration gets something that it may have already
set_by : (state : State) (number : ℕ) (g : Registration → Registration) (q : Registration → Bool) (changes : List Change) → ((x : Registration) → q x ≡ true → g x ≡ x) → Ordered state.registrations state.workers
    → ((kept : Kept) → kept.registrations ≡ contents state.workers state.registrations → (kept_after kept changes).registrations ≡ contents state.workers (changed (is_registration number) g state.registrations))
    → (kept : Kept) → kept.registrations ≡ contents state.workers state.registrations → (kept_after kept (if option_map_or q (registration_row state number) true then [] else changes)).registrations ≡ contents state.workers (changed (is_registration number) g state.registrations)
set_by state number g q changes same order makes kept rows =
    by_test (λ (list : List Change). (kept_after kept list).registrations ≡ contents state.workers (changed (is_registration number) g state.registrations)) (option_map_or q (registration_row state number) true) _ _
    (λ has. rows ∙ ap (contents state.workers) (sym (changed_same (is_registration number) q g same state.registrations (as_found q number state.registrations (places_apart (λ (x : Registration). x.number) state.registrations order.sound.numbers) (registration_row state number) refl has))))
    (λ other. makes kept rows)

pub same_mode_equal : (one other : Mode) → same_mode one other ≡ true → one ≡ other
same_mode_equal mode_of.Imports mode_of.Imports is = refl
same_mode_equal mode_of.Imports mode_of.All is = absurd cc
same_mode_equal mode_of.Imports mode_of.Never is = absurd cc
same_mode_equal mode_of.All mode_of.Imports is = absurd cc
same_mode_equal mode_of.All mode_of.All is = refl
same_mode_equal mode_of.All mode_of.Never is = absurd cc
same_mode_equal mode_of.Never mode_of.Imports is = absurd cc
same_mode_equal mode_of.Never mode_of.All is = absurd cc
same_mode_equal mode_of.Never mode_of.Never is = refl

mode_of_kept : (mode : Mode) (x : Registration) (slots : Slots) → kept_with (record x { mode = mode }) slots ≡ option_and_then (λ (k : KeptRegistration). Some (record k { mode = mode })) (kept_with x slots)
mode_of_kept mode x slots = grind arith

pub mode_ordered : (state : State) (registration : ℕ) (mode : Mode) → SoundRegistrations (set_mode state registration mode).state.registrations → Ordered state.registrations state.workers → Ordered (set_mode state registration mode).state.registrations state.workers
unfolding set_mode
mode_ordered state registration mode sound order = ordered_plain state.workers (is_registration registration) (λ row. record row { mode = mode }) (λ x. refl) (λ x. refl) (λ x is. is) (λ x. true) (λ x know here was. was) state.registrations (all_true state.registrations) sound order

pub mode_rows : (state : State) (registration : ℕ) (mode : Mode) → Ordered state.registrations state.workers → KeepsRows state (set_mode state registration mode)
unfolding set_mode
mode_rows state registration mode order =
    set_by state registration (λ row. record row { mode = mode }) (λ row. same_mode row.mode mode) _ (λ x is. ap (λ m. record x { mode = m }) (sym (same_mode_equal x.mode mode is))) order
    (recorded_plain state registration (λ row. record row { mode = mode }) (λ k. Some (record k { mode = mode })) (λ row. change.Mode row.key row.scope mode) (mode_of_kept mode) (λ x. refl) (λ x. refl) (λ row kept. with_only row.key row.scope (λ k. record k { mode = mode }) kept.registrations) order)

same_truth_equal : (one other : Bool) → same_truth one other ≡ true → one ≡ other
same_truth_equal one other is = grind (arith, is)

preload_of_kept : (on : Bool) (text : List ℕ) (x : Registration) (slots : Slots) → kept_with (record x { preload = on; preload_value = text }) slots ≡ option_and_then (λ (k : KeptRegistration). Some (record k { preload = on; preload_value = text })) (kept_with x slots)
preload_of_kept on text x slots = grind arith

has_already : (on : Bool) (text : List ℕ) (x : Registration) → has_preload on text x ≡ true → record x { preload = on; preload_value = text } ≡ x
has_already on text x is =
    let flag = same_truth_equal x.preload on (grind (arith, is)) in
    let value = bytes_eq_equal x.preload_value text (grind (arith, is)) in
    ap (λ b. record x { preload = b; preload_value = text }) (sym flag) ∙ ap (λ t. record x { preload_value = t }) (sym value)

active_seen : (workers : List Worker) (registration : ℕ) → is_some (option_map (λ (w : Worker). w.number) (found_in workers slot.Active registration)) ≡ true → is_worked (slots_in workers registration) ≡ true
unfolding slots_in
active_seen workers registration is = grind (arith, is)

-- a mapped registration with an active worker has a place
placed_fresh : (x : Registration) (on : Bool) (text : List ℕ) (worked : Bool) → (not x.mapped || same_truth (is_some x.first) worked) ≡ true → worked ≡ true → is_fresh (record x { preload = on; preload_value = text }) ≡ true
placed_fresh x on text worked placed is = grind (arith, placed, is)

pub preload_ordered : (state : State) (registration : ℕ) (on : Bool) (text : List ℕ) → is_some (active_worker_number state registration) ≡ true → SoundRegistrations (set_preload state registration on text).state.registrations → Ordered state.registrations state.workers → Ordered (set_preload state registration on text).state.registrations state.workers
unfolding set_preload
preload_ordered state registration on text active sound order =
    let worked = active_seen state.workers registration active in
    ordered_plain state.workers (is_registration registration) (λ row. record row { preload = on; preload_value = text }) (λ x. refl) (λ x. refl) (λ x is. is) (has_place state.workers)
    (λ x placed here was. placed_fresh x on text (is_worked (slots_in state.workers x.number)) placed (subst (λ n. is_worked (slots_in state.workers n) ≡ true) (sym (number_is x.number registration here)) worked)) state.registrations order.placed sound order

pub preload_rows : (state : State) (registration : ℕ) (on : Bool) (text : List ℕ) → Ordered state.registrations state.workers → KeepsRows state (set_preload state registration on text)
unfolding set_preload
preload_rows state registration on text order =
    set_by state registration (λ row. record row { preload = on; preload_value = text }) (has_preload on text) _ (has_already on text) order
    (recorded_plain state registration (λ row. record row { preload = on; preload_value = text }) (λ k. Some (record k { preload = on; preload_value = text })) (λ row. change.Preload row.key row.scope on text) (preload_of_kept on text) (λ x. refl) (λ x. refl)
    (λ row kept. with_only row.key row.scope (λ k. record k { preload = on; preload_value = text }) kept.registrations) order)

-- ---- a registration more

placed_pushed : (kept : Registration → Option KeptRegistration) (place : ℕ) (rows : List Registration) (new : Registration) → kept new ≡ None → placed_at kept place (rows ++ new ∷ []) ≡ placed_at kept place rows
placed_pushed kept place [] new none = grind (arith, none)
placed_pushed kept place (row ∷ rows) new none = grind (arith, none, placed_pushed kept place rows new none)

counted_more : (b : Bool) (xs : List Registration) (x : Registration) (n : ℕ) → length xs ≤ n → length (if b then x ∷ xs else xs) ≤ suc n
counted_more true xs x n is = omega (arith, is)
counted_more false xs x n is = omega (arith, is)

pub counted_few : (rows : List Registration) → first_counter rows ≤ length rows
counted_few [] = omega arith
counted_few (row ∷ rows) = counted_more (is_some row.first) (filter (λ x. is_some x.first) rows) row (length rows) (counted_few rows)

above_plain : (count place : ℕ) (first : Option ℕ) → count ≤ place → is_below count first ≡ true → not (is_number first place) ≡ true
above_plain count place None few is = refl
above_plain count place (Some n) few is = grind (arith, nat_tests, few, is)

-- no registration has a place that isn't given yet
pub never_placed : (kept : Registration → Option KeptRegistration) (place : ℕ) (rows : List Registration) → first_counter rows ≤ place → list_all (λ row. is_below (first_counter rows) row.first) rows ≡ true → placed_at kept place rows ≡ None
never_placed kept place rows few below = none_placed kept place rows (all_weaker (λ row. is_below (first_counter rows) row.first) _ (λ row is. above_plain (first_counter rows) place row.first few is) rows below)

one_more : {Y : Type 0} (h : ℕ → Option Y) (n : ℕ) → h n ≡ None → filter_map h (range_with_len 0 (suc n)) ≡ filter_map h (range_with_len 0 n)
one_more h n none =
    let last : 0 + n ≡ n = omega arith in
    let empty : filter_map h (n ∷ []) ≡ [] = grind (arith, none) in
    ap (filter_map h) (range_pushed n 0) ∙ (ap (λ m. filter_map h (range_with_len 0 n ++ m ∷ [])) last ∙ (filter_map-append h (range_with_len 0 n) (n ∷ []) ∙ (ap (λ rest. filter_map h (range_with_len 0 n) ++ rest) empty ∙ append-nil (filter_map h (range_with_len 0 n)))))

contents_pushed : (workers : List Worker) (rows : List Registration) (new : Registration) → kept_in workers new ≡ None → list_all (λ row. is_below (first_counter rows) row.first) rows ≡ true → contents workers (rows ++ new ∷ []) ≡ contents workers rows
contents_pushed workers rows new none below =
    let more : length (rows ++ new ∷ []) ≡ suc (length rows) = omega (arith, length_pushed rows new) in
    mapped_same _ _ (λ place. placed_pushed (kept_in workers) place rows new none) (range_with_len 0 (length (rows ++ new ∷ [])))
    ∙ (ap (λ n. filter_map (λ place. placed_at (kept_in workers) place rows) (range_with_len 0 n)) more
    ∙ one_more (λ place. placed_at (kept_in workers) place rows) (length rows) (never_placed (kept_in workers) (length rows) rows (counted_few rows) below))

none_there : (place : Worker → Bool) (workers : List Worker) (number : ℕ) → list_all (λ w. nat_lt w.registration number) workers ≡ true → find (λ w. w.registration == number && place w) workers ≡ None
none_there place [] number is = refl
none_there place (w ∷ workers) number is = grind (arith, nat_tests, is, none_there place workers number)

-- a registration that isn't there has no workers
no_slots : (workers : List Worker) (number : ℕ) → list_all (λ w. nat_lt w.registration number) workers ≡ true → slots_in workers number ≡ slots_with None None false
unfolding slots_in
no_slots workers number is = cc (none_there (λ w. in_slot slot.Waiting w.state) workers number is, none_there (λ w. in_slot slot.Active w.state) workers number is)

unworked : (row : Registration) → kept_with row (slots_with None None false) ≡ None
unworked row = grind arith

counted_pushed : (rows : List Registration) (new : Registration) → new.first ≡ None → first_counter (rows ++ new ∷ []) ≡ first_counter rows
counted_pushed [] new none = grind (arith, none)
counted_pushed (row ∷ rows) new none = grind (arith, none, counted_pushed rows new none)

never_shared : (first : Option ℕ) → not (option_map_or (is_number None) first false) ≡ true
never_shared None = refl
never_shared (Some n) = refl

pub mapped_keeps : (state : State) (job : Job) → list_all (λ w. nat_lt w.registration (length state.registrations)) state.workers ≡ true → SoundRegistrations (map_registration state job).state.registrations → Ordered state.registrations state.workers
    → Ordered (map_registration state job).state.registrations state.workers × KeepsRows state (map_registration state job)
unfolding map_registration
mapped_keeps state job owners sound order =
    let rows = state.registrations in
    let new = new_registration (length rows) job in
    let none = no_slots state.workers (length rows) owners in (
      record {
        sound = sound;
        firsts = apart_pushed same_first rows new order.firsts (all_weaker (λ row. true) _ (λ row is. never_shared row.first) rows (all_true rows));
        below = rw (counted_pushed rows new refl) (all_pushed (λ row. is_below (first_counter rows) row.first) rows new order.below refl);
        placed = all_pushed (has_place state.workers) rows new order.placed (ap (λ (slots : Slots). same_truth false (is_worked slots)) none);
        fresh = all_pushed is_fresh rows new order.fresh (bytes_eq_same (codes "true"));
      },
      λ kept same. same ∙ sym (contents_pushed state.workers rows new (ap (kept_with new) none ∙ unworked new) order.below),
    )

-- ---- an owed Try Activate

paid_of : (x : Registration) (slots : Slots) → kept_with (record x { owed = false }) slots ≡ option_and_then (λ k. Some k) (kept_with x slots)
paid_of x slots = grind arith

pub paid_ordered : (state : State) (registration : ℕ) → SoundRegistrations (paid registration state).registrations → Ordered state.registrations state.workers → Ordered (paid registration state).registrations state.workers
paid_ordered state registration sound order = ordered_plain state.workers (is_registration registration) (λ row. record row { owed = false }) (λ x. refl) (λ x. refl) (λ x is. is) (λ x. true) (λ x know here was. was) state.registrations (all_true state.registrations) sound order

pub paid_rows : (state : State) (registration : ℕ) → Ordered state.registrations state.workers → contents state.workers (paid registration state).registrations ≡ contents state.workers state.registrations
paid_rows state registration order =
    contents_moved state.workers state.workers (λ row. if is_registration registration row then record row { owed = false } else row) (λ k. Some k) (λ x. true)
    (λ x. by_test (λ (row : Registration). row.first ≡ x.first) (is_registration registration x) _ x (λ here. refl) (λ other. refl))
    (λ x know. by_test (λ row. kept_in state.workers row ≡ option_and_then (λ (k : KeptRegistration). Some k) (kept_in state.workers x)) (is_registration registration x) _ x (λ here. paid_of x (slots_in state.workers x.number)) (λ other. sym (then_some (kept_in state.workers x))))
    state.registrations (all_true state.registrations) order.firsts
    ∙ all_stay (contents state.workers state.registrations)
