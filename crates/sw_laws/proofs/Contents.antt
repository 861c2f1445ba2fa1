-- The kept registrations of a state as a list over its registrations and workers, and how a change of the rows moves it.
use Rattle.std.proofs.Common.{◌≡◌, ◌∙◌, ℕ, Bool, true, false, not, ◌&&◌, ◌||◌, ◌==◌, List, [], ◌∷◌, map, Option, Some, None, option_map, length, refl, sym, ap, arith, if◌then◌else◌}
use Rattle.std.specs.List.{cons_option, list_all, filter_map, range_with_len}
use Rattle.std.specs.Prelude.{find, is_some, option_and_then}
use Rattle.std.specs.Option.{option_map_or}
use Rattle.std.proofs.lemmas.Bool.{and_parts}
use Rattle.std.proofs.lemmas.Bool.Decides.{nat_tests}
use Rattle.std.proofs.lemmas.List.{length-map}
use Rattle.sw_data.specs.declared.storage.KeptRegistration.{KeptRegistration}
use Rattle.sw_data.specs.declared.storage.KeptWorker.{KeptWorker}
use Rattle.sw_data.specs.declared.workers.Slot.{Slot}
use Rattle.sw_data.specs.declared.workers.Slot.TheVariants as slot
use Rattle.sw_rules.specs.Durable.{durable, durable_registration}
use Rattle.sw_rules.specs.Installing.{kept_worker}
use Rattle.sw_rules.specs.Rows.{in_slot, is_activated, is_number, slot_worker}
use Rattle.sw_rules.specs.State.{State, Registration, Worker}
use Rattle.sw_rules.specs.Told.{is_kept}
use Rattle.sw_laws.specs.Coherent.{apart}
use Rattle.sw_laws.proofs.Lists.{all_changed, all_weaker, by_test}

-- ---- what is kept of a registration

-- own: what is kept of the workers of a registration
pub record Slots : Type 0 where
  pub waiting : Option KeptWorker
  pub active : Option KeptWorker
  pub activated : Bool

abbrev pub found_in : List Worker → Slot → ℕ → Option Worker
found_in workers place registration = find (λ row. row.registration == registration && in_slot place row.state) workers

abbrev pub slots_of : Option Worker → Option Worker → Slots
slots_of waiting active = record {
  waiting = option_map kept_worker waiting;
  active = option_map kept_worker active;
  activated = option_map_or is_activated active false;
}

unfoldable pub slots_in : List Worker → ℕ → Slots
slots_in workers registration = slots_of (found_in workers slot.Waiting registration) (found_in workers slot.Active registration)

abbrev pub is_worked : Slots → Bool
is_worked slots = is_some slots.waiting || is_some slots.active

abbrev pub kept_row : Registration → Slots → KeptRegistration
kept_row row slots = record {
  key = row.key;
  scope = row.scope;
  mode = row.mode;
  waiting = slots.waiting;
  active = slots.active;
  activated = slots.activated;
  preload = row.preload;
  preload_value = row.preload_value;
}

-- the registration as it is kept, if it is
abbrev pub kept_with : Registration → Slots → Option KeptRegistration
kept_with row slots = if row.mapped && is_worked slots then Some (kept_row row slots) else None

abbrev pub kept_in : List Worker → Registration → Option KeptRegistration
kept_in workers row = kept_with row (slots_in workers row.number)

-- the first kept registration of a place
abbrev pub placed_at : (Registration → Option KeptRegistration) → ℕ → List Registration → Option KeptRegistration
placed_at kept place [] = None
placed_at kept place (row ∷ rows) = if is_some (kept row) && is_number row.first place then kept row else placed_at kept place rows

-- the kept registrations in order
abbrev pub contents : List Worker → List Registration → List KeptRegistration
contents workers rows = filter_map (λ place. placed_at (kept_in workers) place rows) (range_with_len 0 (length rows))

-- ---- it is the durable part

kept_by : (state : State) (row : Registration) (waiting active : Option Worker) (place : ℕ) (rest : Option KeptRegistration)
    → (if row.mapped && (is_some waiting || is_some active) && is_number row.first place then Some (kept_row row (slots_of waiting active)) else rest)
    ≡ (if is_some (kept_with row (slots_of waiting active)) && is_number row.first place then kept_with row (slots_of waiting active) else rest)
kept_by state row None None place rest = grind arith
kept_by state row None (Some a) place rest = grind arith
kept_by state row (Some w) None place rest = grind arith
kept_by state row (Some w) (Some a) place rest = grind arith

placed_is : (state : State) (place : ℕ) (rows : List Registration) → option_map (durable_registration state) (find (λ row. is_kept state row && is_number row.first place) rows) ≡ placed_at (kept_in state.workers) place rows
unfolding slots_in
placed_is state place [] = refl
placed_is state place (row ∷ rows) =
    by_test (λ (o : Option Registration). option_map (durable_registration state) o ≡ (if is_kept state row && is_number row.first place then Some (durable_registration state row) else placed_at (kept_in state.workers) place rows)) (is_kept state row && is_number row.first place) _ _
    (λ here. grind (arith, here)) (λ other. placed_is state place rows ∙ grind (arith, other))
    ∙ kept_by state row (slot_worker state slot.Waiting row.number) (slot_worker state slot.Active row.number) place (placed_at (kept_in state.workers) place rows)

pub mapped_same : {X Y : Type 0} (h k : X → Option Y) → ((x : X) → h x ≡ k x) → (xs : List X) → filter_map h xs ≡ filter_map k xs
mapped_same h k same [] = refl
mapped_same h k same (x ∷ xs) = grind (arith, same x, mapped_same h k same xs)

pub durable_is : (state : State) → (durable state).registrations ≡ contents state.workers state.registrations
unfolding durable
durable_is state = mapped_same _ _ (λ place. placed_is state place state.registrations) (range_with_len 0 (length state.registrations))

-- ---- a change of rows

-- both have got a waiting worker, at one place
abbrev pub same_first : Registration → Registration → Bool
same_first one other = option_map_or (is_number other.first) one.first false

pub none_placed : (kept : Registration → Option KeptRegistration) (place : ℕ) (rows : List Registration) → list_all (λ row. not (is_number row.first place)) rows ≡ true → placed_at kept place rows ≡ None
none_placed kept place [] is = refl
none_placed kept place (row ∷ rows) is = grind (arith, is, none_placed kept place rows)

alone_plain : (first : Option ℕ) (place : ℕ) (other : Option ℕ) → is_number first place ≡ true → option_map_or (is_number other) first false ≡ false → is_number other place ≡ false
alone_plain None place other here is = absurd cc
alone_plain (Some n) place None here is = refl
alone_plain (Some n) place (Some m) here is = grind (arith, nat_tests, here, is)

through_one : {Y : Type 0} (o p : Option Y) (f : Y → Option Y) → p ≡ option_and_then f o → (ys zs : List Y) → zs ≡ filter_map f ys → cons_option p zs ≡ filter_map f (cons_option o ys)
through_one None p f is ys zs same = grind (arith, is, same)
through_one (Some y) p f is ys zs same = grind (arith, is, same)

through : {X Y : Type 0} (h k : X → Option Y) (f : Y → Option Y) → ((x : X) → k x ≡ option_and_then f (h x)) → (xs : List X) → filter_map k xs ≡ filter_map f (filter_map h xs)
through h k f is [] = refl
through h k f is (x ∷ xs) = through_one (h x) (k x) f (is x) (filter_map h xs) (filter_map k xs) (through h k f is xs)

kept_else_none : (o : Option KeptRegistration) → (if is_some o then o else None) ≡ o
kept_else_none None = refl
kept_else_none (Some row) = refl

-- where each row keeps its place, and what is kept of it is f of what was kept
module _ (kept now : Registration → Option KeptRegistration) (g : Registration → Registration) (f : KeptRegistration → Option KeptRegistration) (known : Registration → Bool)
    (first : (x : Registration) → (g x).first ≡ x.first) (moves : (x : Registration) → known x ≡ true → now (g x) ≡ option_and_then f (kept x)) where
  placed_here : (place : ℕ) (row : Registration) (rows : List Registration) → is_number row.first place ≡ true → list_all (λ y. not (same_first row y)) rows ≡ true
      → placed_at kept place (row ∷ rows) ≡ kept row
  placed_here place row rows here fine =
      let none = none_placed kept place rows (all_weaker _ _ (λ y is. grind (arith, alone_plain row.first place y.first here, is)) rows fine) in
      grind (arith, here, none, kept_else_none (kept row))

  placed_moved : (place : ℕ) (rows : List Registration) → list_all known rows ≡ true → apart same_first rows ≡ true → placed_at now place (map g rows) ≡ option_and_then f (placed_at kept place rows)
  placed_moved place [] knows fine = refl
  placed_moved place (row ∷ rows) knows fine =
      let parts = and_parts (list_all (λ y. not (same_first row y)) rows) (apart same_first rows) fine in
      let know = and_parts (known row) (list_all known rows) knows in
      elim (is_number row.first place) as (λ b. is_number row.first place ≡ b → placed_at now place (map g (row ∷ rows)) ≡ option_and_then f (placed_at kept place (row ∷ rows))) [
        | true ↦ λ here.
            let later = all_changed (λ y. not (same_first row y)) (λ y. not (is_number y.first place)) g (λ y is. rw (first y) (grind (arith, alone_plain row.first place y.first here, is))) rows parts.0 in
            let none = none_placed now place (map g rows) later in
            let left : placed_at now place (map g (row ∷ rows)) ≡ now (g row) = grind (arith, here, first row, none, kept_else_none (now (g row))) in
            left ∙ (moves row know.0 ∙ ap (option_and_then f) (sym (placed_here place row rows here parts.0)))
        | false ↦ λ other. grind (arith, other, first row, placed_moved place rows know.1 parts.1)
      ] refl

-- a change of rows that keeps their places, where what is kept of a row is f of what was kept of it
pub contents_moved : (workers others : List Worker) (g : Registration → Registration) (f : KeptRegistration → Option KeptRegistration) (known : Registration → Bool)
    → ((x : Registration) → (g x).first ≡ x.first) → ((x : Registration) → known x ≡ true → kept_in others (g x) ≡ option_and_then f (kept_in workers x))
    → (rows : List Registration) → list_all known rows ≡ true → apart same_first rows ≡ true → contents others (map g rows) ≡ filter_map f (contents workers rows)
contents_moved workers others g f known first moves rows knows fine =
    ap (λ n. filter_map (λ place. placed_at (kept_in others) place (map g rows)) (range_with_len 0 n)) (length-map rows g)
    ∙ through _ _ f (λ place. placed_moved (kept_in workers) (kept_in others) g f known first moves place rows knows fine) (range_with_len 0 (length rows))
