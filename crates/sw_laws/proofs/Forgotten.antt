-- Registrations that are forgotten one after another are forgotten together.
use Rattle.std.proofs.Common.{◌≡◌, ◌∙◌, ℕ, Bool, true, false, not, ◌==◌, List, [], ◌∷◌, filter, refl, sym, ap, arith}
use Rattle.std.specs.List.{list_all, list_any}
use Rattle.std.specs.Prelude.{bytes_eq}
use Rattle.std.proofs.lemmas.Bool.{and_parts}
use Rattle.std.proofs.lemmas.Bool.Decides.{nat_tests}
use Rattle.sw_data.specs.declared.workers.WorkerState.{WorkerState}
use Rattle.sw_rules.specs.Forgetting.{forget_key, forget_registrations, is_mapped_of}
use Rattle.sw_rules.specs.Registrations.{clear, unmap}
use Rattle.sw_rules.specs.Rows.{changed}
use Rattle.sw_rules.specs.State.{State, Registration, Worker}
use Rattle.sw_rules.specs.Told.{followed}
use Rattle.sw_laws.specs.Coherent.{apart}
use Rattle.sw_laws.proofs.AtOnce.{AreApart, clear_only, clear_state, cleared_apart, cleared_at_once, shift}
use Rattle.sw_laws.proofs.Lists.{all_of_filter, by_truth, changed_as, map_same}

abbrev pub left : Registration → Registration
left row = record row { mapped = false }

abbrev pub cleared : Worker → Worker
cleared worker = record worker { state = clear_state worker.state }

-- one of these rows has this number
abbrev pub is_numbered : List Registration → ℕ → Bool
is_numbered rows number = list_any (λ row. row.number == number) rows

-- these registrations leave the map and are cleared together
abbrev pub together : State → List Registration → State
together state rows = record state {
  registrations = changed (λ row. is_numbered rows row.number) left state.registrations;
  workers = changed (λ worker. is_numbered rows worker.registration) cleared state.workers;
}

clear_twice : (state : WorkerState) → clear_state (clear_state state) ≡ clear_state state
clear_twice state = grind arith

-- rows of one number change, and then those of some numbers
registrations_then : (row : Registration) (rows xs : List Registration)
    → changed (λ x. is_numbered rows x.number) left (changed (λ x. x.number == row.number) left xs) ≡ changed (λ x. is_numbered (row ∷ rows) x.number) left xs
registrations_then row rows [] = refl
registrations_then row rows (x ∷ xs) = by_truth (x.number == row.number)
    (λ here. grind (arith, nat_tests, here, registrations_then row rows xs))
    (λ other. grind (arith, nat_tests, other, registrations_then row rows xs))

workers_then : (row : Registration) (rows : List Registration) (xs : List Worker)
    → changed (λ x. is_numbered rows x.registration) cleared (changed (λ x. x.registration == row.number) cleared xs) ≡ changed (λ x. is_numbered (row ∷ rows) x.registration) cleared xs
workers_then row rows [] = refl
workers_then row rows (x ∷ xs) = by_truth (x.registration == row.number)
    (λ here. grind (arith, nat_tests, here, clear_twice x.state, workers_then row rows xs))
    (λ other. grind (arith, nat_tests, other, workers_then row rows xs))

pub all_forgotten : (state : State) (rows : List Registration) → AreApart state.workers → (forget_registrations state rows).state ≡ together state rows
unfolding forget_registrations followed unmap
all_forgotten state [] fine = (λ i. record state { registrations = sym (map_same state.registrations) i; workers = sym (map_same state.workers) i })
all_forgotten state (row ∷ rows) fine =
    let unmapped = (unmap state row.number).state in
    ap (λ s. (forget_registrations s rows).state) (cleared_at_once unmapped row.number fine)
    ∙ (all_forgotten (record unmapped { workers = shift row.number clear_state state.workers }) rows (cleared_apart row.number state.workers fine)
    ∙ (λ i. record state { registrations = registrations_then row rows state.registrations i; workers = workers_then row rows state.workers i }))

-- what they leave, whatever the state
pub forgotten_leaves : (state : State) (rows : List Registration) → let after = (forget_registrations state rows).state in after ≡ record state { registrations = after.registrations; workers = after.workers }
unfolding forget_registrations followed unmap
forgotten_leaves state [] = refl
forgotten_leaves state (row ∷ rows) =
    let cleared_state = (clear (unmap state row.number).state row.number).state in
    let after = (forget_registrations cleared_state rows).state in
    forgotten_leaves cleared_state rows ∙ ap (λ (s : State). record s { registrations = after.registrations; workers = after.workers }) (clear_only (unmap state row.number).state row.number).rest

-- of rows that are apart, those that pass are those of their numbers
those_numbered : (p : Registration → Bool) (rows : List Registration) → apart (λ x y. x.number == y.number) rows ≡ true → changed (λ x. is_numbered (filter p rows) x.number) left rows ≡ changed p left rows
those_numbered p [] fine = refl
those_numbered p (x ∷ xs) fine =
    let parts = and_parts (list_all (λ y. not (x.number == y.number)) xs) (apart (λ x y. x.number == y.number) xs) fine in
    let rest = those_numbered p xs parts.1 in
    by_truth (p x)
    (λ here. grind (arith, nat_tests, here, rest, changed_as (λ y. not (x.number == y.number)) (λ y. is_numbered (x ∷ filter p xs) y.number) (λ y. is_numbered (filter p xs) y.number) left (λ y other. grind (arith, other)) xs parts.0))
    (λ other. grind (arith, nat_tests, other, rest, none_numbered (filter p xs) x.number (all_of_filter (λ y. not (x.number == y.number)) p xs parts.0)))
  where
    none_numbered : (rows : List Registration) (number : ℕ) → list_all (λ y. not (number == y.number)) rows ≡ true → is_numbered rows number ≡ false
    none_numbered [] number none = refl
    none_numbered (row ∷ rows) number none = grind (arith, nat_tests, none, none_numbered rows number)

-- a key is forgotten at once
pub forgotten_together : (state : State) (key : List ℕ) → AreApart state.workers → apart (λ x y. x.number == y.number) state.registrations ≡ true
    → (forget_key state key).state ≡ record state {
      registrations = changed (is_mapped_of key) left state.registrations;
      workers = changed (λ worker. is_numbered (filter (is_mapped_of key) state.registrations) worker.registration) cleared state.workers;
      caches = filter (λ row. not (bytes_eq row.key key)) state.caches;
    }
unfolding forget_key
forgotten_together state key workers fine =
    ap (λ (after : State). record after { caches = filter (λ row. not (bytes_eq row.key key)) after.caches }) (all_forgotten state (filter (is_mapped_of key) state.registrations) workers)
    ∙ (λ i. record state {
      registrations = those_numbered (is_mapped_of key) state.registrations fine i;
      workers = changed (λ worker. is_numbered (filter (is_mapped_of key) state.registrations) worker.registration) cleared state.workers;
      caches = filter (λ row. not (bytes_eq row.key key)) state.caches;
    })
