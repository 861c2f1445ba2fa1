-- Registrations that are kept, in the tables as in the state, and their changes.
use Rattle.std.proofs.Common.{◌≡◌, ◌∙◌, ℕ, Bool, true, false, ◌&&◌, ◌||◌, List, [], ◌∷◌, Option, Some, None, option_map, option_and_then, bytes_eq, is_some, refl, sym, ap, if◌then◌else◌}
use Rattle.std.specs.Prelude.{option_to_list}
use Rattle.std.specs.Option.{option_map_or}
use Rattle.sw_client.specs.Table as clients
use Rattle.sw_data.specs.declared.rows.RegistrationRow.{RegistrationRow}
use Rattle.sw_data.specs.declared.rows.WorkerRow.{WorkerRow}
use Rattle.sw_data.specs.declared.storage.Change.{Change}
use Rattle.sw_data.specs.declared.storage.Change.TheVariants as change
use Rattle.sw_data.specs.declared.workers.Mode.{Mode}
use Rattle.sw_data.specs.declared.workers.Slot.{Slot}
use Rattle.sw_data.specs.declared.workers.Slot.TheVariants as slot
use Rattle.sw_data.specs.Sameness.{same_truth}
use Rattle.sw_prepare.specs.Kept.{has_preload_row, is_kept_row, kept_at, kept_registration, names_of, unless}
use Rattle.sw_ledgers.specs.Preloaded.{PreloadRow, preload_of, preload_value_of}
use Rattle.sw_reg.specs.Table as registrations
use Rattle.sw_reg.specs.Table.{registration_at, slot_of}
use Rattle.sw_rules.specs.Jobs.{same_mode}
use Rattle.sw_rules.specs.Preloading.{has_preload, set_preload}
use Rattle.sw_rules.specs.Registrations.{set_mode}
use Rattle.sw_rules.specs.Rows.{is_registration, registration_row, slot_worker}
use Rattle.sw_rules.specs.State.{State, Registration}
use Rattle.sw_rules.specs.Told.{is_kept, kept_change}
use Rattle.sw_scope.specs.Scopes.{Scopes}
use Rattle.sw_tables.proofs.Lookups.{slot_number, slot_shown}
use Rattle.sw_tables.proofs.Rows.{find_map, found_number}
use Rattle.sw_tables.specs.Lent.{Rest, lent, shown_registration, shown_worker}
use Rattle.sw_tables.specs.Linked.{HasSlots}
use Rattle.sw_worker.specs.Table as workers
use Rattle.sw_worker.specs.Table.{worker_at}

-- ---- the row of a registration that is kept

module _ (scopes : Scopes) (of_workers : workers.Table) (of : registrations.Table) (has : HasSlots of_workers of) (of_clients : clients.Table) (rest : Rest) where
  abbrev state : State
  state = lent scopes of_workers of of_clients rest

  abbrev shown : RegistrationRow → Registration
  shown row = shown_registration scopes rest row

  some_worker : (n : ℕ) (o : Option WorkerRow) → option_map (λ (w : WorkerRow). w.number) o ≡ Some n → is_some (option_map shown_worker o) ≡ true
  some_worker n None is = absurd cc
  some_worker n (Some w) is = refl

  -- a slot of the state is filled where that of the table is
  slot_filled : (place : Slot) (n : ℕ) → is_some (slot_worker state place n) ≡ is_some (slot_of place n of.rows)
  slot_filled place n =
      ap is_some (slot_shown of_workers of has place n scopes of_clients rest)
      ∙ by (slot_of place n of.rows) (slot_number of_workers of has place n)
    where
      by : (o : Option ℕ) → option_map (λ (w : WorkerRow). w.number) (option_and_then (λ m. worker_at m of_workers.rows) o) ≡ o
          → is_some (option_map shown_worker (option_and_then (λ m. worker_at m of_workers.rows) o)) ≡ is_some o
      by None is = refl
      by (Some m) is = some_worker m (worker_at m of_workers.rows) is

  kept_so : (n : ℕ) (row : RegistrationRow) → registration_at n of.rows ≡ Some row → is_kept state (shown row) ≡ is_kept_row scopes row
  kept_so n row found =
      let own : row.number ≡ n = found_number (λ (r : RegistrationRow). r.number) n of.rows row found in
      let at : registration_at row.number of.rows ≡ Some row = ap (λ (m : ℕ). registration_at m of.rows) own ∙ found in
      let waiting : is_some (slot_worker state slot.Waiting row.number) ≡ is_some row.waiting =
      slot_filled slot.Waiting row.number ∙ ap (λ (o : Option RegistrationRow). is_some (option_and_then (registrations.in_slot slot.Waiting) o)) at in
      let active : is_some (slot_worker state slot.Active row.number) ≡ is_some row.active =
      slot_filled slot.Active row.number ∙ ap (λ (o : Option RegistrationRow). is_some (option_and_then (registrations.in_slot slot.Active) o)) at in
      ap (λ (b : Bool). (shown row).mapped && (b || is_some (slot_worker state slot.Active row.number))) waiting
      ∙ ap (λ (b : Bool). (shown row).mapped && (is_some row.waiting || b)) active

  pub kept_shown : (n : ℕ) → option_map shown (kept_at scopes of.rows n) ≡ kept_registration state n
  kept_shown n =
      sym (ap (option_and_then (λ (row : Registration). if is_kept state row then Some row else None)) (find_map (is_registration n) shown of.rows)
      ∙ by (registration_at n of.rows) refl)
    where
      one : (row : RegistrationRow) (b : Bool) → (if b then Some (shown row) else None) ≡ option_map shown (if b then Some row else None)
      one row true = refl
      one row false = refl

      by : (o : Option RegistrationRow) → registration_at n of.rows ≡ o
          → option_and_then (λ (row : Registration). if is_kept state row then Some row else None) (option_map shown o)
          ≡ option_map shown (option_and_then (λ row. if is_kept_row scopes row then Some row else None) o)
      by None is = refl
      by (Some row) is = ap (λ (b : Bool). if b then Some (shown row) else None) (kept_so n row is) ∙ one row (is_kept_row scopes row)

-- ---- the change of a registration that is kept

module _ (state : State) (n : ℕ) (scopes : Scopes) (rest : Rest) (found : Option RegistrationRow) (is : option_map (shown_registration scopes rest) found ≡ kept_registration state n) (change_of : List ℕ × List ℕ → Change) where
  abbrev change_by : Registration → Change
  change_by row = change_of (row.key, row.scope)

  -- the change of what is kept, unless it passes
  told_unless : (test : Registration → Bool) → (if option_map_or test (registration_row state n) true then [] else kept_change state n change_by)
      ≡ option_to_list (option_map change_by (option_and_then (λ (row : Registration). if test row then None else Some row) (kept_registration state n)))
  told_unless test = by (registration_row state n)
    where
      passes : (row : Registration) (b : Bool) → (if b then [] else change_by row ∷ []) ≡ option_to_list (option_map change_by (if b then None else Some row))
      passes row true = refl
      passes row false = refl

      no_changes : List Change
      no_changes = []

      none : (b : Bool) → (if b then no_changes else no_changes) ≡ no_changes
      none true = refl
      none false = refl

      one : (row : Registration) (b : Bool) → (if test row then [] else (if b then change_by row ∷ [] else []))
          ≡ option_to_list (option_map change_by (option_and_then (λ (r : Registration). if test r then None else Some r) (if b then Some row else None)))
      one row true = passes row (test row)
      one row false = none (test row)

      by : (o : Option Registration) → (if option_map_or test o true then [] else option_map_or (λ (row : Registration). if is_kept state row then change_by row ∷ [] else []) o [])
          ≡ option_to_list (option_map change_by (option_and_then (λ (row : Registration). if test row then None else Some row) (option_and_then (λ (row : Registration). if is_kept state row then Some row else None) o)))
      by None = refl
      by (Some row) = one row (is_kept state row)

  pub other_told : (test : Registration → Bool) (of_row : RegistrationRow → Bool) → ((row : RegistrationRow) → of_row row ≡ test (shown_registration scopes rest row))
      → option_to_list (option_map change_of (option_map names_of (unless of_row found)))
      ≡ (if option_map_or test (registration_row state n) true then [] else kept_change state n change_by)
  other_told test of_row same =
      ap option_to_list (by found)
      ∙ (ap (λ (o : Option Registration). option_to_list (option_map change_by (option_and_then (λ (row : Registration). if test row then None else Some row) o))) is
      ∙ sym (told_unless test))
    where
      one : (row : RegistrationRow) (b : Bool) → option_map change_of (option_map names_of (if b then None else Some row))
          ≡ option_map change_by (if b then None else Some (shown_registration scopes rest row))
      one row true = refl
      one row false = refl

      by : (o : Option RegistrationRow) → option_map change_of (option_map names_of (unless of_row o))
          ≡ option_map change_by (option_and_then (λ (row : Registration). if test row then None else Some row) (option_map (shown_registration scopes rest) o))
      by None = refl
      by (Some row) =
          ap (λ (b : Bool). option_map change_of (option_map names_of (if b then None else Some row))) (same row)
          ∙ one row (test (shown_registration scopes rest row))

  pub kept_told : option_to_list (option_map change_of (option_map names_of found)) ≡ kept_change state n change_by
  kept_told = ap option_to_list (by found) ∙ (ap (λ (o : Option Registration). option_to_list (option_map change_by o)) is ∙ all (registration_row state n))
    where
      by : (o : Option RegistrationRow) → option_map change_of (option_map names_of o) ≡ option_map change_by (option_map (shown_registration scopes rest) o)
      by None = refl
      by (Some row) = refl

      one : (row : Registration) (b : Bool) → option_to_list (option_map change_by (if b then Some row else None)) ≡ (if b then change_by row ∷ [] else [])
      one row true = refl
      one row false = refl

      all : (o : Option Registration) → option_to_list (option_map change_by (option_and_then (λ (row : Registration). if is_kept state row then Some row else None) o))
          ≡ option_map_or (λ (row : Registration). if is_kept state row then change_by row ∷ [] else []) o []
      all None = refl
      all (Some row) = one row (is_kept state row)

pub mode_told : (state : State) (n : ℕ) (scopes : Scopes) (rest : Rest) (found : Option RegistrationRow) → option_map (shown_registration scopes rest) found ≡ kept_registration state n → (mode : Mode)
    → option_to_list (option_map (λ names. change.Mode names.0 names.1 mode) (option_map names_of (unless (λ row. same_mode row.mode mode) found))) ≡ (set_mode state n mode).changes
unfolding set_mode
mode_told state n scopes rest found is mode =
    other_told state n scopes rest found is (λ names. change.Mode names.0 names.1 mode) (λ row. same_mode row.mode mode) (λ row. same_mode row.mode mode) (λ row. refl)

pub preload_told : (state : State) (n : ℕ) (scopes : Scopes) (rest : Rest) (found : Option RegistrationRow) → option_map (shown_registration scopes rest) found ≡ kept_registration state n
    → (preloads : List PreloadRow) → rest.preload ≡ preload_of preloads → rest.preload_value ≡ preload_value_of preloads → (on : Bool) (text : List ℕ)
    → option_to_list (option_map (λ names. change.Preload names.0 names.1 on text) (option_map names_of (unless (has_preload_row preloads on text) found))) ≡ (set_preload state n on text).changes
unfolding set_preload
preload_told state n scopes rest found is preloads flags values on text =
    other_told state n scopes rest found is (λ names. change.Preload names.0 names.1 on text) (has_preload on text) (has_preload_row preloads on text)
    (λ row.
    ap (λ (f : ℕ → Bool). same_truth (f row.number) on && bytes_eq (preload_value_of preloads row.number) text) (sym flags)
    ∙ ap (λ (f : ℕ → List ℕ). same_truth (rest.preload row.number) on && bytes_eq (f row.number) text) (sym values))
