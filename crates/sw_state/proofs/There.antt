-- What is found in the tables of a host is there.
use Rattle.std.proofs.Common.{◌≡◌, ◌∙◌, ℕ, Bool, true, false, List, Option, Some, None, Bor, IfSome, is_some, option_map, option_and_then, option_copied, refl, sym, ap, arith}
use Rattle.std.specs.Option.{option_map_or}
use Rattle.sw_data.specs.declared.rows.RegistrationRow.{RegistrationRow}
use Rattle.sw_data.specs.declared.rows.WorkerRow.{WorkerRow}
use Rattle.sw_data.specs.declared.workers.Slot.{Slot}
use Rattle.sw_reg.specs.Table.{has_registration, is_there, registration_at, slot_of}
use Rattle.sw_rules.specs.Rows.{slot_worker}
use Rattle.sw_scope.specs.Scopes.{maps}
use Rattle.sw_state.specs.Hosted.{Hosted, IsJoined, IsOwned, rest_of, state_of}
use Rattle.sw_tables.proofs.Rows.{within}
use Rattle.sw_tables.proofs.Shown.{slot_shown}
use Rattle.sw_tables.proofs.Standing.{stands}
use Rattle.sw_tables.specs.Lent.{shown_worker}
use Rattle.sw_worker.specs.Table.{worker_at}

some_there : {X : Type 0} (o : Option X) → is_some o ≡ true → (x : X) × (o ≡ Some x)
some_there None is = absurd cc
some_there (Some x) is = (x, refl)

-- a registration that passes is there
passing_there : (test : RegistrationRow → Bool) (number : ℕ) (rows : List RegistrationRow) → has_registration test number rows ≡ true → is_there number rows ≡ true
passing_there test number rows = by (registration_at number rows)
  where
    by : (found : Option RegistrationRow) → option_map_or test found false ≡ true → is_some found ≡ true
    by None is = is
    by (Some row) is = refl

module _ (host : Hosted) (joined : IsJoined host) where
  -- a mapped registration is there
  pub mapped_there : (key scope : List ℕ) (found : Option (Bor RegistrationRow)) → option_map (λ row. row.number) (option_copied found) ≡ maps host.scopes key scope
      → IfSome found (λ row. is_there row.now.number host.registrations.rows ≡ true)
  mapped_there key scope None is = tt
  mapped_there key scope (Some row) is = passing_there _ row.now.number host.registrations.rows (joined.linked.mapped key scope row.now.number (sym is))

  module _ (place : Slot) (registration : ℕ) where
    -- a worker in a slot is there
    pub slot_there : (found : Option (Bor WorkerRow)) → option_map shown_worker (option_copied found) ≡ slot_worker (state_of host) place registration
        → option_map (λ row. row.number) (option_copied found) ≡ slot_of place registration host.registrations.rows
        → IfSome found (λ row. option_map shown_worker (worker_at row.now.number host.workers.rows) ≡ Some (shown_worker row.now))
    slot_there None shown number = tt
    slot_there (Some row) shown number =
        ap (λ o. option_map shown_worker (option_and_then (λ n. worker_at n host.workers.rows) o)) number
        ∙ (sym (slot_shown host.workers host.registrations host.scopes host.clients (rest_of host) place registration joined.linked.slots) ∙ sym shown)

    -- and a worker of its registration
    pub slot_owned : (found : Option (Bor WorkerRow)) → option_map (λ row. row.number) (option_copied found) ≡ slot_of place registration host.registrations.rows
        → IfSome found (λ row. IsOwned host (row.now.number, registration))
    slot_owned None number = tt
    slot_owned (Some row) number =
        let stood = stands host.workers host.registrations joined.linked.slots place registration row.now.number (sym number) in
        let right = joined.linked.slots.rows row.now.number stood.0 stood.1.is in
        let found = some_there (registration_at stood.0.registration host.registrations.rows) right.owner in
        let below = within (λ row. row.number) stood.0.registration host.registrations.rows found.0 joined.linked.slots.registration_places found.1 in
        record {
          owner = ap (option_map (λ row. row.registration)) stood.1.is ∙ ap Some stood.1.owner;
          known = grind (arith, below, stood.1.owner);
        }
