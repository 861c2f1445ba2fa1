-- What a claim by a worker of the table activates.
use Rattle.std.proofs.Common.{◌≡◌, ◌∙◌, ◌==◌, ◌||◌, ℕ, Bool, true, false, List, [], ◌∷◌, map, find, is_some, Option, Some, None, option_and_then, option_map, refl, sym, ap, subst, if◌then◌else◌}
use Rattle.std.specs.List.{flat_map, list_any, range_with_len}
use Rattle.std.specs.Option.{option_map_or}
use Rattle.std.specs.Prelude.{IfSome}
use Rattle.std.proofs.lemmas.List.{length-map}
use Rattle.sw_client.specs.Table as clients
use Rattle.sw_data.specs.declared.answers.Answer.TheVariants as answer
use Rattle.sw_data.specs.declared.answers.Fault.TheVariants as fault
use Rattle.sw_data.specs.declared.answers.StateCause.TheVariants as state_cause
use Rattle.sw_data.specs.declared.rows.RegistrationRow.{RegistrationRow}
use Rattle.sw_data.specs.declared.rows.WorkerRow.{WorkerRow}
use Rattle.sw_data.specs.declared.workers.Slot.TheVariants as place
use Rattle.sw_reg.specs.Table as registrations
use Rattle.sw_reg.specs.Table.{in_slot, registration_at, slot_of}
use Rattle.sw_rules.specs.Clients.{claim_clients, claim_of}
use Rattle.sw_rules.specs.Rows.{is_active, is_number, is_worker, worker_row}
use Rattle.sw_rules.specs.State.{State, Worker}
use Rattle.sw_rules.specs.Told.{Told, Outcome, quiet, refused}
use Rattle.sw_scope.specs.Scopes.{Scopes}
use Rattle.sw_tables.proofs.Rows.{any_at, find_map, found_number}
use Rattle.sw_tables.proofs.Shown.{slot_shown}
use Rattle.sw_tables.specs.Lent.{Rest, lent, shown_worker}
use Rattle.sw_tables.specs.Linked.{ArePlaces, Linked}
use Rattle.sw_worker.specs.Table as workers
use Rattle.sw_worker.specs.Table.{worker_at}
use Rattle.sw_activate.specs.Claiming.{activated_in, activation_change, claimed}
use Rattle.sw_activate.specs.Names.{numbers_of}
use Rattle.sw_activate.proofs.ClaimTold.{IsOwned, NoneWait}
use Rattle.sw_activate.proofs.Names.{map_map, of_row}

module _ (scopes : Scopes) (of_workers : workers.Table) (of : registrations.Table) (of_clients : clients.Table) (rest : Rest) where
  abbrev state : State
  state = lent scopes of_workers of of_clients rest

  -- one worker stands under its number
  pub all_owned : Linked scopes of_workers of of_clients → IsOwned state
  all_owned linked registration number =
      any_at (λ (row : Worker). row.number) (λ row. row.registration == registration) number (map shown_worker of_workers.rows) placed
      ∙ by (find (is_worker number) (map shown_worker of_workers.rows))
    where
      placed : ArePlaces (λ (row : Worker). row.number) (map shown_worker of_workers.rows)
      placed =
          map_map (λ (row : Worker). row.number) shown_worker of_workers.rows
          ∙ (linked.slots.worker_places ∙ ap (range_with_len 0) (sym (length-map of_workers.rows shown_worker)))

      by : (o : Option Worker) → option_map_or (λ row. row.registration == registration) o false ≡ is_number (option_map (λ row. row.registration) o) registration
      by None = refl
      by (Some row) = refl

  -- no worker waits where no registration notes one
  pub none_wait : Linked scopes of_workers of of_clients → list_any (λ row. is_some row.waiting) of.rows ≡ false → NoneWait state
  none_wait linked none registration =
      ap is_some
      (slot_shown of_workers of scopes of_clients rest place.Waiting registration linked.slots
      ∙ ap (λ (o : Option ℕ). option_map shown_worker (option_and_then (λ number. worker_at number of_workers.rows) o)) (empty of.rows none))
    where
      noted : (waiting : Option ℕ) (others : Bool) → (is_some waiting || others) ≡ false → (waiting ≡ None) × (others ≡ false)
      noted None others none = (refl, none)
      noted (Some number) others none = absurd cc

      first : (row : RegistrationRow) (later : Option RegistrationRow) (here : Bool) → row.waiting ≡ None → option_and_then (in_slot place.Waiting) later ≡ None
          → option_and_then (in_slot place.Waiting) (if here then Some row else later) ≡ None
      first row later true none rest = none
      first row later false none rest = rest

      empty : (rows : List RegistrationRow) → list_any (λ row. is_some row.waiting) rows ≡ false → slot_of place.Waiting registration rows ≡ None
      empty [] none = refl
      empty (row ∷ rows) none =
          let parts = noted row.waiting (list_any (λ row. is_some row.waiting) rows) none in
          first row (registration_at registration rows) (row.number == registration) parts.0 (empty rows parts.1)

  module _ (worker : ℕ) where
    -- ---- the worker is there

    module _ (row : WorkerRow) (here : worker_at worker of_workers.rows ≡ Some row) where
      abbrev pub told_where : Bool → Told
      told_where active = if active then claim_clients state worker row.registration (numbers_of of_clients) else quiet state

      abbrev outcome_where : Bool → Outcome
      outcome_where active =
          if active then record { answer = answer.Ok; told = claim_clients state row.number row.registration (numbers_of of_clients) }
          else refused state (fault.InvalidState state_cause.NotActive)

      pub told_by : (active : Bool) → is_active row.state ≡ active → (claim_of state (shown_worker row)).told ≡ told_where active
      told_by active is = ap (λ (b : Bool). (outcome_where b).told) is ∙ by active
        where
          by : (b : Bool) → (outcome_where b).told ≡ told_where b
          by true =
              ap (λ (n : ℕ). claim_clients state n row.registration (numbers_of of_clients))
              (found_number (λ (r : WorkerRow). r.number) worker of_workers.rows row here)
          by false = refl

      pub claimed_is : (active : Bool) → is_active row.state ≡ active → claimed state worker ≡ activated_in state (told_where active).notices
      claimed_is active is =
          ap (λ (o : Option Worker). option_map_or (λ r. activated_in state (claim_of state r).told.notices) o [])
          (find_map (is_worker worker) shown_worker of_workers.rows ∙ ap (option_map shown_worker) here)
          ∙ ap (λ (told : Told). activated_in state told.notices) (told_by active is)

      pub changes_are : (active : Bool) → is_active row.state ≡ active → (numbers : List ℕ) → flat_map (activation_change state) numbers ≡ (told_where active).changes
          → IfSome (worker_row state worker) (λ r. flat_map (activation_change state) numbers ≡ (claim_of state r).told.changes)
      changes_are active is numbers told =
          of_row scopes of_workers of of_clients rest worker row here (λ r. flat_map (activation_change state) numbers ≡ (claim_of state r).told.changes)
          (told ∙ sym (ap (λ (all : Told). all.changes) (told_by active is)))

    -- ---- it isn't

    module _ (none : worker_at worker of_workers.rows ≡ None) where
      absent : worker_row state worker ≡ None
      absent = find_map (is_worker worker) shown_worker of_workers.rows ∙ ap (option_map shown_worker) none

      pub claimed_none : claimed state worker ≡ []
      claimed_none = ap (λ (o : Option Worker). option_map_or (λ r. activated_in state (claim_of state r).told.notices) o []) absent

      pub changes_none : (holds : Worker → Type 0) → IfSome (worker_row state worker) holds
      changes_none holds = subst (λ (o : Option Worker). IfSome o holds) (sym absent) tt
