-- What a client names.
use Rattle.std.proofs.Common.{◌≡◌, ◌∙◌, ℕ, List, Option, Some, None, ap}
use Rattle.sw_data.specs.declared.answers.Answer.TheVariants as answer
use Rattle.sw_data.specs.declared.answers.Cause.TheVariants as cause
use Rattle.sw_data.specs.declared.answers.Fault.TheVariants as fault
use Rattle.sw_data.specs.declared.recordings.ClientScope.{ClientScope}
use Rattle.sw_data.specs.declared.rows.ClientRow.{ClientRow}
use Rattle.sw_data.specs.declared.workers.Slot.{Slot}
use Rattle.sw_rules.specs.Clients.{with_named, with_slot}
use Rattle.sw_rules.specs.Registering.{with_client}
use Rattle.sw_rules.specs.Rows.{client_row, mapped_registration, named_scope, slot_worker}
use Rattle.sw_rules.specs.State.{State, Registration, Worker}
use Rattle.sw_rules.specs.Told.{Outcome, answered, refused, type_error}

-- what an action comes to by a scope, if any
abbrev pub by_scope : Outcome → (List ℕ → Outcome) → Option (List ℕ) → Outcome
by_scope otherwise act found =
    elim found [
      | None ↦ otherwise
      | Some scope ↦ act scope
    ]

module _ (state : State) (number : ℕ) (text : List ℕ) (otherwise : Outcome) (act : ClientRow → List ℕ → Outcome) where
  abbrev by_client : Option ClientRow → Outcome
  by_client found =
      elim found [
        | None ↦ answered state answer.NoClient
        | Some row ↦ by_scope otherwise (act row) (named_scope row text)
      ]

  -- a client that is open names a scope that is an address
  pub scope_given : (client : ClientRow) (scope : List ℕ) → client_row state number ≡ Some client → named_scope client text ≡ Some scope
      → with_client state number (λ row. by_scope otherwise (act row) (named_scope row text)) ≡ act client scope
  scope_given client scope is scoped = ap by_client is ∙ ap (by_scope otherwise (act client)) scoped

module _ (state : State) (of : ClientScope) (act : Registration → Outcome) where
  abbrev by_row : Option Registration → Outcome
  by_row found =
      elim found [
        | None ↦ refused state fault.NoRegistration
        | Some row ↦ act row
      ]

  -- an action on what the map has under a client's key and a scope
  pub named_by : (client : ClientRow) (scope : List ℕ) (found : Option Registration) → client_row state of.client ≡ Some client → named_scope client of.scope ≡ Some scope
      → mapped_registration state client.key scope ≡ found → with_named state of act ≡ by_row found
  named_by client scope found is scoped mapped =
      scope_given state of.client of.scope (refused state (type_error cause.Unparsed)) (λ row other. by_row (mapped_registration state row.key other)) client scope is scoped
      ∙ ap by_row mapped

module _ (state : State) (of : ClientScope) (place : Slot) (act : Worker → Outcome) where
  abbrev pub by_worker : Option Worker → Outcome
  by_worker found =
      elim found [
        | None ↦ answered state answer.NoWorker
        | Some worker ↦ act worker
      ]

  -- an action on what stands in a slot of the registration that a client names
  pub slot_by : (row : Registration) (found : Option Worker) → with_named state of (λ other. by_worker (slot_worker state place other.number)) ≡ by_worker (slot_worker state place row.number)
      → slot_worker state place row.number ≡ found → with_slot state of place act ≡ by_worker found
  slot_by row found named is = named ∙ ap by_worker is
