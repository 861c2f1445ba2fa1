-- Clients: opening, closing, promises, look-ups, skipWaiting, claim, and fetch events.
use Rattle.std.specs.Prelude.{ℕ, Bool, true, false, not, ◌&&◌, List, [], ◌∷◌, ◌++◌, map, filter, bytes_eq, is_some, Option, Some, None, option_map, option_and_then, if◌then◌else◌}
use Rattle.std.specs.Option.{option_map_or}
use Rattle.url.specs.Parts.{serialize}
use Rattle.sw_data.specs.declared.answers.Answer.{Answer}
use Rattle.sw_data.specs.declared.answers.Answer.TheVariants as answer
use Rattle.sw_data.specs.declared.answers.Cause.TheVariants as cause
use Rattle.sw_data.specs.declared.answers.Fault.TheVariants as fault
use Rattle.sw_data.specs.declared.answers.Notice.TheVariants as notice
use Rattle.sw_data.specs.declared.answers.SecurityCause.TheVariants as security
use Rattle.sw_data.specs.declared.answers.Settlement.{Settlement}
use Rattle.sw_data.specs.declared.answers.Settlement.TheVariants as settlement
use Rattle.sw_data.specs.declared.answers.StateCause.TheVariants as state_cause
use Rattle.sw_data.specs.declared.events.Who.{Who}
use Rattle.sw_data.specs.declared.events.Who.TheVariants as who
use Rattle.sw_data.specs.declared.recordings.ClientScope.{ClientScope}
use Rattle.sw_data.specs.declared.rows.ClientRow.{ClientRow}
use Rattle.sw_data.specs.declared.workers.Slot.{Slot}
use Rattle.sw_data.specs.Addresses.{address_of, is_trustworthy, resolved, same_origin}
use Rattle.sw_data.specs.Keys.{key_of}
use Rattle.sw_rules.specs.Activating.{worker_or_none}
use Rattle.sw_rules.specs.Jobs.{promised_value}
use Rattle.sw_rules.specs.Registering.{with_client}
use Rattle.sw_rules.specs.Registrations.{controlled_by, recheck, try_activate, unload}
use Rattle.sw_rules.specs.Rows.{active_worker_number, changed, client_row, event_row, is_activating, is_active, is_client, is_event, is_number, is_worker, mapped_registration, matched_registration_number, named_scope, registration_of, slot_worker, without, worker_row}
use Rattle.sw_rules.specs.State.{State, Registration, Worker}
use Rattle.sw_rules.specs.Told.{Told, Outcome, answered, followed, quiet, refused, type_error}

-- ---- opening and closing (HTML, "create an environment"; Service Workers, Appendix A, "Handle Fetch", for navigations)

-- the controller that a client of a key gets where it opens: the active worker of the matched registration (Service Workers, Appendix A, "Match Service Worker Registration")
abbrev pub opening_controller : State → List ℕ → List ℕ → Option ℕ
opening_controller state key url =
    if is_trustworthy url then option_and_then (active_worker_number state) (matched_registration_number state key url) else None

-- a client
abbrev pub new_client : State → ℕ → List ℕ → List ℕ → ClientRow
new_client state number key url = record {
  number = number;
  url = url;
  key = key;
  secure = is_trustworthy url;
  controller = opening_controller state key url;
}

-- a client is added last
unfoldable pub add_client : State → ClientRow → Told
add_client state client = quiet (record state { clients = state.clients ++ client ∷ [] })

-- a client opens at a parsed address
abbrev pub open_at : State → ℕ → List ℕ → Option (List ℕ) → Outcome
open_at state number url None = refused state (type_error cause.Scheme)
open_at state number url (Some key) = record {
  answer = worker_or_none (opening_controller state key url);
  told = add_client state (new_client state number key url);
}

abbrev pub open_new : State → ℕ → List ℕ → Option (List ℕ) → Outcome
open_new state number text partition =
    elim (address_of text) [
      | None ↦ refused state (type_error cause.Unparsed)
      | Some url ↦ open_at state number (serialize url) (key_of text partition)
    ]

abbrev pub open_client : State → ℕ → List ℕ → Option (List ℕ) → Outcome
open_client state number text partition =
    if is_some (client_row state number) then answered state answer.InUse
    else open_new state number text partition

-- a client is no longer there
unfoldable pub remove_client : State → ℕ → Told
remove_client state number = quiet (record state { clients = without (is_client number) state.clients })

unfoldable pub leave : State → ℕ → Told
leave state number = followed (unload state number) (λ left. remove_client left number)

-- a client closes (Service Workers, Appendix A, "Handle Service Worker Client Unload")
abbrev pub close : State → ℕ → Outcome
close state number =
    with_client state number (λ client. record { answer = answer.Ok; told = leave state number })

-- ---- promises and look-ups

abbrev pub settlement_answer : Settlement → Answer
settlement_answer settlement.Done = answer.Ok
settlement_answer (settlement.Registration number) = answer.Registration number
settlement_answer (settlement.Truth truth) = answer.Truth truth
settlement_answer (settlement.Fault why) = answer.Fault why

-- the value of the promise of an action of the same lane, where it has settled (own)
abbrev pub await : State → Who → ℕ → Option Outcome
await state (who.Lane lane at) of =
    option_map (λ result. answered state (settlement_answer result)) (promised_value state lane of)
await state _ of = None

-- the registration that a client's address matches, where it has an active worker (Service Workers, ServiceWorkerContainer, "ready")
abbrev pub ready_registration : State → ClientRow → Option ℕ
ready_registration state client =
    option_and_then (λ registration. option_map (λ worker. registration) (active_worker_number state registration))
    (matched_registration_number state client.key client.url)

abbrev pub ready : State → ℕ → Option Outcome
ready state number =
    elim (client_row state number) [
      | None ↦ Some (answered state answer.NoClient)
      | Some client ↦
          option_map (λ registration. answered state (answer.Registration registration)) (ready_registration state client)
    ]

abbrev pub registration_or_undefined : Option ℕ → Answer
registration_or_undefined (Some number) = answer.Registration number
registration_or_undefined None = answer.Undefined

-- the registration that an address matches (Service Workers, ServiceWorkerContainer, "getRegistration()")
abbrev pub registration_at : State → ClientRow → List ℕ → Outcome
registration_at state client url =
    if same_origin url client.url
    then answered state (registration_or_undefined (matched_registration_number state client.key url))
    else refused state (fault.SecurityError security.Origin)

abbrev pub get_registration : State → ℕ → List ℕ → Outcome
get_registration state number text =
    with_client state number (λ client.
    elim (resolved text client.url) [
      | None ↦ refused state (type_error cause.Unparsed)
      | Some url ↦ registration_at state client url
    ])

-- the mapped registrations of a client's key (Service Workers, ServiceWorkerContainer, "getRegistrations()")
abbrev pub get_registrations : State → ℕ → Outcome
get_registrations state number =
    with_client state number (λ client.
    answered state
    (answer.Registrations
    (map (λ row. row.number) (filter (λ row. row.mapped && bytes_eq row.key client.key) state.registrations))))

-- ---- what a client does with a registration that it names

-- an action on the registration of a client's key and a scope
abbrev pub with_named : State → ClientScope → (Registration → Outcome) → Outcome
with_named state of act =
    with_client state of.client (λ client.
    elim (named_scope client of.scope) [
      | None ↦ refused state (type_error cause.Unparsed)
      | Some scope ↦
          elim (mapped_registration state client.key scope) [
            | None ↦ refused state fault.NoRegistration
            | Some row ↦ act row
          ]
    ])

-- an action on the worker in a slot of that registration
abbrev pub with_slot : State → ClientScope → Slot → (Worker → Outcome) → Outcome
with_slot state of place act =
    with_named state of (λ row.
    elim (slot_worker state place row.number) [
      | None ↦ answered state answer.NoWorker
      | Some worker ↦ act worker
    ])

-- ---- skipWaiting (Service Workers, ServiceWorkerGlobalScope, "skipWaiting()")

-- the skip waiting flag of a worker is set
abbrev pub flagged : ℕ → State → State
flagged worker state =
    record state { workers = changed (is_worker worker) (λ row. record row { skip_waiting = true }) state.workers }

unfoldable pub skip_waiting : State → ℕ → ℕ → Told
skip_waiting state registration worker =
    followed (quiet (flagged worker state)) (λ after. try_activate after registration)

abbrev pub skip_waiting_of : State → Worker → Outcome
skip_waiting_of state worker =
    record { answer = answer.Ok; told = skip_waiting state worker.registration worker.number }

-- ---- claim (Service Workers, Clients, "claim()")

-- a client's controller becomes this worker
unfoldable pub take_control : State → ℕ → ℕ → Told
take_control state worker client = record {
  state = record state { clients = changed (is_client client) (controlled_by worker) state.clients };
  notices = notice.ControllerChange client ∷ [];
  changes = [];
}

-- a worker of a registration claims a client: the client matches that registration, and has another controller or none
abbrev pub claims : State → ℕ → ℕ → ClientRow → Bool
claims state worker registration client =
    client.secure
    && is_number (matched_registration_number state client.key client.url) registration
    && not (is_number client.controller worker)

-- one client is claimed, where it is to be
unfoldable pub claim_client : State → ℕ → ℕ → ℕ → Told
claim_client state worker registration number =
    if option_map_or (claims state worker registration) (client_row state number) false
    then followed (unload state number) (λ left. take_control left worker number)
    else quiet state

-- clients are claimed, one after another
unfoldable pub claim_clients : State → ℕ → ℕ → List ℕ → Told
claim_clients state worker registration [] = quiet state
claim_clients state worker registration (number ∷ rest) =
    followed (claim_client state worker registration number)
    (λ after. claim_clients after worker registration rest)

-- an active worker claims the clients that match its registration, in order of opening
abbrev pub claim_of : State → Worker → Outcome
claim_of state worker =
    if is_active worker.state
    then record {
      answer = answer.Ok;
      told = claim_clients state worker.number worker.registration (map (λ client. client.number) state.clients);
    }
    else refused state (fault.InvalidState state_cause.NotActive)

-- ---- fetch events (Service Workers, Appendix A, "Handle Fetch")

-- a fetch event begins on a worker
unfoldable pub add_event : State → ℕ → ℕ → Told
add_event state number worker =
    quiet (record state { fetch_events = state.fetch_events ++ record { number = number; worker = worker } ∷ [] })

abbrev pub begin_on : State → ℕ → Option Worker → Option Outcome
begin_on state number None = Some (answered state answer.NoController)
begin_on state number (Some worker) =
    if is_activating worker then None
    else if is_some (event_row state number) then Some (answered state answer.InUse)
    else Some (record { answer = answer.Worker worker.number; told = add_event state number worker.number })

-- a fetch event of a client begins, unless its controller is activating
abbrev pub begin : State → ℕ → ℕ → Option Outcome
begin state client number =
    elim (client_row state client) [
      | None ↦ Some (answered state answer.NoClient)
      | Some row ↦ begin_on state number (option_and_then (worker_row state) row.controller)
    ]

unfoldable pub remove_event : State → ℕ → Told
remove_event state number = quiet (record state { fetch_events = without (is_event number) state.fetch_events })

-- a fetch event of a worker of this registration ends; what follows is own
unfoldable pub end_event : State → ℕ → ℕ → Told
end_event state number registration =
    followed (remove_event state number) (λ ended. recheck ended registration)

-- a fetch event ends
abbrev pub end : State → ℕ → Outcome
end state number =
    elim (event_row state number) [
      | None ↦ answered state answer.NoEvent
      | Some row ↦
          elim (registration_of state row.worker) [
            | None ↦ record { answer = answer.Ok; told = remove_event state number }
            | Some registration ↦ record { answer = answer.Ok; told = end_event state number registration }
          ]
    ]
