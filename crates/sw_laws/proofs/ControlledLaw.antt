-- Controlled over histories: each event gives what its entry says.
use Rattle.std.proofs.Common.{◌≡◌, ◌∙◌, inr, ℕ, Bool, true, false, ◌&&◌, ◌==◌, List, [], ◌∷◌, ◌++◌, map, Option, Some, None, IfSome, option_map, refl, sym, ap, subst, arith, if◌then◌else◌}
use Rattle.std.specs.List.{list_any}
use Rattle.std.specs.Prelude.{find, is_some, option_and_then}
use Rattle.std.specs.Option.{option_map_or}
use Rattle.std.proofs.lemmas.Bool.Decides.{nat_tests}
use Rattle.std.proofs.lemmas.List.{append-nil}
use Rattle.sw_data.specs.declared.answers.Answer.{Answer}
use Rattle.sw_data.specs.declared.answers.Answer.TheVariants as answer
use Rattle.sw_data.specs.declared.answers.Notice.{Notice}
use Rattle.sw_data.specs.declared.events.Event.{Event}
use Rattle.sw_data.specs.declared.events.Event.TheVariants as event
use Rattle.sw_data.specs.declared.events.Who.TheVariants as who
use Rattle.sw_data.specs.declared.histories.Entry.{Entry}
use Rattle.sw_data.specs.declared.recordings.Call.TheVariants as call
use Rattle.sw_data.specs.declared.rows.ClientRow.{ClientRow}
use Rattle.sw_data.specs.declared.storage.Kept.{Kept}
use Rattle.sw_data.specs.declared.answers.Cause.TheVariants as cause
use Rattle.sw_data.specs.declared.answers.Fault.TheVariants as fault
use Rattle.sw_data.specs.declared.answers.StateCause.TheVariants as state_cause
use Rattle.sw_data.specs.declared.recordings.ClientScope.{ClientScope}
use Rattle.sw_data.specs.declared.storage.Change.{Change}
use Rattle.sw_data.specs.declared.workers.Phase.{Phase}
use Rattle.sw_data.specs.declared.workers.Slot.{Slot}
use Rattle.sw_data.specs.Addresses.{address_of}
use Rattle.sw_data.specs.Events.{who_of}
use Rattle.sw_data.specs.Keys.{key_of}
use Rattle.sw_rules.specs.Activating.{worker_or_none}
use Rattle.sw_rules.specs.Calls.{call_by, counted_call, is_fault, is_next_call, note_call, noted}
use Rattle.sw_rules.specs.Clients.{add_client, claim_of, new_client, open_at, open_client, opening_controller, with_slot}
use Rattle.sw_rules.specs.History.{Controlled, ControlledFrom, EachFrom, IsStep, Legal, given_by, given_by_open, moved, tells_change}
use Rattle.sw_rules.specs.Rows.{client_row, has_worker, is_active, is_client, is_worker, mapped_registration, named_registration, named_scope, registration_row, slot_worker, worker_row}
use Rattle.sw_rules.specs.Restart.{restart}
use Rattle.sw_rules.specs.State.{State, Registration, Worker}
use Rattle.sw_rules.specs.Step.{Step, state_after, step}
use Rattle.sw_rules.specs.Told.{Outcome, answered, followed, quiet, refused, type_error}
use Rattle.sw_laws.specs.Coherent.{Coherent}
use Rattle.sw_laws.proofs.CoherentLaw.{step-coherent}
use Rattle.sw_laws.proofs.Controls.{claims_give, controlled_in, held_is}
use Rattle.sw_laws.proofs.Events.{gives_control, step-law}
use Rattle.sw_laws.proofs.Held.{Holds, HoldsBut, held, holds-moved, owner_of}
use Rattle.sw_laws.proofs.HeldLaw.{held_law, nobody}
use Rattle.sw_laws.proofs.Lists.{by_option, by_test, find_any}
use Rattle.sw_laws.proofs.Restarts.{made_sound, restart-coherent}
use Rattle.sw_laws.proofs.RowSteps.{no_option}
use Rattle.sw_laws.proofs.WorkerSteps.{call_harmless}

-- what each client was given after an event
abbrev given_of : State → Entry → Event → (ℕ → Option ℕ) → ℕ → Option ℕ
given_of state entry happened given client = given_by client state (record entry { event = happened }) (given client)

-- an event gives what its entry says
abbrev Gives : State → Entry → Event → Type 0
Gives state entry happened =
    Coherent state → Step state happened entry.answer entry.notices (state_after state happened) → (given : ℕ → Option ℕ) → HoldsBut nobody given state.workers state.clients
    → HoldsBut nobody (given_of state entry happened given) (state_after state happened).workers (state_after state happened).clients

-- an event that neither opens nor claims
held_after : (state : State) (o : Option Outcome) → IfSome o (λ outcome. Holds nobody state outcome.told) → Coherent state → (given : ℕ → Option ℕ) → HoldsBut nobody given state.workers state.clients
    → let after = option_map_or (λ (outcome : Outcome). outcome.told.state) o state in HoldsBut nobody given after.workers after.clients
held_after state None law sound given holds = holds
held_after state (Some outcome) law sound given holds = (law sound).1 given holds

other_holds : (state : State) (happened : Event) → gives_control happened ≡ false → Coherent state → (given : ℕ → Option ℕ) → HoldsBut nobody given state.workers state.clients → HoldsBut nobody given (state_after state happened).workers (state_after state happened).clients
other_holds state happened other sound given holds =
    held_after state (step state happened) (step-law (Holds nobody) false held_law state happened (λ is. sym other ∙ is)) sound given holds

holds_same : (given other : ℕ → Option ℕ) → ((client : ℕ) → other client ≡ given client) → (workers : List Worker) (clients : List ClientRow) → HoldsBut nobody given workers clients → HoldsBut nobody other workers clients
holds_same given other same workers [] holds = tt
holds_same given other same workers (c ∷ cs) holds = (inr (held_is given workers c holds.0 ∙ sym (same c.number)), holds_same given other same workers cs holds.1)

-- ---- claim

abbrev given_by_claim : Option Worker → List Notice → (ℕ → Option ℕ) → ℕ → Option ℕ
given_by_claim claiming notices given client =
    if is_some claiming && list_any (tells_change client) notices then option_map (λ row. row.registration) claiming else given client

abbrev ClaimGives : State → Option Worker → Outcome → Type 0
ClaimGives state claiming outcome =
    (given : ℕ → Option ℕ) → HoldsBut nobody given state.workers state.clients
    → HoldsBut nobody (given_by_claim claiming outcome.told.notices given) outcome.told.state.workers outcome.told.state.clients

and_nothing : (b : Bool) {A : Type 0} (x y : A) → (if b && false then x else y) ≡ y
and_nothing true x y = refl
and_nothing false x y = refl

claim_quiet : (state : State) (claiming : Option Worker) (reply : Answer) → ClaimGives state claiming (record { answer = reply; told = quiet state })
claim_quiet state claiming reply given holds =
    holds_same given (given_by_claim claiming [] given) (λ client. and_nothing (is_some claiming) (option_map (λ (row : Worker). row.registration) claiming) (given client)) state.workers state.clients holds

found_active : (state : State) (test : Worker → Bool) (worker : Worker) → find test state.workers ≡ Some worker → is_active worker.state ≡ true → has_worker (λ row. row.registration == worker.registration && is_active row.state) state.workers worker.number ≡ true
found_active state test worker found active =
    find_any test (λ row. row.number == worker.number && (row.registration == worker.registration && is_active row.state)) state.workers worker found (grind (arith, nat_tests, active))

claim_of_gives : (state : State) (test : Worker → Bool) (worker : Worker) → find test state.workers ≡ Some worker → Coherent state → ClaimGives state (Some worker) (claim_of state worker)
claim_of_gives state test worker found sound =
    by_test (ClaimGives state (Some worker)) (is_active worker.state) _ _
    (λ active. claims_give (map (λ client. client.number) state.clients) state worker.number worker.registration (found_active state test worker found active) sound)
    (λ inactive. claim_quiet state (Some worker) (answer.Fault (fault.InvalidState state_cause.NotActive)))

slot_gives : (state : State) (place : Slot) (registration : ℕ) (found : Option Worker) → slot_worker state place registration ≡ found → Coherent state → ClaimGives state found (elim found [ None ↦ answered state answer.NoWorker | Some worker ↦ claim_of state worker ])
slot_gives state place registration None is sound = claim_quiet state None answer.NoWorker
slot_gives state place registration (Some worker) is sound = claim_of_gives state _ worker is sound

row_gives : (state : State) (place : Slot) (row : Option Registration) → Coherent state
    → ClaimGives state (option_and_then (λ (r : Registration). slot_worker state place r.number) row) (elim row [ None ↦ refused state fault.NoRegistration | Some r ↦ elim (slot_worker state place r.number) [ None ↦ answered state answer.NoWorker | Some worker ↦ claim_of state worker ] ])
row_gives state place None sound = claim_quiet state None (answer.Fault fault.NoRegistration)
row_gives state place (Some row) sound = slot_gives state place row.number (slot_worker state place row.number) refl sound

scope_gives : (state : State) (place : Slot) (key : List ℕ) (scope : Option (List ℕ)) → Coherent state
    → ClaimGives state (option_and_then (λ (r : Registration). slot_worker state place r.number) (option_and_then (mapped_registration state key) scope))
    (elim scope [ None ↦ refused state (type_error cause.Unparsed) | Some s ↦ elim (mapped_registration state key s) [ None ↦ refused state fault.NoRegistration | Some r ↦ elim (slot_worker state place r.number) [ None ↦ answered state answer.NoWorker | Some worker ↦ claim_of state worker ] ] ])
scope_gives state place key None sound = claim_quiet state None (answer.Fault (type_error cause.Unparsed))
scope_gives state place key (Some scope) sound = row_gives state place (mapped_registration state key scope) sound

named_gives : (state : State) (of : ClientScope) (place : Slot) (client : Option ClientRow) → Coherent state
    → ClaimGives state (option_and_then (λ (r : Registration). slot_worker state place r.number) (option_and_then (λ (c : ClientRow). option_and_then (mapped_registration state c.key) (named_scope c of.scope)) client))
    (elim client [ None ↦ answered state answer.NoClient | Some c ↦ elim (named_scope c of.scope) [ None ↦ refused state (type_error cause.Unparsed) | Some s ↦ elim (mapped_registration state c.key s) [ None ↦ refused state fault.NoRegistration | Some r ↦ elim (slot_worker state place r.number) [ None ↦ answered state answer.NoWorker | Some worker ↦ claim_of state worker ] ] ] ])
named_gives state of place None sound = claim_quiet state None answer.NoClient
named_gives state of place (Some client) sound = scope_gives state place client.key (named_scope client of.scope) sound

with_slot_gives : (state : State) (of : ClientScope) (place : Slot) → Coherent state → ClaimGives state (option_and_then (λ (r : Registration). slot_worker state place r.number) (named_registration state of)) (with_slot state of place (claim_of state))
with_slot_gives state of place sound = named_gives state of place (client_row state of.client) sound

-- a handler notes its call
noted_gives : (state : State) (worker : Worker) (number : ℕ) → worker_row state number ≡ Some worker → Coherent state → ClaimGives state (Some worker) (noted (claim_of state worker) worker.number)
unfolding note_call followed
noted_gives state worker number found sound given holds =
    let outcome = claim_of state worker in
    let claimed = claim_of_gives state (is_worker number) worker found sound given holds in
    holds_same (given_by_claim (Some worker) outcome.told.notices given) (given_by_claim (Some worker) (outcome.told.notices ++ []) given)
    (λ client. ap (λ (notices : List Notice). given_by_claim (Some worker) notices given client) (append-nil outcome.told.notices)) _ outcome.told.state.clients
    (holds-moved nobody (given_by_claim (Some worker) outcome.told.notices given) (λ row. if is_worker worker.number row then record row { handler = option_map (counted_call (is_fault outcome.answer)) row.handler } else row) (call_harmless worker.number (is_fault outcome.answer)).keeps outcome.told.state.workers outcome.told.state.clients claimed)

-- ---- open

abbrev given_at_open : State → ℕ → Answer → (ℕ → Option ℕ) → ℕ → Option ℕ
given_at_open state number reply given client = if number == client then given_by_open state reply (given client) else given client

abbrev OpenGives : State → ℕ → Outcome → Type 0
OpenGives state number outcome =
    (given : ℕ → Option ℕ) → HoldsBut nobody given state.workers state.clients
    → HoldsBut nobody (given_at_open state number outcome.answer given) outcome.told.state.workers outcome.told.state.clients

open_quiet : (state : State) (number : ℕ) (reply : Answer) → ((given : Option ℕ) → given_by_open state reply given ≡ given) → OpenGives state number (record { answer = reply; told = quiet state })
open_quiet state number reply same given holds =
    holds_same given (given_at_open state number reply given) (λ client. by_test (λ (o : Option ℕ). o ≡ given client) (number == client) _ _ (λ here. same (given client)) (λ other. refl)) state.workers state.clients holds

-- the clients that are there aren't the one that opens
opened_holds : (state : State) (number : ℕ) (reply : Answer) (given : ℕ → Option ℕ) (new : ClientRow) (clients : List ClientRow) → new.number ≡ number → held state.workers new ≡ given_by_open state reply (given number) → find (is_client number) clients ≡ None
    → HoldsBut nobody given state.workers clients → HoldsBut nobody (given_at_open state number reply given) state.workers (clients ++ new ∷ [])
opened_holds state number reply given new [] is same free holds =
    (inr (by_test (λ (o : Option ℕ). held state.workers new ≡ o) (number == new.number) _ _ (λ here. same ∙ ap (λ n. given_by_open state reply (given n)) (sym is)) (λ other. absurd (grind (arith, nat_tests, is, other)))), tt)
opened_holds state number reply given new (c ∷ cs) is same free holds = (
  inr (by_test (λ (o : Option ℕ). held state.workers c ≡ o) (number == c.number) _ _ (λ here. absurd (grind (arith, nat_tests, free, here))) (λ other. held_is given state.workers c holds.0)),
  opened_holds state number reply given new cs is same (grind (arith, free)) holds.1,
)

controller_given : (state : State) (controller : Option ℕ) (given : Option ℕ) → option_and_then (owner_of state.workers) controller ≡ given_by_open state (worker_or_none controller) given
controller_given state None given = refl
controller_given state (Some worker) given = refl

open_at_gives : (state : State) (number : ℕ) (url : List ℕ) (key : Option (List ℕ)) → is_some (client_row state number) ≡ false → OpenGives state number (open_at state number url key)
unfolding add_client
open_at_gives state number url None free given holds = open_quiet state number (answer.Fault (type_error cause.Scheme)) (λ was. refl) given holds
open_at_gives state number url (Some key) free given holds =
    opened_holds state number (worker_or_none (opening_controller state key url)) given (new_client state number key url) state.clients refl (controller_given state (opening_controller state key url) (given number)) (no_option (client_row state number) free) holds

open_gives : (state : State) (number : ℕ) (text : List ℕ) (partition : Option (List ℕ)) → OpenGives state number (open_client state number text partition)
open_gives state number text partition =
    by_test (OpenGives state number) (is_some (client_row state number)) _ _ (λ used. open_quiet state number answer.InUse (λ given. refl))
    (λ free. by_option (OpenGives state number) (address_of text) _ _ (λ none. open_quiet state number (answer.Fault (type_error cause.Unparsed)) (λ given. refl)) (λ url there. open_at_gives state number _ (key_of text partition) free))

-- ---- each event

-- what an outcome answers and tells is what its entry says
said : (P : Answer → List Notice → State → Type 0) (outcome : Outcome) (reply : Answer) (notices : List Notice) (new : State) (changes : List Change) → Some outcome ≡ Some (record { answer = reply; told = record { state = new; notices = notices; changes = changes } }) → P outcome.answer outcome.told.notices outcome.told.state → P reply notices outcome.told.state
said P outcome reply notices new changes is holds =
    let same : outcome ≡ record { answer = reply; told = record { state = new; notices = notices; changes = changes } } = cc in
    subst (λ (n : List Notice). P reply n outcome.told.state) (ap (λ (o : Outcome). o.told.notices) same) (subst (λ (a : Answer). P a outcome.told.notices outcome.told.state) (ap (λ (o : Outcome). o.answer) same) holds)

-- a handler claims
next_gives : (state : State) (row : Worker) (number : ℕ) → worker_row state number ≡ Some row → Coherent state → (b : Bool) (registration : Option Registration) (reply : Answer) (notices : List Notice) (new : State) (changes : List Change)
    → (if b then option_map (λ (r : Registration). noted (claim_of state row) row.number) registration else None) ≡ Some (record { answer = reply; told = record { state = new; notices = notices; changes = changes } })
    → (given : ℕ → Option ℕ) → HoldsBut nobody given state.workers state.clients
    → let after = option_map_or (λ (outcome : Outcome). outcome.told.state) (if b then option_map (λ (r : Registration). noted (claim_of state row) row.number) registration else None) state in HoldsBut nobody (given_by_claim (Some row) notices given) after.workers after.clients
next_gives state row number found sound true (Some registration) reply notices new changes is given holds =
    said (λ a n after. HoldsBut nobody (given_by_claim (Some row) n given) after.workers after.clients) (noted (claim_of state row) row.number) reply notices new changes is (noted_gives state row number found sound given holds)
next_gives state row number found sound true None reply notices new changes is given holds = absurd cc
next_gives state row number found sound false registration reply notices new changes is given holds = absurd cc

call_gives : (state : State) (number : ℕ) (in_phase : Phase) (at : ℕ) (found : Option Worker) → worker_row state number ≡ found → Coherent state → (reply : Answer) (notices : List Notice) (new : State) (changes : List Change)
    → option_and_then (λ (row : Worker). if is_next_call state row in_phase at call.Claim then call_by state (who.Handler number in_phase at) row in_phase call.Claim else None) found ≡ Some (record { answer = reply; told = record { state = new; notices = notices; changes = changes } })
    → (given : ℕ → Option ℕ) → HoldsBut nobody given state.workers state.clients
    → let after = option_map_or (λ (outcome : Outcome). outcome.told.state) (option_and_then (λ (row : Worker). if is_next_call state row in_phase at call.Claim then call_by state (who.Handler number in_phase at) row in_phase call.Claim else None) found) state in HoldsBut nobody (given_by_claim found notices given) after.workers after.clients
call_gives state number in_phase at None is sound reply notices new changes made given holds = absurd cc
call_gives state number in_phase at (Some row) is sound reply notices new changes made given holds =
    next_gives state row number is sound (is_next_call state row in_phase at call.Claim) (registration_row state row.registration) reply notices new changes made given holds

gives : (state : State) (entry : Entry) (happened : Event) → Gives state entry happened
unfolding step who_of
gives state entry (event.Open who.Host client url partition) sound made given holds = absurd cc
gives state entry (event.Open (who.Lane lane at) client url partition) sound made given holds =
    said (λ reply notices new. HoldsBut nobody (given_at_open state client reply given) new.workers new.clients) (open_client state client url partition) entry.answer entry.notices _ made.0 made.1 (open_gives state client url partition given holds)
gives state entry (event.Open (who.Handler worker in_phase at) client url partition) sound made given holds = absurd cc
gives state entry (event.Claim who.Host of place) sound made given holds = absurd cc
gives state entry (event.Claim (who.Lane lane at) of place) sound made given holds =
    said (λ reply notices new. HoldsBut nobody (given_by_claim (option_and_then (λ (r : Registration). slot_worker state place r.number) (named_registration state of)) notices given) new.workers new.clients) (with_slot state of place (claim_of state)) entry.answer entry.notices _ made.0 made.1 (with_slot_gives state of place sound given holds)
gives state entry (event.Claim (who.Handler worker in_phase at) of place) sound made given holds = absurd cc
gives state entry (event.Call who.Host asked) sound made given holds = holds
gives state entry (event.Call (who.Lane lane at) asked) sound made given holds = holds
gives state entry (event.Call (who.Handler worker in_phase at) call.Claim) sound made given holds =
    call_gives state worker in_phase at (worker_row state worker) refl sound entry.answer entry.notices _ made.0 made.1 given holds
gives state entry (event.Call (who.Handler worker in_phase at) asked) sound made given holds = other_holds state (event.Call (who.Handler worker in_phase at) asked) refl sound given holds
gives state entry happened sound made given holds = other_holds state happened refl sound given holds

-- ---- histories

controlled_from : (entries before : List Entry) (state : State) (given : ℕ → Option ℕ) → Coherent state → EachFrom IsStep before state entries → HoldsBut nobody given state.workers state.clients → ControlledFrom state given entries
controlled_from [] before state given sound steps holds = controlled_in state given sound holds
controlled_from (entry ∷ entries) before state given sound steps holds = (
  controlled_in state given sound holds,
  controlled_from entries (before ++ entry ∷ []) (moved state entry) (λ client. given_by client state entry (given client)) (step-coherent state entry.event sound) steps.1
      (gives state entry entry.event sound steps.0.step given holds),
)

pub legal_controlled : (base : Kept) (history : List Entry) → Legal base history → Controlled base history
legal_controlled base [] legal = tt
legal_controlled base (opening ∷ entries) legal =
    controlled_from entries (opening ∷ []) (restart base) (λ client. None) (restart-coherent base (made_sound base legal.made)) legal.steps tt
