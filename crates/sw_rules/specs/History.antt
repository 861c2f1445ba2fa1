-- Histories: when one is legal, which state it leaves, when it was acknowledged, and who controls each client.
use Rattle.std.specs.Prelude.{◌≡◌, ℕ, ◌+◌, ◌*◌, ◌≤◌, min, Bool, false, ◌&&◌, ◌==◌, List, [], ◌∷◌, ◌++◌, length, filter, fold, take, is_some, Option, Some, None, option_map, option_and_then, slice_get, All, if◌then◌else◌}
use Rattle.std.specs.List.{list_any}
use Rattle.sw_data.specs.declared.answers.Answer.{Answer}
use Rattle.sw_data.specs.declared.answers.Answer.TheVariants as answer
use Rattle.sw_data.specs.declared.answers.Notice.{Notice}
use Rattle.sw_data.specs.declared.answers.Notice.TheVariants as notice
use Rattle.sw_data.specs.declared.events.Event.{Event}
use Rattle.sw_data.specs.declared.events.Event.TheVariants as event
use Rattle.sw_data.specs.declared.events.Who.TheVariants as who
use Rattle.sw_data.specs.declared.histories.Entry.{Entry}
use Rattle.sw_data.specs.declared.recordings.Call.TheVariants as call
use Rattle.sw_data.specs.declared.rows.ClientRow.{ClientRow}
use Rattle.sw_data.specs.declared.storage.Kept.{Kept}
use Rattle.sw_data.specs.Events.{who_of}
use Rattle.sw_rules.specs.State.{State, Worker}
use Rattle.sw_rules.specs.Rows.{active_worker_number, named_registration, registration_of, slot_worker, worker_row}
use Rattle.sw_rules.specs.Step.{Step, changes_of, state_after}
use Rattle.sw_rules.specs.Restart.{restart}
use Rattle.sw_rules.specs.Storage.{IsMade}

-- ---- states along a history

-- the state after an entry (own)
abbrev pub moved : State → Entry → State
moved state entry = state_after state entry.event

-- the state after these entries
abbrev pub after_entries : State → List Entry → State
after_entries state entries = fold moved state entries

-- the state after a history, whose first entry is the restart from a content (own)
abbrev pub after : Kept → List Entry → State
after base [] = restart base
after base (opening ∷ entries) = after_entries (restart base) entries

-- ---- legal histories

-- how many registrations are mapped
abbrev pub mapped_registrations : State → ℕ
mapped_registrations state = length (filter (λ row. row.mapped) state.registrations)

-- the answer of a restart: how many registrations are mapped, and how many caches are there
abbrev pub restart_answer : State → Answer
restart_answer state = answer.Restarted (mapped_registrations state) (length state.caches)

-- the entry of a restart from a content
pub record IsOpening (base : Kept) (entry : Entry) : Type 0 where
  pub event : entry.event ≡ event.Restarted who.Host
  pub maker : entry.who ≡ who.Host
  pub answer : entry.answer ≡ restart_answer (restart base)
  pub notices : entry.notices ≡ []

-- each of these entries has P, with the entries before it and the state that they leave
abbrev pub EachFrom : (List Entry → State → Entry → Type 0) → List Entry → State → List Entry → Type 0
EachFrom P before state [] = Unit {0}
EachFrom P before state (entry ∷ entries) =
    P before state entry × EachFrom P (before ++ entry ∷ []) (moved state entry) entries

-- there is a first entry, and each later one has P
abbrev pub EachLater : (List Entry → State → Entry → Type 0) → Kept → List Entry → Type 0
EachLater P base [] = ⊥
EachLater P base (opening ∷ entries) = EachFrom P (opening ∷ []) (restart base) entries

-- an entry is one step of the state before it, made by its event's maker
pub record IsStep (before : List Entry) (state : State) (entry : Entry) : Type 0 where
  pub maker : entry.who ≡ who_of entry.event
  pub step : Step state entry.event entry.answer entry.notices (moved state entry)

-- the first entry is the restart from the content
abbrev pub Opens : Kept → List Entry → Type 0
Opens base [] = ⊥
Opens base (opening ∷ entries) = IsOpening base opening

-- a history is one of the standard's algorithms from a content: a restart, and then steps (own: that a history is a list of steps)
pub record Legal (base : Kept) (history : List Entry) : Type 0 where
  pub made : IsMade base
  pub opens : Opens base history
  pub steps : EachLater IsStep base history

-- ---- stamps

-- the stamps never fall, and lie between two clocks
abbrev pub StampedFrom : ℕ → ℕ → List Entry → Type 0
StampedFrom low high [] = low ≤ high
StampedFrom low high (entry ∷ entries) = (low ≤ entry.stamp) × StampedFrom entry.stamp high entries

-- how many of these entries have durable changes
abbrev pub changing : State → List Entry → ℕ
changing state [] = 0
changing state (entry ∷ entries) = min 1 (length (changes_of state entry.event)) + changing (moved state entry) entries

-- no entry is stamped later than sixteen calls for each changing entry up to fifteen behind it allow
abbrev pub IsPaced : Kept → List Entry → Type 0
IsPaced base [] = Unit {0}
IsPaced base (opening ∷ entries) =
    (k : ℕ) (entry : Entry) → slice_get entries k ≡ Some entry
    → entry.stamp ≤ opening.stamp + 16 * changing (restart base) (take (k + 16) entries)

-- the entries were acknowledged in order between two clocks of the disk (own)
abbrev pub Stamped : Kept → ℕ → ℕ → List Entry → Type 0
Stamped base low high entries = StampedFrom low high entries × IsPaced base entries

-- ---- controllers

-- the worker that claims in an event: that of the named slot, or that of the handler
abbrev pub claiming_worker : State → Event → Option Worker
claiming_worker state (event.Claim who of place) =
    option_and_then (λ row. slot_worker state place row.number) (named_registration state of)
claiming_worker state (event.Call (who.Handler worker phase number) call.Claim) = worker_row state worker
claiming_worker state _ = None

abbrev pub tells_change : ℕ → Notice → Bool
tells_change client (notice.ControllerChange other) = other == client
tells_change client _ = false

-- what `open` gives its client: the registration of the worker that it answered, or none; any other answer opens nothing
abbrev pub given_by_open : State → Answer → Option ℕ → Option ℕ
given_by_open state (answer.Worker worker) given = registration_of state worker
given_by_open state answer.None given = None
given_by_open state _ given = given

-- the registration whose worker a client was given last, after an entry
abbrev pub given_by : ℕ → State → Entry → Option ℕ → Option ℕ
given_by client state entry given =
    elim entry.event [
      | event.Open who number url partition ↦
          if number == client then given_by_open state entry.answer given else given
      | _ ↦
          if is_some (claiming_worker state entry.event) && list_any (tells_change client) entry.notices
          then option_map (λ row. row.registration) (claiming_worker state entry.event)
          else given
    ]

-- the controller is this worker, which is there
abbrev pub IsSomeWorker : Option ℕ → Option ℕ → Type 0
IsSomeWorker None controller = ⊥
IsSomeWorker (Some worker) controller = controller ≡ Some worker

-- a client's controller is null where none was given, and otherwise the active worker of the registration that was given
abbrev pub HasGiven : State → ClientRow → Option ℕ → Type 0
HasGiven state client None = client.controller ≡ None
HasGiven state client (Some registration) =
    IsSomeWorker (active_worker_number state registration) client.controller

-- in a state each client has what it was given
abbrev pub ControlledIn : State → (ℕ → Option ℕ) → Type 0
ControlledIn state given = All (λ client. HasGiven state client (given client.number)) state.clients

-- and so in the state after each further entry
abbrev pub ControlledFrom : State → (ℕ → Option ℕ) → List Entry → Type 0
ControlledFrom state given [] = ControlledIn state given
ControlledFrom state given (entry ∷ entries) =
    ControlledIn state given
    × ControlledFrom (moved state entry) (λ client. given_by client state entry (given client)) entries

-- after each prefix of a history every controller is null or the active worker that matching or claiming gave, until its replacement (own)
abbrev pub Controlled : Kept → List Entry → Type 0
Controlled base [] = Unit {0}
Controlled base (opening ∷ entries) = ControlledFrom (restart base) (λ client. None) entries
