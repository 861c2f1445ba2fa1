-- Registrations: their making, mode and leaving of the map, activation, clearing, and clients that leave them.
use Rattle.std.specs.Prelude.{ℕ, Bool, true, false, not, ◌&&◌, ◌||◌, [], ◌∷◌, ◌++◌, map, filter, length, codes, is_none, Option, Some, None, option_and_then, if◌then◌else◌}
use Rattle.std.specs.Option.{option_map_or}
use Rattle.sw_data.specs.declared.answers.Notice.TheVariants as notice
use Rattle.sw_data.specs.declared.rows.ClientRow.{ClientRow}
use Rattle.sw_data.specs.declared.rows.Job.{Job}
use Rattle.sw_data.specs.declared.storage.Change.TheVariants as change
use Rattle.sw_data.specs.declared.workers.Mode.{Mode}
use Rattle.sw_data.specs.declared.workers.Phase.{Phase}
use Rattle.sw_data.specs.declared.workers.Phase.TheVariants as phase
use Rattle.sw_data.specs.declared.workers.Slot.{Slot}
use Rattle.sw_data.specs.declared.workers.Slot.TheVariants as slot
use Rattle.sw_data.specs.declared.workers.WorkerState.{WorkerState}
use Rattle.sw_data.specs.declared.workers.WorkerState.TheVariants as worker_state
use Rattle.sw_rules.specs.Jobs.{same_mode}
use Rattle.sw_rules.specs.Rows.{changed, client_row, has_pending, has_pending_worker, is_activating, is_client, is_mapped, is_registration, is_used, is_worker, newest_worker, registration_of, registration_row, slot_worker, uses}
use Rattle.sw_rules.specs.State.{State, Registration, Worker, Handler}
use Rattle.sw_rules.specs.Told.{Told, followed, keep, kept_change, quiet}

-- ---- the map (Service Workers, "scope to registration map")

-- a new registration of a job's key and scope
abbrev pub new_registration : ℕ → Job → Registration
new_registration number job = record {
  number = number;
  key = job.key;
  scope = job.scope;
  mode = job.mode;
  mapped = true;
  first = None;
  owed = false;
  preload = false;
  preload_value = codes "true";
}

-- a registration is made and mapped (Service Workers, Appendix A, "Set Registration")
unfoldable pub map_registration : State → Job → Told
map_registration state job = record {
  state = record state {
    registrations = state.registrations ++ new_registration (length state.registrations) job ∷ [];
  };
  notices = notice.Mapped (length state.registrations) ∷ [];
  changes = [];
}

-- a registration leaves the map
unfoldable pub unmap : State → ℕ → Told
unmap state registration = record {
  state = record state {
    registrations = changed (is_registration registration) (λ row. record row { mapped = false }) state.registrations;
  };
  notices = notice.Unmapped registration ∷ [];
  changes = kept_change state registration (λ row. change.Gone row.key row.scope);
}

-- a registration without a worker leaves the map (Service Workers, Appendix A, "Update" and "Install", where the newest worker is null)
unfoldable pub drop_registration : State → ℕ → Told
drop_registration state registration =
    if is_none (newest_worker state registration) then unmap state registration else quiet state

-- a registration has this mode
abbrev pub has_mode : State → ℕ → Mode → Bool
has_mode state registration mode =
    option_map_or (λ row. same_mode row.mode mode) (registration_row state registration) true

-- a registration gets a mode (Service Workers, "update via cache mode")
unfoldable pub set_mode : State → ℕ → Mode → Told
set_mode state registration mode = record {
  state = record state {
    registrations = changed (is_registration registration) (λ row. record row { mode = mode }) state.registrations;
  };
  notices = [];
  changes =
      if has_mode state registration mode then []
      else kept_change state registration (λ row. change.Mode row.key row.scope mode);
}

-- ---- states of workers

-- the state of a worker becomes this one (Service Workers, Appendix A, "Update Worker State")
unfoldable pub become : State → ℕ → WorkerState → Told
become state worker to = record {
  state = record state { workers = changed (is_worker worker) (λ row. record row { state = to }) state.workers };
  notices = notice.Worker worker to ∷ [];
  changes = [];
}

-- the worker of a registration in a slot, where there is one, becomes redundant
unfoldable pub retire : State → Slot → ℕ → Told
retire state place registration =
    elim (slot_worker state place registration) [
      | None ↦ quiet state
      | Some old ↦ become state old.number worker_state.Redundant
    ]

-- ---- Activate

-- a handler that starts
abbrev pub new_handler : Phase → Handler
new_handler in_phase = record { phase = in_phase; made = 0; faulted = false }

-- the handler of a worker starts
unfoldable pub start_handler : State → ℕ → Phase → Told
start_handler state worker in_phase =
    quiet (record state {
      workers = changed (is_worker worker) (λ row. record row { handler = Some (new_handler in_phase) }) state.workers;
    })

abbrev pub controlled_by : ℕ → ClientRow → ClientRow
controlled_by worker client = record client { controller = Some worker }

-- a worker becomes the controller of each client that uses the registration
unfoldable pub take_over : State → ℕ → ℕ → Told
take_over state registration worker = record {
  state = record state {
    clients = changed (uses state.workers registration) (controlled_by worker) state.clients;
  };
  notices =
      map (λ client. notice.ControllerChange client.number) (filter (uses state.workers registration) state.clients);
  changes = [];
}

-- the waiting worker of a registration, of this number, becomes the active one in place of another, and the controller of each client that uses the registration (Service Workers, Appendix A, "Activate")
unfoldable pub activate : State → ℕ → ℕ → Told
activate state registration worker =
    followed (keep state registration (λ row. change.Active row.key row.scope)) (λ kept.
    followed (retire kept slot.Active registration) (λ retired.
    followed (become retired worker worker_state.Activating) (λ activating.
    followed (take_over activating registration worker) (λ taken.
    start_handler taken worker phase.Activate))))

-- the active worker, if any, may be replaced by this waiting one
abbrev pub may_replace : State → ℕ → Worker → Option Worker → Bool
may_replace state registration waiting None = true
may_replace state registration waiting (Some active) =
    not (is_activating active)
    && not (has_pending state active)
    && (waiting.skip_waiting || not (is_used state registration))

-- the waiting worker that Try Activate makes active, if it does so
abbrev pub chosen : State → ℕ → Option ℕ
chosen state registration =
    option_and_then
    (λ waiting.
    if may_replace state registration waiting (slot_worker state slot.Active registration)
    then Some waiting.number
    else None)
    (slot_worker state slot.Waiting registration)

-- the waiting worker becomes the active one, where it may (Service Workers, Appendix A, "Try Activate")
unfoldable pub try_activate : State → ℕ → Told
try_activate state registration =
    elim (chosen state registration) [
      | None ↦ quiet state
      | Some worker ↦ activate state registration worker
    ]

-- ---- Clear Registration

-- the installing, the waiting and the active worker of a registration become redundant (Service Workers, Appendix A, "Clear Registration")
unfoldable pub clear : State → ℕ → Told
clear state registration =
    followed (retire state slot.Installing registration) (λ one.
    followed (retire one slot.Waiting registration) (λ two. retire two slot.Active registration))

-- a registration without users and pending events is cleared (Service Workers, Appendix A, "Try Clear Registration")
unfoldable pub try_clear : State → ℕ → Told
try_clear state registration =
    if is_used state registration || has_pending_worker state registration then quiet state
    else clear state registration

-- Try Clear Registration where a registration is unregistered, then Try Activate
unfoldable pub recheck : State → ℕ → Told
recheck state registration =
    followed (if is_mapped state registration then quiet state else try_clear state registration)
    (λ cleared. try_activate cleared registration)

-- ---- Handle Service Worker Client Unload

-- a client has no controller any more
abbrev pub left_by : ℕ → State → State
left_by client state =
    record state { clients = changed (is_client client) (λ row. record row { controller = None }) state.clients }

-- a registration that a client has left is rechecked, unless another client uses it
unfoldable pub release : State → ℕ → Told
release state registration =
    if is_used state registration then quiet state else recheck state registration

-- the registration that a client uses, if any
abbrev pub used_registration : State → ℕ → Option ℕ
used_registration state client =
    option_and_then (registration_of state) (option_and_then (λ row. row.controller) (client_row state client))

-- a client leaves the registration that it uses; it counts no longer as using it (Service Workers, Appendix A, "Handle Service Worker Client Unload"; that it no longer counts is own)
unfoldable pub unload : State → ℕ → Told
unload state client =
    elim (used_registration state client) [
      | None ↦ quiet state
      | Some registration ↦ followed (quiet (left_by client state)) (λ left. release left registration)
    ]
