-- What a part of an algorithm asks and leaves of the slots of a registration.
use Rattle.std.specs.Prelude.{◌≡◌, ℕ, Bool, true, false, not, ◌&&◌, ◌||◌, ◌==◌, nat_lt, List, [], ◌∷◌, Option, Some, None, option_and_then, if◌then◌else◌}
use Rattle.std.specs.Option.{option_map_or}
use Rattle.sw_client.specs.Table as clients
use Rattle.sw_client.specs.Table.{users_of}
use Rattle.sw_data.specs.declared.answers.Notice.{Notice}
use Rattle.sw_data.specs.declared.answers.Notice.TheVariants as notice
use Rattle.sw_data.specs.declared.rows.WorkerRow.{WorkerRow}
use Rattle.sw_data.specs.declared.workers.Phase.TheVariants as phase
use Rattle.sw_data.specs.declared.workers.Slot.{Slot}
use Rattle.sw_data.specs.declared.workers.Slot.TheVariants as place
use Rattle.sw_data.specs.declared.workers.WorkerState.TheVariants as worker_state
use Rattle.sw_reg.specs.Table as registrations
use Rattle.sw_reg.specs.Table.{slot_of}
use Rattle.sw_rules.specs.Rows.{changed, has_pending_worker, is_number, is_used}
use Rattle.sw_rules.specs.State.{State}
use Rattle.sw_tables.specs.Linked.{registration_of}
use Rattle.sw_tables.specs.Parts.{is_activating}
use Rattle.sw_worker.specs.Edits.{advanced, started}
use Rattle.sw_worker.specs.Table as workers
use Rattle.sw_worker.specs.Table.{has_pending, has_worker, is_worker, worker_at}

-- own: no handler runs and no fetch event is pending on the worker in a slot of a registration
abbrev pub IsQuietIn : Slot → ℕ → workers.Table → registrations.Table → Type 0
IsQuietIn place registration of_workers of_registrations =
    (number : ℕ) → slot_of place registration of_registrations.rows ≡ Some number
    → has_pending number of_workers ≡ false

-- own: and on those in all three
abbrev pub IsQuiet : ℕ → workers.Table → registrations.Table → Type 0
IsQuiet registration of_workers of_registrations =
    (place : Slot) → IsQuietIn place registration of_workers of_registrations

abbrev pub is_of : ℕ → WorkerRow → Bool
is_of registration row = row.registration == registration

-- ---- a worker that leaves its slot

-- own: the worker of this number, where there is one, becomes redundant
abbrev pub retired : Option ℕ → List WorkerRow → List WorkerRow
retired (Some worker) rows = changed (is_worker worker) (advanced worker_state.Redundant) rows
retired None rows = rows

-- own: what is told of it
abbrev pub told_redundant : Option ℕ → List Notice
told_redundant (Some worker) = notice.Worker worker worker_state.Redundant ∷ []
told_redundant None = []

-- own: a slot of a registration is empty now; its other slots, the other workers, and what is pending stay
pub record Vacates (place : Slot) (registration : ℕ) (old new : workers.Table) (from to : registrations.Table) : Type 0 where
  pub empty : slot_of place registration to.rows ≡ None
  pub others : (other : Slot) → (other ≡ place → ⊥) → slot_of other registration to.rows ≡ slot_of other registration from.rows
  pub there : registrations.is_there registration to.rows ≡ registrations.is_there registration from.rows
  pub workers : (number : ℕ) → is_number (slot_of place registration from.rows) number ≡ false
      → worker_at number new.rows ≡ worker_at number old.rows
  pub pending : (number : ℕ) → has_pending number new ≡ has_pending number old
  pub owners : (number : ℕ) → registration_of new.rows number ≡ registration_of old.rows number

-- the row of a worker that begins to activate (Service Workers, Appendix A, "Activate")
abbrev pub activating : WorkerRow → WorkerRow
activating row = started phase.Activate (advanced worker_state.Activating row)

-- ---- what Try Activate asks

-- own: a handler or a fetch event of the worker in a slot is pending
abbrev pub is_pending_in : Slot → ℕ → workers.Table → registrations.Table → Bool
is_pending_in place registration of_workers of_registrations =
    option_map_or (λ number. has_pending number of_workers) (slot_of place registration of_registrations.rows) false

-- no client uses a registration, and no event of a worker of it is pending (Service Workers, Appendix A, "Try Clear Registration")
abbrev pub is_free : State → ℕ → Bool
is_free state registration = not (is_used state registration) && not (has_pending_worker state registration)

-- the active worker of a registration may be replaced by the waiting one (Service Workers, Appendix A, "Try Activate")
abbrev pub may_replace : ℕ → ℕ → ℕ → workers.Table → clients.Table → Bool
may_replace registration waiting active of_workers of_clients =
    not (has_worker (λ row. is_activating row.state) active of_workers.rows)
    && not (has_pending active of_workers)
    && (has_worker (λ row. row.skip_waiting) waiting of_workers.rows
    || not (nat_lt 0 (users_of registration of_clients.rows)))

-- the waiting worker that Try Activate makes active, if it does so
abbrev pub picked : ℕ → workers.Table → registrations.Table → clients.Table → Option ℕ
picked registration of_workers of_registrations of_clients =
    option_and_then (λ waiting.
    if option_map_or (λ active. may_replace registration waiting active of_workers of_clients)
    (slot_of place.Active registration of_registrations.rows) true
    then Some waiting
    else None)
    (slot_of place.Waiting registration of_registrations.rows)
