-- When the waiting worker of a registration takes the place of the active one (Service Workers, Appendix A, "Try Activate"), by what the tables tell of the two.
use Rattle.std.specs.Prelude.{ℕ, Bool, false, not, ◌&&◌, ◌||◌, is_none, is_some}
use Rattle.std.specs.Option.{option_map_or}
use Rattle.sw_data.specs.declared.workers.Slot.TheVariants as slot
use Rattle.sw_data.specs.declared.workers.WorkerState.TheVariants as worker_state
use Rattle.sw_reg.specs.Table as registrations
use Rattle.sw_reg.specs.Table.{slot_of}
use Rattle.sw_rules.specs.Rows.{changed, without}
use Rattle.sw_client.specs.Table as clients
use Rattle.sw_client.specs.Table.{is_open, uncontrolled}
use Rattle.sw_tables.specs.Parts.{is_activating}
use Rattle.sw_worker.specs.Edits.{advanced, ended, skipping}
use Rattle.sw_worker.specs.Table as workers
use Rattle.sw_worker.specs.Table.{has_pending, has_worker, is_event, is_worker}

-- own: the waiting worker takes the place of the active one, where that one is busy or not, the flag of the waiting one is set or not, and a client uses the registration or not
abbrev pub takes_place : Bool → Bool → Bool → ℕ → registrations.Table → Bool
takes_place busy skips used registration of_registrations =
    is_some (slot_of slot.Waiting registration of_registrations.rows)
    && (is_none (slot_of slot.Active registration of_registrations.rows) || (not busy && (skips || not used)))

-- own: a worker is activating, or a handler or a fetch event of it is pending
abbrev pub is_busy : ℕ → workers.Table → Bool
is_busy worker of_workers =
    has_worker (λ row. is_activating row.state) worker of_workers.rows || has_pending worker of_workers

-- own: a registration has an active worker, which is busy
abbrev pub is_busy_in : ℕ → workers.Table → registrations.Table → Bool
is_busy_in registration of_workers of_registrations =
    option_map_or (λ active. is_busy active of_workers) (slot_of slot.Active registration of_registrations.rows) false

-- own: a registration has a waiting worker, whose skip waiting flag is set
abbrev pub skips_in : ℕ → workers.Table → registrations.Table → Bool
skips_in registration of_workers of_registrations =
    option_map_or (λ waiting. has_worker (λ row. row.skip_waiting) waiting of_workers.rows)
    (slot_of slot.Waiting registration of_registrations.rows) false

-- ---- the tables as they will stand

-- own: the workers without a fetch event
abbrev pub without_event : ℕ → workers.Table → workers.Table
without_event event of_workers =
    record of_workers { events = without (is_event event) of_workers.events }

-- own: the clients, one of which has no controller any more
abbrev pub left_by : ℕ → clients.Table → clients.Table
left_by client of_clients =
    record of_clients { rows = changed (is_open client) uncontrolled of_clients.rows }

-- own: the workers, where the skip waiting flag of one is set
abbrev pub flagged : ℕ → workers.Table → workers.Table
flagged worker of_workers =
    record of_workers { rows = changed (is_worker worker) skipping of_workers.rows }

-- own: the workers, where the handler of one has ended
abbrev pub rested : ℕ → workers.Table → workers.Table
rested worker of_workers =
    record of_workers { rows = changed (is_worker worker) ended of_workers.rows }

-- own: the workers, where one has become activated
abbrev pub activated : ℕ → workers.Table → workers.Table
activated worker of_workers =
    record of_workers { rows = changed (is_worker worker) (advanced worker_state.Activated) of_workers.rows }
