-- The rows that a kept registration gets at a restart.
use Rattle.std.specs.Prelude.{ℕ, Bool, true, false, ◌&&◌, is_none, Option, None}
use Rattle.std.specs.Option.{option_or}
use Rattle.sw_data.specs.declared.rows.RegistrationRow.{RegistrationRow}
use Rattle.sw_data.specs.declared.rows.WorkerRow.{WorkerRow}
use Rattle.sw_data.specs.declared.storage.KeptRegistration.{KeptRegistration}
use Rattle.sw_data.specs.declared.storage.KeptWorker.{KeptWorker}
use Rattle.sw_data.specs.declared.workers.Phase.TheVariants as phase
use Rattle.sw_data.specs.declared.workers.WorkerState.TheVariants as worker_state
use Rattle.sw_reg.specs.Edits.{new_registration, with_active, with_installing, with_waiting}
use Rattle.sw_rules.specs.Restart.{no_handlers}
use Rattle.sw_worker.specs.Edits.{advanced, new_worker, started}

-- own: the worker that a kept registration has after a restart: the waiting one, in place of the active one, or else that one
abbrev pub chosen_worker : KeptRegistration → Option KeptWorker
chosen_worker row = option_or row.waiting row.active

-- own: that worker is activated: it was active and activated
abbrev pub is_activated : KeptRegistration → Bool
is_activated row = row.activated && is_none row.waiting

-- own: a parsed worker becomes activated, or activating with its activate handler started
abbrev pub raised : Bool → WorkerRow → WorkerRow
raised true row = advanced worker_state.Activated row
raised false row = started phase.Activate (advanced worker_state.Activating row)

-- own: the row of a worker that was kept
abbrev pub worker_row : ℕ → ℕ → KeptWorker → Bool → WorkerRow
worker_row number registration kept activated =
    raised activated (new_worker number registration kept.script kept.kind kept.body None no_handlers)

-- own: a new registration gets its first waiting worker, which becomes the active one
abbrev pub seated : ℕ → ℕ → RegistrationRow → RegistrationRow
seated first worker row = with_active (with_waiting first (with_installing worker row))

-- own: the row of a registration that was kept
abbrev pub registration_row : ℕ → ℕ → ℕ → KeptRegistration → RegistrationRow
registration_row first worker number row = seated first worker (new_registration number row.key row.scope row.mode)
