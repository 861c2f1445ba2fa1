-- The restart from a kept content.
use Rattle.std.specs.Prelude.{ℕ, ◌+◌, Bool, true, false, List, [], ◌∷◌, map, Option, Some, None}
use Rattle.std.specs.List.{enumerate_from}
use Rattle.sw_data.specs.declared.recordings.Handlers.{Handlers}
use Rattle.sw_data.specs.declared.storage.Kept.{Kept}
use Rattle.sw_data.specs.declared.storage.KeptRegistration.{KeptRegistration}
use Rattle.sw_data.specs.declared.storage.KeptWorker.{KeptWorker}
use Rattle.sw_data.specs.declared.workers.WorkerState.{WorkerState}
use Rattle.sw_data.specs.declared.workers.WorkerState.TheVariants.{Activating, Activated}
use Rattle.sw_data.specs.declared.workers.Phase.TheVariants.{Activate}
use Rattle.sw_rules.specs.Registrations.{new_handler}
use Rattle.sw_rules.specs.State.{State, Registration, Worker, Handler, initial}

-- the handlers of a restored worker: no calls, and nothing fails (own)
abbrev pub no_handlers : Handlers
no_handlers = record { throws = false; install = []; install_fails = false; activate = [] }

-- the activate handler of a worker that is activating starts again
abbrev pub started_handler : WorkerState → Option Handler
started_handler Activating = Some (new_handler Activate)
started_handler _ = None

-- a worker that was kept
abbrev pub restored_worker : ℕ → ℕ → KeptWorker → WorkerState → Worker
restored_worker number registration kept state = record {
  number = number;
  registration = registration;
  script = kept.script;
  kind = kept.kind;
  body = kept.body;
  state = state;
  skip_waiting = false;
  fetch = None;
  handlers = no_handlers;
  handler = started_handler state;
}

-- the state of an active worker that was kept
abbrev pub active_state : Bool → WorkerState
active_state true = Activated
active_state false = Activating

-- the worker of a kept registration after a restart: the waiting one, in place of the active one, or else that one
abbrev pub worker_after_restart : ℕ → ℕ → KeptRegistration → Option Worker
worker_after_restart number registration row =
    elim row.waiting [
      | Some worker ↦ Some (restored_worker number registration worker Activating)
      | None ↦
          elim row.active [
            | Some worker ↦ Some (restored_worker number registration worker (active_state row.activated))
            | None ↦ None
          ]
    ]

-- the workers of the kept registrations, numbered in kept order from the first number on
abbrev pub restored_workers : ℕ → List (ℕ × KeptRegistration) → List Worker
restored_workers number [] = []
restored_workers number (row ∷ rest) =
    elim (worker_after_restart number row.0 row.1) [
      | Some worker ↦ worker ∷ restored_workers (number + 1) rest
      | None ↦ restored_workers number rest
    ]

-- a kept registration, with its number
abbrev pub restored_registration : ℕ × KeptRegistration → Registration
restored_registration row = record {
  number = row.0;
  key = row.1.key;
  scope = row.1.scope;
  mode = row.1.mode;
  mapped = true;
  first = Some row.0;
  owed = false;
  preload = row.1.preload;
  preload_value = row.1.preload_value;
}

-- the state after a restart from a content (Service Workers, Appendix A, "User Agent Shutdown"; the moment, at opening, and that activate handlers start again are own)
abbrev pub restart : Kept → State
restart kept = record initial {
  registrations = map restored_registration (enumerate_from 0 kept.registrations);
  workers = restored_workers 0 (enumerate_from 0 kept.registrations);
  caches = kept.caches;
}
