-- The registrations that a claim activates, in order, and what is kept of that (Service Workers, Clients, "claim()").
use Rattle.std.specs.Prelude.{ℕ, List, [], Option, None}
use Rattle.std.specs.List.{filter_map}
use Rattle.std.specs.Option.{option_map_or}
use Rattle.sw_data.specs.declared.answers.Notice.{Notice}
use Rattle.sw_data.specs.declared.answers.Notice.TheVariants as notice
use Rattle.sw_data.specs.declared.storage.Change.{Change}
use Rattle.sw_data.specs.declared.storage.Change.TheVariants as change
use Rattle.sw_data.specs.declared.workers.WorkerState.TheVariants as worker_state
use Rattle.sw_rules.specs.Clients.{claim_of}
use Rattle.sw_rules.specs.Rows.{registration_of, worker_row}
use Rattle.sw_rules.specs.State.{State}
use Rattle.sw_rules.specs.Told.{kept_change}

-- the registration of a worker that a notice makes the active one
abbrev pub activated_by : State → Notice → Option ℕ
activated_by state (notice.Worker worker worker_state.Activating) = registration_of state worker
activated_by state _ = None

-- the registrations whose waiting worker became the active one, by what was told, in order
abbrev pub activated_in : State → List Notice → List ℕ
activated_in state notices = filter_map (activated_by state) notices

-- the registrations that a claim by a worker activates, in order; none where it isn't active
abbrev pub claimed : State → ℕ → List ℕ
claimed state worker =
    option_map_or (λ row. activated_in state (claim_of state row).told.notices) (worker_row state worker) []

-- the durable change where the waiting worker of a registration becomes the active one
abbrev pub activation_change : State → ℕ → List Change
activation_change state registration = kept_change state registration (λ row. change.Active row.key row.scope)
