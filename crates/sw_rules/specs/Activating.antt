-- Activating: the owed Try Activate, and the end of an activate handler.
use Rattle.std.specs.Prelude.{ℕ, Bool, false, not, ◌&&◌, ◌==◌, Option, Some, None, option_map, option_and_then, if◌then◌else◌}
use Rattle.std.specs.List.{list_any}
use Rattle.sw_data.specs.declared.answers.Answer.{Answer}
use Rattle.sw_data.specs.declared.answers.Answer.TheVariants as answer
use Rattle.sw_data.specs.declared.storage.Change.TheVariants as change
use Rattle.sw_data.specs.declared.workers.WorkerState.TheVariants as worker_state
use Rattle.sw_rules.specs.Installing.{end_handler, ended_handler}
use Rattle.sw_rules.specs.Registrations.{become, chosen, recheck, try_activate}
use Rattle.sw_rules.specs.Rows.{changed, is_registration, is_install, worker_row}
use Rattle.sw_rules.specs.State.{State}
use Rattle.sw_rules.specs.Told.{Told, Outcome, followed, keep}

-- ---- the owed Try Activate (Service Workers, Appendix A, "Install", its last step)

abbrev pub is_owed : State → ℕ → Bool
is_owed state registration = list_any (λ row. row.number == registration && row.owed) state.registrations

-- a registration is no longer owed a Try Activate
abbrev pub paid : ℕ → State → State
paid registration state = record state {
  registrations = changed (is_registration registration) (λ row. record row { owed = false }) state.registrations;
}

abbrev pub worker_or_none : Option ℕ → Answer
worker_or_none (Some worker) = answer.Worker worker
worker_or_none None = answer.None

-- an owed Try Activate
unfoldable pub pay : State → ℕ → Outcome
pay state registration = record {
  answer = worker_or_none (chosen (paid registration state) registration);
  told = try_activate (paid registration state) registration;
}

abbrev pub tryactivate : State → ℕ → Option Outcome
tryactivate state registration = if is_owed state registration then Some (pay state registration) else None

-- ---- the end of an activate handler (Service Workers, Appendix A, "Activate", from the activate event on)

-- the active worker of a registration, of this number, becomes activated
unfoldable pub become_activated : State → ℕ → ℕ → Told
become_activated state registration worker =
    followed (keep state registration (λ row. change.Activated row.key row.scope))
    (λ kept. become kept worker worker_state.Activated)

-- the activate handler of a worker has ended; what follows, and the moment, is own
unfoldable pub finish_activate : State → ℕ → ℕ → Told
finish_activate state registration worker =
    followed (end_handler state worker) (λ ended.
    followed (become_activated ended registration worker) (λ activated. recheck activated registration))

-- the activate handler of a worker ends, where it has made its calls
abbrev pub activated : State → ℕ → Option Outcome
activated state number =
    option_and_then (λ worker.
    option_map (λ handler. record { answer = answer.Ok; told = finish_activate state worker.registration worker.number })
    (ended_handler state (λ phase. not (is_install phase)) worker))
    (worker_row state number)
