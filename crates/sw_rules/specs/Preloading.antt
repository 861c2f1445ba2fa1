-- Navigation preload (Service Workers, "NavigationPreloadManager").
use Rattle.std.specs.Prelude.{ℕ, Bool, true, ◌&&◌, List, [], bytes_eq, is_some, if◌then◌else◌}
use Rattle.std.specs.Option.{option_map_or}
use Rattle.sw_data.specs.declared.answers.Answer.TheVariants as answer
use Rattle.sw_data.specs.declared.answers.Fault.TheVariants as fault
use Rattle.sw_data.specs.declared.answers.StateCause.TheVariants as state_cause
use Rattle.sw_data.specs.declared.recordings.ClientScope.{ClientScope}
use Rattle.sw_data.specs.declared.storage.Change.TheVariants as change
use Rattle.sw_data.specs.Sameness.{same_truth}
use Rattle.sw_rules.specs.Clients.{with_named}
use Rattle.sw_rules.specs.Rows.{active_worker_number, changed, is_registration, registration_row}
use Rattle.sw_rules.specs.State.{State, Registration}
use Rattle.sw_rules.specs.Told.{Told, Outcome, answered, kept_change, refused}

-- a registration has this preload flag and value
abbrev pub has_preload : Bool → List ℕ → Registration → Bool
has_preload on text row = same_truth row.preload on && bytes_eq row.preload_value text

-- a registration gets a preload flag and value
unfoldable pub set_preload : State → ℕ → Bool → List ℕ → Told
set_preload state registration on text = record {
  state = record state {
    registrations =
        changed (is_registration registration) (λ row. record row { preload = on; preload_value = text })
        state.registrations;
  };
  notices = [];
  changes =
      if option_map_or (has_preload on text) (registration_row state registration) true then []
      else kept_change state registration (λ row. change.Preload row.key row.scope on text);
}

-- a registration with an active worker gets a preload flag and value
abbrev pub preload_set : State → Registration → Bool → List ℕ → Outcome
preload_set state row on text =
    if is_some (active_worker_number state row.number)
    then record { answer = answer.Ok; told = set_preload state row.number on text }
    else refused state (fault.InvalidState state_cause.NotActive)

-- "enable()" and "disable()"
abbrev pub preload_switch : State → ClientScope → Bool → Outcome
preload_switch state of on = with_named state of (λ row. preload_set state row on row.preload_value)

-- "setHeaderValue()"
abbrev pub preload_value : State → ClientScope → List ℕ → Outcome
preload_value state of text = with_named state of (λ row. preload_set state row row.preload text)

-- "getState()"
abbrev pub preload_state : State → ClientScope → Outcome
preload_state state of = with_named state of (λ row. answered state (answer.Preload row.preload row.preload_value))
