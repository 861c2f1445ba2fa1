-- What may happen next of lanes and of the host, by the tables.
use Rattle.std.proofs.Common.{◌≡◌, ◌∙◌, ℕ, Bool, true, false, not, Option, Some, None, option_and_then, option_map, refl, sym, ap, subst, if◌then◌else◌}
use Rattle.std.specs.Prelude.{is_some}
use Rattle.std.specs.Option.{option_map_or}
use Rattle.sw_data.specs.declared.answers.Answer.TheVariants as answer
use Rattle.sw_data.specs.declared.rows.ClientRow.{ClientRow}
use Rattle.sw_data.specs.declared.rows.WorkerRow.{WorkerRow}
use Rattle.sw_data.specs.declared.workers.WorkerState.{WorkerState}
use Rattle.sw_data.specs.declared.workers.WorkerState.TheVariants as worker_state
use Rattle.sw_rules.specs.Clients as rules
use Rattle.sw_rules.specs.Rows.{client_row, event_row, is_activating, worker_row}
use Rattle.sw_rules.specs.State.{State}
use Rattle.sw_rules.specs.Told.{answered}
use Rattle.sw_tables.proofs.Lookups.{worker_shown}
use Rattle.sw_tables.specs.Parts as parts
use Rattle.sw_tables.specs.Lent.{shown_worker}
use Rattle.sw_state.specs.Hosted.{Hosted, state_of}
use Rattle.sw_worker.specs.Table.{worker_at}

pub some_mapped : {X Y : Type 0} (f : X → Y) (o : Option X) → is_some o ≡ is_some (option_map f o)
some_mapped f None = refl
some_mapped f (Some x) = refl

begun : {X : Type 0} (activating taken : Bool) (one other : X)
    → not activating ≡ is_some (if activating then None else if taken then Some one else Some other)
begun true taken one other = refl
begun false true one other = refl
begun false false one other = refl

activates : (state : WorkerState) → parts.is_activating state ≡ (elim state [ worker_state.Activating ↦ true | _ ↦ false ])
activates worker_state.Parsed = refl
activates worker_state.Installing = refl
activates worker_state.Installed = refl
activates worker_state.Activating = refl
activates worker_state.Activated = refl
activates worker_state.Redundant = refl

-- a fetch event may begin on the worker of this row, or is refused at once
pub begins_on : (host : Hosted) (worker event : ℕ) (o : Option WorkerRow) → worker_at worker host.workers.rows ≡ o
    → option_map_or (λ row. not (parts.is_activating row.state)) o true
    ≡ is_some (rules.begin_on (state_of host) event (worker_row (state_of host) worker))
begins_on host worker event o here =
    by o ∙ ap (λ r. is_some (rules.begin_on (state_of host) event r)) (sym (worker_shown worker host.workers.rows ∙ ap (option_map shown_worker) here))
  where
    by : (o : Option WorkerRow) → option_map_or (λ row. not (parts.is_activating row.state)) o true
        ≡ is_some (rules.begin_on (state_of host) event (option_map shown_worker o))
    by None = refl
    by (Some row) = ap not (activates row.state) ∙ begun (is_activating (shown_worker row)) (is_some (event_row (state_of host) event)) _ _

-- a fetch event of a client begins where it begins on its controller
pub begins : (state : State) (client event : ℕ) (row : ClientRow) (worker : ℕ) → client_row state client ≡ Some row → row.controller ≡ Some worker
    → is_some (rules.begin_on state event (worker_row state worker)) ≡ is_some (rules.begin state client event)
begins state client event row worker here own =
    subst (λ (o : Option ClientRow). is_some (rules.begin_on state event (worker_row state worker)) ≡ is_some (elim o [ None ↦ Some (answered state answer.NoClient) | Some row ↦ rules.begin_on state event (option_and_then (worker_row state) row.controller) ])) (sym here)
    (ap (λ w. is_some (rules.begin_on state event (option_and_then (worker_row state) w))) (sym own))
