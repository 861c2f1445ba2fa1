-- The calls of a worker's handlers.
use Rattle.std.specs.Prelude.{ℕ, ◌+◌, Bool, true, false, ◌&&◌, ◌||◌, ◌==◌, List, Option, Some, None, option_map, option_and_then, slice_get, if◌then◌else◌}
use Rattle.std.specs.Option.{option_map_or}
use Rattle.sw_data.specs.declared.answers.Answer.{Answer}
use Rattle.sw_data.specs.declared.answers.Answer.TheVariants as answer
use Rattle.sw_data.specs.declared.answers.Fault.TheVariants as fault
use Rattle.sw_data.specs.declared.answers.StateCause.TheVariants as state_cause
use Rattle.sw_data.specs.declared.events.Who.{Who}
use Rattle.sw_data.specs.declared.events.Who.TheVariants as who
use Rattle.sw_data.specs.declared.recordings.Call.{Call}
use Rattle.sw_data.specs.declared.recordings.Call.TheVariants as call
use Rattle.sw_data.specs.declared.workers.Phase.{Phase}
use Rattle.sw_data.specs.declared.workers.Phase.TheVariants as phase
use Rattle.sw_data.specs.Sameness.{same_call, same_phase}
use Rattle.sw_rules.specs.Caching.{add_all, batch_ops, delete_cache, delete_request, open_cache, put_response}
use Rattle.sw_rules.specs.Clients.{claim_of, skip_waiting_of}
use Rattle.sw_rules.specs.Installing.{calls_of}
use Rattle.sw_rules.specs.Registering.{update_named}
use Rattle.sw_rules.specs.Rows.{is_worker, changed, free_handler, registration_row, worker_row}
use Rattle.sw_rules.specs.State.{State, Registration, Worker, Handler}
use Rattle.sw_rules.specs.Told.{Told, Outcome, followed, quiet, refused}

-- the registration of a worker, where it is mapped
abbrev pub own_registration : State → Worker → Option Registration
own_registration state worker =
    option_and_then (λ row. if row.mapped then Some row else None) (registration_row state worker.registration)

-- a worker updates its own registration, from its activate handler alone (Service Workers, ServiceWorkerRegistration, "update()")
abbrev pub update_own : State → Who → Worker → Phase → Outcome
update_own state who worker phase.Install = refused state (fault.InvalidState state_cause.Installing)
update_own state who worker phase.Activate = update_named state who (own_registration state worker) worker.script

-- what a call does, in the name of a worker whose registration has this key
abbrev pub called : State → Who → Worker → Phase → List ℕ → Call → Outcome
called state who worker in_phase key call.SkipWaiting = skip_waiting_of state worker
called state who worker in_phase key call.Claim = claim_of state worker
called state who worker in_phase key call.Update = update_own state who worker in_phase
called state who worker in_phase key (call.CacheOpen name) = open_cache state name key
called state who worker in_phase key (call.CacheDelete name) = delete_cache state name key
called state who worker in_phase key (call.Put put) = put_response state worker.script put key
called state who worker in_phase key (call.Delete asked) = delete_request state worker.script asked key
called state who worker in_phase key (call.Batch asked) = batch_ops state worker.script asked key
called state who worker in_phase key (call.AddAll asked) = add_all state who worker.script asked key

-- an answer is a fault
abbrev pub is_fault : Answer → Bool
is_fault (answer.Fault why) = true
is_fault _ = false

-- a handler has made one call more, and notes whether it was answered by a fault
abbrev pub counted_call : Bool → Handler → Handler
counted_call faulted row = record row { made = row.made + 1; faulted = row.faulted || faulted }

unfoldable pub note_call : State → ℕ → Bool → Told
note_call state worker faulted =
    quiet (record state {
      workers =
          changed (is_worker worker)
          (λ row. record row { handler = option_map (counted_call faulted) row.handler })
          state.workers;
    })

abbrev pub noted : Outcome → ℕ → Outcome
noted outcome worker = record {
  answer = outcome.answer;
  told = followed outcome.told (λ after. note_call after worker (is_fault outcome.answer));
}

-- a call happens in the name of a worker
abbrev pub call_by : State → Who → Worker → Phase → Call → Option Outcome
call_by state who worker in_phase called_for =
    option_map (λ row. noted (called state who worker in_phase row.key called_for) worker.number)
    (registration_row state worker.registration)

-- a handler of this phase that has made this many calls
abbrev pub is_at : Phase → ℕ → Handler → Bool
is_at in_phase number row = same_phase row.phase in_phase && row.made == number

-- this is the next call of a worker's handler, which runs and may go on
abbrev pub is_next_call : State → Worker → Phase → ℕ → Call → Bool
is_next_call state worker in_phase number called_for =
    option_map_or (is_at in_phase number) (free_handler state worker.number) false
    && option_map_or (same_call called_for) (slice_get (calls_of worker in_phase) number) false

-- a call of a handler, where it is the next one
abbrev pub make_call : State → Who → Call → Option Outcome
make_call state (who.Handler worker in_phase number) called_for =
    option_and_then (λ row.
    if is_next_call state row in_phase number called_for
    then call_by state (who.Handler worker in_phase number) row in_phase called_for
    else None)
    (worker_row state worker)
make_call state _ called_for = None
