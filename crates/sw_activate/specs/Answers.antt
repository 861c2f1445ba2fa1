-- The answers of the events (own).
use Rattle.std.specs.Prelude.{ℕ, Bool, true, false, Option, Some, None, Result, Ok, Err, if◌then◌else◌}
use Rattle.sw_data.specs.declared.answers.Answer.{Answer}
use Rattle.sw_data.specs.declared.answers.Answer.TheVariants as answer
use Rattle.sw_data.specs.declared.answers.Fault.{Fault}
use Rattle.sw_data.specs.declared.answers.Fault.TheVariants as fault
use Rattle.sw_data.specs.declared.answers.SecurityCause.TheVariants as security
use Rattle.sw_data.specs.declared.answers.StateCause.TheVariants as state_cause
use Rattle.sw_data.specs.declared.rows.Job.{Job}
use Rattle.sw_data.specs.Addresses.{same_origin}
use Rattle.sw_rules.specs.Activating.{worker_or_none}
use Rattle.sw_rules.specs.Registrations.{unload}
use Rattle.sw_rules.specs.State.{State}
use Rattle.sw_rules.specs.Told.{Outcome}
use Rattle.sw_tables.specs.declared.refusal.NotNow.{NotNow}

-- the answer of an owed Try Activate
abbrev pub activate_answer : Result (Option ℕ) NotNow → Option Answer
activate_answer (Ok worker) = Some (worker_or_none worker)
activate_answer (Err why) = None

-- the answer `ok`
abbrev pub ok_answer : Result (Unit {0}) NotNow → Option Answer
ok_answer (Ok done) = Some answer.Ok
ok_answer (Err why) = None

-- a client has left its registration
abbrev pub left : State → ℕ → Outcome
left state client = record { answer = answer.Ok; told = unload state client }

-- the answer of a claim
abbrev pub claim_answer : Result Bool NotNow → Option Answer
claim_answer (Ok true) = Some answer.Ok
claim_answer (Ok false) = Some (answer.Fault (fault.InvalidState state_cause.NotActive))
claim_answer (Err why) = None

-- the answer of the end of a fetch event
abbrev pub end_answer : Result Bool NotNow → Option Answer
end_answer (Ok true) = Some answer.Ok
end_answer (Ok false) = Some answer.NoEvent
end_answer (Err why) = None

-- the answer of an unregister job that runs
abbrev pub finished_answer : Result (Unit {0}) NotNow → Option Answer
finished_answer (Ok done) = Some answer.Finished
finished_answer (Err why) = None

-- the fault of an unregister job that is refused (Service Workers, Appendix A, "Unregister")
abbrev pub unregister_refusal : Job → Option Fault
unregister_refusal job =
    if same_origin job.scope job.referrer then None else Some (fault.SecurityError security.ScopeOrigin)
