use Rattle.std.proofs.Common.{◌≡◌, ◌∙◌, ℕ, Some, ap, sym, arith}
use Rattle.sw_data.specs.declared.answers.Cause.TheVariants as cause
use Rattle.sw_data.specs.declared.rows.Job.{Job}
use Rattle.sw_pages.proofs.Asking.{unregistered}
use Rattle.sw_pages.proofs.Named.{scope_given}
use Rattle.sw_pages.specs.Acts.{outcome_of}
use Rattle.sw_pages.specs.Jobs.{schedules, unregister_job}
use Rattle.sw_rules.specs.Registering as rules
use Rattle.sw_rules.specs.Registering.{rejected, scheduled_by}
use Rattle.sw_rules.specs.Rows.{named_scope}
use Rattle.sw_rules.specs.Told.{type_error}
use Rattle.sw_state.specs.Hosted.{state_of}
use Rattle.sw_pages.proofs.jobs.unregister_asked.Goals as goal

pub returns-clause-gives : goal.returns-clause-gives
returns-clause-gives c who =
    let state = state_of c.args.host.now in
    let client = c.in-Some.client.now in
    let scope = c.in-Some-2.scope in
    let scoped : named_scope client c.args.of.now.scope ≡ Some scope = grind (arith, c.in_ok-scope.ensures, c.in-Some-2.is) in
    scope_given state c.args.of.now.client c.args.of.now.scope (rejected state who (type_error cause.Unparsed)) (λ row other. scheduled_by state who (rules.unregister_job state row other)) client scope (sym c.in-Some.ensures) scoped
    ∙ unregistered state who client scope
    ∙ ap (λ (job : Job). outcome_of who (schedules state.jobs job) state)
    (sym (c.in_ok-unregister_job.ensures ∙ ap (λ (n : ℕ). unregister_job n client scope) c.in_ok-number.ensures))
