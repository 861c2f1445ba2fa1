use Rattle.std.proofs.Common.{◌≡◌, ◌∙◌, Option, None, Some, refl, sym, ap, subst}
use Rattle.std.specs.Prelude.{find}
use Rattle.sw_data.specs.declared.answers.Answer.TheVariants as answer
use Rattle.sw_data.specs.declared.rows.JobKind.TheVariants as job_kind
use Rattle.sw_rules.specs.Rows.{is_job}
use Rattle.sw_rules.specs.State.{State}
use Rattle.sw_rules.specs.Told.{Outcome}
use Rattle.sw_tables.proofs.Moves.{there}
use Rattle.sw_tables.specs.Happened.{Happened, with_jobs}
use Rattle.sw_tables.specs.Lent.{lent}
use Rattle.sw_activate.specs.Answers.{unregister_refusal}
use Rattle.sw_activate.proofs.Unregistering.{always_finished, may, may_not_run, of_job, runs_now}
use Rattle.sw_activate.proofs.unregister.run_unregister.Goals as goal

pub returns-then-not-may_run-clause-did : goal.returns-then-not-may_run-clause-did
returns-then-not-may_run-clause-did c = λ rest.
    let before : State = lent c.args.map.now c.args.workers.now c.args.registrations.now c.args.clients.now (with_jobs c.args.queues.now.rows rest) in
    subst (λ (o : Option Outcome). Happened o None c.args.notices.now c.args.notices.now before before)
    (sym (may_not_run before c.args.job (sym c.may_run.ensures ∙ c.if-not-may_run.true))) (refl, refl, refl)

pub returns-clause-did : goal.returns-clause-did
returns-clause-did c = λ rest.
    let before : State = lent c.args.map.now c.args.workers.now c.args.registrations.now c.args.clients.now (with_jobs c.args.queues.now.rows rest) in
    let after : State = lent c.run_allowed.new.map c.run_allowed.new.workers c.run_allowed.new.registrations c.args.clients.now (with_jobs c.run_allowed.new.queues.rows rest) in
    let now = sym c.may_run.ensures ∙ c.if-not-may_run.false in
    let found = there (may c.args.queues.now.rows) (find (is_job c.args.job) c.args.queues.now.rows) now in
    let what = (of_job c.args.job c.args.queues.now.rows found.0 found.1
    (λ row. (row.job.what ≡ job_kind.Unregister) × (c.args.refusal ≡ unregister_refusal row.job)) c.requires.job).0 in
    subst (λ (o : Option Outcome). Happened o (Some answer.Finished) c.args.notices.now c.run_allowed.new.notices before after)
    (sym (runs_now before c.args.job now found.0 found.1 what)) (
      ap Some (sym (always_finished before found.0.job)),
      of_job c.args.job c.args.queues.now.rows found.0 found.1 _ (c.run_allowed.ensures.did rest),
    )
