use Rattle.std.proofs.Common.{◌∙◌, ℕ, ap, sym, subst}
use Rattle.std.proofs.lemmas.Result.{IfOk-weaker}
use Rattle.std.specs.Prelude.{Result}
use Rattle.sw_data.specs.declared.rows.Job.{Job}
use Rattle.sw_pages.proofs.Asking.{next_asked, register_given}
use Rattle.sw_pages.specs.Acts.{outcome_of}
use Rattle.sw_pages.specs.declared.worked.Worked.{Worked}
use Rattle.sw_pages.specs.Jobs.{IsNextJob, asked_job, comes_to}
use Rattle.sw_state.specs.Hosted.{state_of}
use Rattle.sw_pages.proofs.jobs.register_asked.Goals as goal

pub returns-clause-next : goal.returns-clause-next
returns-clause-next c =
    let jobs = c.args.host.now.queues.rows in
    IfOk-weaker c.asked_job.result _ _
    (λ job is.
    subst (λ (j : Result Job Worked). IsNextJob jobs j) (sym (is ∙ ap (λ (n : ℕ). asked_job n c.in-Some.client.now c.args.asked.now) c.in_ok-number.ensures))
    (next_asked jobs c.in-Some.client.now c.args.asked.now))
    c.asked_job.ensures

pub returns-clause-gives : goal.returns-clause-gives
returns-clause-gives c =
    let state = state_of c.args.host.now in
    IfOk-weaker c.asked_job.result _ _
    (λ job is who.
    register_given state who c.args.asked.now c.in-Some.client.now (sym c.in-Some.ensures)
    ∙ ap (λ (j : Result Job Worked). outcome_of who (comes_to state.jobs j) state)
    (sym (is ∙ ap (λ (n : ℕ). asked_job n c.in-Some.client.now c.args.asked.now) c.in_ok-number.ensures)))
    c.asked_job.ensures
