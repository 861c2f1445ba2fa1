use Rattle.std.proofs.Common.{◌≡◌, Option, Some, None, option_map, ◌∙◌, sym, subst, ap}
use Rattle.std.specs.Prelude.{IfOk}
use Rattle.std.specs.Option.{option_copied}
use Rattle.sw_prepare.proofs.JobChanges.{made_shown}
use Rattle.sw_prepare.specs.OfJobs.{worker_changes, worker_of_job}
use Rattle.sw_rules.specs.State.{State, Worker}
use Rattle.sw_tables.specs.Happened.{with_jobs}
use Rattle.sw_tables.specs.Lent.{lent, shown_worker}
use Rattle.sw_prepare.proofs.jobs.worker_changes.Goals as goal

pub returns-in-Some : goal.returns-in-Some
returns-in-Some c = λ of_clients rest has.
    let state : State = lent c.args.map.now c.args.workers.now c.args.registrations.now of_clients (with_jobs c.args.queues.now.rows rest) in
    let made : Some (shown_worker c.in-Some.made.now) ≡ worker_of_job state c.args.job =
    ap (λ o. option_map shown_worker (option_copied o)) (sym c.in-Some.is)
    ∙ (ap (option_map shown_worker) c.job_worker.ensures ∙ sym (made_shown c.args.map.now c.args.workers.now c.args.registrations.now of_clients c.args.queues.now.rows rest c.args.job)) in
    subst (λ (o : Option Worker). IfOk c.end_changes.result (λ changes. changes.items ≡ worker_changes state c.args.job o c.args.registration))
    made (c.end_changes.ensures c.args.workers.now of_clients rest has)

pub returns-in-None : goal.returns-in-None
returns-in-None c = λ of_clients rest has.
    let state : State = lent c.args.map.now c.args.workers.now c.args.registrations.now of_clients (with_jobs c.args.queues.now.rows rest) in
    let made : None ≡ worker_of_job state c.args.job =
    ap (λ o. option_map shown_worker (option_copied o)) (sym c.in-None.is)
    ∙ (ap (option_map shown_worker) c.job_worker.ensures ∙ sym (made_shown c.args.map.now c.args.workers.now c.args.registrations.now of_clients c.args.queues.now.rows rest c.args.job)) in
    c.nothing.ensures ∙ ap (λ (o : Option Worker). worker_changes state c.args.job o c.args.registration) made
