use Rattle.std.proofs.Common.{Option, ℕ, [], ◌∙◌, sym, subst, ap}
use Rattle.std.specs.Prelude.{◌≡◌, IfOk}
use Rattle.std.specs.Option.{option_map_or}
use Rattle.sw_prepare.proofs.Ending.{install_told}
use Rattle.sw_prepare.proofs.TellsIt.{tells_so, told_ok}
use Rattle.sw_prepare.specs.OfJobs.{worker_changes, worker_of_job}
use Rattle.sw_rules.specs.Installing.{installed}
use Rattle.sw_rules.specs.State.{State}
use Rattle.sw_tables.specs.Happened.{with_jobs}
use Rattle.sw_tables.specs.Lent.{lent}
use Rattle.sw_prepare.proofs.jobs.installed_changes.Goals as goal

pub returns-in-Some : goal.returns-in-Some
returns-in-Some c = λ of_clients rest.
    let state : State = lent c.args.map.now c.args.workers.now c.args.registrations.now of_clients (with_jobs c.args.queues.now.rows rest) in
    let told = install_told c.args.map.now c.args.workers.now c.args.registrations.now of_clients c.args.queues.now.rows rest c.args.job c.requires.slots c.requires.goes in
    told_ok c.worker_changes.result (installed state c.args.job) _ told
    (subst (λ (o : Option ℕ). IfOk c.worker_changes.result (λ changes. changes.items ≡ option_map_or (worker_changes state c.args.job (worker_of_job state c.args.job)) o []))
    (sym c.in-Some.is ∙ c.registration_of_job.ensures) (c.worker_changes.ensures of_clients rest c.requires.slots))

pub returns-in-None : goal.returns-in-None
returns-in-None c = λ of_clients rest.
    let state : State = lent c.args.map.now c.args.workers.now c.args.registrations.now of_clients (with_jobs c.args.queues.now.rows rest) in
    let told = install_told c.args.map.now c.args.workers.now c.args.registrations.now of_clients c.args.queues.now.rows rest c.args.job c.requires.slots c.requires.goes in
    tells_so (installed state c.args.job) _ _
    (c.nothing.ensures ∙ ap (λ (o : Option ℕ). option_map_or (worker_changes state c.args.job (worker_of_job state c.args.job)) o []) (sym c.in-None.is ∙ c.registration_of_job.ensures)) told
