use Rattle.std.proofs.Common.{find, refl, arith}
use Rattle.sw_data.specs.declared.rows.JobRow.{JobRow}
use Rattle.sw_install.proofs.Enabled.{both, happened, shown_at}
use Rattle.sw_install.proofs.Evaluating.{installs, thrown}
use Rattle.sw_rules.specs.Installing as rules
use Rattle.sw_rules.specs.Rows.{is_in_phase, is_evaluating, is_job}
use Rattle.sw_rules.specs.State.{State}
use Rattle.sw_tables.proofs.Rows.{found_number}
use Rattle.sw_tables.specs.Happened.{with_jobs}
use Rattle.sw_tables.specs.Lent.{lent, shown_worker}
use Rattle.sw_install.proofs.evaluation.evaluated.Goals as goal

pub returns-then-throws-clause-did : goal.returns-then-throws-clause-did
returns-then-throws-clause-did c = λ rest.
    let row = c.in-Some.row.now in
    let made = c.in-Some-row.made.now in
    let registration = c.in-Some-registration.registration in
    let worker = c.in-Some-worker.worker in
    let old : State = lent c.args.map.now c.args.workers.now c.args.registrations.now c.args.clients.now (with_jobs c.args.queues.now.rows rest) in
    let is = both (is_in_phase is_evaluating) (find (is_job c.args.job) c.args.queues.now.rows) row (grind (arith, c.job_in.ensures, c.in-Some.is)) in
    let there = shown_at worker c.args.workers.now.rows made (grind (arith, c.row.ensures, c.in-Some-row.is)) in
    happened (rules.evaluated old c.args.job) _ _ c.args.notices.now c.throw.new.notices old _
    (thrown old c.args.job registration worker row (shown_worker made) is.0 is.1 c.in-Some-registration.is c.in-Some-worker.is there (grind (arith, c.get.ensures, c.if-throws.true)))
    refl (c.throw.ensures.did rest)

pub returns-clause-did : goal.returns-clause-did
returns-clause-did c = λ rest.
    let row = c.in-Some.row.now in
    let made = c.in-Some-row.made.now in
    let registration = c.in-Some-registration.registration in
    let worker = c.in-Some-worker.worker in
    let old : State = lent c.args.map.now c.args.workers.now c.args.registrations.now c.args.clients.now (with_jobs c.args.queues.now.rows rest) in
    let is = both (is_in_phase is_evaluating) (find (is_job c.args.job) c.args.queues.now.rows) row (grind (arith, c.job_in.ensures, c.in-Some.is)) in
    let there = shown_at worker c.args.workers.now.rows made (grind (arith, c.row.ensures, c.in-Some-row.is)) in
    happened (rules.evaluated old c.args.job) _ _ c.args.notices.now c.install.new.notices old _
    (installs old c.args.job registration worker row (shown_worker made) is.0 is.1 c.in-Some-registration.is c.in-Some-worker.is there (grind (arith, c.get.ensures, c.if-throws.false)))
    refl (c.install.ensures.did rest row.job (found_number (λ (r : JobRow). r.job.number) c.args.job c.args.queues.now.rows row is.0) refl)
