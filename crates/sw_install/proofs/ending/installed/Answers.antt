use Rattle.std.proofs.Common.{◌≡◌, Some, find, option_map, refl, sym, arith, ◌∙◌, ap}
use Rattle.sw_data.specs.declared.rows.JobRow.{JobRow}
use Rattle.sw_data.specs.declared.rows.WorkerRow.{WorkerRow}
use Rattle.sw_data.specs.declared.workers.Phase.TheVariants as phase
use Rattle.sw_install.proofs.Enabled.{both, happened, not_now, shown_at}
use Rattle.sw_install.proofs.Ended.{failed, not_ended, succeeded}
use Rattle.sw_rules.specs.Installing as rules
use Rattle.sw_rules.specs.Rows.{is_in_phase, is_installing, is_job}
use Rattle.sw_rules.specs.State.{State}
use Rattle.sw_tables.proofs.Counting.{settled_counts}
use Rattle.sw_tables.proofs.Rows.{found_number}
use Rattle.sw_tables.specs.Happened.{with_jobs}
use Rattle.sw_tables.specs.Lent.{lent, shown_handler, shown_worker}
use Rattle.sw_worker.specs.Table.{worker_at}
use Rattle.sw_install.proofs.ending.installed.Goals as goal

pub returns-in_default-ended_handler-clause-did : goal.returns-in_default-ended_handler-clause-did
returns-in_default-ended_handler-clause-did c = λ rest counts.
    let row = c.in-Some.row.now in
    let made = c.in-Some-row.made.now in
    let registration = c.in-Some-registration.registration in
    let worker = c.in-Some-worker.worker in
    let rows = c.args.workers.now.rows in
    let old : State = lent c.args.map.now c.args.workers.now c.args.registrations.now c.args.clients.now (with_jobs c.args.queues.now.rows rest) in
    let is = both (is_in_phase is_installing) (find (is_job c.args.job) c.args.queues.now.rows) row (grind (arith, c.job_in.ensures, c.in-Some.is)) in
    let found : worker_at worker rows ≡ Some made = grind (arith, c.row.ensures, c.in-Some-row.is) in
    let own = found_number (λ (r : WorkerRow). r.number) worker rows made found in
    let ended = c.ended_handler.ensures.ended c.args.map.now c.args.workers.now c.args.registrations.now c.args.clients.now (with_jobs c.args.queues.now.rows rest) (cc (own, found)) counts in
    not_now (rules.installed old c.args.job) c.args.notices.now old
    (not_ended old c.args.job registration worker row (shown_worker made) is.0 is.1 c.in-Some-registration.is c.in-Some-worker.is (shown_at worker rows made found)
    (sym ended ∙ ap (option_map shown_handler) c.in_default-ended_handler.is))

pub returns-then-has_failed-clause-did : goal.returns-then-has_failed-clause-did
returns-then-has_failed-clause-did c = λ rest counts.
    let row = c.in-Some.row.now in
    let made = c.in-Some-row.made.now in
    let registration = c.in-Some-registration.registration in
    let worker = c.in-Some-worker.worker in
    let handler = c.in-Some-ended_handler.handler in
    let rows = c.args.workers.now.rows in
    let old : State = lent c.args.map.now c.args.workers.now c.args.registrations.now c.args.clients.now (with_jobs c.args.queues.now.rows rest) in
    let is = both (is_in_phase is_installing) (find (is_job c.args.job) c.args.queues.now.rows) row (grind (arith, c.job_in.ensures, c.in-Some.is)) in
    let found : worker_at worker rows ≡ Some made = grind (arith, c.row.ensures, c.in-Some-row.is) in
    let own = found_number (λ (r : WorkerRow). r.number) worker rows made found in
    let ended = c.ended_handler.ensures.ended c.args.map.now c.args.workers.now c.args.registrations.now c.args.clients.now (with_jobs c.args.queues.now.rows rest) (cc (own, found)) counts in
    happened (rules.installed old c.args.job) _ _ c.args.notices.now c.fail_install.new.notices old _
    (failed old c.args.job registration worker row (shown_worker made) (shown_handler handler) is.0 is.1 c.in-Some-registration.is c.in-Some-worker.is (shown_at worker rows made found)
    (sym ended ∙ ap (option_map shown_handler) c.in-Some-ended_handler.is) (grind (arith, c.has_failed.ensures, c.if-has_failed.true)))
    refl (c.fail_install.ensures.did rest row (found_number (λ (r : JobRow). r.job.number) c.args.job c.args.queues.now.rows row is.0) refl)

pub returns-clause-did : goal.returns-clause-did
returns-clause-did c = λ rest counts.
    let row = c.in-Some.row.now in
    let made = c.in-Some-row.made.now in
    let registration = c.in-Some-registration.registration in
    let worker = c.in-Some-worker.worker in
    let handler = c.in-Some-ended_handler.handler in
    let rows = c.args.workers.now.rows in
    let old : State = lent c.args.map.now c.args.workers.now c.args.registrations.now c.args.clients.now (with_jobs c.args.queues.now.rows rest) in
    let is = both (is_in_phase is_installing) (find (is_job c.args.job) c.args.queues.now.rows) row (grind (arith, c.job_in.ensures, c.in-Some.is)) in
    let found : worker_at worker rows ≡ Some made = grind (arith, c.row.ensures, c.in-Some-row.is) in
    let own = found_number (λ (r : WorkerRow). r.number) worker rows made found in
    let ended = c.ended_handler.ensures.ended c.args.map.now c.args.workers.now c.args.registrations.now c.args.clients.now (with_jobs c.args.queues.now.rows rest) (cc (own, found)) counts in
    happened (rules.installed old c.args.job) _ _ c.args.notices.now c.finish_install.new.notices old _
    (succeeded old c.args.job registration worker row (shown_worker made) (shown_handler handler) is.0 is.1 c.in-Some-registration.is c.in-Some-worker.is (shown_at worker rows made found)
    (sym ended ∙ ap (option_map shown_handler) c.in-Some-ended_handler.is) (grind (arith, c.has_failed.ensures, c.if-has_failed.false)))
    refl (c.finish_install.ensures.did rest (shown_worker made) own)

pub returns-then-has_failed-clause-counts : goal.returns-then-has_failed-clause-counts
returns-then-has_failed-clause-counts c =
    let found : worker_at c.in-Some-worker.worker c.args.workers.now.rows ≡ Some c.in-Some-row.made.now = grind (arith, c.row.ensures, c.in-Some-row.is) in
    c.fail_install.ensures.counts
    (settled_counts phase.Install c.in-Some-worker.worker c.args.workers.now.rows c.in-Some-row.made.now c.ended_handler.result c.in-Some-ended_handler.handler
    found c.in-Some-ended_handler.is c.ended_handler.ensures.runs c.ended_handler.ensures.settled)

pub returns-clause-counts : goal.returns-clause-counts
returns-clause-counts c =
    let found : worker_at c.in-Some-worker.worker c.args.workers.now.rows ≡ Some c.in-Some-row.made.now = grind (arith, c.row.ensures, c.in-Some-row.is) in
    c.finish_install.ensures.counts
    (settled_counts phase.Install c.in-Some-worker.worker c.args.workers.now.rows c.in-Some-row.made.now c.ended_handler.result c.in-Some-ended_handler.handler
    found c.in-Some-ended_handler.is c.ended_handler.ensures.runs c.ended_handler.ensures.settled)
