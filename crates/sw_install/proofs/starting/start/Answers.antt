use Rattle.std.proofs.Common.{◌≡◌, ◌∙◌, ℕ, Some, true, not, find, ap, arith}
use Rattle.sw_data.specs.declared.rows.JobPhase.TheVariants as job_phase
use Rattle.sw_data.specs.declared.rows.JobRow.{JobRow}
use Rattle.sw_install.proofs.Enabled.{if_some}
use Rattle.sw_install.proofs.Ready.{of_answer, passing, ready_by, starts}
use Rattle.sw_install.specs.Runs.{is_of_job, is_ready}
use Rattle.sw_queue.specs.Tables.{Table, has_head, ready_job, with_phase}
use Rattle.sw_reg.specs.Table.{has_registration, registration_at}
use Rattle.sw_rules.specs.Rows.{changed, is_job, is_waiting}
use Rattle.sw_install.proofs.starting.start.Goals as goal

-- the job of the queue that the registration names
named : (c : goal.After-start) → ready_job c.in-Some.row.now.key c.in-Some.row.now.scope c.args.queues.now.rows ≡ Some c.args.job
named c =
    let jobs = c.args.queues.now.rows in
    let registrations = c.args.registrations.now.rows in
    let row = passing (is_ready jobs) (find (is_job c.args.job) jobs) c.requires.ready in
    let has = if_some (λ (found : JobRow). has_registration (is_of_job found.job) c.args.registration registrations ≡ true) (find (is_job c.args.job) jobs) row.0 row.1 c.requires.names in
    let there : registration_at c.args.registration registrations ≡ Some c.in-Some.row.now = grind (arith, c.row.ensures, c.in-Some.is) in
    ready_by jobs c.args.job row.0 c.in-Some.row.now (starts jobs c.args.job row.0 c.requires.numbers row.1 row.2) (grind (arith, has, there))

pub returns-in-Some-clause-rows : goal.returns-in-Some-clause-rows
returns-in-Some-clause-rows c =
    ap (λ (t : Table). t.rows)
    (of_answer (λ (n : ℕ). c.start.new.self ≡ record c.args.queues.now { rows = changed (is_job n) (with_phase job_phase.Fetching) c.args.queues.now.rows })
    c.start.result c.args.job (c.start.ensures.answer ∙ named c) c.start.ensures.ok)

pub returns-in-Some-clause-head : goal.returns-in-Some-clause-head
returns-in-Some-clause-head c =
    of_answer (λ (n : ℕ). has_head (λ (row : JobRow). not (is_waiting row.phase)) n c.start.new.self.rows ≡ true)
    c.start.result c.args.job (c.start.ensures.answer ∙ named c) c.start.ensures.head
