use Rattle.std.proofs.Common.{◌∙◌, ℕ, List, Option, is_none, refl, ap}
use Rattle.sw_data.specs.declared.rows.JobPhase.TheVariants as job_phase
use Rattle.sw_data.specs.declared.rows.JobRow.{JobRow}
use Rattle.sw_data.specs.declared.workers.Phase.TheVariants as phase
use Rattle.sw_data.specs.declared.workers.WorkerState.TheVariants as worker_state
use Rattle.sw_install.proofs.Standing.{queued_stays}
use Rattle.sw_queue.specs.Tables.{has_job}
use Rattle.sw_rules.specs.Installing as rules
use Rattle.sw_rules.specs.Registrations.{become, start_handler}
use Rattle.sw_rules.specs.Rows.{changed, is_job}
use Rattle.sw_rules.specs.State.{State}
use Rattle.sw_rules.specs.Told.{followed}
use Rattle.sw_tables.specs.Happened.{with_jobs}
use Rattle.sw_tables.specs.Lent.{lent}
use Rattle.sw_install.proofs.evaluation.begin_install.Goals as goal

-- the row of a job whose worker begins to install
begun : Option ℕ → JobRow → JobRow
begun remembered row = record row { phase = job_phase.Installing; remembered = remembered }

pub returns-clause-did : goal.returns-clause-did
unfolding rules.begin_install rules.remember become start_handler followed begun
returns-clause-did c = λ scopes of_clients rest.
    let state : List JobRow → State = λ jobs.
    lent scopes c.args.workers.now c.args.registrations.now of_clients (with_jobs jobs rest) in
    let old = c.args.queues.now.rows in
    let newest = c.newest_number-remembered.ensures scopes of_clients (with_jobs old rest) in
    let jobs = c.note_install.ensures.rows
    ∙ ap (λ (remembered : Option ℕ). changed (is_job c.args.job) (begun remembered) old) newest in
    record {
      state =
          c.to_installing.ensures.state scopes of_clients (with_jobs c.note_install.new.queues.rows rest)
          ∙ ap (λ (rows : List JobRow). (start_handler (become (state rows) c.args.worker worker_state.Installing).state c.args.worker phase.Install).state) jobs;
      notices = c.push.ensures.rows;
    }

pub returns-clause-queued : goal.returns-clause-queued
unfolding begun
returns-clause-queued c =
    ap (λ (rows : List JobRow). has_job (λ (row : JobRow). is_none row.leader) c.args.job rows) c.note_install.ensures.rows
    ∙ queued_stays (begun c.newest_number-remembered.result) c.args.job (λ row. refl) (λ row. refl) c.args.queues.now.rows
