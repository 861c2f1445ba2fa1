use Rattle.std.proofs.Common.{◌≡◌, ◌∙◌, Some, find, option_map, refl, sym, arith}
use Rattle.sw_data.specs.declared.rows.JobRow.{JobRow}
use Rattle.sw_install.proofs.Enabled.{both, happened, if_some}
use Rattle.sw_install.proofs.FetchEnds.{outcome_of, rejected, script_changed, unchanged}
use Rattle.sw_rules.specs.Installing as rules
use Rattle.sw_rules.specs.Rows.{is_in_phase, is_fetching, is_job}
use Rattle.sw_rules.specs.State.{State}
use Rattle.sw_tables.proofs.Rows.{found_number}
use Rattle.sw_tables.specs.Happened.{with_jobs}
use Rattle.sw_tables.specs.Lent.{lent, shown_worker}
use Rattle.sw_install.proofs.fetching.fetched.Goals as goal

pub returns-in-Rejected-clause-did : goal.returns-in-Rejected-clause-did
returns-in-Rejected-clause-did c = λ rest line comes.
    let row = c.in-Some.row.now in
    let registration = c.in-Some-registration.registration in
    let old : State = lent c.args.map.now c.args.workers.now c.args.registrations.now c.args.clients.now (with_jobs c.args.queues.now.rows rest) in
    let found : rules.job_in (is_in_phase is_fetching) old c.args.job ≡ Some row = grind (arith, c.job_in.ensures, c.in-Some.is) in
    let is = both (is_in_phase is_fetching) (find (is_job c.args.job) c.args.queues.now.rows) row found in
    let outcome = outcome_of c.args.outcome c.args.rows.now.worker old c.args.job registration row line found c.in-Some-registration.is comes in
    happened (rules.fetched old c.args.job line) _ _ c.args.notices.now c.reject_and_drop.new.notices old _
    (rejected old c.args.job registration row line is.0 is.1 c.in-Some-registration.is c.in-Rejected.why (sym c.in-Rejected.is ∙ outcome.comes))
    refl (c.reject_and_drop.ensures.did rest)

pub returns-in-Unchanged-clause-did : goal.returns-in-Unchanged-clause-did
returns-in-Unchanged-clause-did c = λ rest line comes.
    let row = c.in-Some.row.now in
    let registration = c.in-Some-registration.registration in
    let old : State = lent c.args.map.now c.args.workers.now c.args.registrations.now c.args.clients.now (with_jobs c.args.queues.now.rows rest) in
    let found : rules.job_in (is_in_phase is_fetching) old c.args.job ≡ Some row = grind (arith, c.job_in.ensures, c.in-Some.is) in
    let is = both (is_in_phase is_fetching) (find (is_job c.args.job) c.args.queues.now.rows) row found in
    let outcome = outcome_of c.args.outcome c.args.rows.now.worker old c.args.job registration row line found c.in-Some-registration.is comes in
    happened (rules.fetched old c.args.job line) _ _ c.args.notices.now c.keep_script.new.notices old _
    (unchanged old c.args.job registration row line is.0 is.1 c.in-Some-registration.is (sym c.in-Unchanged.is ∙ outcome.comes))
    refl (c.keep_script.ensures.did rest row.job (found_number (λ (r : JobRow). r.job.number) c.args.job c.args.queues.now.rows row is.0) refl)

pub returns-in-Some-take-clause-did : goal.returns-in-Some-take-clause-did
returns-in-Some-take-clause-did c = λ rest line comes.
    let row = c.in-Some.row.now in
    let registration = c.in-Some-registration.registration in
    let old : State = lent c.args.map.now c.args.workers.now c.args.registrations.now c.args.clients.now (with_jobs c.args.queues.now.rows rest) in
    let found : rules.job_in (is_in_phase is_fetching) old c.args.job ≡ Some row = grind (arith, c.job_in.ensures, c.in-Some.is) in
    let is = both (is_in_phase is_fetching) (find (is_job c.args.job) c.args.queues.now.rows) row found in
    let outcome = outcome_of c.args.outcome c.args.rows.now.worker old c.args.job registration row line found c.in-Some-registration.is comes in
    let changed = script_changed old c.args.job registration row line is.0 is.1 c.in-Some-registration.is (sym c.in-Changed.is ∙ outcome.comes) in
    let made = if_some (λ f. option_map shown_worker c.args.rows.now.worker ≡ Some (rules.made_worker old row registration f)) (rules.fetched_of line) changed.0 changed.1
    (outcome.worker c.in-Changed.is) in
    let new : shown_worker c.in-Some-take.new ≡ rules.made_worker old row registration changed.0 = grind (arith, made, c.take.ensures.value, c.in-Some-take.is) in
    happened (rules.fetched old c.args.job line) _ _ c.args.notices.now c.make_worker.new.notices old _
    changed.2 refl
    (c.make_worker.ensures.did c.args.map.now c.args.clients.now rest row registration changed.0 (found_number (λ (r : JobRow). r.job.number) c.args.job c.args.queues.now.rows row is.0) new)

pub returns-in-Some-take-clause-linked : goal.returns-in-Some-take-clause-linked
returns-in-Some-take-clause-linked c = c.make_worker.ensures.linked c.args.map.now c.args.clients.now c.requires.linked
