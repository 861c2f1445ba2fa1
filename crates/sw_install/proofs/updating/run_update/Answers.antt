use Rattle.std.proofs.Common.{◌≡◌, ◌∙◌, ℕ, true, Some, None, find, refl, sym, ap, arith}
use Rattle.sw_data.specs.declared.answers.Answer.TheVariants as answer
use Rattle.sw_data.specs.declared.rows.JobKind.TheVariants as job_kind
use Rattle.sw_data.specs.declared.rows.JobRow.{JobRow}
use Rattle.sw_install.proofs.Enabled.{happened, if_some, some_if}
use Rattle.sw_install.proofs.Runs.{drawn_as, no_registration, other_script, update_fetches}
use Rattle.sw_install.specs.Runs.{drawn, is_of_job, is_ready}
use Rattle.sw_reg.specs.Table.{has_registration}
use Rattle.sw_rules.specs.Jobs.{next_draw}
use Rattle.sw_rules.specs.Registering as rules
use Rattle.sw_rules.specs.Rows.{is_job, mapped_registration}
use Rattle.sw_rules.specs.State.{State}
use Rattle.sw_scope.specs.Scopes.{maps}
use Rattle.sw_tables.proofs.Rows.{found_number}
use Rattle.sw_tables.specs.Happened.{with_jobs}
use Rattle.sw_tables.specs.Lent.{lent, shown_registration}
use Rattle.sw_install.proofs.updating.run_update.Goals as goal

pub returns-in_default-mapped_row-clause-did : goal.returns-in_default-mapped_row-clause-did
returns-in_default-mapped_row-clause-did c = λ rest draw.
    let row = c.in-Some.row.now in
    let jobs = c.args.queues.now.rows in
    let old : State = lent c.args.map.now c.args.workers.now c.args.registrations.now c.args.clients.now (with_jobs jobs rest) in
    let is : find (is_job c.args.job) jobs ≡ Some row = grind (arith, c.row.ensures, c.in-Some.is) in
    let ready : is_ready jobs row ≡ true = grind (arith, is, c.may_run.ensures, c.if-not-may_run.false) in
    let kind = if_some (λ (r : JobRow). r.job.what ≡ job_kind.Update) (find (is_job c.args.job) jobs) row is c.requires.kind in
    let mapped = c.mapped_row.ensures.row c.args.workers.now c.args.clients.now (with_jobs jobs rest) in
    let none : mapped_registration old row.job.key row.job.scope ≡ None = grind (arith, mapped, c.in_default-mapped_row.is) in
    happened (rules.run old c.args.job) _ _ c.args.notices.now c.resolve_and_finish.new.notices old _
    (no_registration old c.args.job row is ready kind none) refl
    (c.resolve_and_finish.ensures.did c.args.map.now c.args.workers.now c.args.registrations.now c.args.clients.now rest)

pub returns-then-not-has_script-clause-did : goal.returns-then-not-has_script-clause-did
returns-then-not-has_script-clause-did c = λ rest draw.
    let row = c.in-Some.row.now in
    let jobs = c.args.queues.now.rows in
    let old : State = lent c.args.map.now c.args.workers.now c.args.registrations.now c.args.clients.now (with_jobs jobs rest) in
    let shown = shown_registration c.args.map.now rest c.in-Some-mapped_row.mapped.now in
    let is : find (is_job c.args.job) jobs ≡ Some row = grind (arith, c.row.ensures, c.in-Some.is) in
    let ready : is_ready jobs row ≡ true = grind (arith, is, c.may_run.ensures, c.if-not-may_run.false) in
    let kind = if_some (λ (r : JobRow). r.job.what ≡ job_kind.Update) (find (is_job c.args.job) jobs) row is c.requires.kind in
    let mapped = c.mapped_row.ensures.row c.args.workers.now c.args.clients.now (with_jobs jobs rest) in
    let there : mapped_registration old row.job.key row.job.scope ≡ Some shown = grind (arith, mapped, c.in-Some-mapped_row.is) in
    let has = c.has_script.ensures c.args.map.now c.args.clients.now (with_jobs jobs rest) in
    happened (rules.run old c.args.job) _ _ c.args.notices.now c.resolve_and_finish-then-not-has_script.new.notices old _
    (other_script old c.args.job row is ready kind shown there (sym has ∙ grind (arith, c.if-not-has_script.true))) refl
    (c.resolve_and_finish-then-not-has_script.ensures.did c.args.map.now c.args.workers.now c.args.registrations.now c.args.clients.now rest)

pub fetch_script-requires-clause-names : goal.fetch_script-requires-clause-names
fetch_script-requires-clause-names c =
    let row = c.in-Some.row.now in
    let jobs = c.args.queues.now.rows in
    let registration = c.in-Some-mapped_row.mapped.now.number in
    let is : find (is_job c.args.job) jobs ≡ Some row = grind (arith, c.row.ensures, c.in-Some.is) in
    let has : maps c.args.map.now row.job.key row.job.scope ≡ Some registration = grind (arith, c.mapped_row.ensures.number, c.in-Some-mapped_row.is) in
    some_if (λ (r : JobRow). has_registration (is_of_job r.job) registration c.args.registrations.now.rows ≡ true) (find (is_job c.args.job) jobs) row is
    (c.requires.linked.mapped row.job.key row.job.scope registration has)

pub returns-clause-did : goal.returns-clause-did
returns-clause-did c = λ rest draw.
    let row = c.in-Some.row.now in
    let jobs = c.args.queues.now.rows in
    let old : State = lent c.args.map.now c.args.workers.now c.args.registrations.now c.args.clients.now (with_jobs jobs rest) in
    let shown = shown_registration c.args.map.now rest c.in-Some-mapped_row.mapped.now in
    let is : find (is_job c.args.job) jobs ≡ Some row = grind (arith, c.row.ensures, c.in-Some.is) in
    let ready : is_ready jobs row ≡ true = grind (arith, is, c.may_run.ensures, c.if-not-may_run.false) in
    let kind = if_some (λ (r : JobRow). r.job.what ≡ job_kind.Update) (find (is_job c.args.job) jobs) row is c.requires.kind in
    let mapped = c.mapped_row.ensures.row c.args.workers.now c.args.clients.now (with_jobs jobs rest) in
    let there : mapped_registration old row.job.key row.job.scope ≡ Some shown = grind (arith, mapped, c.in-Some-mapped_row.is) in
    let has = c.has_script.ensures c.args.map.now c.args.clients.now (with_jobs jobs rest) in
    let ordinal = if_some (λ (r : JobRow). c.args.ordinal ≡ next_draw rest.draws r.job.script) (find (is_job c.args.job) jobs) row is draw in
    happened (rules.run old c.args.job) _ (Some (answer.Fetch c.args.ordinal)) c.args.notices.now c.args.notices.now old _
    (update_fetches old c.args.job row is ready kind shown there (sym has ∙ grind (arith, c.if-not-has_script.false)))
    (ap (λ (n : ℕ). Some (answer.Fetch n)) ordinal)
    (drawn_as _ c.args.notices.now c.args.notices.now c.args.job jobs row is (λ script. lent c.args.map.now c.args.workers.now c.args.registrations.now c.args.clients.now (drawn script (with_jobs c.fetch_script.new.queues.rows rest)))
    (c.fetch_script.ensures.did c.args.map.now c.args.workers.now c.args.clients.now rest row.job c.args.notices.now (found_number (λ (r : JobRow). r.job.number) c.args.job jobs row is) ordinal))
