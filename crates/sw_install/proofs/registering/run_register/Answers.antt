use Rattle.std.proofs.Common.{◌≡◌, ◌∙◌, ℕ, List, true, Some, None, find, refl, sym, ap, subst, arith}
use Rattle.std.proofs.lemmas.List.{length-map}
use Rattle.sw_data.specs.declared.answers.Answer.TheVariants as answer
use Rattle.sw_data.specs.declared.rows.JobKind.TheVariants as job_kind
use Rattle.sw_data.specs.declared.rows.JobRow.{JobRow}
use Rattle.sw_install.proofs.Enabled.{happened, if_some, some_if}
use Rattle.sw_install.proofs.Ready.{passing}
use Rattle.sw_install.proofs.Runs.{drawn_as, refused, register_fetches, registered, registers_new}
use Rattle.sw_install.specs.Runs.{drawn, is_of_job, is_ready, register_fault}
use Rattle.sw_reg.specs.Table.{has_registration}
use Rattle.sw_rules.specs.Jobs.{next_draw}
use Rattle.sw_rules.specs.Noticing.{Did}
use Rattle.sw_rules.specs.Registering as rules
use Rattle.sw_rules.specs.Registrations.{map_registration}
use Rattle.sw_rules.specs.Rows.{is_job, mapped_registration}
use Rattle.sw_rules.specs.State.{State}
use Rattle.sw_rules.specs.Told.{followed}
use Rattle.sw_scope.specs.Scopes.{maps}
use Rattle.sw_tables.proofs.Rows.{found_number}
use Rattle.sw_tables.specs.Happened.{with_jobs}
use Rattle.sw_tables.specs.Lent.{lent, shown_registration}
use Rattle.sw_install.proofs.registering.run_register.Goals as goal

pub returns-in-Some-clause-did : goal.returns-in-Some-clause-did
returns-in-Some-clause-did c = λ rest draw preload value.
    let jobs = c.args.queues.now.rows in
    let old : State = lent c.args.map.now c.args.workers.now c.args.registrations.now c.args.clients.now (with_jobs jobs rest) in
    let ready = passing (is_ready jobs) (find (is_job c.args.job) jobs) (grind (arith, c.may_run.ensures, c.if-not-may_run.false)) in
    let row = ready.0 in
    let kind = if_some (λ (r : JobRow). r.job.what ≡ job_kind.Register) (find (is_job c.args.job) jobs) row ready.1 c.requires.kind in
    let fails = if_some (λ (r : JobRow). c.args.refusal ≡ register_fault r.job) (find (is_job c.args.job) jobs) row ready.1 c.requires.refusal in
    happened (rules.run old c.args.job) _ _ c.args.notices.now c.resolve_and_finish.new.notices old _
    (refused old c.args.job row ready.1 ready.2 kind c.in-Some.why (sym fails ∙ c.in-Some.is)) refl
    (c.resolve_and_finish.ensures.did c.args.map.now c.args.workers.now c.args.registrations.now c.args.clients.now rest)

pub returns-in_default-mapped_row-clause-did : goal.returns-in_default-mapped_row-clause-did
returns-in_default-mapped_row-clause-did c = λ rest draw preload value.
    let row = c.in-Some-row.row.now in
    let jobs = c.args.queues.now.rows in
    let old : State = lent c.args.map.now c.args.workers.now c.args.registrations.now c.args.clients.now (with_jobs jobs rest) in
    let is : find (is_job c.args.job) jobs ≡ Some row = grind (arith, c.row.ensures, c.in-Some-row.is) in
    let ready : is_ready jobs row ≡ true = grind (arith, is, c.may_run.ensures, c.if-not-may_run.false) in
    let kind = if_some (λ (r : JobRow). r.job.what ≡ job_kind.Register) (find (is_job c.args.job) jobs) row is c.requires.kind in
    let fails = if_some (λ (r : JobRow). c.args.refusal ≡ register_fault r.job) (find (is_job c.args.job) jobs) row is c.requires.refusal in
    let passes : register_fault row.job ≡ None = sym fails ∙ c.in_default.is in
    let mapped = c.mapped_row.ensures.row c.args.workers.now c.args.clients.now (with_jobs jobs rest) in
    let ordinal = if_some (λ (r : JobRow). c.args.ordinal ≡ next_draw rest.draws r.job.script) (find (is_job c.args.job) jobs) row is draw in
    let none : mapped_registration old row.job.key row.job.scope ≡ None = grind (arith, mapped, c.in_default-mapped_row.is) in
    let rows = c.args.registrations.now.rows in
    let last : List ℕ → State = λ script. lent c.map_new.new.map c.args.workers.now c.map_new.new.registrations c.args.clients.now (drawn script (with_jobs c.map_new.new.queues.rows rest)) in
    happened (rules.run old c.args.job) _ (Some (answer.Fetch c.args.ordinal)) c.args.notices.now c.map_new.new.notices old _
    (registers_new old c.args.job row is ready kind passes none)
    (ap (λ (n : ℕ). Some (answer.Fetch n)) ordinal)
    (drawn_as _ c.args.notices.now c.map_new.new.notices c.args.job jobs row is last
    (subst (λ (n : ℕ). Did (followed (map_registration old row.job) (λ after. rules.fetch_script after row.job n)) c.args.notices.now c.map_new.new.notices (last row.job.script))
    (sym (length-map rows (shown_registration c.args.map.now rest)))
    (c.map_new.ensures.did rest row is ordinal preload value)))

pub returns-then-is_registered-clause-did : goal.returns-then-is_registered-clause-did
returns-then-is_registered-clause-did c = λ rest draw preload value.
    let row = c.in-Some-row.row.now in
    let jobs = c.args.queues.now.rows in
    let old : State = lent c.args.map.now c.args.workers.now c.args.registrations.now c.args.clients.now (with_jobs jobs rest) in
    let is : find (is_job c.args.job) jobs ≡ Some row = grind (arith, c.row.ensures, c.in-Some-row.is) in
    let ready : is_ready jobs row ≡ true = grind (arith, is, c.may_run.ensures, c.if-not-may_run.false) in
    let kind = if_some (λ (r : JobRow). r.job.what ≡ job_kind.Register) (find (is_job c.args.job) jobs) row is c.requires.kind in
    let fails = if_some (λ (r : JobRow). c.args.refusal ≡ register_fault r.job) (find (is_job c.args.job) jobs) row is c.requires.refusal in
    let passes : register_fault row.job ≡ None = sym fails ∙ c.in_default.is in
    let mapped = c.mapped_row.ensures.row c.args.workers.now c.args.clients.now (with_jobs jobs rest) in
    let shown = shown_registration c.args.map.now rest c.in-Some-mapped_row.mapped.now in
    let there : mapped_registration old row.job.key row.job.scope ≡ Some shown = grind (arith, mapped, c.in-Some-mapped_row.is) in
    let has = c.is_registered.ensures c.args.map.now c.args.clients.now (with_jobs jobs rest) in
    happened (rules.run old c.args.job) _ _ c.args.notices.now c.resolve_and_finish-then-is_registered.new.notices old _
    (registered old c.args.job row is ready kind passes shown there (sym has ∙ c.if-is_registered.true)) refl
    (c.resolve_and_finish-then-is_registered.ensures.did c.args.map.now c.args.workers.now c.args.registrations.now c.args.clients.now rest)

pub fetch_script-requires-clause-names : goal.fetch_script-requires-clause-names
fetch_script-requires-clause-names c =
    let row = c.in-Some-row.row.now in
    let jobs = c.args.queues.now.rows in
    let registration = c.in-Some-mapped_row.mapped.now.number in
    let is : find (is_job c.args.job) jobs ≡ Some row = grind (arith, c.row.ensures, c.in-Some-row.is) in
    let has : maps c.args.map.now row.job.key row.job.scope ≡ Some registration = grind (arith, c.mapped_row.ensures.number, c.in-Some-mapped_row.is) in
    some_if (λ (r : JobRow). has_registration (is_of_job r.job) registration c.args.registrations.now.rows ≡ true) (find (is_job c.args.job) jobs) row is
    (c.requires.linked.mapped row.job.key row.job.scope registration has)

pub returns-clause-did : goal.returns-clause-did
returns-clause-did c = λ rest draw preload value.
    let row = c.in-Some-row.row.now in
    let jobs = c.args.queues.now.rows in
    let old : State = lent c.args.map.now c.args.workers.now c.args.registrations.now c.args.clients.now (with_jobs jobs rest) in
    let is : find (is_job c.args.job) jobs ≡ Some row = grind (arith, c.row.ensures, c.in-Some-row.is) in
    let ready : is_ready jobs row ≡ true = grind (arith, is, c.may_run.ensures, c.if-not-may_run.false) in
    let kind = if_some (λ (r : JobRow). r.job.what ≡ job_kind.Register) (find (is_job c.args.job) jobs) row is c.requires.kind in
    let fails = if_some (λ (r : JobRow). c.args.refusal ≡ register_fault r.job) (find (is_job c.args.job) jobs) row is c.requires.refusal in
    let passes : register_fault row.job ≡ None = sym fails ∙ c.in_default.is in
    let mapped = c.mapped_row.ensures.row c.args.workers.now c.args.clients.now (with_jobs jobs rest) in
    let shown = shown_registration c.args.map.now rest c.in-Some-mapped_row.mapped.now in
    let there : mapped_registration old row.job.key row.job.scope ≡ Some shown = grind (arith, mapped, c.in-Some-mapped_row.is) in
    let has = c.is_registered.ensures c.args.map.now c.args.clients.now (with_jobs jobs rest) in
    let ordinal = if_some (λ (r : JobRow). c.args.ordinal ≡ next_draw rest.draws r.job.script) (find (is_job c.args.job) jobs) row is draw in
    happened (rules.run old c.args.job) _ (Some (answer.Fetch c.args.ordinal)) c.args.notices.now c.args.notices.now old _
    (register_fetches old c.args.job row is ready kind passes shown there (sym has ∙ c.if-is_registered.false))
    (ap (λ (n : ℕ). Some (answer.Fetch n)) ordinal)
    (drawn_as _ c.args.notices.now c.args.notices.now c.args.job jobs row is (λ script. lent c.args.map.now c.args.workers.now c.args.registrations.now c.args.clients.now (drawn script (with_jobs c.fetch_script.new.queues.rows rest)))
    (c.fetch_script.ensures.did c.args.map.now c.args.workers.now c.args.clients.now rest row.job c.args.notices.now (found_number (λ (r : JobRow). r.job.number) c.args.job jobs row is) ordinal))
