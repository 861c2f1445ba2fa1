use Rattle.std.proofs.Common.{◌≡◌, ◌∙◌, sym}
use Rattle.sw_rules.specs.Noticing.{Did}
use Rattle.sw_rules.specs.Registering as rules
use Rattle.sw_rules.specs.State.{State}
use Rattle.sw_tables.specs.Happened.{with_jobs}
use Rattle.sw_tables.specs.Lent.{lent}
use Rattle.sw_activate.specs.Answers.{unregister_refusal}
use Rattle.sw_activate.proofs.Unregistering.{if_job, mapped_run, of_job, refused, unmapped_run}
use Rattle.sw_activate.proofs.unregister.run_allowed.Goals as goal

pub returns-in-Some-clause-did : goal.returns-in-Some-clause-did
returns-in-Some-clause-did c = λ rest.
    let before : State = lent c.args.map.now c.args.workers.now c.args.registrations.now c.args.clients.now (with_jobs c.args.queues.now.rows rest) in
    let after : State = lent c.args.map.now c.args.workers.now c.args.registrations.now c.args.clients.now (with_jobs c.resolve_and_finish.new.queues.rows rest) in
    if_job c.args.job c.args.queues.now.rows (λ row. Did (rules.run_unregister before row.job).told c.args.notices.now c.resolve_and_finish.new.notices after)
    (λ row here own.
    refused before c.args.notices.now c.resolve_and_finish.new.notices after row.job c.args.job own c.in-Some.why
    (sym c.in-Some.is ∙ of_job c.args.job c.args.queues.now.rows row here (λ r. c.args.refusal ≡ unregister_refusal r.job) c.requires.job)
    (c.resolve_and_finish.ensures.did c.args.map.now c.args.workers.now c.args.registrations.now c.args.clients.now rest))

pub returns-in-Some-mapped_of-clause-did : goal.returns-in-Some-mapped_of-clause-did
returns-in-Some-mapped_of-clause-did c = λ rest.
    let before : State = lent c.args.map.now c.args.workers.now c.args.registrations.now c.args.clients.now (with_jobs c.args.queues.now.rows rest) in
    let after : State = lent c.unregister_mapped.new.map c.unregister_mapped.new.workers c.unregister_mapped.new.registrations c.args.clients.now
    (with_jobs c.unregister_mapped.new.queues.rows rest) in
    if_job c.args.job c.args.queues.now.rows (λ row. Did (rules.run_unregister before row.job).told c.args.notices.now c.unregister_mapped.new.notices after)
    (λ row here own.
    mapped_run before c.args.notices.now c.unregister_mapped.new.notices after row.job c.args.job own c.in-Some-mapped_of.registration
    (sym c.in-None.is ∙ of_job c.args.job c.args.queues.now.rows row here (λ r. c.args.refusal ≡ unregister_refusal r.job) c.requires.job)
    (sym c.in-Some-mapped_of.is ∙ of_job c.args.job c.args.queues.now.rows row here _
    (c.mapped_of.ensures.mapped c.args.workers.now c.args.clients.now (with_jobs c.args.queues.now.rows rest)))
    (of_job c.args.job c.args.queues.now.rows row here _ (c.unregister_mapped.ensures.did rest)))

pub returns-in-None-mapped_of-clause-did : goal.returns-in-None-mapped_of-clause-did
returns-in-None-mapped_of-clause-did c = λ rest.
    let before : State = lent c.args.map.now c.args.workers.now c.args.registrations.now c.args.clients.now (with_jobs c.args.queues.now.rows rest) in
    let after : State = lent c.args.map.now c.args.workers.now c.args.registrations.now c.args.clients.now (with_jobs c.resolve_and_finish-in-None-mapped_of.new.queues.rows rest) in
    if_job c.args.job c.args.queues.now.rows (λ row. Did (rules.run_unregister before row.job).told c.args.notices.now c.resolve_and_finish-in-None-mapped_of.new.notices after)
    (λ row here own.
    unmapped_run before c.args.notices.now c.resolve_and_finish-in-None-mapped_of.new.notices after row.job c.args.job own
    (sym c.in-None.is ∙ of_job c.args.job c.args.queues.now.rows row here (λ r. c.args.refusal ≡ unregister_refusal r.job) c.requires.job)
    (sym c.in-None-mapped_of.is ∙ of_job c.args.job c.args.queues.now.rows row here _
    (c.mapped_of.ensures.mapped c.args.workers.now c.args.clients.now (with_jobs c.args.queues.now.rows rest)))
    (c.resolve_and_finish-in-None-mapped_of.ensures.did c.args.map.now c.args.workers.now c.args.registrations.now c.args.clients.now rest))
