use Rattle.std.proofs.Common.{true, refl}
use Rattle.sw_data.specs.declared.answers.Settlement.TheVariants as settlement
use Rattle.sw_rules.specs.Jobs.{finish, settle}
use Rattle.sw_rules.specs.Registering as rules
use Rattle.sw_rules.specs.Noticing.{Did}
use Rattle.sw_rules.specs.Registrations.{try_clear, unmap}
use Rattle.sw_rules.specs.State.{State}
use Rattle.sw_rules.specs.Told.{followed}
use Rattle.sw_tables.proofs.Chain.{did_quietly, did_then}
use Rattle.sw_tables.specs.Happened.{with_jobs}
use Rattle.sw_tables.specs.Lent.{lent}
use Rattle.sw_activate.proofs.Unregistering.{if_job, unregistered}
use Rattle.sw_activate.proofs.unregister.unregister_mapped.Goals as goal

pub returns-clause-did : goal.returns-clause-did
unfolding finish
returns-clause-did c = λ rest.
    let job = c.args.job in
    let registration = c.args.registration in
    let s0 : State = lent c.args.map.now c.args.workers.now c.args.registrations.now c.args.clients.now (with_jobs c.args.queues.now.rows rest) in
    let s1 : State = lent c.unmap.new.map c.args.workers.now c.args.registrations.now c.args.clients.now (with_jobs c.args.queues.now.rows rest) in
    let s2 : State = lent c.unmap.new.map c.args.workers.now c.args.registrations.now c.args.clients.now (with_jobs c.settle.new.queues.rows rest) in
    let s3 : State = lent c.unmap.new.map c.try_clear.new.workers c.try_clear.new.registrations c.args.clients.now (with_jobs c.settle.new.queues.rows rest) in
    let s4 : State = lent c.unmap.new.map c.try_clear.new.workers c.try_clear.new.registrations c.args.clients.now (with_jobs c.finish.new.queues.rows rest) in
    if_job job c.args.queues.now.rows (λ row. Did (rules.unregister_mapped s0 row.job registration) c.args.notices.now c.try_clear.new.notices s4)
    (λ row here own.
    unregistered s0 c.args.notices.now c.try_clear.new.notices s4 row.job job own registration
    (did_then (unmap s0 registration) (λ unmapped.
    followed (settle unmapped job (settlement.Truth true)) (λ settled.
    followed (try_clear settled registration) (λ cleared. finish cleared job)))
    c.args.notices.now c.unmap.new.notices c.try_clear.new.notices s1 s4
    (c.unmap.ensures.did c.args.workers.now c.args.clients.now (with_jobs c.args.queues.now.rows rest))
    (did_then (settle s1 job (settlement.Truth true)) (λ settled.
    followed (try_clear settled registration) (λ cleared. finish cleared job))
    c.unmap.new.notices c.settle.new.notices c.try_clear.new.notices s2 s4
    (c.settle.ensures.did c.unmap.new.map c.args.workers.now c.args.registrations.now c.args.clients.now rest)
    (did_then (try_clear s2 registration) (λ cleared. finish cleared job)
    c.settle.new.notices c.try_clear.new.notices c.try_clear.new.notices s3 s4
    (c.try_clear.ensures.did c.unmap.new.map (with_jobs c.settle.new.queues.rows rest))
    (did_quietly (finish s3 job) c.try_clear.new.notices s4 refl
    (c.finish.ensures.state c.unmap.new.map c.try_clear.new.workers c.try_clear.new.registrations c.args.clients.now rest))))))

pub returns-clause-linked : goal.returns-clause-linked
returns-clause-linked c =
    c.try_clear.ensures.linked c.unmap.new.map c.args.clients.now (c.unmap.ensures.linked c.args.workers.now c.args.clients.now c.requires.linked)
