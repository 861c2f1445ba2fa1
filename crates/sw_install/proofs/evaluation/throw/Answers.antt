use Rattle.std.proofs.Common.{ap}
use Rattle.sw_data.specs.declared.answers.Cause.TheVariants as cause
use Rattle.sw_data.specs.declared.workers.WorkerState.TheVariants as worker_state
use Rattle.sw_install.proofs.Standing.{no_rest, there_stays}
use Rattle.sw_rules.specs.Installing as rules
use Rattle.sw_rules.specs.Registrations.{become}
use Rattle.sw_rules.specs.State.{State}
use Rattle.sw_rules.specs.Told.{type_error}
use Rattle.sw_tables.proofs.Chain.{did_then}
use Rattle.sw_tables.specs.Happened.{with_jobs}
use Rattle.sw_tables.specs.Lent.{lent}
use Rattle.sw_install.proofs.evaluation.throw.Goals as goal

pub reject_and_drop-requires-clause-linked : goal.reject_and_drop-requires-clause-linked
reject_and_drop-requires-clause-linked c = c.discard.ensures.linked c.args.map.now c.args.clients.now c.requires.linked

pub reject_and_drop-requires-clause-there : goal.reject_and_drop-requires-clause-there
unfolding become
reject_and_drop-requires-clause-there c =
    there_stays c.args.map.now no_rest c.args.registration c.args.registrations.now.rows c.discard.new.registrations.rows
    (ap (λ (s : State). s.registrations) (c.discard.ensures.did c.args.map.now c.args.clients.now no_rest).state) c.requires.there

pub returns-clause-did : goal.returns-clause-did
unfolding rules.throw
returns-clause-did c = λ rest.
    let jobs = c.args.queues.now.rows in
    let before : State = lent c.args.map.now c.args.workers.now c.args.registrations.now c.args.clients.now (with_jobs jobs rest) in
    did_then (become before c.args.worker worker_state.Redundant)
    (λ discarded. rules.reject_and_drop discarded c.args.job c.args.registration (type_error cause.Threw))
    c.args.notices.now c.discard.new.notices c.reject_and_drop.new.notices
    (lent c.args.map.now c.discard.new.workers c.discard.new.registrations c.args.clients.now (with_jobs jobs rest))
    (lent c.reject_and_drop.new.map c.discard.new.workers c.discard.new.registrations c.args.clients.now (with_jobs c.reject_and_drop.new.queues.rows rest))
    (c.discard.ensures.did c.args.map.now c.args.clients.now (with_jobs jobs rest))
    (c.reject_and_drop.ensures.did rest)
