use Rattle.std.proofs.Common.{List, refl}
use Rattle.sw_data.specs.declared.rows.JobRow.{JobRow}
use Rattle.sw_rules.specs.Jobs as rules
use Rattle.sw_rules.specs.State.{State}
use Rattle.sw_tables.proofs.Chain.{did_quietly, did_then}
use Rattle.sw_tables.specs.Happened.{with_jobs}
use Rattle.sw_tables.specs.Lent.{lent}
use Rattle.sw_tables.proofs.jobs.resolve_and_finish.Goals as goal

pub returns-clause-did : goal.returns-clause-did
unfolding rules.resolve_and_finish rules.finish
returns-clause-did c = λ scopes of_workers of_registrations of_clients rest.
    let after : List JobRow → State = λ jobs. lent scopes of_workers of_registrations of_clients (with_jobs jobs rest) in
    did_then (rules.settle (after c.args.queues.now.rows) c.args.job c.args.value) (λ settled. rules.finish settled c.args.job)
    c.args.notices.now c.settle.new.notices c.settle.new.notices (after c.settle.new.queues.rows) (after c.finish.new.queues.rows)
    (c.settle.ensures.did scopes of_workers of_registrations of_clients rest)
    (did_quietly (rules.finish (after c.settle.new.queues.rows) c.args.job) c.settle.new.notices (after c.finish.new.queues.rows) refl
    (c.finish.ensures.state scopes of_workers of_registrations of_clients rest))
