use Rattle.std.proofs.Common.{List, refl}
use Rattle.sw_data.specs.declared.answers.Settlement.TheVariants as settlement
use Rattle.sw_data.specs.declared.rows.JobRow.{JobRow}
use Rattle.sw_rules.specs.Installing as rules
use Rattle.sw_rules.specs.Jobs.{finish, settle}
use Rattle.sw_rules.specs.Registrations.{drop_registration}
use Rattle.sw_rules.specs.State.{State}
use Rattle.sw_rules.specs.Told.{followed}
use Rattle.sw_scope.specs.Scopes.{Scopes}
use Rattle.sw_tables.proofs.Chain.{did_quietly, did_then}
use Rattle.sw_tables.specs.Happened.{with_jobs}
use Rattle.sw_tables.specs.Lent.{lent}
use Rattle.sw_install.proofs.dropping.reject_and_drop.Goals as goal

pub returns-clause-did : goal.returns-clause-did
unfolding rules.reject_and_drop finish
returns-clause-did c = λ rest.
    let state : Scopes → List JobRow → State = λ scopes jobs.
    lent scopes c.args.workers.now c.args.registrations.now c.args.clients.now (with_jobs jobs rest) in
    let jobs = c.settle.new.queues.rows in
    let after = c.drop_registration.new.notices in
    did_then (settle (state c.args.map.now c.args.queues.now.rows) c.args.job (settlement.Fault c.args.why))
    (λ settled. followed (drop_registration settled c.args.registration) (λ dropped. finish dropped c.args.job))
    c.args.notices.now c.settle.new.notices after (state c.args.map.now jobs) (state c.drop_registration.new.map c.finish.new.queues.rows)
    (c.settle.ensures.did c.args.map.now c.args.workers.now c.args.registrations.now c.args.clients.now rest)
    (did_then (drop_registration (state c.args.map.now jobs) c.args.registration) (λ dropped. finish dropped c.args.job)
    c.settle.new.notices after after (state c.drop_registration.new.map jobs) (state c.drop_registration.new.map c.finish.new.queues.rows)
    (c.drop_registration.ensures.did (with_jobs jobs rest))
    (did_quietly (finish (state c.drop_registration.new.map jobs) c.args.job) after (state c.drop_registration.new.map c.finish.new.queues.rows) refl
    (c.finish.ensures.state c.drop_registration.new.map c.args.workers.now c.args.registrations.now c.args.clients.now rest)))
