use Rattle.std.proofs.Common.{ℕ, Option, is_none, if◌then◌else◌, refl, sym, subst, ap}
use Rattle.sw_data.specs.declared.workers.WorkerState.TheVariants as worker_state
use Rattle.sw_install.proofs.Standing.{no_rest, there_stays}
use Rattle.sw_rules.specs.Installing as rules
use Rattle.sw_rules.specs.Jobs.{finish}
use Rattle.sw_rules.specs.Noticing.{Did}
use Rattle.sw_rules.specs.Registrations.{become, unmap}
use Rattle.sw_rules.specs.State.{State}
use Rattle.sw_rules.specs.Told.{Told, followed, quiet}
use Rattle.sw_tables.proofs.Chain.{did_quietly, did_then}
use Rattle.sw_tables.specs.Happened.{with_jobs}
use Rattle.sw_tables.specs.Lent.{lent}
use Rattle.sw_install.proofs.ending.fail_install.Goals as goal

pub leave-requires-clause-linked : goal.leave-requires-clause-linked
leave-requires-clause-linked c =
    c.discard.ensures.linked c.args.map.now c.args.clients.now (c.end_install.ensures.linked c.args.map.now c.args.clients.now c.requires.linked)

pub leave-requires-clause-there : goal.leave-requires-clause-there
unfolding become
leave-requires-clause-there c =
    there_stays c.args.map.now no_rest c.args.registration c.args.registrations.now.rows c.discard.new.registrations.rows
    (ap (λ (s : State). s.registrations) (c.discard.ensures.did c.args.map.now c.args.clients.now no_rest).state) c.requires.there

pub returns-clause-did : goal.returns-clause-did
unfolding rules.fail_install rules.end_handler finish
returns-clause-did c = λ rest row number remembered.
    let old = c.args.queues.now.rows in
    let map = c.args.map.now in
    let left = c.leave.new.map in
    let of_clients = c.args.clients.now in
    let first : State = lent map c.args.workers.now c.args.registrations.now of_clients (with_jobs old rest) in
    let second : State = lent map c.end_install.new.workers c.args.registrations.now of_clients (with_jobs old rest) in
    let third : State = lent map c.discard.new.workers c.discard.new.registrations of_clients (with_jobs old rest) in
    let fourth : State = lent left c.discard.new.workers c.discard.new.registrations of_clients (with_jobs old rest) in
    let last : State = lent left c.discard.new.workers c.discard.new.registrations of_clients (with_jobs c.finish.new.queues.rows rest) in
    let leaves : Option ℕ → State → Told = λ r s. if is_none r then unmap s c.args.registration else quiet s in
    let told_third : ℕ → Option ℕ → State → Told = λ n r s. followed (leaves r s) (λ gone. finish gone n) in
    let told_second : ℕ → Option ℕ → State → Told = λ n r s. followed (become s c.args.worker worker_state.Redundant) (told_third n r) in
    let told : ℕ → Option ℕ → Told = λ n r. followed (rules.end_handler first c.args.worker) (told_second n r) in
    let after = c.leave.new.notices in
    let did : Did (told c.args.job c.args.remembered) c.args.notices.now after last =
    did_then (rules.end_handler first c.args.worker) (told_second c.args.job c.args.remembered) c.args.notices.now c.args.notices.now after second last
    (did_quietly (rules.end_handler first c.args.worker) c.args.notices.now second refl
    (c.end_install.ensures.state map of_clients (with_jobs old rest)))
    (did_then (become second c.args.worker worker_state.Redundant) (told_third c.args.job c.args.remembered) c.args.notices.now c.discard.new.notices after third last
    (c.discard.ensures.did map of_clients (with_jobs old rest))
    (did_then (leaves c.args.remembered third) (λ gone. finish gone c.args.job) c.discard.new.notices after after fourth last
    (c.leave.ensures.did (with_jobs old rest))
    (did_quietly (finish fourth c.args.job) after last refl
    (c.finish.ensures.state left c.discard.new.workers c.discard.new.registrations of_clients rest)))) in
    subst (λ (n : ℕ). Did (told n row.remembered) c.args.notices.now after last) (sym number)
    (subst (λ (r : Option ℕ). Did (told c.args.job r) c.args.notices.now after last) (sym remembered) did)
