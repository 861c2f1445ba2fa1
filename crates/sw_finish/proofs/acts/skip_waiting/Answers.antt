use Rattle.std.proofs.Common.{◌≡◌, Some, sym, subst}
use Rattle.sw_rules.specs.Clients as rules
use Rattle.sw_rules.specs.Noticing.{Did}
use Rattle.sw_rules.specs.Rows.{worker_row}
use Rattle.sw_tables.specs.Lent.{lent}
use Rattle.sw_tables.specs.Linked.{registration_of}
use Rattle.sw_work.proofs.Working.{if_some_map}
use Rattle.sw_finish.proofs.Doing.{of_owned, with_same_jobs, with_tables}
use Rattle.sw_state.specs.contracts.tables.HostTables.{the_view}
use Rattle.sw_state.specs.Hosted.{Hosted, rest_of, state_of}
use Rattle.sw_finish.proofs.acts.skip_waiting.Goals as goal

pub returns-clause-did : goal.returns-clause-did
returns-clause-did c =
    let host : Hosted = the_view c.host.inside in
    let new = c.skip_waiting.new in
    let after = lent new.map new.workers new.registrations new.clients (rest_of host) in
    let owner : registration_of host.workers.rows c.args.worker ≡ Some c.args.registration =
    subst (λ (h : Hosted). registration_of h.workers.rows c.args.worker ≡ Some c.args.registration) (sym c.host.view_is) c.requires.owner in
    subst (λ (h : Hosted). Did (rules.skip_waiting (state_of h) c.args.registration c.args.worker) c.args.notices.now new.notices
    (state_of (with_tables host new.map new.workers new.registrations new.clients new._queues))) c.host.view_is
    (with_same_jobs host new.map new.workers new.registrations new.clients new._queues c.skip_waiting.ensures.queues
    (rules.skip_waiting (state_of host) c.args.registration c.args.worker) c.args.notices.now new.notices
    (of_owned host c.args.worker c.args.registration owner (λ r n. Did (rules.skip_waiting (state_of host) r n) c.args.notices.now new.notices after)
    (if_some_map _ _ (λ row happened. happened.1) (worker_row (state_of host) c.args.worker) (c.skip_waiting.ensures.did (rest_of host)))))
