use Rattle.std.proofs.Common.{◌≡◌, Some, option_and_then, sym, subst}
use Rattle.sw_rules.specs.Clients as rules
use Rattle.sw_rules.specs.Noticing.{Did}
use Rattle.sw_rules.specs.State.{FetchEvent}
use Rattle.sw_rules.specs.Told.{Outcome}
use Rattle.sw_tables.specs.Lent.{lent}
use Rattle.sw_tables.specs.Linked.{registration_of}
use Rattle.sw_worker.specs.Table.{event_at}
use Rattle.sw_finish.proofs.Doing.{ends, with_same_jobs, with_tables}
use Rattle.sw_state.specs.contracts.tables.HostTables.{the_view}
use Rattle.sw_state.specs.Hosted.{Hosted, rest_of, state_of}
use Rattle.sw_finish.proofs.acts.end_event.Goals as goal

pub returns-clause-did : goal.returns-clause-did
returns-clause-did c =
    let host : Hosted = the_view c.host.inside in
    let new = c.end_event.new in
    let after = lent new.map new.workers new.registrations new.clients (rest_of host) in
    let fits : option_and_then (λ (row : FetchEvent). registration_of host.workers.rows row.worker) (event_at c.args.event host.workers.events) ≡ Some c.args.registration =
    subst (λ (h : Hosted). option_and_then (λ (row : FetchEvent). registration_of h.workers.rows row.worker) (event_at c.args.event h.workers.events) ≡ Some c.args.registration) (sym c.host.view_is) c.requires.fits in
    subst (λ (h : Hosted). Did (rules.end_event (state_of h) c.args.event c.args.registration) c.args.notices.now new.notices
    (state_of (with_tables host new.map new.workers new.registrations new.clients new._queues))) c.host.view_is
    (with_same_jobs host new.map new.workers new.registrations new.clients new._queues c.end_event.ensures.queues
    (rules.end_event (state_of host) c.args.event c.args.registration) c.args.notices.now new.notices
    (subst (λ (o : Outcome). Did o.told c.args.notices.now new.notices after) (ends host c.args.event c.args.registration fits)
    (c.end_event.ensures.did (rest_of host)).1))
