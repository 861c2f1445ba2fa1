use Rattle.std.proofs.Common.{◌≡◌, refl, subst}
use Rattle.sw_rules.specs.Clients as rules
use Rattle.sw_rules.specs.Noticing.{Did}
use Rattle.sw_rules.specs.Registrations.{unload}
use Rattle.sw_tables.proofs.Chain.{did_then, did_quietly}
use Rattle.sw_tables.specs.Lent.{lent}
use Rattle.sw_finish.proofs.Doing.{with_same_jobs, with_tables}
use Rattle.sw_state.specs.contracts.tables.HostTables.{the_view}
use Rattle.sw_state.specs.Hosted.{Hosted, rest_of, state_of}
use Rattle.sw_finish.proofs.acts.close_client.Goals as goal

pub returns-clause-did : goal.returns-clause-did
unfolding rules.leave rules.remove_client
returns-clause-did c =
    let host : Hosted = the_view c.host.inside in
    let new = c.unload.new in
    let one = lent new.map new.workers new.registrations new.clients (rest_of host) in
    let two = lent new.map new.workers new.registrations c.remove.new.clients (rest_of host) in
    let removed : two ≡ (rules.remove_client one c.args.client).state = c.remove.ensures.state new.map new.workers new.registrations (rest_of host) in
    subst (λ (h : Hosted). Did (rules.leave (state_of h) c.args.client) c.args.notices.now new.notices
    (state_of (with_tables host new.map new.workers new.registrations c.remove.new.clients new._queues))) c.host.view_is
    (with_same_jobs host new.map new.workers new.registrations c.remove.new.clients new._queues c.unload.ensures.queues
    (rules.leave (state_of host) c.args.client) c.args.notices.now new.notices
    (did_then (unload (state_of host) c.args.client) (λ left. rules.remove_client left c.args.client) c.args.notices.now new.notices new.notices one two
    (c.unload.ensures.did (rest_of host)).1
    (did_quietly (rules.remove_client one c.args.client) new.notices two refl removed)))
