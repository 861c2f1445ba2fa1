use Rattle.std.proofs.Common.{◌∙◌}
use Rattle.sw_tables.specs.Lent.{lent}
use Rattle.sw_activate.proofs.Copies.{copies_linked, told_on_copies}
use Rattle.sw_activate.proofs.claiming.told.Goals as goal

pub claim_clients-requires-clause-linked : goal.claim_clients-requires-clause-linked
claim_clients-requires-clause-linked c =
    copies_linked c.args.workers.now c.args.registrations.now c.args.clients.now c.in_ok-workers.workers c.in_ok-registrations.registrations c.in_ok-clients.clients
    (record { workers = c.in_ok-workers.ensures; registrations = c.in_ok-registrations.ensures; clients = c.in_ok-clients.ensures })
    c.args.map.now c.requires.linked

pub returns : goal.returns
returns c = λ rest.
    c.into_items.ensures
    ∙ told_on_copies c.args.workers.now c.args.registrations.now c.args.clients.now c.in_ok-workers.workers c.in_ok-registrations.registrations c.in_ok-clients.clients
    (record { workers = c.in_ok-workers.ensures; registrations = c.in_ok-registrations.ensures; clients = c.in_ok-clients.ensures })
    c.args.map.now rest c.args.worker c.args.registration c.in_ok-notices.notices c.claim_clients.new.notices
    (lent c.args.map.now c.claim_clients.new.workers c.claim_clients.new.registrations c.claim_clients.new.clients rest)
    c.in_ok-notices.ensures.empty (c.claim_clients.ensures.did rest)
