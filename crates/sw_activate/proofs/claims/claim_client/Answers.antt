use Rattle.std.proofs.Common.{◌∙◌, sym}
use Rattle.sw_tables.specs.Lent.{lent}
use Rattle.sw_activate.proofs.OneByOne.{known_owner, take_control_alike}
use Rattle.sw_activate.proofs.Names.{empty_rest, kept, still_owned, then_keeps}
use Rattle.sw_activate.proofs.Unloading.{claimed, not_claimed}
use Rattle.sw_activate.proofs.claims.claim_client.Goals as goal

pub returns-then-not-claims_client-clause-did : goal.returns-then-not-claims_client-clause-did
returns-then-not-claims_client-clause-did c = λ rest.
    not_claimed (lent c.args.map.now c.args.workers.now c.args.registrations.now c.args.clients.now rest) c.args.worker c.args.registration c.args.client c.args.notices.now
    (sym (c.claims_client.ensures c.args.workers.now rest) ∙ c.if-not-claims_client.true)

pub take_control-requires-clause-known : goal.take_control-requires-clause-known
take_control-requires-clause-known c =
    known_owner c.args.map.now c.unload_client.new.workers c.unload_client.new.registrations c.unload_client.new.clients c.unload_client.ensures.linked
    c.args.worker c.args.registration
    (still_owned c.args.worker c.args.workers.now.rows c.unload_client.new.workers.rows c.unload_client.ensures.names.workers ∙ c.requires.owner)

pub returns-clause-did : goal.returns-clause-did
returns-clause-did c = λ rest.
    claimed (lent c.args.map.now c.args.workers.now c.args.registrations.now c.args.clients.now rest) c.args.worker c.args.registration c.args.client
    c.args.notices.now c.unload_client.new.notices c.take_control.new.notices
    (lent c.args.map.now c.unload_client.new.workers c.unload_client.new.registrations c.unload_client.new.clients rest)
    (lent c.args.map.now c.unload_client.new.workers c.unload_client.new.registrations c.take_control.new.clients rest)
    (sym (c.claims_client.ensures c.args.workers.now rest) ∙ c.if-not-claims_client.false)
    (c.unload_client.ensures.did rest)
    (c.take_control.ensures.did c.args.map.now c.unload_client.new.workers c.unload_client.new.registrations rest)

pub returns-clause-linked : goal.returns-clause-linked
returns-clause-linked c =
    c.take_control.ensures.linked c.args.map.now c.unload_client.new.workers c.unload_client.new.registrations
    (still_owned c.args.worker c.args.workers.now.rows c.unload_client.new.workers.rows c.unload_client.ensures.names.workers ∙ c.requires.owner)
    c.unload_client.ensures.linked

pub returns-clause-names : goal.returns-clause-names
returns-clause-names c =
    then_keeps c.args.workers.now c.unload_client.new.workers c.unload_client.new.workers
    c.args.registrations.now c.unload_client.new.registrations c.unload_client.new.registrations
    c.args.clients.now c.unload_client.new.clients c.take_control.new.clients
    c.unload_client.ensures.names
    (kept c.args.map.now c.unload_client.new.workers c.unload_client.new.workers c.unload_client.new.registrations c.unload_client.new.registrations
    c.unload_client.new.clients c.take_control.new.clients
    (take_control_alike (lent c.args.map.now c.unload_client.new.workers c.unload_client.new.registrations c.unload_client.new.clients empty_rest) c.args.worker c.args.client)
    (c.take_control.ensures.did c.args.map.now c.unload_client.new.workers c.unload_client.new.registrations empty_rest).state)
