use Rattle.std.proofs.Common.{◌∙◌, sym, subst}
use Rattle.sw_rules.specs.Noticing.{Did}
use Rattle.sw_rules.specs.Registrations as rules
use Rattle.sw_rules.specs.State.{State}
use Rattle.sw_tables.specs.Lent.{lent}
use Rattle.sw_activate.proofs.Unloading.{leaves, stays}
use Rattle.sw_activate.proofs.Names.{empty_rest, kept, left_alike, then_keeps, used_there}
use Rattle.sw_activate.proofs.clients.unload_client.Goals as goal

pub release-requires-clause-there : goal.release-requires-clause-there
release-requires-clause-there c =
    used_there c.args.map.now c.args.workers.now c.args.registrations.now c.args.clients.now empty_rest c.requires.linked.slots c.args.client c.in-Some.registration
    (sym (c.used_registration.ensures c.args.map.now c.args.workers.now c.args.registrations.now empty_rest c.requires.linked.noted) ∙ c.in-Some.is)

pub returns-in-Some-clause-did : goal.returns-in-Some-clause-did
returns-in-Some-clause-did c = λ rest.
    let state : State = lent c.args.map.now c.args.workers.now c.args.registrations.now c.args.clients.now rest in
    let after : State = lent c.args.map.now c.release.new.workers c.release.new.registrations c.release.new.clients rest in
    leaves state c.args.client c.in-Some.registration c.args.notices.now c.release.new.notices after
    (sym (c.used_registration.ensures c.args.map.now c.args.workers.now c.args.registrations.now rest c.requires.linked.noted) ∙ c.in-Some.is)
    (subst (λ (s : State). Did (rules.release s c.in-Some.registration) c.args.notices.now c.release.new.notices after)
    (c.leave.ensures.state c.args.map.now c.args.workers.now c.args.registrations.now rest) (c.release.ensures.did rest))

pub returns-in-Some-clause-names : goal.returns-in-Some-clause-names
returns-in-Some-clause-names c =
    then_keeps c.args.workers.now c.args.workers.now c.release.new.workers
    c.args.registrations.now c.args.registrations.now c.release.new.registrations
    c.args.clients.now c.leave.new.clients c.release.new.clients
    (kept c.args.map.now c.args.workers.now c.args.workers.now c.args.registrations.now c.args.registrations.now c.args.clients.now c.leave.new.clients
    (left_alike (lent c.args.map.now c.args.workers.now c.args.registrations.now c.args.clients.now empty_rest) c.args.client)
    (c.leave.ensures.state c.args.map.now c.args.workers.now c.args.registrations.now empty_rest))
    c.release.ensures.names

pub returns-in-None-clause-did : goal.returns-in-None-clause-did
returns-in-None-clause-did c = λ rest.
    stays (lent c.args.map.now c.args.workers.now c.args.registrations.now c.args.clients.now rest) c.args.client c.args.notices.now
    (sym (c.used_registration.ensures c.args.map.now c.args.workers.now c.args.registrations.now rest c.requires.linked.noted) ∙ c.in-None.is)
