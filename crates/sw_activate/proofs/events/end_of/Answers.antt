use Rattle.std.proofs.Common.{refl}
use Rattle.sw_rules.specs.Clients as rules
use Rattle.sw_rules.specs.Registrations as registering
use Rattle.sw_rules.specs.State.{State}
use Rattle.sw_tables.proofs.Chain.{did_quietly, did_then}
use Rattle.sw_tables.specs.Lent.{lent}
use Rattle.sw_activate.proofs.events.end_of.Goals as goal

pub recheck-requires-clause-linked : goal.recheck-requires-clause-linked
recheck-requires-clause-linked c = c.remove_event.ensures.linked c.args.map.now c.args.clients.now c.requires.linked

pub returns-clause-did : goal.returns-clause-did
unfolding rules.end_event rules.remove_event
returns-clause-did c = λ rest.
    let before : State = lent c.args.map.now c.args.workers.now c.args.registrations.now c.args.clients.now rest in
    let middle : State = lent c.args.map.now c.remove_event.new.workers c.args.registrations.now c.args.clients.now rest in
    let after : State = lent c.args.map.now c.recheck.new.workers c.recheck.new.registrations c.recheck.new.clients rest in
    did_then (rules.remove_event before c.args.event) (λ ended. registering.recheck ended c.args.registration)
    c.args.notices.now c.args.notices.now c.recheck.new.notices middle after
    (did_quietly (rules.remove_event before c.args.event) c.args.notices.now middle refl (c.remove_event.ensures.state c.args.map.now c.args.clients.now rest))
    (c.recheck.ensures.did rest)
