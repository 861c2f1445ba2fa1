use Rattle.std.proofs.Common.{refl}
use Rattle.sw_rules.specs.Clients as rules
use Rattle.sw_rules.specs.Registrations as registering
use Rattle.sw_rules.specs.State.{State}
use Rattle.sw_rules.specs.Told.{quiet}
use Rattle.sw_tables.proofs.Chain.{did_quietly, did_then}
use Rattle.sw_tables.specs.Lent.{lent}
use Rattle.sw_activate.proofs.events.skip.Goals as goal

pub try_activate-requires-clause-slots : goal.try_activate-requires-clause-slots
try_activate-requires-clause-slots c = c.set_skip.ensures.slots

pub try_activate-requires-clause-noted : goal.try_activate-requires-clause-noted
try_activate-requires-clause-noted c = (c.set_skip.ensures.linked c.args.map.now c.args.clients.now c.requires.linked).noted

pub returns-clause-did : goal.returns-clause-did
unfolding rules.skip_waiting
returns-clause-did c = λ rest.
    let before : State = lent c.args.map.now c.args.workers.now c.args.registrations.now c.args.clients.now rest in
    let middle : State = lent c.args.map.now c.set_skip.new.workers c.args.registrations.now c.args.clients.now rest in
    let after : State = lent c.args.map.now c.try_activate.new.workers c.try_activate.new.registrations c.try_activate.new.clients rest in
    did_then (quiet (rules.flagged c.args.worker before)) (λ flagged. registering.try_activate flagged c.args.registration)
    c.args.notices.now c.args.notices.now c.try_activate.new.notices middle after
    (did_quietly (quiet (rules.flagged c.args.worker before)) c.args.notices.now middle refl (c.set_skip.ensures.state c.args.map.now c.args.clients.now rest))
    (c.try_activate.ensures.did c.args.map.now rest)

pub returns-clause-linked : goal.returns-clause-linked
returns-clause-linked c =
    c.try_activate.ensures.linked c.args.map.now (c.set_skip.ensures.linked c.args.map.now c.args.clients.now c.requires.linked)
