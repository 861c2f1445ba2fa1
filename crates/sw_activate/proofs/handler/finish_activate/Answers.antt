use Rattle.std.proofs.Common.{refl}
use Rattle.sw_rules.specs.Activating as rules
use Rattle.sw_rules.specs.Installing as installing
use Rattle.sw_rules.specs.Registrations as registering
use Rattle.sw_rules.specs.State.{State}
use Rattle.sw_rules.specs.Told.{Told, followed}
use Rattle.sw_tables.proofs.Chain.{did_quietly, did_then}
use Rattle.sw_tables.specs.Lent.{lent}
use Rattle.sw_tables.specs.Parts.{is_activating}
use Rattle.sw_activate.proofs.handler.finish_activate.Goals as goal

pub become_activated-requires-clause-worker : goal.become_activated-requires-clause-worker
become_activated-requires-clause-worker c =
    c.end_handler.ensures.rests is_activating c.args.registration c.requires.worker

pub recheck-requires-clause-linked : goal.recheck-requires-clause-linked
recheck-requires-clause-linked c =
    c.become_activated.ensures.linked c.args.map.now c.args.clients.now (c.end_handler.ensures.linked c.args.map.now c.args.clients.now c.requires.linked)

pub returns-clause-did : goal.returns-clause-did
unfolding rules.finish_activate installing.end_handler
returns-clause-did c = λ rest.
    let list = c.args.notices.now in
    let first : State = lent c.args.map.now c.args.workers.now c.args.registrations.now c.args.clients.now rest in
    let second : State = lent c.args.map.now c.end_handler.new.workers c.args.registrations.now c.args.clients.now rest in
    let third : State = lent c.args.map.now c.become_activated.new.workers c.args.registrations.now c.args.clients.now rest in
    let last : State = lent c.args.map.now c.recheck.new.workers c.recheck.new.registrations c.recheck.new.clients rest in
    let rechecked : State → Told = λ s. registering.recheck s c.args.registration in
    did_then (installing.end_handler first c.args.worker)
    (λ ended. followed (rules.become_activated ended c.args.registration c.args.worker) rechecked)
    list list c.recheck.new.notices second last
    (did_quietly (installing.end_handler first c.args.worker) list second refl
    (c.end_handler.ensures.state c.args.map.now c.args.clients.now rest))
    (did_then (rules.become_activated second c.args.registration c.args.worker) rechecked
    list c.become_activated.new.notices c.recheck.new.notices third last
    (c.become_activated.ensures.did c.args.map.now c.args.clients.now rest)
    (c.recheck.ensures.did rest))
