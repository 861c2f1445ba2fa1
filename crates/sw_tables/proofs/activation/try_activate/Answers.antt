use Rattle.std.proofs.Common.{◌∙◌, sym}
use Rattle.sw_tables.specs.Lent.{lent}
use Rattle.sw_tables.proofs.Trying.{is_activated, not_activated}
use Rattle.sw_tables.proofs.activation.try_activate.Goals as goal

pub returns-in-Some-clause-did : goal.returns-in-Some-clause-did
returns-in-Some-clause-did c scopes rest =
    is_activated (lent scopes c.args.workers.now c.args.registrations.now c.args.clients.now rest) c.args.registration c.in-Some.worker
    c.args.notices.now c.activate.new.notices (lent scopes c.activate.new.workers c.activate.new.registrations c.activate.new.clients rest)
    (sym (c.chosen.ensures.chosen scopes rest c.requires.slots c.requires.noted) ∙ c.in-Some.is) (c.activate.ensures.did scopes rest)

pub returns-in-Some-clause-answer : goal.returns-in-Some-clause-answer
returns-in-Some-clause-answer c scopes rest =
    sym c.in-Some.is ∙ c.chosen.ensures.chosen scopes rest c.requires.slots c.requires.noted

pub returns-in-None-clause-did : goal.returns-in-None-clause-did
returns-in-None-clause-did c scopes rest =
    not_activated (lent scopes c.args.workers.now c.args.registrations.now c.args.clients.now rest) c.args.registration c.args.notices.now
    (sym (c.chosen.ensures.chosen scopes rest c.requires.slots c.requires.noted) ∙ c.in-None.is)

pub returns-in-None-clause-answer : goal.returns-in-None-clause-answer
returns-in-None-clause-answer c scopes rest =
    sym c.in-None.is ∙ c.chosen.ensures.chosen scopes rest c.requires.slots c.requires.noted
