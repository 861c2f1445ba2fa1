use Rattle.std.proofs.Common.{◌∙◌, None, sym}
use Rattle.sw_rules.specs.State.{State}
use Rattle.sw_tables.specs.Lent.{lent}
use Rattle.sw_prepare.proofs.ActivationChanges.{client_left}
use Rattle.sw_prepare.proofs.activating.close_changes.Goals as goal

pub returns-in-Some : goal.returns-in-Some
returns-in-Some c = λ rest.
    let a = c.args in
    c.left_changes.ensures rest (sym (c.used_registration.ensures a.map.now a.workers.now a.registrations.now rest c.requires.linked.noted) ∙ c.in-Some.is)

pub returns-in-None : goal.returns-in-None
returns-in-None c = λ rest.
    let a = c.args in
    let state : State = lent a.map.now a.workers.now a.registrations.now a.clients.now rest in
    c.new.ensures.items ∙ sym (client_left state a.client None
    (sym (c.used_registration.ensures a.map.now a.workers.now a.registrations.now rest c.requires.linked.noted) ∙ c.in-None.is))
