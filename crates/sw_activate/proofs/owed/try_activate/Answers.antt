use Rattle.std.proofs.Common.{◌≡◌, ◌∙◌, Bool, true, false, Some, None, refl, sym, ap, subst, if◌then◌else◌}
use Rattle.sw_rules.specs.Activating as rules
use Rattle.sw_rules.specs.Noticing.{Did}
use Rattle.sw_rules.specs.Registrations as registering
use Rattle.sw_rules.specs.State.{State}
use Rattle.sw_tables.specs.Happened.{Happened}
use Rattle.sw_tables.specs.Lent.{lent}
use Rattle.sw_activate.proofs.owed.try_activate.Goals as goal

pub returns-then-not-is_owed-clause-did : goal.returns-then-not-is_owed-clause-did
returns-then-not-is_owed-clause-did c = λ rest.
    let state : State = lent c.args.map.now c.args.workers.now c.args.registrations.now c.args.clients.now rest in
    let is : rules.is_owed state c.args.registration ≡ false =
    sym (c.is_owed.ensures.owed c.args.map.now c.args.workers.now c.args.clients.now rest) ∙ c.if-not-is_owed.true in
    subst (λ (b : Bool). Happened (if b then Some (rules.pay state c.args.registration) else None) None c.args.notices.now c.args.notices.now state state)
    (sym is) (refl, refl, refl)

pub try_activate-requires-clause-slots : goal.try_activate-requires-clause-slots
try_activate-requires-clause-slots c = (c.pay.ensures.linked c.args.workers.now c.args.map.now c.args.clients.now c.requires.linked).slots

pub returns-clause-did : goal.returns-clause-did
unfolding rules.pay
returns-clause-did c = λ rest.
    let state : State = lent c.args.map.now c.args.workers.now c.args.registrations.now c.args.clients.now rest in
    let after : State = lent c.args.map.now c.try_activate.new.workers c.try_activate.new.registrations c.try_activate.new.clients rest in
    let is : rules.is_owed state c.args.registration ≡ true =
    sym (c.is_owed.ensures.owed c.args.map.now c.args.workers.now c.args.clients.now rest) ∙ c.if-not-is_owed.false in
    let paid = c.pay.ensures.state c.args.workers.now c.args.map.now c.args.clients.now rest in
    subst (λ (b : Bool). Happened (if b then Some (rules.pay state c.args.registration) else None) (Some (rules.worker_or_none c.try_activate.result)) c.args.notices.now c.try_activate.new.notices state after)
    (sym is) (
      ap (λ o. Some (rules.worker_or_none o))
          (c.try_activate.ensures.answer c.args.map.now rest ∙ ap (λ (s : State). registering.chosen s c.args.registration) paid),
      subst (λ (s : State). Did (registering.try_activate s c.args.registration) c.args.notices.now c.try_activate.new.notices after) paid
          (c.try_activate.ensures.did c.args.map.now rest),
    )

pub returns-clause-linked : goal.returns-clause-linked
returns-clause-linked c =
    c.try_activate.ensures.linked c.args.map.now (c.pay.ensures.linked c.args.workers.now c.args.map.now c.args.clients.now c.requires.linked)
