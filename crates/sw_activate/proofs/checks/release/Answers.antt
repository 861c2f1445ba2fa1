use Rattle.std.proofs.Common.{◌≡◌, ◌∙◌, Bool, true, false, refl, sym, subst, if◌then◌else◌}
use Rattle.sw_rules.specs.Noticing.{Did}
use Rattle.sw_rules.specs.Registrations as rules
use Rattle.sw_rules.specs.Rows.{is_used}
use Rattle.sw_rules.specs.State.{State}
use Rattle.sw_rules.specs.Told.{quiet}
use Rattle.sw_tables.proofs.Chain.{did_quietly}
use Rattle.sw_tables.specs.Lent.{lent}
use Rattle.sw_activate.proofs.checks.release.Goals as goal

pub returns-then-is_used-clause-did : goal.returns-then-is_used-clause-did
unfolding rules.release
returns-then-is_used-clause-did c = λ rest.
    let state : State = lent c.args.map.now c.args.workers.now c.args.registrations.now c.args.clients.now rest in
    let is : is_used state c.args.registration ≡ true =
    sym (c.is_used.ensures.used c.args.map.now c.args.workers.now c.args.registrations.now rest c.requires.linked.slots c.requires.linked.noted)
    ∙ c.if-is_used.true in
    subst (λ (b : Bool). Did (if b then quiet state else rules.recheck state c.args.registration) c.args.notices.now c.args.notices.now state)
    (sym is) (did_quietly (quiet state) c.args.notices.now state refl refl)

pub returns-clause-did : goal.returns-clause-did
unfolding rules.release
returns-clause-did c = λ rest.
    let state : State = lent c.args.map.now c.args.workers.now c.args.registrations.now c.args.clients.now rest in
    let is : is_used state c.args.registration ≡ false =
    sym (c.is_used.ensures.used c.args.map.now c.args.workers.now c.args.registrations.now rest c.requires.linked.slots c.requires.linked.noted)
    ∙ c.if-is_used.false in
    subst (λ (b : Bool). Did (if b then quiet state else rules.recheck state c.args.registration) c.args.notices.now c.recheck.new.notices
    (lent c.args.map.now c.recheck.new.workers c.recheck.new.registrations c.recheck.new.clients rest))
    (sym is) (c.recheck.ensures.did rest)
