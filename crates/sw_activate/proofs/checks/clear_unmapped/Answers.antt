use Rattle.std.proofs.Common.{◌≡◌, ◌∙◌, Bool, true, false, refl, sym, subst, if◌then◌else◌}
use Rattle.sw_rules.specs.Noticing.{Did}
use Rattle.sw_rules.specs.Registrations as rules
use Rattle.sw_rules.specs.Rows.{is_mapped}
use Rattle.sw_rules.specs.State.{State}
use Rattle.sw_rules.specs.Told.{quiet}
use Rattle.sw_tables.proofs.Chain.{did_quietly}
use Rattle.sw_tables.specs.Lent.{lent}
use Rattle.sw_activate.proofs.Names.{kept, empty_rest, try_clear_alike}
use Rattle.sw_activate.proofs.checks.clear_unmapped.Goals as goal

pub returns-then-is_mapped-clause-did : goal.returns-then-is_mapped-clause-did
returns-then-is_mapped-clause-did c = λ rest.
    let state : State = lent c.args.map.now c.args.workers.now c.args.registrations.now c.args.clients.now rest in
    let is : is_mapped state c.args.registration ≡ true = sym (c.is_mapped.ensures c.args.workers.now c.args.clients.now rest) ∙ c.if-is_mapped.true in
    subst (λ (b : Bool). Did (if b then quiet state else rules.try_clear state c.args.registration) c.args.notices.now c.args.notices.now state)
    (sym is) (did_quietly (quiet state) c.args.notices.now state refl refl)

pub returns-clause-did : goal.returns-clause-did
returns-clause-did c = λ rest.
    let state : State = lent c.args.map.now c.args.workers.now c.args.registrations.now c.args.clients.now rest in
    let is : is_mapped state c.args.registration ≡ false = sym (c.is_mapped.ensures c.args.workers.now c.args.clients.now rest) ∙ c.if-is_mapped.false in
    subst (λ (b : Bool). Did (if b then quiet state else rules.try_clear state c.args.registration) c.args.notices.now c.try_clear.new.notices
    (lent c.args.map.now c.try_clear.new.workers c.try_clear.new.registrations c.args.clients.now rest))
    (sym is) (c.try_clear.ensures.did c.args.map.now rest)

pub returns-clause-linked : goal.returns-clause-linked
returns-clause-linked c = c.try_clear.ensures.linked c.args.map.now c.args.clients.now c.requires.linked

pub returns-clause-names : goal.returns-clause-names
returns-clause-names c =
    kept c.args.map.now c.args.workers.now c.try_clear.new.workers c.args.registrations.now c.try_clear.new.registrations c.args.clients.now c.args.clients.now
    (try_clear_alike (lent c.args.map.now c.args.workers.now c.args.registrations.now c.args.clients.now empty_rest) c.args.registration)
    (c.try_clear.ensures.did c.args.map.now empty_rest).state
