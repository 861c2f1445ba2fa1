use Rattle.std.proofs.Common.{◌≡◌, ◌∙◌, List, IfOk, subst, sym}
use Rattle.sw_data.specs.declared.answers.Notice.{Notice}
use Rattle.sw_rules.specs.State.{State}
use Rattle.sw_tables.specs.Lent.{lent}
use Rattle.sw_activate.specs.Claiming.{activated_in}
use Rattle.sw_activate.specs.Names.{numbers_of}
use Rattle.sw_activate.proofs.Claimants.{all_owned, none_wait}
use Rattle.sw_activate.proofs.ClaimTold.{none_told}
use Rattle.sw_activate.proofs.claiming.claimed_by.Goals as goal

pub returns-then-not-any_waits : goal.returns-then-not-any_waits
returns-then-not-any_waits c = λ rest.
    let state : State = lent c.args.map.now c.args.workers.now c.args.registrations.now c.args.clients.now rest in
    let owned = all_owned c.args.map.now c.args.workers.now c.args.registrations.now c.args.clients.now rest c.requires.linked in
    let none = none_wait c.args.map.now c.args.workers.now c.args.registrations.now c.args.clients.now rest c.requires.linked (sym c.any_waits.ensures ∙ c.if-not-any_waits.true) in
    c.new.ensures.items ∙ sym (none_told state owned none c.args.worker c.args.registration (numbers_of c.args.clients.now))

pub returns : goal.returns
returns c = λ rest.
    let state : State = lent c.args.map.now c.args.workers.now c.args.registrations.now c.args.clients.now rest in
    subst (λ (told : List Notice). IfOk c.activated_in.result (λ numbers. numbers.items ≡ activated_in state told))
    (c.as_slice.ensures ∙ c.in_ok-notices.ensures rest)
    (c.activated_in.ensures c.args.map.now c.args.registrations.now c.args.clients.now rest)
