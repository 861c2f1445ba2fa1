use Rattle.std.proofs.Common.{◌∙◌, ◌++◌, ℕ, List, ap}
use Rattle.std.specs.Prelude.{option_to_list}
use Rattle.std.proofs.lemmas.List.{take_all}
use Rattle.sw_rules.specs.State.{State}
use Rattle.sw_tables.specs.Lent.{lent}
use Rattle.sw_activate.specs.Claiming.{activated_in}
use Rattle.sw_activate.proofs.ClaimTold.{one_more}
use Rattle.sw_activate.proofs.claiming.activated_in.Goals as goal

pub loop-notice-preserved : goal.loop-notice-preserved
loop-notice-preserved c = λ scopes of_registrations of_clients rest.
    let state : State = lent scopes c.args.workers.now of_registrations of_clients rest in
    c.in_ok-push_some.ensures
    ∙ (ap (λ (numbers : List ℕ). numbers ++ option_to_list c.activated_by.result) (c.loop-notice.invariant scopes of_registrations of_clients rest)
    ∙ one_more state c.args.notices.now c.loop-notice.notice-index _ c.loop-notice-test.true c.activated_by.result
    (c.activated_by.ensures scopes of_registrations of_clients rest))

pub returns : goal.returns
returns c = λ scopes of_registrations of_clients rest.
    c.loop-notice.invariant scopes of_registrations of_clients rest
    ∙ ap (activated_in (lent scopes c.args.workers.now of_registrations of_clients rest))
    (take_all c.loop-notice.notice-index c.args.notices.now c.loop-notice-test.false)
