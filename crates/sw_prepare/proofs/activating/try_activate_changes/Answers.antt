use Rattle.std.proofs.Common.{◌≡◌, ◌∙◌, List, Some, None, ap, sym, subst, is_some, if◌then◌else◌}
use Rattle.std.specs.Prelude.{IfOk, IfSome}
use Rattle.std.proofs.lemmas.Result.{IfOk-weaker}
use Rattle.sw_data.specs.declared.storage.Change.{Change}
use Rattle.sw_rules.specs.Activating.{is_owed, pay}
use Rattle.sw_rules.specs.State.{State}
use Rattle.sw_tables.specs.Lent.{lent}
use Rattle.sw_prepare.proofs.ActivationChanges.{paid, where_some}
use Rattle.sw_prepare.proofs.activating.try_activate_changes.Goals as goal

pub returns : goal.returns
returns c = λ rest.
    let a = c.args in
    let state : State = lent a.map.now a.workers.now a.registrations.now a.clients.now rest in
    let takes = c.is_some-takes.ensures ∙ ap is_some (c.chosen.ensures.chosen a.map.now rest c.requires.linked.slots c.requires.linked.noted) in
    let told = subst (λ (l : List Change). IfOk c.tried_changes.result (λ changes. changes.items ≡ l)) (sym (paid state a.registration))
    (c.tried_changes.ensures a.workers.now a.clients.now rest c.requires.linked.slots takes) in
    IfOk-weaker c.tried_changes.result (λ changes. changes.items ≡ (pay state a.registration).told.changes)
    (λ changes. IfSome (if is_owed state a.registration then Some (pay state a.registration) else None) (λ outcome. changes.items ≡ outcome.told.changes))
    (λ changes is. where_some changes.items (is_owed state a.registration) (pay state a.registration) is) told
