use Rattle.std.proofs.Common.{◌≡◌, ◌∙◌, List, ap, sym, subst}
use Rattle.std.specs.Prelude.{IfOk}
use Rattle.sw_data.specs.declared.storage.Change.{Change}
use Rattle.sw_rules.specs.State.{State}
use Rattle.sw_tables.specs.Lent.{lent}
use Rattle.sw_prepare.proofs.ActivationChanges.{skipped}
use Rattle.sw_prepare.proofs.Taking.{chosen_takes, flagged_busy, flagged_linked, flagged_shown, flagged_skips, owner_there}
use Rattle.sw_prepare.specs.Kept.{activation_changes}
use Rattle.sw_prepare.specs.Taking.{flagged}
use Rattle.sw_prepare.proofs.activating.skip_waiting_changes.Goals as goal

pub returns : goal.returns
returns c = λ rest.
    let a = c.args in
    let state : State = lent a.map.now a.workers.now a.registrations.now a.clients.now rest in
    let after = flagged a.worker a.workers.now in
    let linked = flagged_linked a.worker a.registration a.workers.now a.registrations.now a.clients.now a.map.now c.requires.owner c.requires.linked in
    let there = owner_there a.worker a.registration a.workers.now.rows c.requires.owner in
    let takes = chosen_takes a.registration after a.registrations.now a.clients.now linked.slots linked.noted a.map.now rest
    c.takes_place-takes.ensures (c.is_busy_in.ensures ∙ flagged_busy a.worker a.workers.now a.registration a.registrations.now)
    (c.will_skip.ensures ∙ flagged_skips a.worker a.workers.now a.registration a.registrations.now there) c.is_used.ensures in
    subst (λ (l : List Change). IfOk c.tried_changes.result (λ changes. changes.items ≡ l))
    (ap (λ (s : State). activation_changes s a.registration) (flagged_shown a.worker a.registration a.workers.now a.registrations.now a.clients.now a.map.now rest)
    ∙ sym (skipped state a.registration a.worker))
    (c.tried_changes.ensures after a.clients.now rest linked.slots takes)
