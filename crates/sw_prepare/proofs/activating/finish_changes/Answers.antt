use Rattle.std.proofs.Common.{◌≡◌, ◌∙◌, ◌++◌, List, nat_lt, ap, sym, subst}
use Rattle.std.specs.Prelude.{IfOk}
use Rattle.sw_data.specs.declared.storage.Change.{Change}
use Rattle.sw_data.specs.declared.storage.Change.TheVariants as change
use Rattle.sw_rules.specs.State.{State}
use Rattle.sw_rules.specs.Told.{kept_change}
use Rattle.sw_tables.specs.Lent.{lent}
use Rattle.sw_prepare.proofs.ActivationChanges.{activated_state, finished}
use Rattle.sw_prepare.proofs.Taking.{activated_busy, activated_linked, activated_shown, activated_skips, chosen_takes, rested_linked, rested_shown}
use Rattle.sw_prepare.specs.Kept.{activation_changes}
use Rattle.sw_prepare.specs.Taking.{activated, rested}
use Rattle.sw_prepare.proofs.activating.finish_changes.Goals as goal

pub returns : goal.returns
returns c = λ rest.
    let a = c.args in
    let r = c.requires in
    let state : State = lent a.map.now a.workers.now a.registrations.now a.clients.now rest in
    let before = rested a.worker a.workers.now in
    let after = activated a.worker before in
    let first = rested_linked a.worker a.registration a.workers.now a.registrations.now a.clients.now a.map.now r.running r.worker r.linked in
    let second = activated_linked a.worker a.registration a.workers.now a.registrations.now a.clients.now a.map.now r.running r.worker r.linked in
    let busy = ap (λ n. nat_lt 0 n) c.pending.ensures
    ∙ activated_busy a.worker a.registration a.workers.now a.registrations.now a.clients.now a.map.now r.running r.worker r.linked in
    let skips = c.skips_in.ensures
    ∙ activated_skips a.worker a.registration a.workers.now a.registrations.now a.clients.now a.map.now r.running r.worker r.linked in
    let takes = chosen_takes a.registration after a.registrations.now a.clients.now second.slots second.noted a.map.now rest
    c.takes_place-takes.ensures busy skips c.is_used.ensures in
    let ended = rested_shown a.worker a.registration a.workers.now a.registrations.now a.clients.now a.map.now rest in
    let acted = activated_shown a.worker a.registration a.workers.now a.registrations.now a.clients.now a.map.now rest
    ∙ ap (λ (s : State). activated_state a.registration a.worker s) ended in
    subst (λ (l : List Change). IfOk c.both_changes.result (λ changes. changes.items ≡ l))
    ((λ i. kept_change (ended i) a.registration (λ row. change.Activated row.key row.scope) ++ activation_changes (acted i) a.registration)
    ∙ sym (finished state a.registration a.worker))
    (c.both_changes.ensures before after a.clients.now rest first.slots second.slots takes)
