use Rattle.std.proofs.Common.{◌≡◌, List, sym, subst}
use Rattle.std.specs.Prelude.{IfOk}
use Rattle.sw_activate.proofs.Pending.{linked_less}
use Rattle.sw_data.specs.declared.storage.Change.{Change}
use Rattle.sw_rules.specs.State.{State}
use Rattle.sw_tables.specs.Lent.{lent}
use Rattle.sw_prepare.proofs.ActivationChanges.{event_ended}
use Rattle.sw_prepare.proofs.Taking.{chosen_takes}
use Rattle.sw_prepare.specs.Taking.{without_event}
use Rattle.sw_prepare.proofs.activating.end_changes.Goals as goal

pub returns : goal.returns
returns c = λ rest.
    let a = c.args in
    let state : State = lent a.map.now a.workers.now a.registrations.now a.clients.now rest in
    let fewer = without_event a.event a.workers.now in
    let linked = linked_less a.event a.workers.now.spare_events a.workers.now a.registrations.now a.map.now a.clients.now c.requires.linked in
    let takes = chosen_takes a.registration fewer a.registrations.now a.clients.now linked.slots linked.noted a.map.now rest
    c.takes_place-takes.ensures c.is_busy_in_without.ensures c.skips_in.ensures c.is_used.ensures in
    subst (λ (l : List Change). IfOk c.tried_changes.result (λ changes. changes.items ≡ l)) (sym (event_ended state a.event a.registration))
    (c.tried_changes.ensures fewer a.clients.now rest linked.slots takes)
