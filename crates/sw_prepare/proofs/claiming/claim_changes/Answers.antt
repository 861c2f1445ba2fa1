use Rattle.std.proofs.Common.{◌≡◌, ◌∙◌, List, IfOk, ap, subst}
use Rattle.std.specs.List.{flat_map}
use Rattle.sw_activate.specs.Claiming.{activation_change}
use Rattle.sw_data.specs.declared.storage.Change.{Change}
use Rattle.sw_rules.specs.State.{State}
use Rattle.sw_tables.specs.Lent.{lent}
use Rattle.sw_prepare.proofs.Claims.{changes_told}
use Rattle.sw_prepare.proofs.claiming.claim_changes.Goals as goal

pub returns : goal.returns
returns c = λ rest registration claimant.
    let state : State = lent c.args.map.now c.args.workers.now c.args.registrations.now c.args.clients.now rest in
    subst (λ (told : List Change). IfOk c.active_changes.result (λ changes. changes.items ≡ told))
    (ap (flat_map (activation_change state)) c.deref.ensures.value
    ∙ changes_told c.args.map.now c.args.workers.now c.args.registrations.now c.args.clients.now rest c.args.worker registration claimant
    c.in_ok-numbers.numbers.items (c.in_ok-numbers.ensures.changes rest))
    (c.active_changes.ensures c.args.workers.now c.args.clients.now rest c.requires.linked.slots)
