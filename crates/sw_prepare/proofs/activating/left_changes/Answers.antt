use Rattle.std.proofs.Common.{◌≡◌, ◌∙◌, true, false, List, sym, subst, arith}
use Rattle.std.specs.Prelude.{IfOk}
use Rattle.sw_client.specs.Table.{users_of}
use Rattle.sw_data.specs.declared.storage.Change.{Change}
use Rattle.sw_tables.proofs.OfClients.{left_linked}
use Rattle.sw_prepare.proofs.Taking.{chosen_takes, left_told, none_use, some_use}
use Rattle.sw_prepare.specs.Taking.{left_by}
use Rattle.sw_prepare.proofs.activating.left_changes.Goals as goal

pub returns-then-other_users-gt0 : goal.returns-then-other_users-gt0
returns-then-other_users-gt0 c = λ rest uses.
    let a = c.args in
    let used = some_use (users_of a.registration (left_by a.client a.clients.now).rows) (omega (arith, c.other_users.ensures, c.if-other_users-gt0.true)) in
    c.new.ensures.items ∙ sym (left_told a.client a.workers.now a.registrations.now a.clients.now a.map.now a.registration rest c.requires.linked uses true used)

pub returns : goal.returns
returns c = λ rest uses.
    let a = c.args in
    let after = left_by a.client a.clients.now in
    let unused = none_use (users_of a.registration after.rows) (omega (arith, c.other_users.ensures, c.if-other_users-gt0.false)) in
    let linked = left_linked a.client a.map.now a.workers.now a.registrations.now a.clients.now c.requires.linked in
    let takes = chosen_takes a.registration a.workers.now a.registrations.now after linked.slots linked.noted a.map.now rest
    c.takes_place-takes.ensures c.is_busy_in.ensures c.skips_in.ensures (sym unused) in
    subst (λ (l : List Change). IfOk c.tried_changes.result (λ changes. changes.items ≡ l))
    (sym (left_told a.client a.workers.now a.registrations.now a.clients.now a.map.now a.registration rest c.requires.linked uses false unused))
    (c.tried_changes.ensures a.workers.now after rest linked.slots takes)
