use Rattle.std.proofs.Common.{◌≡◌, ◌∙◌, not, true, Some, None, ap, arith, subst}
use Rattle.std.specs.Prelude.{is_some}
use Rattle.sw_next.proofs.Boards.{begins_on}
use Rattle.sw_rules.specs.Clients as rules
use Rattle.sw_rules.specs.Rows.{worker_row}
use Rattle.sw_state.specs.contracts.tables.HostTables.{the_view}
use Rattle.sw_state.specs.Hosted.{Hosted, state_of}
use Rattle.sw_worker.specs.Table.{worker_at}
use Rattle.sw_next.proofs.waits.may_begin_on.Goals as goal

pub returns-in-Some : goal.returns-in-Some
returns-in-Some c event =
    let here : worker_at c.args.worker c.host.inside.workers.rows ≡ Some c.in-Some.row.now = grind (arith, c.row.ensures, c.in-Some.is) in
    subst (λ (h : Hosted). not c.is_activating.result ≡ is_some (rules.begin_on (state_of h) event (worker_row (state_of h) c.args.worker))) c.host.view_is
    (ap not c.is_activating.ensures ∙ begins_on (the_view c.host.inside) c.args.worker event (Some c.in-Some.row.now) here)

pub returns-in-None : goal.returns-in-None
returns-in-None c event =
    let none : worker_at c.args.worker c.host.inside.workers.rows ≡ None = grind (arith, c.row.ensures, c.in-None.is) in
    subst (λ (h : Hosted). true ≡ is_some (rules.begin_on (state_of h) event (worker_row (state_of h) c.args.worker))) c.host.view_is
    (begins_on (the_view c.host.inside) c.args.worker event None none)
