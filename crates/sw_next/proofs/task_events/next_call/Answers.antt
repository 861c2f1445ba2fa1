use Rattle.std.proofs.Common.{◌≡◌, ◌∙◌, Some, option_and_then, slice_get, sym, ap, arith, subst}
use Rattle.std.specs.Option.{option_copied}
use Rattle.sw_next.proofs.TaskEvents.{next_shown}
use Rattle.sw_rules.specs.Installing.{calls_of}
use Rattle.sw_rules.specs.Tasks.{next_call}
use Rattle.sw_tables.specs.Lent.{shown_handler, shown_worker}
use Rattle.sw_state.specs.contracts.tables.HostTables.{the_view}
use Rattle.sw_state.specs.Hosted.{Hosted, state_of}
use Rattle.sw_worker.specs.Table.{worker_at}
use Rattle.sw_next.proofs.task_events.next_call.Goals as goal

pub returns : goal.returns
returns c =
    let handler = c.args.handler in
    let here : worker_at c.args.worker c.host.inside.workers.rows ≡ Some c.in_ok-row.row.now = grind (arith, c.row.ensures, c.in_ok-row.is) in
    subst (λ (h : Hosted). option_copied c.call_at.result ≡ next_call (state_of h) c.args.worker (shown_handler handler)) c.host.view_is
    (c.call_at.ensures
    ∙ (sym (ap (option_and_then (λ row. slice_get (calls_of (shown_worker row) handler.phase) handler.made)) here)
    ∙ next_shown (the_view c.host.inside) c.args.worker handler))
