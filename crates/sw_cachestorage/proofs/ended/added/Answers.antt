-- The addAll is in flight, and settles with what was done to its cache.
use Rattle.std.proofs.Common.{◌≡◌, true, is_none, sym, subst}
use Rattle.sw_cachestorage.proofs.AddedLemmas.{ends}
use Rattle.sw_cachestorage.specs.Added.{IsEnded, settled_by}
use Rattle.sw_ledgers.specs.Tasks.{has_task, row_of}
use Rattle.sw_state.specs.contracts.tables.HostTables.{the_view}
use Rattle.sw_state.specs.Hosted.{Hosted, state_of}
use Rattle.sw_cachestorage.proofs.ended.added.Goals as goal

pub returns-clause-step : goal.returns-clause-step
returns-clause-step c =
    let inside : Hosted = the_view c.host.inside in
    let lines = c.args.lines.now in
    subst (λ step. IsEnded c.args.task lines c.args.host.now step) (sym c.settled.ensures)
    (subst (λ (h : Hosted). IsEnded c.args.task lines h (settled_by c.in_ok-step.step)) c.host.view_is
    (ends (state_of inside) lines (row_of c.in-Some.row.now) c.in_ok-step.step c.args.task (sym c.in-Some.ensures)
    (subst (λ (h : Hosted). has_task (λ row. is_none row.settled) c.args.task h.tasks.rows ≡ true) (sym c.host.view_is) c.requires) c.in_ok-step.ensures.step))
