-- What an update comes to, by the number of the worker.
use Rattle.std.proofs.Common.{◌≡◌, Option, Some, IfSome, sym, subst}
use Rattle.std.proofs.lemmas.Result.{IfOk-weaker}
use Rattle.sw_pages.specs.Acts.{Gives}
use Rattle.sw_pages.specs.Jobs.{comes_to}
use Rattle.sw_rules.specs.Calls as calls
use Rattle.sw_rules.specs.State.{Worker}
use Rattle.sw_state.specs.Hosted.{Hosted}
use Rattle.sw_work.proofs.Calling.{row_shown}
use Rattle.sw_worker.specs.Table.{worker_at}
use Rattle.sw_work.proofs.calls.update_by.Goals as goal

pub returns-clause-gives : goal.returns-clause-gives
returns-clause-gives c =
    let now = c.args.host.now in
    let there = subst (λ (h : Hosted). worker_at c.args.worker h.workers.rows ≡ Some c.in-Some.row.now) c.host.view_is (sym c.in-Some.ensures) in
    IfOk-weaker c.update_own.result _ _
    (λ job gives.
    subst (λ (o : Option Worker). IfSome o (λ row. Gives (λ state by. calls.update_own state by row c.args.phase) (comes_to now.queues.rows job) now))
    (sym (row_shown now c.args.worker c.in-Some.row.now there)) gives)
    c.update_own.ensures.gives
