use Rattle.std.proofs.Common.{◌≡◌, ◌∙◌, Option, Some, None, option_map, sym, ap, subst, arith}
use Rattle.std.specs.Prelude.{IfOk, IfSome}
use Rattle.sw_activate.proofs.Ended.{comes_to, no_worker, not_ended}
use Rattle.sw_data.specs.declared.rows.WorkerRow.{WorkerRow}
use Rattle.sw_rules.specs.Rows.{is_worker}
use Rattle.sw_rules.specs.State.{State}
use Rattle.sw_rules.specs.Told.{Outcome}
use Rattle.sw_tables.proofs.Rows.{find_map, found_number}
use Rattle.sw_tables.specs.Lent.{lent, shown_handler, shown_worker}
use Rattle.sw_worker.specs.Table.{worker_at}
use Rattle.sw_prepare.proofs.activating.activated_changes.Goals as goal

pub returns-in_default : goal.returns-in_default
returns-in_default c = λ rest counts.
    let worker = c.args.worker in
    let rows = c.args.workers.now.rows in
    let state : State = lent c.args.map.now c.args.workers.now c.args.registrations.now c.args.clients.now rest in
    let none : worker_at worker rows ≡ None = grind (arith, c.row.ensures, c.in_default.is) in
    let absent = no_worker state worker (find_map (is_worker worker) shown_worker rows ∙ ap (option_map shown_worker) none) in
    subst (λ (o : Option Outcome). IfSome o (λ outcome. c.new.result.items ≡ outcome.told.changes)) (sym absent) tt

pub returns-in_default-ended_handler : goal.returns-in_default-ended_handler
returns-in_default-ended_handler c = λ rest counts.
    let worker = c.args.worker in
    let rows = c.args.workers.now.rows in
    let row = c.in-Some.row.now in
    let state : State = lent c.args.map.now c.args.workers.now c.args.registrations.now c.args.clients.now rest in
    let here : worker_at worker rows ≡ Some row = grind (arith, c.row.ensures, c.in-Some.is) in
    let own = found_number (λ (r : WorkerRow). r.number) worker rows row here in
    let ended = c.ended_handler.ensures.ended c.args.map.now c.args.workers.now c.args.registrations.now c.args.clients.now rest (cc (own, here)) counts in
    let runs_on = not_ended state worker (shown_worker row) (find_map (is_worker worker) shown_worker rows ∙ ap (option_map shown_worker) here)
    (sym ended ∙ ap (option_map shown_handler) c.in_default-ended_handler.is) in
    subst (λ (o : Option Outcome). IfSome o (λ outcome. c.new-in_default-ended_handler.result.items ≡ outcome.told.changes)) (sym runs_on) tt

pub returns : goal.returns
returns c = λ rest counts.
    let worker = c.args.worker in
    let rows = c.args.workers.now.rows in
    let row = c.in-Some.row.now in
    let state : State = lent c.args.map.now c.args.workers.now c.args.registrations.now c.args.clients.now rest in
    let here : worker_at worker rows ≡ Some row = grind (arith, c.row.ensures, c.in-Some.is) in
    let own = found_number (λ (r : WorkerRow). r.number) worker rows row here in
    let ended = c.ended_handler.ensures.ended c.args.map.now c.args.workers.now c.args.registrations.now c.args.clients.now rest (cc (own, here)) counts in
    let is = comes_to state worker (shown_worker row) (shown_handler c.in-Some-ended_handler.field-0)
    (find_map (is_worker worker) shown_worker rows ∙ ap (option_map shown_worker) here) own
    (sym ended ∙ ap (option_map shown_handler) c.in-Some-ended_handler.is) in
    subst (λ (o : Option Outcome). IfOk c.finish_changes.result (λ changes. IfSome o (λ outcome. changes.items ≡ outcome.told.changes))) (sym is)
    (c.finish_changes.ensures rest)
